-- One step of each loop.
use Rattle.std.proofs.Common.{◌≡◌, refl, sym, ◌∙◌, ap, ℕ, zero, suc, ◌+◌, ◌-◌, ◌*◌, ◌%◌, ◌^◌, ◌<◌, ◌≤◌, Bool, true, false, not, Some, None, Option, pow-suc, pow_mono, arith}
use Rattle.std.proofs.lemmas.Bool.{lt-ltb}
use Rattle.std.proofs.lemmas.Bool.Decides.{nat_tests}
use Rattle.std.specs.Prelude.{◌==◌, nat_lt, if◌then◌else◌}
use Rattle.h265_model.specs.declared.Place.{Place}
use Rattle.h265_model.specs.declared.Place.TheVariants.{Context, Bypass}
use Rattle.h265_model.specs.Bits.{digit, ◌>>=◌ as and_then}
use Rattle.h265_model.specs.Binarise.{fl_from, fl_read, tr_from, eg_from, eg_read, remaining_read}
use Rattle.h265_model.specs.Engine.{Engine, ◌>>=◌, bin, bypass_read, give, refuse}
use Rattle.h265_model.specs.Residual as residual
use Rattle.h265_model.specs.Residual.{sig_at, is_implied, Sub, greater1_context, counted}
use Rattle.residual_read.specs.Parts.{mask_read, ones_read, escape_read, four_from, prefix_from}

pub then_some : {A B : Type 0} (o : Option A) (x : A) (f : A → Option B) → o ≡ Some x → and_then o f ≡ f x
then_some o x f h = ap (λ p. and_then p f) h

pub then_none : {A B : Type 0} (o : Option A) (f : A → Option B) → o ≡ None → and_then o f ≡ None
then_none o f h = ap (λ p. and_then p f) h

-- ---- truncated codes

abbrev tr_then : (ℕ → Place) → ℕ → ℕ → Bool × Engine → Option (ℕ × Engine)
tr_then place i left found = (if found.0 then tr_from place (suc i) left else give i) found.1

tr_open : (place : ℕ → Place) (i limit : ℕ) (e : Engine) → i < limit → tr_from place i (limit - i) e ≡ and_then (bin (place i) e) (tr_then place i (limit - (i + 1)))
tr_open place i limit e h =
    let q : limit - i ≡ suc (limit - (i + 1)) = omega arith in
    ap (λ n. tr_from place i n e) q

pub tr_more : (place : ℕ → Place) (i limit : ℕ) (e d : Engine) → i < limit → bin (place i) e ≡ Some (true, d) → tr_from place i (limit - i) e ≡ tr_from place (i + 1) (limit - (i + 1)) d
tr_more place i limit e d less h =
    let z : suc i ≡ i + 1 = omega arith in
    tr_open place i limit e less ∙ then_some _ _ (tr_then place i (limit - (i + 1))) h ∙ ap (λ n. tr_from place n (limit - (i + 1)) d) z

pub tr_end : (place : ℕ → Place) (i limit : ℕ) (e d : Engine) → i < limit → bin (place i) e ≡ Some (false, d) → tr_from place i (limit - i) e ≡ Some (i, d)
tr_end place i limit e d less h = tr_open place i limit e less ∙ then_some _ _ (tr_then place i (limit - (i + 1))) h

pub tr_none : (place : ℕ → Place) (i limit : ℕ) (e : Engine) → i < limit → bin (place i) e ≡ None → tr_from place i (limit - i) e ≡ None
tr_none place i limit e less h = tr_open place i limit e less ∙ then_none _ (tr_then place i (limit - (i + 1))) h

pub tr_full : (place : ℕ → Place) (i limit : ℕ) (e : Engine) → limit ≤ i → tr_from place i (limit - i) e ≡ Some (i, e)
tr_full place i limit e h = let q : limit - i ≡ 0 = omega arith in ap (λ n. tr_from place i n e) q

-- ---- fixed codes are below their power of 2

clash : {A : Type 0} (x : A) → None ≡ Some x → ⊥
clash x h = cc

same_some : {A : Type 0} (x y : A) → Some x ≡ Some y → x ≡ y
same_some x y h = cc

abbrev then_more : ℕ → ℕ → Bool × Engine → Option (ℕ × Engine)
then_more acc n found = fl_from (2 * acc + digit found.0) n found.1

twice : (b : Bool) (acc p v : ℕ) → v < (2 * acc + digit b + 1) * p → v < (acc + 1) * (p * 2)
twice true acc p v h = omega arith
twice false acc p v h = omega arith

low_by : (n acc v : ℕ) (o : Option (Bool × Engine)) (after : Engine) → ((a : ℕ) (d : Engine) → fl_from a n d ≡ Some (v, after) → v < (a + 1) * 2 ^ n)
    → and_then o (then_more acc n) ≡ Some (v, after) → v < (acc + 1) * 2 ^ suc n
low_by n acc v None after h e = absurd (clash (v, after) e)
low_by n acc v (Some found) after h e =
    rw (pow-suc 2 n) (twice found.0 acc (2 ^ n) v (h (2 * acc + digit found.0) found.1 e))

pub fl_low : (n acc v : ℕ) (e after : Engine) → fl_from acc n e ≡ Some (v, after) → v < (acc + 1) * 2 ^ n
fl_low zero acc v e after h = let q : acc ≡ v = ap (λ (p : ℕ × Engine). p.0) (same_some _ _ h) in omega arith
fl_low (suc n) acc v e after h = low_by n acc v (bypass_read e) after (λ a d. fl_low n a v d after) h

pub fl_below : (n v : ℕ) (e after : Engine) → fl_read n e ≡ Some (v, after) → v < 2 ^ n
fl_below n v e after h = let p = fl_low n 0 v e after h in omega arith

-- ---- greater1 flags

abbrev ones_then : ℕ → ℕ → ℕ → ℕ → ℕ → Bool × Engine → Option (ℕ × Engine)
ones_then component set counter ones n found = ones_read component set (counted counter found.0) (2 * ones + digit found.0) n found.1

ones_open : (component set counter ones i many : ℕ) (e : Engine) → i < many
    → ones_read component set counter ones (many - i) e ≡ and_then (bin (Context (greater1_context component set counter)) e) (ones_then component set counter ones (many - (i + 1)))
unfolding ones_read
ones_open component set counter ones i many e h =
    let q : many - i ≡ suc (many - (i + 1)) = omega arith in
    ap (λ n. ones_read component set counter ones n e) q

pub ones_more : (component set counter ones i many next more context : ℕ) (flag : Bool) (e d : Engine) → i < many → context ≡ greater1_context component set counter
    → next ≡ counted counter flag → more ≡ 2 * ones + digit flag → bin (Context context) e ≡ Some (flag, d)
    → ones_read component set counter ones (many - i) e ≡ ones_read component set next more (many - (i + 1)) d
ones_more component set counter ones i many next more context flag e d less is n m h =
    rw (n, m) (ones_open component set counter ones i many e less ∙ then_some _ _ (ones_then component set counter ones (many - (i + 1))) (rw (← is) h))

pub ones_none : (component set counter ones i many context : ℕ) (e : Engine) → i < many → context ≡ greater1_context component set counter → bin (Context context) e ≡ None
    → ones_read component set counter ones (many - i) e ≡ None
ones_none component set counter ones i many context e less is h = ones_open component set counter ones i many e less ∙ then_none _ (ones_then component set counter ones (many - (i + 1))) (rw (← is) h)

pub ones_full : (component set counter ones i many : ℕ) (e : Engine) → many ≤ i → ones_read component set counter ones (many - i) e ≡ Some (ones, e)
unfolding ones_read
ones_full component set counter ones i many e h = let q : many - i ≡ 0 = omega arith in ap (λ n. ones_read component set counter ones n e) q

-- ---- flags of levels

abbrev mask_then : residual.Shape → Sub → Bool → ℕ → ℕ → Bool × Engine → Option (ℕ × Engine)
mask_then s sub inner mask k found = mask_read s sub inner (2 * mask + digit found.0) k found.1

mask_open : (s : residual.Shape) (sub : Sub) (inner : Bool) (mask k : ℕ) (e : Engine) → 0 < k
    → mask_read s sub inner mask k e ≡ and_then ((if is_implied inner (not (mask == 0)) (k - 1) then give true else bin (Context (sig_at s sub (k - 1)))) e) (mask_then s sub inner mask (k - 1))
unfolding mask_read
mask_open s sub inner mask k e h =
    let q : k ≡ suc (k - 1) = omega arith in
    ap (λ n. mask_read s sub inner mask n e) q

pub mask_full : (s : residual.Shape) (sub : Sub) (inner : Bool) (mask k : ℕ) (e : Engine) → k ≤ 0 → mask_read s sub inner mask k e ≡ Some (mask, e)
unfolding mask_read
mask_full s sub inner mask k e h = let q : k ≡ 0 = omega arith in ap (λ n. mask_read s sub inner mask n e) q

-- ---- escapes

abbrev low_read : ℕ → ℕ → Engine → Option (ℕ × Engine)
low_read sum k d = and_then (fl_read k d) (λ low. Some (sum + low.0, low.1))

abbrev escape_next : ℕ → ℕ → ℕ → Engine → Bool → Option (ℕ × Engine)
escape_next sum ones k d true = escape_read (sum + 2 ^ k) ones (suc k) d
escape_next sum ones k d false = low_read sum k d

abbrev pub escape_then : ℕ → ℕ → ℕ → Bool × Engine → Option (ℕ × Engine)
escape_then sum ones k found = escape_next sum ones k found.1 found.0

by_bin : (sum ones k : ℕ) (o : Option (Bool × Engine))
    → and_then o (λ found. (if found.0 then escape_read (sum + 2 ^ k) ones (suc k) else (fl_read k >>= λ low. give (sum + low))) found.1) ≡ and_then o (escape_then sum ones k)
by_bin sum ones k None = refl
by_bin sum ones k (Some (true, d)) = refl
by_bin sum ones k (Some (false, d)) = refl

pub escape_suc : (sum ones k : ℕ) (e : Engine) → escape_read sum (suc ones) k e ≡ and_then (bypass_read e) (escape_then sum ones k)
unfolding escape_read
escape_suc sum ones k e = by_bin sum ones k (bypass_read e)

escape_open : (sum i k : ℕ) (e : Engine) → i < 15 → escape_read sum (15 - i) (k + i) e ≡ and_then (bypass_read e) (escape_then sum (15 - (i + 1)) (k + i))
unfolding escape_read
escape_open sum i k e h =
    let q : 15 - i ≡ suc (15 - (i + 1)) = omega arith in
    ap (λ n. escape_read sum n (k + i) e) q ∙ by_bin sum (15 - (i + 1)) (k + i) (bypass_read e)

pub escape_more : (sum i k : ℕ) (e d : Engine) → i < 15 → bypass_read e ≡ Some (true, d) → escape_read sum (15 - i) (k + i) e ≡ escape_read (sum + 2 ^ (k + i)) (15 - (i + 1)) (k + (i + 1)) d
escape_more sum i k e d less h =
    let z : suc (k + i) ≡ k + (i + 1) = omega arith in
    escape_open sum i k e less ∙ then_some _ _ (escape_then sum (15 - (i + 1)) (k + i)) h ∙ ap (λ n. escape_read (sum + 2 ^ (k + i)) (15 - (i + 1)) n d) z

pub escape_none : (sum i k : ℕ) (e : Engine) → i < 15 → bypass_read e ≡ None → escape_read sum (15 - i) (k + i) e ≡ None
escape_none sum i k e less h = escape_open sum i k e less ∙ then_none _ (escape_then sum (15 - (i + 1)) (k + i)) h

pub escape_low : (sum i k low : ℕ) (e d f : Engine) → i < 15 → bypass_read e ≡ Some (false, d) → fl_read (k + i) d ≡ Some (low, f) → escape_read sum (15 - i) (k + i) e ≡ Some (sum + low, f)
escape_low sum i k low e d f less h g = escape_open sum i k e less ∙ then_some _ _ (escape_then sum (15 - (i + 1)) (k + i)) h ∙ then_some _ _ (λ (low : ℕ × Engine). Some (sum + low.0, low.1)) g

pub escape_short : (sum i k : ℕ) (e d : Engine) → i < 15 → bypass_read e ≡ Some (false, d) → fl_read (k + i) d ≡ None → escape_read sum (15 - i) (k + i) e ≡ None
escape_short sum i k e d less h g = escape_open sum i k e less ∙ then_some _ _ (escape_then sum (15 - (i + 1)) (k + i)) h ∙ then_none _ (λ (low : ℕ × Engine). Some (sum + low.0, low.1)) g

-- at the sixteenth bin
abbrev last_next : ℕ → ℕ → Engine → Bool → Option (ℕ × Engine)
last_next sum k d true = None
last_next sum k d false = low_read sum k d

abbrev pub last_then : ℕ → ℕ → Bool × Engine → Option (ℕ × Engine)
last_then sum k found = last_next sum k found.1 found.0

by_last : (sum k : ℕ) (o : Option (Bool × Engine))
    → and_then o (λ found. (if found.0 then refuse {A = ℕ} else (fl_read k >>= λ low. give (sum + low))) found.1) ≡ and_then o (last_then sum k)
by_last sum k None = refl
by_last sum k (Some (true, d)) = refl
by_last sum k (Some (false, d)) = refl

pub escape_zero : (sum k : ℕ) (e : Engine) → escape_read sum 0 k e ≡ and_then (bypass_read e) (last_then sum k)
unfolding escape_read
escape_zero sum k e = by_last sum k (bypass_read e)

escape_ends : (sum i k : ℕ) (e : Engine) → i ≡ 15 → escape_read sum (15 - i) (k + i) e ≡ and_then (bypass_read e) (last_then sum (k + 15))
escape_ends sum i k e h = rw h (escape_zero sum (k + 15) e)

pub last_none : (sum i k : ℕ) (e : Engine) → i ≡ 15 → bypass_read e ≡ None → escape_read sum (15 - i) (k + i) e ≡ None
last_none sum i k e is h = escape_ends sum i k e is ∙ then_none _ (last_then sum (k + 15)) h

pub last_one : (sum i k : ℕ) (e d : Engine) → i ≡ 15 → bypass_read e ≡ Some (true, d) → escape_read sum (15 - i) (k + i) e ≡ None
last_one sum i k e d is h = escape_ends sum i k e is ∙ then_some _ _ (last_then sum (k + 15)) h

pub last_short : (sum i k : ℕ) (e d : Engine) → i ≡ 15 → bypass_read e ≡ Some (false, d) → fl_read (k + 15) d ≡ None → escape_read sum (15 - i) (k + i) e ≡ None
last_short sum i k e d is h g = escape_ends sum i k e is ∙ then_some _ _ (last_then sum (k + 15)) h ∙ then_none _ (λ (low : ℕ × Engine). Some (sum + low.0, low.1)) g

pub last_low : (sum i k low : ℕ) (e d f : Engine) → i ≡ 15 → bypass_read e ≡ Some (false, d) → fl_read (k + 15) d ≡ Some (low, f) → escape_read sum (15 - i) (k + i) e ≡ Some (sum + low, f)
last_low sum i k low e d f is h g = escape_ends sum i k e is ∙ then_some _ _ (last_then sum (k + 15)) h ∙ then_some _ _ (λ (low : ℕ × Engine). Some (sum + low.0, low.1)) g

-- ---- at most four ones

pub four_more : (i : ℕ) (e d : Engine) → i < 4 → bypass_read e ≡ Some (true, d) → four_from i (4 - i) e ≡ four_from (i + 1) (4 - (i + 1)) d
unfolding four_from
four_more i e d less h = tr_more (λ _. Bypass) i 4 e d less h

pub four_end : (i : ℕ) (e d : Engine) → i < 4 → bypass_read e ≡ Some (false, d) → four_from i (4 - i) e ≡ Some (i, d)
unfolding four_from
four_end i e d less h = tr_end (λ _. Bypass) i 4 e d less h

pub four_none : (i : ℕ) (e : Engine) → i < 4 → bypass_read e ≡ None → four_from i (4 - i) e ≡ None
unfolding four_from
four_none i e less h = tr_none (λ _. Bypass) i 4 e less h

pub four_full : (i : ℕ) (e : Engine) → 4 ≤ i → four_from i (4 - i) e ≡ Some (i, e)
unfolding four_from
four_full i e h = tr_full (λ _. Bypass) i 4 e h

-- ---- prefixes of the last level's coordinates

pub prefix_more : (s : residual.Shape) (vertical : Bool) (i limit context : ℕ) (e d : Engine) → i < limit → context ≡ residual.last_context s.component s.log2 vertical i → bin (Context context) e ≡ Some (true, d)
    → prefix_from s vertical i (limit - i) e ≡ prefix_from s vertical (i + 1) (limit - (i + 1)) d
unfolding prefix_from
prefix_more s vertical i limit context e d less is h = tr_more (λ j. Context (residual.last_context s.component s.log2 vertical j)) i limit e d less (rw (← is) h)

pub prefix_end : (s : residual.Shape) (vertical : Bool) (i limit context : ℕ) (e d : Engine) → i < limit → context ≡ residual.last_context s.component s.log2 vertical i → bin (Context context) e ≡ Some (false, d)
    → prefix_from s vertical i (limit - i) e ≡ Some (i, d)
unfolding prefix_from
prefix_end s vertical i limit context e d less is h = tr_end (λ j. Context (residual.last_context s.component s.log2 vertical j)) i limit e d less (rw (← is) h)

pub prefix_none : (s : residual.Shape) (vertical : Bool) (i limit context : ℕ) (e : Engine) → i < limit → context ≡ residual.last_context s.component s.log2 vertical i → bin (Context context) e ≡ None
    → prefix_from s vertical i (limit - i) e ≡ None
unfolding prefix_from
prefix_none s vertical i limit context e less is h = tr_none (λ j. Context (residual.last_context s.component s.log2 vertical j)) i limit e less (rw (← is) h)

pub prefix_full : (s : residual.Shape) (vertical : Bool) (i limit : ℕ) (e : Engine) → limit ≤ i → prefix_from s vertical i (limit - i) e ≡ Some (i, e)
unfolding prefix_from
prefix_full s vertical i limit e h = tr_full (λ j. Context (residual.last_context s.component s.log2 vertical j)) i limit e h

pub next_below : (flag : Bool) (d ones i : ℕ) → d ≡ digit flag → ones < 2 ^ i → 2 * ones + d < 2 ^ (i + 1)
next_below flag d ones i e h =
    let n : i + 1 ≡ suc i = omega arith in
    let s : 2 ^ (i + 1) ≡ 2 ^ i * 2 = ap (λ k. 2 ^ k) n ∙ pow-suc 2 i in
    let low = digit_low flag in
    omega arith
  where
    digit_low : (b : Bool) → digit b ≤ 1
    digit_low true = omega arith
    digit_low false = omega arith

pub sum_below : (sum k i : ℕ) → k ≤ 5 → i < 15 → sum < 2 ^ (k + i) → sum + 1 * 2 ^ (k + i) % 4294967296 < 2 ^ (k + (i + 1))
sum_below sum k i h l m =
    let z : k + (i + 1) ≡ suc (k + i) = omega arith in
    let s : 2 ^ suc (k + i) ≡ 2 ^ (k + i) * 2 = pow-suc 2 (k + i) in
    let r : 1 * 2 ^ (k + i) % 4294967296 ≤ 2 ^ (k + i) = mod_le (2 ^ (k + i)) in
    rw z (omega arith)
  where
    mod_le : (x : ℕ) → 1 * x % 4294967296 ≤ x
    mod_le x = omega arith

pub power_by : (k i : ℕ) → k ≤ 5 → i ≤ 15 → 2 ^ (k + i) ≤ 1048576
power_by k i h l = low (pow_mono {i = k + i} {j = 20} (omega arith))
  where
    low : 2 ^ (k + i) ≤ 2 ^ 20 → 2 ^ (k + i) ≤ 1048576
    low h = h

pub sum_is : (sum k i : ℕ) → k ≤ 5 → i < 15 → sum + 1 * 2 ^ (k + i) % 4294967296 ≡ sum + 2 ^ (k + i)
sum_is sum k i h l = let p = power_by k i h (omega arith) in omega arith

pub mask_more : (s : residual.Shape) (sub : Sub) (inner : Bool) (mask k d : ℕ) (flag : Bool) (e f : Engine) → 0 < k → d ≡ digit flag
    → (if is_implied inner (not (mask == 0)) (k - 1) then give true else bin (Context (sig_at s sub (k - 1)))) e ≡ Some (flag, f)
    → mask_read s sub inner mask k e ≡ mask_read s sub inner (2 * mask + d) (k - 1) f
mask_more s sub inner mask k d flag e f some is h = rw is (mask_open s sub inner mask k e some ∙ then_some _ _ (mask_then s sub inner mask (k - 1)) h)

pub mask_none : (s : residual.Shape) (sub : Sub) (inner : Bool) (mask k : ℕ) (e : Engine) → 0 < k
    → (if is_implied inner (not (mask == 0)) (k - 1) then give true else bin (Context (sig_at s sub (k - 1)))) e ≡ None
    → mask_read s sub inner mask k e ≡ None
mask_none s sub inner mask k e some h = mask_open s sub inner mask k e some ∙ then_none _ (mask_then s sub inner mask (k - 1)) h

-- ---- the place of the last level

abbrev last4 : residual.Shape → ℕ → ℕ × Engine → Option ((ℕ × ℕ) × Engine)
last4 s x found = Some (residual.swapped s.scan (x, found.0), found.1)

abbrev last3 : residual.Shape → ℕ → ℕ × Engine → Option ((ℕ × ℕ) × Engine)
last3 s b found = and_then (residual.coordinate_read b found.1) (last4 s found.0)

abbrev last2 : residual.Shape → ℕ → ℕ × Engine → Option ((ℕ × ℕ) × Engine)
last2 s a found = and_then (residual.coordinate_read a found.1) (last3 s found.0)

abbrev last1 : residual.Shape → ℕ × Engine → Option ((ℕ × ℕ) × Engine)
last1 s found = and_then (prefix_from s true 0 (2 * s.log2 - 1) found.1) (last2 s found.0)

pub last_open : (s : residual.Shape) (e : Engine) → residual.last_read s e ≡ and_then (prefix_from s false 0 (2 * s.log2 - 1) e) (last1 s)
unfolding prefix_from
last_open s e = refl

pub last_none1 : (s : residual.Shape) (e : Engine) → prefix_from s false 0 (2 * s.log2 - 1) e ≡ None → residual.last_read s e ≡ None
last_none1 s e h = last_open s e ∙ then_none _ (last1 s) h

pub last_none2 : (s : residual.Shape) (a : ℕ) (e d : Engine) → prefix_from s false 0 (2 * s.log2 - 1) e ≡ Some (a, d) → prefix_from s true 0 (2 * s.log2 - 1) d ≡ None → residual.last_read s e ≡ None
last_none2 s a e d h i = last_open s e ∙ then_some _ _ (last1 s) h ∙ then_none _ (last2 s a) i

pub last_none3 : (s : residual.Shape) (a b : ℕ) (e d f : Engine) → prefix_from s false 0 (2 * s.log2 - 1) e ≡ Some (a, d) → prefix_from s true 0 (2 * s.log2 - 1) d ≡ Some (b, f)
    → residual.coordinate_read a f ≡ None → residual.last_read s e ≡ None
last_none3 s a b e d f h i j = last_open s e ∙ then_some _ _ (last1 s) h ∙ then_some _ _ (last2 s a) i ∙ then_none _ (last3 s b) j

pub last_none4 : (s : residual.Shape) (a b x : ℕ) (e d f g : Engine) → prefix_from s false 0 (2 * s.log2 - 1) e ≡ Some (a, d) → prefix_from s true 0 (2 * s.log2 - 1) d ≡ Some (b, f)
    → residual.coordinate_read a f ≡ Some (x, g) → residual.coordinate_read b g ≡ None → residual.last_read s e ≡ None
last_none4 s a b x e d f g h i j k = last_open s e ∙ then_some _ _ (last1 s) h ∙ then_some _ _ (last2 s a) i ∙ then_some _ _ (last3 s b) j ∙ then_none _ (last4 s x) k

pub last_all : (s : residual.Shape) (a b x y : ℕ) (e d f g i : Engine) → prefix_from s false 0 (2 * s.log2 - 1) e ≡ Some (a, d) → prefix_from s true 0 (2 * s.log2 - 1) d ≡ Some (b, f)
    → residual.coordinate_read a f ≡ Some (x, g) → residual.coordinate_read b g ≡ Some (y, i) → residual.last_read s e ≡ Some (residual.swapped s.scan (x, y), i)
last_all s a b x y e d f g i h j k l = last_open s e ∙ then_some _ _ (last1 s) h ∙ then_some _ _ (last2 s a) j ∙ then_some _ _ (last3 s b) k ∙ then_some _ _ (last4 s x) l

-- ---- an escape is that of the definitions

abbrev pub added : ℕ → ℕ × Engine → Option (ℕ × Engine)
added sum found = Some (sum + found.0, found.1)

added_twice : (sum p : ℕ) (o : Option (ℕ × Engine)) → and_then o (added (sum + p)) ≡ and_then (and_then o (added p)) (added sum)
added_twice sum p None = refl
added_twice sum p (Some (x, d)) = let q : sum + p + x ≡ sum + (p + x) = omega arith in ap (λ (n : ℕ). Some (n, d)) q

no_more : (o : Option (ℕ × Engine)) → and_then o (added 0) ≡ o
no_more None = refl
no_more (Some (x, d)) = let q : 0 + x ≡ x = omega arith in ap (λ (n : ℕ). Some (n, d)) q

zero_by : (sum k : ℕ) (o : Option (Bool × Engine)) → and_then o (last_then sum k) ≡ and_then (and_then o (λ found. (if found.0 then refuse {A = ℕ} else fl_read k) found.1)) (added sum)
zero_by sum k None = refl
zero_by sum k (Some (true, d)) = refl
zero_by sum k (Some (false, d)) = refl

more_by : (sum ones k : ℕ) (o : Option (Bool × Engine)) → ((s : ℕ) (d : Engine) → escape_read s ones (suc k) d ≡ and_then (eg_from ones (suc k) d) (added s))
    → and_then o (escape_then sum ones k) ≡ and_then (and_then o (λ found. (if found.0 then (eg_from ones (suc k) >>= λ rest. give (2 ^ k + rest)) else fl_read k) found.1)) (added sum)
more_by sum ones k None h = refl
more_by sum ones k (Some (true, d)) h = h (sum + 2 ^ k) d ∙ added_twice sum (2 ^ k) (eg_from ones (suc k) d)
more_by sum ones k (Some (false, d)) h = refl

escape_is : (sum ones k : ℕ) (e : Engine) → escape_read sum ones k e ≡ and_then (eg_from ones k e) (added sum)
escape_is sum zero k e = escape_zero sum k e ∙ zero_by sum k (bypass_read e)
escape_is sum (suc ones) k e = escape_suc sum ones k e ∙ more_by sum ones k (bypass_read e) (λ s d. escape_is s ones (suc k) d)

pub escape_eg : (k : ℕ) (e : Engine) → escape_read 0 15 k e ≡ eg_read k e
escape_eg k e = escape_is 0 15 k e ∙ no_more (eg_from 15 k e)

abbrev rest_then : ℕ → ℕ → ℕ × Engine → Option (ℕ × Engine)
rest_then r p found = (if nat_lt p 4 then (fl_read r >>= λ low. give (p * 2 ^ r + low)) else (eg_read (suc r) >>= λ rest. give (4 * 2 ^ r + rest))) found.1

abbrev remaining_then : ℕ → ℕ × Engine → Option (ℕ × Engine)
remaining_then r found = rest_then r found.0 found

pub remaining_open : (r : ℕ) (e : Engine) → remaining_read r e ≡ and_then (four_from 0 4 e) (remaining_then r)
unfolding four_from
remaining_open r e = refl

pub remaining_none : (r : ℕ) (e : Engine) → four_from 0 4 e ≡ None → remaining_read r e ≡ None
remaining_none r e h = remaining_open r e ∙ then_none _ (remaining_then r) h

short_is : (r p : ℕ) (d : Engine) → p < 4 → rest_then r p (p, d) ≡ and_then (fl_read r d) (added (p * 2 ^ r))
short_is r p d h = ap (λ (b : Bool). (if b then (fl_read r >>= λ low. give (p * 2 ^ r + low)) else (eg_read (suc r) >>= λ rest. give (4 * 2 ^ r + rest))) d) (lt-ltb p 4 h)

long_is : (r p : ℕ) (d : Engine) → 4 ≤ p → rest_then r p (p, d) ≡ and_then (escape_read 0 15 (r + 1) d) (added (4 * 2 ^ r))
long_is r p d h =
    let n : r + 1 ≡ suc r = omega arith in
    ap (λ (b : Bool). (if b then (fl_read r >>= λ low. give (p * 2 ^ r + low)) else (eg_read (suc r) >>= λ rest. give (4 * 2 ^ r + rest))) d) (not_lt p 4 h)
    ∙ ap (λ (o : Option (ℕ × Engine)). and_then o (added (4 * 2 ^ r))) (sym (ap (λ k. escape_read 0 15 k d) n ∙ escape_is 0 15 (suc r) d ∙ no_more (eg_from 15 (suc r) d)))
  where
    not_lt : (a b : ℕ) → b ≤ a → nat_lt a b ≡ false
    not_lt a b h = grind (arith, nat_tests)

pub short_none : (r p : ℕ) (e d : Engine) → four_from 0 4 e ≡ Some (p, d) → p < 4 → fl_read r d ≡ None → remaining_read r e ≡ None
short_none r p e d h l f = remaining_open r e ∙ then_some _ _ (remaining_then r) h ∙ short_is r p d l ∙ then_none _ (added (p * 2 ^ r)) f

pub short_some : (r p low : ℕ) (e d f : Engine) → four_from 0 4 e ≡ Some (p, d) → p < 4 → fl_read r d ≡ Some (low, f) → remaining_read r e ≡ Some (p * 2 ^ r + low, f)
short_some r p low e d f h l g = remaining_open r e ∙ then_some _ _ (remaining_then r) h ∙ short_is r p d l ∙ then_some _ _ (added (p * 2 ^ r)) g

pub long_none : (r p : ℕ) (e d : Engine) → four_from 0 4 e ≡ Some (p, d) → 4 ≤ p → escape_read 0 15 (r + 1) d ≡ None → remaining_read r e ≡ None
long_none r p e d h l f = remaining_open r e ∙ then_some _ _ (remaining_then r) h ∙ long_is r p d l ∙ then_none _ (added (4 * 2 ^ r)) f

pub long_some : (r p rest : ℕ) (e d f : Engine) → four_from 0 4 e ≡ Some (p, d) → 4 ≤ p → escape_read 0 15 (r + 1) d ≡ Some (rest, f) → remaining_read r e ≡ Some (4 * 2 ^ r + rest, f)
long_some r p rest e d f h l g = remaining_open r e ∙ then_some _ _ (remaining_then r) h ∙ long_is r p d l ∙ then_some _ _ (added (4 * 2 ^ r)) g

pub room_more : (flag : Bool) (d flags left : ℕ) → d ≡ digit flag → 0 < left → (flags + 1) * 2 ^ left ≤ 65536 → (2 * flags + d + 1) * 2 ^ (left - 1) ≤ 65536
room_more flag d flags left e h k =
    let n : left ≡ suc (left - 1) = omega arith in
    let s : 2 ^ left ≡ 2 ^ (left - 1) * 2 = ap (λ j. 2 ^ j) n ∙ pow-suc 2 (left - 1) in
    by flag d flags (2 ^ (left - 1)) (2 ^ left) e s k
  where
    by : (flag : Bool) (d flags p q : ℕ) → d ≡ digit flag → q ≡ p * 2 → (flags + 1) * q ≤ 65536 → (2 * flags + d + 1) * p ≤ 65536
    by true d flags p q e s k = rw e (let j = (rw s at k) in omega arith)
    by false d flags p q e s k = rw e (let j = (rw s at k) in omega arith)

rice_power : (r : ℕ) → r ≤ 4 → 2 ^ r ≤ 16
rice_power r h = low (pow_mono {i = r} {j = 4} h)
  where
    low : 2 ^ r ≤ 2 ^ 4 → 2 ^ r ≤ 16
    low h = h

product_low : (a p : ℕ) → a ≤ 4 → p ≤ 16 → a * p ≤ 64
product_low zero p h k = omega arith
product_low (suc zero) p h k = omega arith
product_low (suc (suc zero)) p h k = omega arith
product_low (suc (suc (suc zero))) p h k = omega arith
product_low (suc (suc (suc (suc zero)))) p h k = omega arith
product_low (suc (suc (suc (suc (suc a))))) p h k = absurd (omega arith)

pub shifted_low : (a r : ℕ) → r ≤ 4 → a ≤ 4 → a * 2 ^ r ≤ 64
shifted_low a r h k = product_low a (2 ^ r) k (rice_power r h)

pub shifted_is : (a r : ℕ) → r ≤ 4 → a ≤ 4 → a * 2 ^ r % 4294967296 ≡ a * 2 ^ r
shifted_is a r h k = by (a * 2 ^ r) (shifted_low a r h k)
  where
    by : (x : ℕ) → x ≤ 64 → x % 4294967296 ≡ x
    by x h = omega arith
