-- The first of several bypass bins: what a caller of `peek` and `skip` needs.
use Rattle.std.proofs.Common.{◌≡◌, refl, sym, ◌∙◌, ap, ℕ, zero, suc, ◌+◌, ◌-◌, ◌*◌, ◌/◌, ◌^◌, ◌<◌, ◌≤◌, Bool, true, false, Some, None, Option, pow-suc, arith}
use Rattle.std.proofs.lemmas.Nat.{shr_high}
use Rattle.h265_model.specs.Bits.{digit, ◌>>=◌ as and_then}
use Rattle.h265_model.specs.Binarise.{fl_from, fl_read}
use Rattle.h265_model.specs.Engine.{Engine, bypass_read}

clash : {A : Type 0} (x : A) → None ≡ Some x → ⊥
clash x h = cc

same_some : {A : Type 0} (x y : A) → Some x ≡ Some y → x ≡ y
same_some x y h = cc

abbrev then_more : ℕ → ℕ → Bool × Engine → Option (ℕ × Engine)
then_more acc n found = fl_from (2 * acc + digit found.0) n found.1

abbrev go_on : ℕ → ℕ × Engine → Option (ℕ × Engine)
go_on n found = fl_from found.0 n found.1

joined : (m n acc : ℕ) (o : Option (Bool × Engine)) → ((a : ℕ) (d : Engine) → fl_from a (m + n) d ≡ and_then (fl_from a m d) (go_on n))
    → and_then o (then_more acc (m + n)) ≡ and_then (and_then o (then_more acc m)) (go_on n)
joined m n acc None h = refl
joined m n acc (Some found) h = h (2 * acc + digit found.0) found.1

-- bins one after another
pub fl_split : (m n acc : ℕ) (e : Engine) → fl_from acc (m + n) e ≡ and_then (fl_from acc m e) (go_on n)
fl_split zero n acc e = ap (λ k. fl_from acc k e) (let z : 0 + n ≡ n = omega arith in z)
fl_split (suc m) n acc e =
    ap (λ k. fl_from acc k e) (let z : suc m + n ≡ suc (m + n) = omega arith in z)
    ∙ joined m n acc (bypass_read e) (λ a d. fl_split m n a d)

record Low (n acc v : ℕ) : Type 0 where
  low : ℕ
  below : low < 2 ^ n
  is : v ≡ acc * 2 ^ n + low

digit_times : (b : Bool) (p : ℕ) → digit b * p ≤ p
digit_times true p = omega arith
digit_times false p = omega arith

more_low : (n acc v : ℕ) (b : Bool) → Low n (2 * acc + digit b) v → Low (suc n) acc v
more_low n acc v b l =
    let p = 2 ^ n in
    let double : 2 ^ suc n ≡ p * 2 = pow-suc 2 n in
    let d = digit_times b p in
    let below = l.below in
    let regroup : (2 * acc + digit b) * p + l.low ≡ acc * (p * 2) + (digit b * p + l.low) = omega arith in
    record {
      low = digit b * p + l.low;
      below = omega arith;
      is = l.is ∙ regroup ∙ ap (λ (k : ℕ). acc * k + (digit b * p + l.low)) (sym double);
    }

low_by : (n acc v : ℕ) (o : Option (Bool × Engine)) (after : Engine) → ((a : ℕ) (d : Engine) → fl_from a n d ≡ Some (v, after) → Low n a v)
    → and_then o (then_more acc n) ≡ Some (v, after) → Low (suc n) acc v
low_by n acc v None after h e = absurd (clash (v, after) e)
low_by n acc v (Some found) after h e = more_low n acc v found.0 (h (2 * acc + digit found.0) found.1 e)

-- a value is that of its first bins, and so many digits more
low_of : (n acc v : ℕ) (e after : Engine) → fl_from acc n e ≡ Some (v, after) → Low n acc v
low_of zero acc v e after h =
    record { low = 0; below = omega arith; is = let k : acc ≡ v = ap (λ (p : ℕ × Engine). p.0) (same_some _ _ h) in omega arith }
low_of (suc n) acc v e after h = low_by n acc v (bypass_read e) after (λ a d k. low_of n a v d after k) h

pub record Front (m n : ℕ) (e : Engine) (v : ℕ) (after : Engine) : Type 0 where
  pub between : Engine
  pub first : fl_read m e ≡ Some (v / 2 ^ n, between)
  pub rest : fl_from (v / 2 ^ n) n between ≡ Some (v, after)

front_by : (m n v : ℕ) (e after : Engine) (o : Option (ℕ × Engine)) → fl_read m e ≡ o → and_then o (go_on n) ≡ Some (v, after) → Front m n e v after
front_by m n v e after None is h = absurd (clash (v, after) h)
front_by m n v e after (Some found) is h =
    let l = low_of n found.0 v found.1 after h in
    let high : found.0 ≡ v / 2 ^ n = sym (ap (λ k. k / 2 ^ n) l.is ∙ shr_high found.0 n l.low l.below) in
    record {
      between = found.1;
      first = is ∙ ap (λ k. Some (k, found.1)) high;
      rest = ap (λ k. fl_from k n found.1) (sym high) ∙ h;
    }

-- the first m of m + n bins have the high digits of their value
pub front_of : (m n v : ℕ) (e after : Engine) → fl_read (m + n) e ≡ Some (v, after) → Front m n e v after
front_of m n v e after h = front_by m n v e after (fl_read m e) refl (sym (fl_split m n 0 e) ∙ h)

pub first_of : (m all v : ℕ) (e after : Engine) → m ≤ all → fl_read all e ≡ Some (v, after) → Front m (all - m) e v after
first_of m all v e after few h = front_of m (all - m) v e after (ap (λ k. fl_read k e) (let z : m + (all - m) ≡ all = omega arith in z) ∙ h)
