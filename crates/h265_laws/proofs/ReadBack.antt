-- The engine reads back what the code writes.
use Rattle.std.proofs.Common.{◌≡◌, refl, sym, ◌∙◌, ap, subst, ℕ, zero, suc, ◌+◌, ◌-◌, ◌*◌, ◌/◌, ◌%◌, ◌^◌, ◌<◌, ◌≤◌, List, [], ◌∷◌, ◌++◌, Bool, true, false, cond, not, replicate, length, set, append_assoc, append-nil, add-zero, add_comm, arith, pow_pos, shr-shr, length-append}
use Rattle.std.proofs.lemmas.List.{length-replicate}
use Rattle.std.specs.Prelude.{Option, Some, None, get_or, nat_lt, nat_le, ◌&&◌}
use Rattle.std.specs.List.{AllByRecursion}
use Rattle.std.specs.Bool.{beq}
use Rattle.std.proofs.lemmas.Bool.{agree_below, agree_below_at, and_parts, lt-ltb, le-leb, lt-leb, leb-true, eq-eqb, cond-true, cond-false}
use Rattle.std.proofs.lemmas.Nat.{le-div, div_below}
use Rattle.std.proofs.Math.Nat.{suc-add, zero-add, pow-suc, sub-zero}
use Rattle.h265_model.specs.declared.Bin.{Bin}
use Rattle.h265_model.specs.declared.Place.{Place}
use Rattle.h265_model.specs.declared.Item.{Item}
use Rattle.h265_model.specs.declared.Place.TheVariants.{Context, Bypass, Terminate}
use Rattle.h265_model.specs.declared.Item.TheVariants as items
use Rattle.h265_model.specs.Contexts.{lps_range, mps, step}
use Rattle.h265_model.specs.Engine.{Engine, read_bytes, take_bit, shift_in, start, doublings, renormalised, with_bin, context_read, bypass_read, terminate_read, bin, aligned, samples, Part, One, Run, sample_first, parts_of, Gives}
use Rattle.h265_model.specs.Code.{Coding, fresh, closing, put_bin, coding, code, contexts_after, bytes_of, Plain, Ended, Filled, GoesOn, IsWellFormed}
use Rattle.h265_laws.proofs.Digits.{odd, digit-odd, half, u-shifted, bits-bytes_of, read_bytes_of, read_alignment_of, doubled_range}
use Rattle.h265_model.specs.Bits.{digit, ◌>>=◌ as and_then, u, bits as bits_of, read_alignment}
use Rattle.h265_model.proofs.ByteLaws.{length-bits, bits-append}
use Rattle.h265_model.proofs.ContextLaws.{next_bound}

-- ---- the engine beside the final number of a run

abbrev pub eng : ℕ → ℕ → List ℕ → Bool → List Bool → Engine
eng range offset contexts last bits = record { range = range; offset = offset; contexts = contexts; last = last; bits = bits }

-- k digits of the number v aren't read yet, and rest stands after them. The offset is what was read, less low
pub record Stands (v k low : ℕ) (rest : List Bool) (offset : ℕ) (last : Bool) (bits : List Bool) : Type 0 where
  pub offset_is : offset + low ≡ v / 2 ^ k
  pub last_is : last ≡ odd (v / 2 ^ k)
  pub bits_are : bits ≡ u k v ++ rest

-- what s more bits lead to
pub record Entered (s v k low : ℕ) (rest : List Bool) (range offset : ℕ) (contexts : List ℕ) (last : Bool) (bits : List Bool) : Type 0 where
  pub offset' : ℕ
  pub last' : Bool
  pub bits' : List Bool
  pub is : shift_in s (eng range offset contexts last bits) ≡ Some (eng range offset' contexts last' bits')
  pub stands : Stands v k (low * 2 ^ s) rest offset' last' bits'

one_bit : (v k low : ℕ) (rest : List Bool) (range offset : ℕ) (contexts : List ℕ) (last : Bool) (bits : List Bool)
    → Stands v (suc k) low rest offset last bits
    → (take_bit (eng range offset contexts last bits) bits ≡ Some (eng range (2 * offset + digit (odd (v / 2 ^ k))) contexts (odd (v / 2 ^ k)) (u k v ++ rest)))
    × Stands v k (2 * low) rest (2 * offset + digit (odd (v / 2 ^ k))) (odd (v / 2 ^ k)) (u k v ++ rest)
unfolding u
one_bit v k low rest range offset contexts last bits st = (
  rw st.bits_are refl,
  record { offset_is = let a : offset + low ≡ v / 2 ^ suc k = st.offset_is in let h : v / 2 ^ suc k ≡ v / 2 ^ k / 2 = half v k in let b : digit (odd (v / 2 ^ k)) ≡ v / 2 ^ k % 2 = digit-odd (v / 2 ^ k) in omega arith; last_is = refl; bits_are = refl },
)

pub entered : (s v k low : ℕ) (rest : List Bool) (range offset : ℕ) (contexts : List ℕ) (last : Bool) (bits : List Bool)
    → Stands v (s + k) low rest offset last bits → Entered s v k low rest range offset contexts last bits
entered zero v k low rest range offset contexts last bits st = record {
  offset' = offset;
  last' = last;
  bits' = bits;
  is = refl;
  stands = subst (λ (m : ℕ). Stands v k m rest offset last bits) (omega arith) (subst (λ (m : ℕ). Stands v m low rest offset last bits) (zero-add k) st);
}
entered (suc s) v k low rest range offset contexts last bits st =
    let (is, after) = one_bit v (s + k) low rest range offset contexts last bits (subst (λ (m : ℕ). Stands v m low rest offset last bits) (suc-add s k) st) in
    let r : Entered s v k (2 * low) rest range (2 * offset + digit (odd (v / 2 ^ (s + k)))) contexts (odd (v / 2 ^ (s + k))) (u (s + k) v ++ rest) = entered s v k (2 * low) rest range _ contexts _ _ after in
    let twice : 2 * low * 2 ^ s ≡ low * 2 ^ suc s = rw (pow-suc 2 s) (omega arith) in
    record {
      offset' = r.offset';
      last' = r.last';
      bits' = r.bits';
      is = ap (λ o. and_then o (shift_in s)) is ∙ r.is;
      stands = subst (λ (m : ℕ). Stands v k m rest r.offset' r.last' r.bits') twice r.stands;
    }

-- ---- a run and what follows it

abbrev pub at : List ℕ → ℕ → ℕ → ℕ → List ℕ → Coding
at d low range count contexts = record { done = d; low = low; range = range; count = count; contexts = contexts }

abbrev pub many : ℕ → ℕ
many n = (n + 16) / 8

abbrev pub pad : ℕ → ℕ
pad n = 8 * many n - (n + 9)

-- the bytes of a run that doubled n times
abbrev pub run_bytes : ℕ → ℕ → List ℕ
run_bytes n v = bytes_of (many n) (v * 2 ^ pad n)

-- asked for these parts, the engine gives them, and zeros to the byte and rest are left
pub record Answers (parts : List Part) (contexts_then : List ℕ → List ℕ) (rest : List Bool) (e : Engine) : Type 0 where
  pub left : Engine
  pub gives : Gives parts e left
  pub contexts_are : (d : List ℕ) → left.contexts ≡ contexts_then d
  pub ends : aligned left ≡ Some rest

-- in a run: the final number, how many doublings are still to come and how many there are, the bytes after the run
pub record ReadsBack (list : List Item) (low range count : ℕ) (contexts : List ℕ) : Type 0 where
  pub value : ℕ
  pub more : ℕ
  pub total : ℕ
  pub tail : List ℕ
  pub total_is : total ≡ count + more
  pub done_is : (d : List ℕ) → (coding list (at d low range count contexts)).done ≡ d ++ (run_bytes total value ++ tail)
  pub least : low ≤ value / 2 ^ more
  pub most : value / 2 ^ more < low + range
  pub reads : (z : List ℕ) (offset : ℕ) (last : Bool) (bits : List Bool)
      → Stands value more low (replicate (pad total) false ++ bits_of (tail ++ z)) offset last bits
      → Answers (parts_of list) (λ d. (coding list (at d low range count contexts)).contexts) (bits_of z) (eng range offset contexts last bits)

-- a share of r after a
narrowed : (v k low a offset : ℕ) (rest : List Bool) (last : Bool) (bits : List Bool) → a ≤ offset
    → Stands v k low rest offset last bits → Stands v k (low + a) rest (offset - a) last bits
narrowed v k low a offset rest last bits h st = record {
  offset_is = let e : offset + low ≡ v / 2 ^ k = st.offset_is in omega arith;
  last_is = st.last_is;
  bits_are = st.bits_are;
}

low_of_scaled : (v s m low : ℕ) → low * 2 ^ s ≤ v / 2 ^ m → low ≤ v / 2 ^ (s + m)
low_of_scaled v s m low h =
    let e : v / 2 ^ m / 2 ^ s ≡ v / 2 ^ (s + m) = shr-shr v m s ∙ ap (λ (k : ℕ). v / 2 ^ k) (add_comm m s) in
    subst (λ (x : ℕ). low ≤ x) e (le-div low (v / 2 ^ m) (2 ^ s) (pow_pos s) h)

high_of_scaled : (v s m low r : ℕ) → v / 2 ^ m < low * 2 ^ s + r * 2 ^ s → v / 2 ^ (s + m) < low + r
high_of_scaled v s m low r h =
    let e : v / 2 ^ m / 2 ^ s ≡ v / 2 ^ (s + m) = shr-shr v m s ∙ ap (λ (k : ℕ). v / 2 ^ k) (add_comm m s) in
    let h' : v / 2 ^ m < (low + r) * 2 ^ s = omega arith in
    subst (λ (x : ℕ). x < low + r) e (div_below (v / 2 ^ m) (2 ^ s) (low + r) (pow_pos s) h')

-- a bin that narrows the range to r after a, and doubles it
scaled_step : (b : Bin) (list : List Item) (low range count : ℕ) (contexts : List ℕ) (a r : ℕ) (contexts' : List ℕ)
    → a + r ≤ range
    → ((d : List ℕ) → put_bin b.place b.value (at d low range count contexts) ≡ at d ((low + a) * 2 ^ doublings r) (r * 2 ^ doublings r) (count + doublings r) contexts')
    → ((o : ℕ) (last : Bool) (bits : List Bool) → a ≤ o → o < a + r → bin b.place (eng range o contexts last bits) ≡ with_bin b.value (renormalised (eng r (o - a) contexts' last bits)))
    → ReadsBack list ((low + a) * 2 ^ doublings r) (r * 2 ^ doublings r) (count + doublings r) contexts'
    → ReadsBack (items.Bin b ∷ list) low range count contexts
unfolding renormalised
scaled_step b list low range count contexts a r contexts' fits puts asks later =
    let s : ℕ = doublings r in
    let v : ℕ = later.value in
    let m : ℕ = later.more in
    let low_fits : low + a ≤ v / 2 ^ (s + m) = low_of_scaled v s m (low + a) later.least in
    let high_fits : v / 2 ^ (s + m) < low + a + r = high_of_scaled v s m (low + a) r later.most in
    record {
      value = v;
      more = s + m;
      total = later.total;
      tail = later.tail;
      total_is = let e : later.total ≡ count + s + m = later.total_is in omega arith;
      done_is = λ d. ap (λ (c : Coding). (coding list c).done) (puts d) ∙ later.done_is d;
      least = omega arith;
      most = omega arith;
      reads = λ z o last bits st.
          let here : o + low ≡ v / 2 ^ (s + m) = st.offset_is in
          let from : a ≤ o = omega arith in
          let to : o < a + r = omega arith in
          let n : Entered s v m (low + a) (replicate (pad later.total) false ++ bits_of (later.tail ++ z)) (r * 2 ^ s) (o - a) contexts' last bits =
          entered s v m (low + a) _ (r * 2 ^ s) (o - a) contexts' last bits (narrowed v (s + m) low a o _ last bits from st) in
          let answers : Answers (parts_of list) (λ d. (coding list (at d ((low + a) * 2 ^ s) (r * 2 ^ s) (count + s) contexts')).contexts) (bits_of z) (eng (r * 2 ^ s) n.offset' contexts' n.last' n.bits') =
          later.reads z n.offset' n.last' n.bits' n.stands in
          record {
            left = answers.left;
            gives = (eng (r * 2 ^ s) n.offset' contexts' n.last' n.bits', asks o last bits from to ∙ ap (with_bin b.value) n.is, answers.gives);
            contexts_are = λ d. answers.contexts_are d ∙ sym (ap (λ (c : Coding). (coding list c).contexts) (puts d));
            ends = answers.ends;
          };
    }

-- a bin without a context
bypass_true : (range o low m v : ℕ) (rest : List Bool) (contexts : List ℕ) (last : Bool) (bits : List Bool)
    → 2 * low + range ≤ v / 2 ^ m → Stands v (suc m) low rest o last bits
    → (o' : ℕ) × (last' : Bool) × (bits' : List Bool) × (bypass_read (eng range o contexts last bits) ≡ Some (true, eng range o' contexts last' bits')) × Stands v m (2 * low + range) rest o' last' bits'
unfolding bypass_read
bypass_true range o low m v rest contexts last bits fits st =
    let (is, after) = one_bit v m low rest range o contexts last bits st in
    let o1 : ℕ = 2 * o + digit (odd (v / 2 ^ m)) in
    let e : o1 + 2 * low ≡ v / 2 ^ m = after.offset_is in
    let enough : range ≤ o1 = omega arith in
    let chosen : nat_le range o1 ≡ true = le-leb range o1 enough in (
      o1 - range,
      odd (v / 2 ^ m),
      u m v ++ rest,
      ap (λ x. and_then (and_then x (shift_in 0)) (λ (d : Engine). cond (nat_le d.range d.offset) (Some (true, record d { offset = d.offset - d.range })) (Some (false, d)))) is
          ∙ cond-true (nat_le range o1) _ _ chosen,
      narrowed v m (2 * low) range o1 rest _ _ enough after,
    )

bypass_false : (range o low m v : ℕ) (rest : List Bool) (contexts : List ℕ) (last : Bool) (bits : List Bool)
    → v / 2 ^ m < 2 * low + range → Stands v (suc m) low rest o last bits
    → (o' : ℕ) × (last' : Bool) × (bits' : List Bool) × (bypass_read (eng range o contexts last bits) ≡ Some (false, eng range o' contexts last' bits')) × Stands v m (2 * low) rest o' last' bits'
unfolding bypass_read
bypass_false range o low m v rest contexts last bits fits st =
    let (is, after) = one_bit v m low rest range o contexts last bits st in
    let o1 : ℕ = 2 * o + digit (odd (v / 2 ^ m)) in
    let e : o1 + 2 * low ≡ v / 2 ^ m = after.offset_is in
    let enough : o1 < range = omega arith in
    let chosen : nat_le range o1 ≡ false = lt-leb range o1 enough in (
      o1,
      odd (v / 2 ^ m),
      u m v ++ rest,
      ap (λ x. and_then (and_then x (shift_in 0)) (λ (d : Engine). cond (nat_le d.range d.offset) (Some (true, record d { offset = d.offset - d.range })) (Some (false, d)))) is
          ∙ cond-false (nat_le range o1) _ _ chosen,
      after,
    )

bypass_step : (value : Bool) (list : List Item) (low range count : ℕ) (contexts : List ℕ)
    → ReadsBack list (2 * low + digit value * range) range (count + 1) contexts
    → ReadsBack (items.Bin (record { value = value; place = Bypass }) ∷ list) low range count contexts
unfolding put_bin
bypass_step true list low range count contexts later =
    let v : ℕ = later.value in
    let m : ℕ = later.more in
    let h : v / 2 ^ suc m ≡ v / 2 ^ m / 2 = half v m in
    let low_fits : 2 * low + 1 * range ≤ v / 2 ^ m = later.least in
    let high_fits : v / 2 ^ m < 2 * low + 1 * range + range = later.most in
    let same : 2 * low + range ≡ 2 * low + 1 * range = omega arith in
    record {
      value = v;
      more = suc m;
      total = later.total;
      tail = later.tail;
      total_is = let e : later.total ≡ count + 1 + m = later.total_is in omega arith;
      done_is = later.done_is;
      least = omega arith;
      most = omega arith;
      reads = λ z o last bits st.
          let (o', last', bits', is, after) = bypass_true range o low m v _ contexts last bits (omega arith) st in
          let answers : Answers (parts_of list) (λ d. (coding list (at d (2 * low + 1 * range) range (count + 1) contexts)).contexts) (bits_of z) (eng range o' contexts last' bits') =
          later.reads z o' last' bits' (subst (λ (l : ℕ). Stands v m l (replicate (pad later.total) false ++ bits_of (later.tail ++ z)) o' last' bits') same after) in
          record { left = answers.left; gives = (eng range o' contexts last' bits', is, answers.gives); contexts_are = answers.contexts_are; ends = answers.ends };
    }
bypass_step false list low range count contexts later =
    let v : ℕ = later.value in
    let m : ℕ = later.more in
    let h : v / 2 ^ suc m ≡ v / 2 ^ m / 2 = half v m in
    let low_fits : 2 * low + 0 * range ≤ v / 2 ^ m = later.least in
    let high_fits : v / 2 ^ m < 2 * low + 0 * range + range = later.most in
    let same : 2 * low ≡ 2 * low + 0 * range = omega arith in
    record {
      value = v;
      more = suc m;
      total = later.total;
      tail = later.tail;
      total_is = let e : later.total ≡ count + 1 + m = later.total_is in omega arith;
      done_is = later.done_is;
      least = omega arith;
      most = omega arith;
      reads = λ z o last bits st.
          let (o', last', bits', is, after) = bypass_false range o low m v _ contexts last bits (omega arith) st in
          let answers : Answers (parts_of list) (λ d. (coding list (at d (2 * low + 0 * range) range (count + 1) contexts)).contexts) (bits_of z) (eng range o' contexts last' bits') =
          later.reads z o' last' bits' (subst (λ (l : ℕ). Stands v m l (replicate (pad later.total) false ++ bits_of (later.tail ++ z)) o' last' bits') same after) in
          record { left = answers.left; gives = (eng range o' contexts last' bits', is, answers.gives); contexts_are = answers.contexts_are; ends = answers.ends };
    }

-- ---- contexts

lps_fits : ℕ → ℕ → Bool
unfolding lps_range
lps_fits quarter byte = nat_le 6 (lps_range byte quarter) && nat_le (lps_range byte quarter) 240

lps_all_fit : agree_below (λ quarter. agree_below (lps_fits quarter) (λ byte. true) 126) (λ quarter. true) 4 ≡ true
unfolding lps_fits
lps_all_fit = refl

pub lps_bounds : (byte quarter : ℕ) → byte < 126 → quarter < 4 → (6 ≤ lps_range byte quarter) × (lps_range byte quarter ≤ 240)
unfolding lps_fits
lps_bounds byte quarter hb hq =
    let row : agree_below (lps_fits quarter) (λ b. true) 126 ≡ true = agree_below_at (λ q. agree_below (lps_fits q) (λ b. true) 126) (λ q. true) 4 quarter lps_all_fit hq in
    let cell : lps_fits quarter byte ≡ true = agree_below_at (lps_fits quarter) (λ b. true) 126 byte row hb in
    let p : (nat_le 6 (lps_range byte quarter) ≡ true) × (nat_le (lps_range byte quarter) 240 ≡ true) = and_parts _ _ cell in
    (leb-true _ _ p.0, leb-true _ _ p.1)

-- each context is a state byte
pub record AreStates (contexts : List ℕ) : Type 0 where
  pub each : (n : ℕ) → get_or contexts n 0 < 126

set_bound : (xs : List ℕ) (i v n : ℕ) → v < 126 → ((m : ℕ) → get_or xs m 0 < 126) → get_or (set xs i v) n 0 < 126
set_bound [] i v n hv h = h n
set_bound (x ∷ xs) zero v zero hv h = hv
set_bound (x ∷ xs) zero v (suc n) hv h = h (suc n)
set_bound (x ∷ xs) (suc i) v zero hv h = h zero
set_bound (x ∷ xs) (suc i) v (suc n) hv h = set_bound xs i v n hv (λ m. h (suc m))

pub stepped_states : (contexts : List ℕ) (n : ℕ) (value : Bool) → AreStates contexts → AreStates (step contexts n value)
stepped_states contexts n value h = record { each = λ m. set_bound contexts n _ m (next_bound (get_or contexts n 0) value (h.each n)) h.each }

beq_true : (a b : Bool) → beq a b ≡ true → a ≡ b
beq_true true true e = refl
beq_true true false e = sym e
beq_true false true e = e
beq_true false false e = refl

beq_false : (a b : Bool) → beq a b ≡ false → a ≡ not b
beq_false true true e = e
beq_false true false e = refl
beq_false false true e = refl
beq_false false false e = sym e

abbrev small_of : List ℕ → ℕ → ℕ → ℕ
small_of contexts n range = lps_range (get_or contexts n 0) (range / 64 % 4)

more_probable : (value : Bool) (n : ℕ) (list : List Item) (low range count : ℕ) (contexts : List ℕ)
    → beq value (mps (get_or contexts n 0)) ≡ true
    → small_of contexts n range ≤ range
    → (let r : ℕ = range - small_of contexts n range in
    ReadsBack list (low * 2 ^ doublings r) (r * 2 ^ doublings r) (count + doublings r) (step contexts n value))
    → ReadsBack (items.Bin (record { value = value; place = Context n }) ∷ list) low range count contexts
unfolding put_bin context_read
more_probable value n list low range count contexts e fits later =
    let byte : ℕ = get_or contexts n 0 in
    let small : ℕ = small_of contexts n range in
    let r : ℕ = range - small in
    let is : value ≡ mps byte = beq_true _ _ e in
    scaled_step (record { value = value; place = Context n }) list low range count contexts 0 r (step contexts n value)
    (omega arith)
    (λ d. cond-true (beq value (mps byte)) _ _ e ∙ ap (λ (l : ℕ). at d (l * 2 ^ doublings r) (r * 2 ^ doublings r) (count + doublings r) (step contexts n value)) (sym (add-zero low)))
    (λ o last bits from to. cond-false (nat_le r o) _ _ (lt-leb r o (omega arith))
    ∙ (ap (λ (w : Bool). with_bin w (renormalised (eng r o (step contexts n w) last bits))) (sym is)
    ∙ ap (λ (p : ℕ). with_bin value (renormalised (eng r p (step contexts n value) last bits))) (sym (sub-zero o))))
    (subst (λ (l : ℕ). ReadsBack list (l * 2 ^ doublings r) (r * 2 ^ doublings r) (count + doublings r) (step contexts n value)) (sym (add-zero low)) later)

less_probable : (value : Bool) (n : ℕ) (list : List Item) (low range count : ℕ) (contexts : List ℕ)
    → beq value (mps (get_or contexts n 0)) ≡ false
    → small_of contexts n range ≤ range
    → (let r : ℕ = small_of contexts n range in
    ReadsBack list ((low + (range - r)) * 2 ^ doublings r) (r * 2 ^ doublings r) (count + doublings r) (step contexts n value))
    → ReadsBack (items.Bin (record { value = value; place = Context n }) ∷ list) low range count contexts
unfolding put_bin context_read
less_probable value n list low range count contexts e fits later =
    let byte : ℕ = get_or contexts n 0 in
    let r : ℕ = small_of contexts n range in
    let a : ℕ = range - r in
    let is : value ≡ not (mps byte) = beq_false _ _ e in
    scaled_step (record { value = value; place = Context n }) list low range count contexts a r (step contexts n value)
    (omega arith)
    (λ d. cond-false (beq value (mps byte)) _ _ e)
    (λ o last bits from to. cond-true (nat_le a o) _ _ (le-leb a o from)
    ∙ ap (λ (w : Bool). with_bin w (renormalised (eng r (o - a) (step contexts n w) last bits))) (sym is))
    later

-- a terminating bin 0
not_ended : (list : List Item) (low range count : ℕ) (contexts : List ℕ) → 2 ≤ range
    → (let r : ℕ = range - 2 in ReadsBack list (low * 2 ^ doublings r) (r * 2 ^ doublings r) (count + doublings r) contexts)
    → ReadsBack (items.Bin (record { value = false; place = Terminate }) ∷ list) low range count contexts
unfolding put_bin terminate_read
not_ended list low range count contexts fits later =
    let r : ℕ = range - 2 in
    scaled_step (record { value = false; place = Terminate }) list low range count contexts 0 r contexts
    (omega arith)
    (λ d. ap (λ (l : ℕ). at d (l * 2 ^ doublings r) (r * 2 ^ doublings r) (count + doublings r) contexts) (sym (add-zero low)))
    (λ o last bits from to. cond-false (nat_le r o) _ _ (lt-leb r o (omega arith))
    ∙ ap (λ (p : ℕ). with_bin false (renormalised (eng r p contexts last bits))) (sym (sub-zero o)))
    (subst (λ (l : ℕ). ReadsBack list (l * 2 ^ doublings r) (r * 2 ^ doublings r) (count + doublings r) contexts) (sym (add-zero low)) later)

-- ---- ends of runs, and samples

pad_below : (n : ℕ) → pad n < 8
pad_below n = omega arith

run_length : (n : ℕ) → 8 * many n ≡ (9 + n) + pad n
run_length n = omega arith

aligned_at : (e : Engine) (p : ℕ) (ys : List ℕ) → e.last ≡ true → e.bits ≡ replicate p false ++ bits_of ys → p < 8 → aligned e ≡ Some (bits_of ys)
unfolding aligned
aligned_at e p ys is_one bits_are h =
    let long : length e.bits ≡ p + 8 * length ys =
    ap (λ (r : List Bool). length r) bits_are ∙ (length-append (replicate p false) (bits_of ys) ∙ omega (arith, length-replicate p false, length-bits ys)) in
    let left : length e.bits % 8 ≡ p = omega arith in
    ap (λ (b : Bool). read_alignment (b ∷ e.bits)) is_one
    ∙ (ap (λ (r : List Bool). read_alignment (true ∷ r)) bits_are
    ∙ read_alignment_of p (bits_of ys) (ap (λ (r : List Bool). length r % 8) (sym bits_are) ∙ left))

-- after a terminating bin 1
pub record EndsBack (list : List Item) (contexts : List ℕ) : Type 0 where
  pub tail : List ℕ
  pub done_is : (d : List ℕ) → (coding list (fresh d contexts)).done ≡ d ++ tail
  pub reads : (z : List ℕ) (e : Engine) → e.contexts ≡ contexts → aligned e ≡ Some (bits_of (tail ++ z))
      → Answers (parts_of list) (λ d. (coding list (fresh d contexts)).contexts) (bits_of z) e

ended : (list : List Item) (low range count : ℕ) (contexts : List ℕ) → 2 ≤ range → EndsBack list contexts
    → ReadsBack (items.Bin (record { value = true; place = Terminate }) ∷ list) low range count contexts
unfolding put_bin terminate_read closing u
ended list low range count contexts fits later =
    let v : ℕ = (low + (range - 2)) / 2 * 2 + 1 in
    record {
      value = v;
      more = 0;
      total = count;
      tail = later.tail;
      total_is = omega arith;
      done_is = λ d. later.done_is (d ++ run_bytes count v) ∙ append_assoc d (run_bytes count v) later.tail;
      least = omega arith;
      most = omega arith;
      reads = λ z o last bits st.
          let here : o + low ≡ v / 2 ^ 0 = st.offset_is in
          let reached : range - 2 ≤ o = omega arith in
          let one : last ≡ true = st.last_is ∙ eq-eqb (v / 1 % 2) 1 (omega arith) in
          let answers : Answers (parts_of list) (λ d. (coding list (fresh d contexts)).contexts) (bits_of z) (eng (range - 2) o contexts last bits) =
          later.reads z (eng (range - 2) o contexts last bits) refl (aligned_at (eng (range - 2) o contexts last bits) (pad count) (later.tail ++ z) one st.bits_are (pad_below count)) in
          record {
            left = answers.left;
            gives = (eng (range - 2) o contexts last bits, cond-true (nat_le (range - 2) o) _ _ (le-leb (range - 2) o reached), answers.gives);
            contexts_are = λ d. answers.contexts_are (d ++ run_bytes count v);
            ends = answers.ends;
          };
    }

-- the start of a run
pub record Starts (parts : List Part) (contexts_then : List ℕ → List ℕ) (rest : List Bool) (contexts : List ℕ) (bits : List Bool) : Type 0 where
  pub first : Engine
  pub starts : start contexts bits ≡ Some first
  pub answers : Answers parts contexts_then rest first

run_bits : (n v : ℕ) (rest : List ℕ) → bits_of (run_bytes n v ++ rest) ≡ u (9 + n) v ++ (replicate (pad n) false ++ bits_of rest)
run_bits n v rest =
    bits-append (run_bytes n v) rest
    ∙ (ap (λ (r : List Bool). r ++ bits_of rest) (bits-bytes_of (many n) (v * 2 ^ pad n)
    ∙ (ap (λ (m : ℕ). u m (v * 2 ^ pad n)) (run_length n) ∙ u-shifted (9 + n) (pad n) v))
    ∙ append_assoc (u (9 + n) v) (replicate (pad n) false) (bits_of rest))

run_starts : (list : List Item) (contexts : List ℕ) (r : ReadsBack list 0 510 0 contexts) (z : List ℕ)
    → Starts (parts_of list) (λ d. (coding list (fresh d contexts)).contexts) (bits_of z) contexts (bits_of (run_bytes r.total r.value ++ (r.tail ++ z)))
unfolding start
run_starts list contexts r z =
    let v : ℕ = r.value in
    let m : ℕ = r.more in
    let rest : List Bool = replicate (pad r.total) false ++ bits_of (r.tail ++ z) in
    let bits : List Bool = bits_of (run_bytes r.total r.value ++ (r.tail ++ z)) in
    let within : v / 2 ^ m < 0 + 510 = r.most in
    let total : r.total ≡ 0 + m = r.total_is in
    let nothing : v / 2 ^ (9 + m) ≡ 0 = ap (λ (k : ℕ). v / 2 ^ k) (add_comm 9 m) ∙ (sym (shr-shr v m 9) ∙ omega arith) in
    let st : Stands v (9 + m) 0 rest 0 false bits = record {
      offset_is = sym nothing;
      last_is = sym (ap odd nothing);
      bits_are = run_bits r.total v (r.tail ++ z) ∙ ap (λ (k : ℕ). u (9 + k) v ++ rest) (total ∙ zero-add m);
    } in
    let n : Entered 9 v m 0 rest 510 0 contexts false bits = entered 9 v m 0 rest 510 0 contexts false bits st in
    let here : n.offset' + 0 ≡ v / 2 ^ m = n.stands.offset_is in
    record {
      first = eng 510 n.offset' contexts n.last' n.bits';
      starts = ap (λ o. and_then o (λ (e : Engine). cond (nat_lt e.offset 510) (Some e) None)) n.is ∙ cond-true (nat_lt n.offset' 510) _ _ (lt-ltb n.offset' 510 (omega arith));
      answers = r.reads z n.offset' n.last' n.bits' n.stands;
    }

-- after a sample: the samples that follow, and the run after them
pub record FillsBack (list : List Item) (contexts : List ℕ) : Type 0 where
  pub xs : List ℕ
  pub parts : List Part
  pub tail : List ℕ
  pub are_bytes : AllByRecursion (λ x. x < 256) xs
  pub parts_are : (x : ℕ) → sample_first x (parts_of list) ≡ Run (x ∷ xs) ∷ parts
  pub done_is : (d : List ℕ) → (coding list (fresh d contexts)).done ≡ d ++ (xs ++ tail)
  pub reads : (z : List ℕ) → Starts parts (λ d. (coding list (fresh d contexts)).contexts) (bits_of z) contexts (bits_of (tail ++ z))

run_after : (b : Bin) (list : List Item) (contexts : List ℕ) → ReadsBack (items.Bin b ∷ list) 0 510 0 contexts → FillsBack (items.Bin b ∷ list) contexts
run_after b list contexts r = record {
  xs = [];
  parts = One b ∷ parts_of list;
  tail = run_bytes r.total r.value ++ r.tail;
  are_bytes = tt;
  parts_are = λ x. refl;
  done_is = r.done_is;
  reads = λ z. subst (λ (ys : List ℕ). Starts (One b ∷ parts_of list) (λ d. (coding (items.Bin b ∷ list) (fresh d contexts)).contexts) (bits_of z) contexts (bits_of ys))
      (sym (append_assoc (run_bytes r.total r.value) r.tail z)) (run_starts (items.Bin b ∷ list) contexts r z);
}

sample_after : (x : ℕ) (list : List Item) (contexts : List ℕ) → x < 256 → FillsBack list contexts → FillsBack (items.Sample x ∷ list) contexts
sample_after x list contexts h later = record {
  xs = x ∷ later.xs;
  parts = later.parts;
  tail = later.tail;
  are_bytes = (h, later.are_bytes);
  parts_are = λ y. ap (sample_first y) (later.parts_are x);
  done_is = λ d. later.done_is (d ++ x ∷ []) ∙ append_assoc d (x ∷ []) (later.xs ++ later.tail);
  reads = λ z. let s : Starts later.parts (λ d. (coding list (fresh d contexts)).contexts) (bits_of z) contexts (bits_of (later.tail ++ z)) = later.reads z in
      record { first = s.first; starts = s.starts; answers = record { left = s.answers.left; gives = s.answers.gives; contexts_are = λ d. s.answers.contexts_are (d ++ x ∷ []); ends = s.answers.ends } };
}

samples_read : (xs tail z contexts : List ℕ) (e first : Engine) → e.contexts ≡ contexts → aligned e ≡ Some (bits_of ((xs ++ tail) ++ z))
    → AllByRecursion (λ x. x < 256) xs → start contexts (bits_of (tail ++ z)) ≡ Some first
    → samples (length xs) e ≡ Some (xs, first)
unfolding samples
samples_read xs tail z contexts e first same at_byte bytes starts =
    let parted : bits_of ((xs ++ tail) ++ z) ≡ bits_of xs ++ bits_of (tail ++ z) = ap bits_of (append_assoc xs tail z) ∙ bits-append xs (tail ++ z) in
    let go : List Bool → Option (List ℕ × Engine) = λ bits. and_then (read_bytes (length xs) bits) (λ found. and_then (start e.contexts found.1) (λ d. Some (found.0, d))) in
    ap (λ o. and_then o go) (at_byte ∙ ap (λ (r : List Bool). Some r) parted)
    ∙ (ap (λ o. and_then o (λ (found : List ℕ × List Bool). and_then (start e.contexts found.1) (λ (d : Engine). Some (found.0, d)))) (read_bytes_of xs (bits_of (tail ++ z)) bytes)
    ∙ (ap (λ (c : List ℕ). and_then (start c (bits_of (tail ++ z))) (λ (d : Engine). Some (xs, d))) same
    ∙ ap (λ o. and_then o (λ (d : Engine). Some (xs, d))) starts))

samples_end : (x : ℕ) (list : List Item) (contexts : List ℕ) → x < 256 → FillsBack list contexts → EndsBack (items.Sample x ∷ list) contexts
samples_end x list contexts h later = record {
  tail = x ∷ (later.xs ++ later.tail);
  done_is = λ d. later.done_is (d ++ x ∷ []) ∙ append_assoc d (x ∷ []) (later.xs ++ later.tail);
  reads = λ z e same at_byte.
      let s : Starts later.parts (λ d. (coding list (fresh d contexts)).contexts) (bits_of z) contexts (bits_of (later.tail ++ z)) = later.reads z in
      record {
        left = s.answers.left;
        gives = subst (λ (ps : List Part). Gives ps e s.answers.left) (sym (later.parts_are x))
            (s.first, samples_read (x ∷ later.xs) later.tail z contexts e s.first same at_byte (h, later.are_bytes) s.starts, s.answers.gives);
        contexts_are = λ d. s.answers.contexts_are (d ++ x ∷ []);
        ends = s.answers.ends;
      };
}

nothing_after : (contexts : List ℕ) → EndsBack [] contexts
nothing_after contexts = record {
  tail = [];
  done_is = λ d. sym (append-nil d);
  reads = λ z e same at_byte. record { left = e; gives = refl; contexts_are = λ d. same; ends = at_byte };
}

-- ---- every list

pub record Claims (list : List Item) : Type 0 where
  pub plain : GoesOn Plain list → (low range count : ℕ) (contexts : List ℕ) → 256 ≤ range → range < 512 → AreStates contexts → ReadsBack list low range count contexts
  pub ended_here : GoesOn Ended list → (contexts : List ℕ) → AreStates contexts → EndsBack list contexts
  pub filled : GoesOn Filled list → (contexts : List ℕ) → AreStates contexts → FillsBack list contexts

context_claim : (n : ℕ) (value : Bool) (list : List Item) → Claims list → GoesOn Plain list
    → (low range count : ℕ) (contexts : List ℕ) → 256 ≤ range → range < 512 → AreStates contexts
    → ReadsBack (items.Bin (record { value = value; place = Context n }) ∷ list) low range count contexts
context_claim n value list later goes low range count contexts from to states = go (beq value (mps (get_or contexts n 0))) refl
  where
    small : ℕ
    small = small_of contexts n range

    large : ℕ
    large = range - small

    bounds : (6 ≤ small) × (small ≤ 240)
    bounds = lps_bounds (get_or contexts n 0) (range / 64 % 4) (states.each n) (omega arith)

    go : (b : Bool) → beq value (mps (get_or contexts n 0)) ≡ b → ReadsBack (items.Bin (record { value = value; place = Context n }) ∷ list) low range count contexts
    go true e =
        let at_least : 6 ≤ small = bounds.0 in
        let at_most : small ≤ 240 = bounds.1 in
        let d : (256 ≤ large * 2 ^ doublings large) × (large * 2 ^ doublings large < 512) = doubled_range large (omega arith) (omega arith) in
        more_probable value n list low range count contexts e (omega arith)
        (later.plain goes (low * 2 ^ doublings large) (large * 2 ^ doublings large) (count + doublings large) (step contexts n value) d.0 d.1 (stepped_states contexts n value states))
    go false e =
        let at_least : 6 ≤ small = bounds.0 in
        let at_most : small ≤ 240 = bounds.1 in
        let d : (256 ≤ small * 2 ^ doublings small) × (small * 2 ^ doublings small < 512) = doubled_range small (omega arith) (omega arith) in
        less_probable value n list low range count contexts e (omega arith)
        (later.plain goes ((low + large) * 2 ^ doublings small) (small * 2 ^ doublings small) (count + doublings small) (step contexts n value) d.0 d.1 (stepped_states contexts n value states))

bin_claim : (place : Place) (value : Bool) (list : List Item) → Claims list → GoesOn Plain (items.Bin (record { value = value; place = place }) ∷ list)
    → (low range count : ℕ) (contexts : List ℕ) → 256 ≤ range → range < 512 → AreStates contexts
    → ReadsBack (items.Bin (record { value = value; place = place }) ∷ list) low range count contexts
bin_claim (Context n) value list later goes low range count contexts from to states =
    context_claim n value list later goes.1 low range count contexts from to states
bin_claim Bypass value list later goes low range count contexts from to states =
    bypass_step value list low range count contexts (later.plain goes.1 (2 * low + digit value * range) range (count + 1) contexts from to states)
bin_claim Terminate true list later goes low range count contexts from to states =
    ended list low range count contexts (omega arith) (later.ended_here goes.1 contexts states)
bin_claim Terminate false list later goes low range count contexts from to states =
    let r : ℕ = range - 2 in
    let d : (256 ≤ r * 2 ^ doublings r) × (r * 2 ^ doublings r < 512) = doubled_range r (omega arith) (omega arith) in
    not_ended list low range count contexts (omega arith) (later.plain goes.1 (low * 2 ^ doublings r) (r * 2 ^ doublings r) (count + doublings r) contexts d.0 d.1 states)

pub claims : (list : List Item) → Claims list
claims [] = record {
  plain = λ goes. elim goes [ ];
  ended_here = λ goes contexts states. nothing_after contexts;
  filled = λ goes. elim goes [ ];
}
claims (items.Bin b ∷ list) = record {
  plain = bin_claim b.place b.value list (claims list);
  ended_here = λ goes. elim goes [ ];
  filled = λ goes contexts states. run_after b list contexts (bin_claim b.place b.value list (claims list) goes 0 510 0 contexts (omega arith) (omega arith) states);
}
claims (items.Sample x ∷ list) = record {
  plain = λ goes. elim goes [ ];
  ended_here = λ goes contexts states. samples_end x list contexts goes.0 ((claims list).filled goes.1 contexts states);
  filled = λ goes contexts states. sample_after x list contexts goes.0 ((claims list).filled goes.1 contexts states);
}

-- the engine that starts on the code and any bytes after it gives the items, has then the contexts that the
-- code names, and has read the code up to the zeros that fill its last byte
pub read_back : (list : List Item) (contexts : List ℕ) (z : List ℕ) → IsWellFormed list → AreStates contexts
    → Starts (parts_of list) (λ d. contexts_after list contexts) (bits_of z) contexts (bits_of (code list contexts ++ z))
unfolding code contexts_after
read_back list contexts z formed states =
    let r : ReadsBack list 0 510 0 contexts = (claims list).plain formed 0 510 0 contexts (omega arith) (omega arith) states in
    let s : Starts (parts_of list) (λ d. (coding list (fresh d contexts)).contexts) (bits_of z) contexts (bits_of (run_bytes r.total r.value ++ (r.tail ++ z))) = run_starts list contexts r z in
    let same : (coding list (fresh [] contexts)).done ++ z ≡ run_bytes r.total r.value ++ (r.tail ++ z) =
    ap (λ (ys : List ℕ). ys ++ z) (r.done_is []) ∙ append_assoc (run_bytes r.total r.value) r.tail z in
    record {
      first = s.first;
      starts = ap (λ (ys : List ℕ). start contexts (bits_of ys)) same ∙ s.starts;
      answers = record { left = s.answers.left; gives = s.answers.gives; contexts_are = λ d. s.answers.contexts_are []; ends = s.answers.ends };
    }
