-- Laws of codes that are read bit by bit.
use Rattle.std.proofs.Common.{◌≡◌, ℕ, suc, ◌+◌, ◌-◌, ◌*◌, ◌%◌, ◌^◌, ◌<◌, ◌≤◌, Bool, true, false, List, [], ◌∷◌, length, take, drop, Option, Some, None, option_map, ℤ, refl, sym, ◌∙◌, ap, subst, arith, length-drop, mod-eq_of_lt}
use Rattle.std.specs.Prelude.{nat_lt}
use Rattle.std.proofs.lemmas.Bool.Decides.{nat_tests}
use Rattle.std.proofs.lemmas.List.{length-take-le}
use Rattle.std.proofs.lemmas.Nat.{pow_pos, one_shl}
use Rattle.std.proofs.Math.Nat.{pow-le-pow_right}
use Rattle.bit_string.proofs.Windows.{long_left}
use Rattle.h265_model.specs.Bits.{◌>>=◌, digit, value_after, value, bits, signed_of, read_u, read_ue, read_ue_after, read_alignment, all_zero}
use Rattle.h265_model.proofs.BitLaws.{value-u}
use Rattle.h265_model.proofs.ByteLaws.{u-value, value_below}
use Rattle.bit_string.specs.Parts.{Cursor, moved_to, Moves, code_of}

abbrev pub first : Option (ℕ × List Bool) → Option ℕ
first r = option_map (λ found. found.0) r

abbrev pub second : Option (ℕ × List Bool) → Option (List Bool)
second r = option_map (λ found. found.1) r

-- ---- leading zeros

enough : (n : ℕ) → nat_lt (suc n) 1 ≡ false
enough n = grind (arith, nat_tests)

few : (z : ℕ) → z < 32 → nat_lt 31 z ≡ false
few z h = grind (arith, nat_tests)

one_bit : (b : Bool) (bs : List Bool) → read_u 1 (b ∷ bs) ≡ Some (digit b, bs)
unfolding read_u value_after
one_bit true bs = rw (enough (length bs)) refl
one_bit false bs = rw (enough (length bs)) refl

-- a bit was read where z zeros were
pub record Turn (z bit : ℕ) (old new : Cursor) : Type 0 where
  pub one : bit ≡ 1 → read_ue_after z old.left ≡ code_of z (read_u z new.left)
  pub other : (bit ≡ 1 → ⊥) → read_ue_after z old.left ≡ read_ue_after (z + 1) new.left
  pub moves : Moves old new

moved_one : (b : Bool) (bs : List Bool) (place : ℕ) → Moves (record { left = b ∷ bs; place = place }) (record { left = bs; place = place + (length (b ∷ bs) - length bs) })
moved_one b bs place = record { whole = omega arith; fewer = omega arith }

turn_at : (z bit place : ℕ) (left : List Bool) (new : Cursor) → z < 32 → Some bit ≡ first (read_u 1 left) → new ≡ moved_to (second (read_u 1 left)) (record { left = left; place = place }) → Turn z bit (record { left = left; place = place }) new
unfolding read_u read_ue_after
turn_at z bit place [] new h value after = absurd (cc)
turn_at z bit place (true ∷ bs) new h value after =
    let is : bit ≡ 1 = let e = value ∙ ap first (one_bit true bs) in cc in
    let now : new ≡ record { left = bs; place = place + (length (true ∷ bs) - length bs) } = after ∙ ap (λ r. moved_to (second r) (record { left = true ∷ bs; place = place })) (one_bit true bs) in
    let P : Cursor → Type 0 = Turn z bit (record { left = true ∷ bs; place = place }) in
    subst P (sym now) (record { one = λ _. rw (few z h) refl; other = λ differs. absurd (differs is); moves = moved_one true bs place })
turn_at z bit place (false ∷ bs) new h value after =
    let is : bit ≡ 0 = let e = value ∙ ap first (one_bit false bs) in cc in
    let now : new ≡ record { left = bs; place = place + (length (false ∷ bs) - length bs) } = after ∙ ap (λ r. moved_to (second r) (record { left = false ∷ bs; place = place })) (one_bit false bs) in
    let P : Cursor → Type 0 = Turn z bit (record { left = false ∷ bs; place = place }) in
    subst P (sym now) (record { one = λ yes. absurd (omega arith); other = λ _. refl; moves = moved_one false bs place })

pub turn : (z bit : ℕ) (old new : Cursor) → z < 32 → Some bit ≡ first (read_u 1 old.left) → new ≡ moved_to (second (read_u 1 old.left)) old → Turn z bit old new
turn z bit old new h value after = turn_at z bit old.place old.left new h value after

pub moves_on : (a b c : Cursor) → Moves a b → Moves b c → Moves a c
moves_on a b c x y = record { whole = y.whole ∙ x.whole; fewer = omega (arith, x.fewer, y.fewer) }

pub no_bit : (z : ℕ) (left : List Bool) → None ≡ first (read_u 1 left) → read_ue_after z left ≡ None
unfolding read_u read_ue_after
no_bit z [] e = refl
no_bit z (b ∷ bs) e = let f = e ∙ ap first (one_bit b bs) in absurd (cc)

too_many : (z : ℕ) → 31 < z → nat_lt 31 z ≡ true
too_many z h = grind (arith, nat_tests)

pub too_long : (z : ℕ) (left : List Bool) → 31 < z → read_ue_after z left ≡ None
unfolding read_ue_after
too_long z [] h = refl
too_long z (true ∷ bs) h = rw (too_many z h) refl
too_long z (false ∷ bs) h = too_long (z + 1) bs (omega arith)

-- ---- a whole code

pub record Found (r : Option (ℕ × List Bool)) (v : ℕ) (old new : Cursor) : Type 0 where
  pub value : Some v ≡ first r
  pub after : new ≡ moved_to (second r) old

place_after : (old mid : Cursor) (n : ℕ) → Moves old mid → n ≤ length mid.left → mid.place + (length mid.left - n) ≡ old.place + (length old.left - n)
place_after old mid n h k = omega (arith, h.whole, h.fewer)

shorter : (n : ℕ) (left : List Bool) (v : ℕ) (rest : List Bool) → read_u n left ≡ Some (v, rest) → length rest ≤ length left
unfolding read_u
shorter n left v rest e =
    elim (nat_lt (length left) n) as (λ b. nat_lt (length left) n ≡ b → length rest ≤ length left) [
      | true ↦ λ is. let none : None ≡ Some (v, rest) = rw is at e in absurd (cc)
      | false ↦ λ is.
          let some : Some (value (take n left), drop n left) ≡ Some (v, rest) = rw is at e in
          let pair : (value (take n left), drop n left) ≡ (v, rest) = cc in
          let same : drop n left ≡ rest = ap (λ (p : ℕ × List Bool). p.1) pair in
          omega (arith, ap length same, length-drop n left)
    ] refl

found_by : (z low : ℕ) (old mid new : Cursor) (r : Option (ℕ × List Bool)) → ((v : ℕ) (rest : List Bool) → r ≡ Some (v, rest) → length rest ≤ length mid.left) → Moves old mid → Some low ≡ first r → new ≡ moved_to (second r) mid → Found (code_of z r) (2 ^ z - 1 + low) old new
found_by z low old mid new None short moves value after = absurd (cc)
found_by z low old mid new (Some f) short moves value after =
    let same : low ≡ f.0 = cc in
    let place = place_after old mid (length f.1) moves (short f.0 f.1 refl) in
    let F : ℕ → Cursor = λ p. record { left = f.1; place = p } in
    record { value = ap (λ n. Some (2 ^ z - 1 + n)) same; after = after ∙ ap F place }

pub found : (z low : ℕ) (old mid new : Cursor) → read_ue old.left ≡ code_of z (read_u z mid.left) → Moves old mid → Some low ≡ first (read_u z mid.left) → new ≡ moved_to (second (read_u z mid.left)) mid → Found (read_ue old.left) (2 ^ z - 1 + low) old new
found z low old mid new is moves value after =
    let P : Option (ℕ × List Bool) → Type 0 = λ r. Found r (2 ^ z - 1 + low) old new in
    subst P (sym is) (found_by z low old mid new (read_u z mid.left) (λ v rest e. shorter z mid.left v rest e) moves value after)

none_by : (z : ℕ) (r : Option (ℕ × List Bool)) → None ≡ first r → code_of z r ≡ None
none_by z None e = refl
none_by z (Some f) e = absurd (cc)

pub none_found : (z : ℕ) (old mid : Cursor) → read_ue old.left ≡ code_of z (read_u z mid.left) → None ≡ first (read_u z mid.left) → read_ue old.left ≡ None
none_found z old mid is e = is ∙ none_by z (read_u z mid.left) e

-- ---- a one and zeros to the byte

low_value : (a n v : ℕ) → v < 2 ^ n → a * 2 ^ n + v % 2 ^ n ≡ a * 2 ^ n + v
low_value a n v h = ap (λ m. a * 2 ^ n + m) (mod-eq_of_lt h)

pub value_after-from : (a : ℕ) (xs : List Bool) → value_after a xs ≡ a * 2 ^ length xs + value xs
value_after-from a xs =
    ap (value_after a) (sym (u-value 0 xs)) ∙ value-u a (length xs) (value xs) ∙ low_value a (length xs) (value xs) (value_below xs)

all_zero-value : (xs : List Bool) → all_zero xs ≡ true → value xs ≡ 0
unfolding value_after
all_zero-value [] h = refl
all_zero-value (true ∷ xs) h = absurd (cc)
all_zero-value (false ∷ xs) h = all_zero-value xs h

value-all_zero : (xs : List Bool) → value xs ≡ 0 → all_zero xs ≡ true
unfolding value_after
value-all_zero [] h = refl
value-all_zero (true ∷ xs) h = absurd (omega (arith, value_after-from 1 xs, pow_pos (length xs)))
value-all_zero (false ∷ xs) h = value-all_zero xs h

long_enough : (k n : ℕ) → k ≤ n → nat_lt (suc n) (suc k) ≡ false
long_enough k n h = grind (arith, nat_tests)

front_bits : (k : ℕ) (b : Bool) (bs : List Bool) → k ≤ length bs → read_u (suc k) (b ∷ bs) ≡ Some (digit b * 2 ^ k + value (take k bs), drop k bs)
unfolding read_u value_after
front_bits k b bs h =
    let digits : value_after (2 * 0 + digit b) (take k bs) ≡ digit b * 2 ^ k + value (take k bs) =
    ap (λ a. value_after a (take k bs)) (omega arith) ∙ value_after-from (digit b) (take k bs) ∙ ap (λ n. digit b * 2 ^ n + value (take k bs)) (length-take-le k bs h) in
    rw (long_enough k (length bs) h, digits) refl

rest_of : (m k : ℕ) → (suc m - 1) % 8 ≡ k → (m % 8 ≡ k) × (k ≤ m)
rest_of m k h = (omega arith, omega arith)

pub aligned_none : (k : ℕ) (left : List Bool) → (0 < length left → (length left - 1) % 8 ≡ k) → None ≡ first (read_u (suc k) left) → read_alignment left ≡ None
unfolding read_alignment
aligned_none k [] spare e = refl
aligned_none k (b ∷ bs) spare e =
    let rest = rest_of (length bs) k (spare (omega arith)) in
    let f = e ∙ ap first (front_bits k b bs rest.1) in absurd (cc)

not_all_zero : (xs : List Bool) → (value xs ≡ 0 → ⊥) → all_zero xs ≡ false
not_all_zero xs differs = elim (all_zero xs) as (λ b. all_zero xs ≡ b → b ≡ false) [
  | true ↦ λ is. absurd (differs (all_zero-value xs is))
  | false ↦ λ _. refl
] refl

pub aligned_other : (k v : ℕ) (left : List Bool) → (0 < length left → (length left - 1) % 8 ≡ k) → Some v ≡ first (read_u (suc k) left) → (v ≡ 2 ^ k → ⊥) → read_alignment left ≡ None
unfolding read_alignment
aligned_other k v [] spare e differs = refl
aligned_other k v (false ∷ bs) spare e differs = refl
aligned_other k v (true ∷ bs) spare e differs =
    let rest = rest_of (length bs) k (spare (omega arith)) in
    let is : v ≡ 1 * 2 ^ k + value (take k bs) = let f = e ∙ ap first (front_bits k true bs rest.1) in cc in
    let some : all_zero (take k bs) ≡ false = not_all_zero (take k bs) (λ z. differs (omega (arith, is, z))) in
    rw (rest.0, some) refl

none_enough : (k : ℕ) → nat_lt 0 (suc k) ≡ true
none_enough k = grind (arith, nat_tests)

empty_read : (k : ℕ) → read_u (suc k) [] ≡ None
unfolding read_u
empty_read k = rw (none_enough k) refl

nothing_read : (k v : ℕ) → Some v ≡ first (read_u (suc k) []) → ⊥
unfolding read_u
nothing_read k v e = let none : Some v ≡ None = e ∙ ap first (empty_read k) in absurd (cc none)

pub aligned : (k v : ℕ) (left : List Bool) → (0 < length left → (length left - 1) % 8 ≡ k) → Some v ≡ first (read_u (suc k) left) → v ≡ 2 ^ k → read_alignment left ≡ second (read_u (suc k) left)
unfolding read_alignment read_u
aligned k v [] spare e is = absurd (nothing_read k v e)
aligned k v (false ∷ bs) spare e is =
    let rest = rest_of (length bs) k (spare (omega arith)) in
    let low : v ≡ 0 * 2 ^ k + value (take k bs) = let f = e ∙ ap first (front_bits k false bs rest.1) in cc in
    let below : value (take k bs) < 2 ^ k = subst (λ (n : ℕ). value (take k bs) < 2 ^ n) (length-take-le k bs rest.1) (value_below (take k bs)) in
    absurd (omega arith)
aligned k v (true ∷ bs) spare e is =
    let rest = rest_of (length bs) k (spare (omega arith)) in
    let sum : v ≡ 1 * 2 ^ k + value (take k bs) = let f = e ∙ ap first (front_bits k true bs rest.1) in cc in
    let none : value (take k bs) ≡ 0 = omega (arith, sum, is) in
    rw (rest.0, value-all_zero (take k bs) none) (ap second (sym (front_bits k true bs rest.1)))

pub spare_bits : (list : List ℕ) (index bit : ℕ) (whole : Cursor) → record { left = drop (8 * index + bit) (bits list); place = 8 * index + bit } ≡ whole → bit < 8 → 0 < length whole.left → (length whole.left - 1) % 8 ≡ 7 - bit
spare_bits list index bit whole is h some =
    let long : length whole.left ≡ 8 * length list - (8 * index + bit) = ap (λ (k : Cursor). length k.left) (sym is) ∙ long_left list (8 * index + bit) in
    omega (arith, long)

pub low_below : (n v : ℕ) (left : List Bool) → Some v ≡ first (read_u n left) → v < 2 ^ n
unfolding read_u
low_below n v left e =
    elim (nat_lt (length left) n) as (λ b. nat_lt (length left) n ≡ b → v < 2 ^ n) [
      | true ↦ λ is. let none : Some v ≡ None = rw is at e in absurd (cc)
      | false ↦ λ is.
          let some : Some v ≡ Some (value (take n left)) = rw is at e in
          let same : value (take n left) ≡ v = cc in
          let long : length (take n left) ≡ n = length-take-le n left (grind (arith, nat_tests)) in
          subst (λ (m : ℕ). m < 2 ^ n) same (subst (λ (m : ℕ). value (take n left) < 2 ^ m) long (value_below (take n left)))
    ] refl

fits_code : (z p low : ℕ) → p ≡ 2 ^ z → low < 2 ^ z → 2 ^ z ≤ 2 ^ 31 → p - 1 + low < 2 ^ 32 - 1
fits_code z p low e a b = omega arith

most : (z : ℕ) → z < 32 → 2 ^ z ≤ 2 ^ 31
most z h = let up : z ≤ 31 = omega arith in pow-le-pow_right (omega arith) up

pub code_below : (z low : ℕ) (left : List Bool) → z < 32 → Some low ≡ first (read_u z left) → 1 * 2 ^ z % 2 ^ 32 - 1 + low < 2 ^ 32 - 1
code_below z low left h e = fits_code z (1 * 2 ^ z % 2 ^ 32) low (one_shl z 32 h) (low_below z low left e) (most z h)

pub signed_value : (code : ℕ) (r : Option (ℕ × List Bool)) → Some code ≡ first r → Some (signed_of code) ≡ option_map (λ (found : ℤ × List Bool). found.0) (r >>= λ k. Some (signed_of k.0, k.1))
signed_value code None e = absurd (cc)
signed_value code (Some f) e = let same : code ≡ f.0 = cc in ap (λ n. Some (signed_of n)) same
