-- Laws of reading: what is read has one spelling.
use Rattle.std.proofs.Common.{◌≡◌, ℕ, zero, suc, ◌+◌, ◌-◌, ◌*◌, ◌%◌, ◌^◌, ◌<◌, ◌≤◌, Bool, true, false, cond, List, [], ◌∷◌, ◌++◌, length, take, drop, replicate, Option, Some, None, Result, Ok, Err, refl, sym, ◌∙◌, ap, subst, arith, add-one, append_assoc, mod-eq_of_lt, pow-suc}
use Rattle.std.specs.Prelude.{◌==◌, nat_lt}
use Rattle.std.proofs.Math.Nat.{pow-le-pow_right}
use Rattle.std.proofs.lemmas.Bool.Decides.{nat_tests}
use Rattle.std.proofs.lemmas.Nat.{pow_pos}
use Rattle.std.proofs.lemmas.List.{take-append-drop, length-take-le, append-nil}
use Rattle.h265_model.specs.Bits.{◌>>-◌}
use Rattle.h265_model.specs.Bits.{◌>>=◌, u, ue, alignment, digits_up_to, value_after, value, read_u, read_ue_after, read_alignment, all_zero, is_empty}
use Rattle.h265_model.specs.Fields.{Descriptor, U, Ue, Field, element_bits, fields_bits, read_element, or_number, read_field, read_fields, read_trailing}
use Rattle.h265_model.proofs.BitLaws.{digits_of, code_of, value-u, length-u}
use Rattle.h265_model.proofs.ByteLaws.{u-value, value_below}

-- ---- steps that may fail

-- a step that went well, and the rest after it
pub record Went {A B E : Type 0} (m : Result A E) (f : A → Result B E) (y : B) : Type 0 where
  pub value : A
  pub first : m ≡ Ok value
  pub then : f value ≡ Ok y

pub went : {A B E : Type 0} (m : Result A E) (f : A → Result B E) (y : B) → (m >>- f) ≡ Ok y → Went m f y
went (Ok x) f y h = record { value = x; first = refl; then = h }
went (Err e) f y h = absurd (cc)

pub passed : {A E : Type 0} (b : Bool) (m : Result A E) (e : E) (y : A) → cond b m (Err e) ≡ Ok y → (b ≡ true) × (m ≡ Ok y)
passed true m e y h = (refl, h)
passed false m e y h = absurd (cc)

pub numbered : {A : Type 0} (n : ℕ) (o : Option A) (y : A) → or_number n o ≡ Ok y → o ≡ Some y
numbered n None y h = absurd (cc)
numbered n (Some x) y h = cc

-- ---- descriptors

pub record IsU (n : ℕ) (bs : List Bool) (found : ℕ × List Bool) : Type 0 where
  pub below : found.0 < 2 ^ n
  pub bits : bs ≡ u n found.0 ++ found.1

taken : (n : ℕ) (bs : List Bool) → n ≤ length bs → IsU n bs (value (take n bs), drop n bs)
taken n bs h =
    let long = length-take-le n bs h in
    let below = value_below (take n bs) in
    record {
      below = subst (λ (m : ℕ). value (take n bs) < 2 ^ m) long below;
      bits = sym (take-append-drop n bs) ∙ ap (λ l. l ++ drop n bs) (sym (ap (λ m. u m (value (take n bs))) (sym long) ∙ u-value 0 (take n bs)));
    }

pub read_u-is : (n : ℕ) (bs : List Bool) (found : ℕ × List Bool) → read_u n bs ≡ Some found → IsU n bs found
unfolding read_u
read_u-is n bs found h =
    elim (nat_lt (length bs) n) as (λ b. nat_lt (length bs) n ≡ b → cond b None (Some (value (take n bs), drop n bs)) ≡ Some found → IsU n bs found) [
      | true ↦ λ is e. absurd (cc)
      | false ↦ λ is e. let same : (value (take n bs), drop n bs) ≡ found = cc in subst (IsU n bs) same (taken n bs (grind (arith, nat_tests)))
    ] refl h

-- a number has one count of digits
one_count : (a b v : ℕ) → 2 ^ a ≤ v → v < 2 ^ suc a → 2 ^ b ≤ v → v < 2 ^ suc b → a ≤ b
one_count a b v p q r s =
    elim (nat_lt b a) as (λ t. nat_lt b a ≡ t → a ≤ b) [
      | true ↦ λ is. let less : suc b ≤ a = grind (arith, nat_tests) in let up : 2 ^ suc b ≤ 2 ^ a = pow-le-pow_right (omega arith) less in absurd (omega arith)
      | false ↦ λ is. grind (arith, nat_tests)
    ] refl

count_of : (z v : ℕ) → z ≤ 31 → 2 ^ z ≤ v → v < 2 ^ suc z → digits_up_to 64 v ≡ suc z
count_of z v short p q =
    let fit : suc z ≤ 32 = omega arith in
    let up : 2 ^ suc z ≤ 2 ^ 32 = pow-le-pow_right (omega arith) fit in
    let least = pow_pos z in
    let some : 0 < v = omega arith in
    let d = digits_of 64 v some (omega arith) in
    let a = one_count d.low z v d.least d.below p q in
    let b = one_count z d.low v p q d.least d.below in
    let same : d.low ≡ z = omega arith in
    d.count ∙ ap suc same

zeros_shift : (z : ℕ) (bs : List Bool) → replicate z false ++ (false ∷ bs) ≡ replicate (suc z) false ++ bs
zeros_shift zero bs = refl
zeros_shift (suc z) bs = ap (λ l. false ∷ l) (zeros_shift z bs)

-- a one after z zeros, and z digits
spelled : (z low k : ℕ) → low < 2 ^ z → k + 1 ≡ 1 * 2 ^ z + low % 2 ^ z → u (suc z) (k + 1) ≡ true ∷ u z low
unfolding value_after
spelled z low k h e =
    ap (λ v. u (suc z) v) (e ∙ sym (value-u 1 z low))
    ∙ ap (λ n. u (suc n) (value_after 1 (u z low))) (sym (length-u z low))
    ∙ u-value 0 (true ∷ u z low)

one_more : (p low : ℕ) → 0 < p → p - 1 + low + 1 ≡ 1 * p + low
one_more p low h = omega arith

code_is : (z low : ℕ) (rest : List Bool) → z ≤ 31 → low < 2 ^ z → replicate z false ++ (true ∷ (u z low ++ rest)) ≡ ue (2 ^ z - 1 + low) ++ rest
code_is z low rest short h =
    let k = 2 ^ z - 1 + low in
    let e = one_more (2 ^ z) low (pow_pos z) in
    let double = pow-suc 2 z in
    let count = count_of z (k + 1) short (omega arith) (omega arith) in
    let whole = e ∙ ap (λ m. 1 * 2 ^ z + m) (sym (mod-eq_of_lt h)) in
    sym (append_assoc (replicate z false) (true ∷ u z low) rest)
    ∙ ap (λ l. l ++ rest) (ap (λ l. replicate z false ++ l) (sym (spelled z low k h whole)) ∙ sym (code_of k z count))

went_on : {A B : Type 0} (o : Option A) (f : A → Option B) (y : B) → (o >>= f) ≡ Some y → (x : A) × (o ≡ Some x) × (f x ≡ Some y)
went_on None f y h = absurd (cc)
went_on (Some x) f y h = (x, refl, h)

pub read_ue_after-is : (z : ℕ) (bs : List Bool) (found : ℕ × List Bool) → read_ue_after z bs ≡ Some found → replicate z false ++ bs ≡ ue found.0 ++ found.1
unfolding read_ue_after
read_ue_after-is z [] found h = absurd (cc)
read_ue_after-is z (false ∷ bs) found h = zeros_shift z bs ∙ ap (λ n. replicate n false ++ bs) (sym (add-one z)) ∙ read_ue_after-is (z + 1) bs found h
read_ue_after-is z (true ∷ bs) found h =
    elim (nat_lt 31 z) as (λ b. nat_lt 31 z ≡ b → cond b None (read_u z bs >>= λ low. Some (2 ^ z - 1 + low.0, low.1)) ≡ Some found → replicate z false ++ (true ∷ bs) ≡ ue found.0 ++ found.1) [
      | true ↦ λ is e. absurd (cc)
      | false ↦ λ is e.
          let step = went_on (read_u z bs) (λ low. Some (2 ^ z - 1 + low.0, low.1)) found e in
          let low = read_u-is z bs step.0 step.1 in
          let same : (2 ^ z - 1 + step.0.0, step.0.1) ≡ found = cc in
          ap (λ l. replicate z false ++ (true ∷ l)) low.bits ∙ code_is z step.0.0 step.0.1 (grind (arith, nat_tests)) low.below ∙ ap (λ (x : ℕ × List Bool). ue x.0 ++ x.1) same
    ] refl h

pub read_element-is : (coding : Descriptor) (bs : List Bool) (found : ℕ × List Bool) → read_element coding bs ≡ Some found → bs ≡ element_bits coding found.0 ++ found.1
read_element-is (U n) bs found h = (read_u-is n bs found h).bits
read_element-is Ue bs found h = read_ue_after-is 0 bs found h

pub read_field-is : (number : ℕ) (coding : Descriptor) (bs : List Bool) (found : ℕ × List Bool) → read_field number coding bs ≡ Ok found → bs ≡ element_bits coding found.0 ++ found.1
read_field-is number coding bs found h = read_element-is coding bs found (numbered number (read_element coding bs) found h)

-- ---- tables

pub equal : (a b : ℕ) → (a == b) ≡ true → a ≡ b
equal a b h = grind (arith, nat_tests)

pub read_fields-is : (fs : List Field) (bs rest : List Bool) → read_fields fs bs ≡ Ok rest → bs ≡ fields_bits fs ++ rest
unfolding read_fields fields_bits
read_fields-is [] bs rest h = cc
read_fields-is (f ∷ fs) bs rest h =
    let step = went (read_field f.number f.coding bs) (λ found. cond (found.0 == f.value) (read_fields fs found.1) (Err f.number)) rest h in
    let test = passed (step.value.0 == f.value) (read_fields fs step.value.1) f.number rest step.then in
    read_field-is f.number f.coding bs step.value step.first
    ∙ ap (λ v. element_bits f.coding v ++ step.value.1) (equal step.value.0 f.value test.0)
    ∙ ap (λ l. element_bits f.coding f.value ++ l) (read_fields-is fs step.value.1 rest test.1)
    ∙ sym (append_assoc (element_bits f.coding f.value) (fields_bits fs) rest)

all_zeros : (bs : List Bool) → all_zero bs ≡ true → bs ≡ replicate (length bs) false
all_zeros [] h = refl
all_zeros (true ∷ bs) h = absurd (cc)
all_zeros (false ∷ bs) h = ap (λ l. false ∷ l) (all_zeros bs h)

to_byte : (n m : ℕ) → (n + suc m) % 8 ≡ 0 → m % 8 ≡ 7 - n % 8
to_byte n m h = omega arith

mod_at_most : (m : ℕ) → m % 8 ≤ m
mod_at_most m = omega arith

pub read_alignment-is : (n : ℕ) (bs rest : List Bool) → (n + length bs) % 8 ≡ 0 → read_alignment bs ≡ Some rest → bs ≡ alignment n ++ rest
unfolding read_alignment
read_alignment-is n [] rest whole h = absurd (cc)
read_alignment-is n (false ∷ bs) rest whole h = absurd (cc)
read_alignment-is n (true ∷ bs) rest whole h =
    let k = length bs % 8 in
    elim (all_zero (take k bs)) as (λ b. all_zero (take k bs) ≡ b → cond b (Some (drop k bs)) None ≡ Some rest → true ∷ bs ≡ alignment n ++ rest) [
      | true ↦ λ is e.
          let same : drop k bs ≡ rest = cc in
          let front = all_zeros (take k bs) is ∙ ap (λ m. replicate m false) (length-take-le k bs (mod_at_most (length bs)) ∙ to_byte n (length bs) whole) in
          ap (λ l. true ∷ l) (sym (take-append-drop k bs)) ∙ ap (λ l. true ∷ (l ++ drop k bs)) front ∙ ap (λ l. alignment n ++ l) same
      | false ↦ λ is e. absurd (cc)
    ] refl h

none_left : (bs : List Bool) → is_empty bs ≡ true → bs ≡ []
none_left [] h = refl
none_left (b ∷ bs) h = absurd (cc)

pub read_trailing-is : (number n : ℕ) (bs : List Bool) → (n + length bs) % 8 ≡ 0 → read_trailing number bs ≡ Ok tt → bs ≡ alignment n
read_trailing-is number n bs whole h =
    let step = went (or_number number (read_alignment bs)) (λ rest. cond (is_empty rest) (Ok tt) (Err number)) tt h in
    let test = passed (is_empty step.value) (Ok tt) number tt step.then in
    read_alignment-is n bs step.value whole (numbered number (read_alignment bs) step.value step.first)
    ∙ ap (λ l. alignment n ++ l) (none_left step.value test.0) ∙ append-nil (alignment n)
