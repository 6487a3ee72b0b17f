-- Laws of segments' headers.
use Rattle.std.proofs.Common.{◌≡◌, ℕ, zero, suc, ◌+◌, ◌-◌, ◌*◌, ◌/◌, ◌^◌, ◌<◌, ◌≤◌, Bool, true, false, List, [], ◌++◌, length, Result, Ok, Err, refl, sym, ◌∙◌, ap, arith, inl, inr, pow-suc, mul_comm}
use Rattle.std.proofs.Math.Nat.{pow-le-pow_right}
use Rattle.std.proofs.lemmas.Bool.{cases_lt}
use Rattle.std.proofs.lemmas.Nat.{pow_pos}
use Rattle.h265_model.specs.Bits.{◌>>-◌}
use Rattle.h265_model.specs.Bits.{bits, digit_count, read_alignment}
use Rattle.h265_model.specs.Fields.{fields_bits, aligned_bits, or_number, read_fields}
use Rattle.h265_model.specs.SliceHead as specified
use Rattle.h265_model.specs.SliceHead.{head_bits, dependent_fields, segment_bits, read_head, read_segment_head}
use Rattle.h265_model.proofs.BitLaws.{digits_of}
use Rattle.slice_head.specs.Answers.{aligned_length, dependent_front, address_fields, first_read, later_read, front_of}
use Rattle.slice_head.proofs.OffsetLaws.{length_beside, beside, not_aligned, head_read, front_differs}

-- ---- the digits of an address

-- a number has one count of digits
one_count : (a b v : ℕ) → 2 ^ a ≤ v → v < 2 ^ suc b → a ≤ b
one_count a b v h k = elim (cases_lt b a) [
  | inl more ↦ let p : 2 ^ suc b ≤ 2 ^ a = pow-le-pow_right (omega arith) more in absurd (omega arith)
  | inr le ↦ le
]

wider : (m n : ℕ) → m ≤ n → 2 ^ m ≤ 2 ^ n
wider m n h = pow-le-pow_right (omega arith) h

pub digits_are : (v log : ℕ) → 2 ^ log ≤ v → v < 2 * 2 ^ log → log < 32 → log + 1 ≡ digit_count v
digits_are v log least below few =
    let next : 2 ^ suc log ≡ 2 * 2 ^ log = pow-suc 2 log ∙ mul_comm (2 ^ log) 2 in
    let wide : 2 ^ suc log ≤ 2 ^ 64 = wider (suc log) 64 (omega arith) in
    let some : 0 < 2 ^ log = pow_pos log in
    let d = digits_of 64 v (omega arith) (omega arith) in
    let low : d.low ≤ log = one_count d.low log v d.least (omega arith) in
    let high : log ≤ d.low = one_count log d.low v least d.below in
    let more : log + 1 ≡ suc d.low = omega arith in
    more ∙ sym d.count

-- ---- writing

pub first_bits : (idr : Bool) (poc address ctus : ℕ) (offsets : List ℕ) → address ≡ 0 → offsets ≡ [] → head_bits (record { idr = idr; poc = poc; offsets = offsets }) ≡ segment_bits idr poc address ctus
unfolding segment_bits
first_bits idr poc zero ctus offsets first none =
    let F : List ℕ → List Bool = λ l. head_bits (record { idr = idr; poc = poc; offsets = l }) in
    ap F none
first_bits idr poc (suc n) ctus offsets first none = absurd (omega arith)

pub in_parts : (idr : Bool) (address ctus : ℕ) → dependent_fields idr address ctus ≡ dependent_front idr ++ address_fields address ctus
unfolding dependent_fields
in_parts true address ctus = refl
in_parts false address ctus = refl

pub later_bits : (idr : Bool) (poc address ctus : ℕ) → (address ≡ 0 → ⊥) → aligned_bits (fields_bits (dependent_front idr ++ address_fields address ctus)) ≡ segment_bits idr poc address ctus
unfolding segment_bits
later_bits idr poc zero ctus later = absurd (later refl)
later_bits idr poc (suc n) ctus later = ap (λ fields. aligned_bits (fields_bits fields)) (sym (in_parts idr (suc n) ctus))

-- ---- reading

pub first_is : (rbsp : List ℕ) (idr : Bool) (address ctus : ℕ) → address ≡ 0 → read_segment_head rbsp idr address ctus ≡ first_read rbsp idr
unfolding read_segment_head
first_is rbsp idr zero ctus first = refl
first_is rbsp idr (suc n) ctus first = absurd (omega arith)

after_fields : (rbsp : List ℕ) (r : Result (List Bool) ℕ) → Result (ℕ × ℕ) ℕ
after_fields rbsp r = r >>- λ left. or_number 7 (read_alignment left) >>- λ rest. Ok (0, length rbsp - length rest / 8)

each_part : (rbsp : List ℕ) (r : Result (List Bool) ℕ) → after_fields rbsp r ≡ beside 0 (r >>- λ left. aligned_length rbsp 7 left)
unfolding after_fields beside
each_part rbsp (Ok left) = length_beside 0 rbsp 7 (read_alignment left)
each_part rbsp (Err e) = refl

pub later_is : (rbsp : List ℕ) (idr : Bool) (address ctus : ℕ) → (address ≡ 0 → ⊥) → read_segment_head rbsp idr address ctus ≡ beside 0 (later_read rbsp (dependent_fields idr address ctus))
unfolding read_segment_head after_fields
later_is rbsp idr zero ctus later = absurd (later refl)
later_is rbsp idr (suc n) ctus later = each_part rbsp (read_fields (dependent_fields idr (suc n) ctus) (bits rbsp))

pub later_found : (rbsp : List ℕ) (idr : Bool) (address ctus n : ℕ) → (address ≡ 0 → ⊥) → later_read rbsp (dependent_fields idr address ctus) ≡ Ok n → read_segment_head rbsp idr address ctus ≡ Ok (0, n)
unfolding beside
later_found rbsp idr address ctus n later e = later_is rbsp idr address ctus later ∙ ap (beside 0) e

pub later_differs : (rbsp : List ℕ) (idr : Bool) (address ctus n : ℕ) → (address ≡ 0 → ⊥) → later_read rbsp (dependent_fields idr address ctus) ≡ Err n → read_segment_head rbsp idr address ctus ≡ Err n
unfolding beside
later_differs rbsp idr address ctus n later e = later_is rbsp idr address ctus later ∙ ap (beside 0) e

-- ---- the header at address 0

poc_and_length : Result (specified.Head × ℕ) ℕ → Result (ℕ × ℕ) ℕ
poc_and_length r = r >>- λ found. Ok (found.0.poc, found.1)

pub first_front_differs : (rbsp : List ℕ) (idr : Bool) (n : ℕ) → front_of idr 0 (bits rbsp) ≡ Err n → first_read rbsp idr ≡ Err n
unfolding poc_and_length
first_front_differs rbsp idr n e = ap poc_and_length (front_differs rbsp idr 1 n e)

pub first_not_aligned : (rbsp : List ℕ) (idr : Bool) (poc n : ℕ) (y : List Bool) → front_of idr 0 (bits rbsp) ≡ Ok (poc, y) → aligned_length rbsp 13 y ≡ Err n → first_read rbsp idr ≡ Err n
unfolding poc_and_length
first_not_aligned rbsp idr poc n y e f = ap poc_and_length (not_aligned rbsp idr 1 poc y [] y n e refl f)

pub first_found : (rbsp : List ℕ) (idr : Bool) (poc n : ℕ) (y : List Bool) → front_of idr 0 (bits rbsp) ≡ Ok (poc, y) → aligned_length rbsp 13 y ≡ Ok n → first_read rbsp idr ≡ Ok (poc, n)
unfolding poc_and_length
first_found rbsp idr poc n y e f = ap poc_and_length (head_read rbsp idr 1 poc y [] y n e refl f)
