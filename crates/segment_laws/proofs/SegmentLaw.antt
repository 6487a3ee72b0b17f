-- Slice segment headers are read back.
use Rattle.std.proofs.Common.{◌≡◌, refl, ◌∙◌, ap, ℕ, zero, suc, ◌-◌, ◌/◌, ◌^◌, ◌<◌, ◌≤◌, Bool, true, false, cond, List, [], ◌++◌, length, Ok, append_assoc, length-append, arith}
use Rattle.std.specs.Prelude.{nat_lt, nat_le, IsTrue, Result}
use Rattle.std.proofs.lemmas.Bool.{lt-ltb, leb-false}
use Rattle.h265_model.specs.Bits.{◌>>-◌}
use Rattle.h265_model.specs.Bits.{bits, bytes, alignment, digits_up_to, digit_count, read_alignment}
use Rattle.h265_model.specs.Fields.{Field, fields_bits, aligned_bits, read_fields, or_number}
use Rattle.h265_model.specs.SliceHead.{Head, IsHead, address_bits, dependent_fields, segment_bits, read_segment_head}
use Rattle.h265_model.proofs.ByteLaws.{bits-append, length-bits, length-bits-mod}
use Rattle.h265_model.proofs.FieldLaws.{all_fit, read_fields-fields_bits, read_alignment-alignment, bits-aligned_bits}
use Rattle.h265_laws.proofs.HeadLaws.{all_but, read_head-head_bits}
use Rattle.segment_laws.specs.Laws.{EachSegmentHeadIsRead}

-- a number is below the power of two with as many digits
digits_hold : (n v : ℕ) → v < 2 ^ n → v < 2 ^ digits_up_to n v
unfolding digits_up_to
digits_hold zero v h = h
digits_hold (suc n) v h = go (digits_hold n v) (nat_le (2 ^ n) v) refl
  where
    go : (v < 2 ^ n → v < 2 ^ digits_up_to n v) → (b : Bool) → nat_le (2 ^ n) v ≡ b → v < 2 ^ cond b (suc n) (digits_up_to n v)
    go lower true e = h
    go lower false e = lower (leb-false (2 ^ n) v e)

address_fits : (address ctus : ℕ) → address < ctus → ctus ≤ 2 ^ 32 → nat_lt address (2 ^ address_bits ctus) ≡ true
address_fits address ctus a c =
    let last : ctus - 1 < 2 ^ 64 = omega arith in
    let held : ctus - 1 < 2 ^ digit_count (ctus - 1) = digits_hold 64 (ctus - 1) last in
    lt-ltb address (2 ^ digit_count (ctus - 1)) (omega arith)

fields_fit : (idr : Bool) (address ctus : ℕ) → nat_lt address (2 ^ address_bits ctus) ≡ true → all_fit (dependent_fields idr address ctus) ≡ true
unfolding dependent_fields
fields_fit true address ctus h = rw h refl
fields_fit false address ctus h = rw h refl

dependent_read : (idr : Bool) (poc n ctus : ℕ) (rest : List ℕ) → suc n < ctus → ctus ≤ 2 ^ 32
    → read_segment_head (bytes (segment_bits idr poc (suc n) ctus) ++ rest) idr (suc n) ctus ≡ Ok (0, length (bytes (segment_bits idr poc (suc n) ctus)))
unfolding segment_bits read_segment_head
dependent_read idr poc n ctus rest a c =
    let fields : List Field = dependent_fields idr (suc n) ctus in
    let own : List Bool = fields_bits fields in
    let tail : List Bool = alignment (length own) ++ bits rest in
    let fit : all_fit fields ≡ true = fields_fit idr (suc n) ctus (address_fits (suc n) ctus a c) in
    let parts : bits (bytes (aligned_bits own) ++ rest) ≡ own ++ tail =
    bits-append (bytes (aligned_bits own)) rest ∙ ap (λ l. l ++ bits rest) (bits-aligned_bits own) ∙ append_assoc own (alignment (length own)) (bits rest) in
    let whole : ℕ = length (bytes (aligned_bits own) ++ rest) in
    let after : Result (List Bool) ℕ → Result (ℕ × ℕ) ℕ = λ r. r >>- λ left. or_number 7 (read_alignment left) >>- λ more. Ok (0, whole - length more / 8) in
    ap (λ l. after (read_fields fields l)) parts
    ∙ (ap after (read_fields-fields_bits fields tail fit)
    ∙ (ap (λ o. or_number 7 o >>- λ more. Ok (0, whole - length more / 8)) (read_alignment-alignment (length own) (bits rest) (length-bits-mod rest))
    ∙ ap (λ (m : ℕ). Ok (0, m)) (ap (λ (m : ℕ). m - length (bits rest) / 8) (length-append (bytes (aligned_bits own)) rest) ∙ all_but (length (bytes (aligned_bits own))) (length rest) (length (bits rest)) (length-bits rest))))

first_read : (idr : Bool) (poc ctus : ℕ) (rest : List ℕ) → poc < 256 → (IsTrue idr → poc ≡ 0)
    → read_segment_head (bytes (segment_bits idr poc zero ctus) ++ rest) idr zero ctus ≡ Ok (poc, length (bytes (segment_bits idr poc zero ctus)))
unfolding segment_bits read_segment_head
first_read idr poc ctus rest h k =
    let head : Head = record { idr = idr; poc = poc; offsets = [] } in
    let is : IsHead head = record { poc = h; idr = k; offsets = tt; fewer = omega arith } in
    ap (λ (r : Result (Head × ℕ) ℕ). r >>- λ found. Ok (found.0.poc, found.1)) (read_head-head_bits head rest is)

pub segment_heads_are_read : EachSegmentHeadIsRead
segment_heads_are_read idr poc zero ctus rest h k a c = first_read idr poc ctus rest h k
segment_heads_are_read idr poc (suc n) ctus rest h k a c = dependent_read idr poc n ctus rest a c
