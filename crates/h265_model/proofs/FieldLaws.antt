-- Laws of syntax tables: their fields are read back, and nothing else is read as them.
use Rattle.std.proofs.Common.{◌≡◌, ◌≢◌, ℕ, zero, suc, ◌+◌, ◌-◌, ◌*◌, ◌%◌, ◌^◌, ◌<◌, ◌≤◌, Option, Bool, true, false, cond, List, [], ◌∷◌, ◌++◌, length, replicate, Some, Ok, Err, refl, sym, ◌∙◌, ap, arith, mod-eq_of_lt, append_assoc, length-append}
use Rattle.std.specs.Prelude.{◌==◌, ◌&&◌, nat_lt}
use Rattle.std.specs.List.{list_all, last_or}
use Rattle.std.proofs.lemmas.Bool.Decides.{nat_tests}
use Rattle.std.proofs.lemmas.List.{take_at, drop_at, append-nil, length-replicate}
use Rattle.h265_model.specs.Bits.{◌>>-◌}
use Rattle.h265_model.specs.Bits.{alignment, read_alignment, all_zero, digit, value_after, value, bits, bytes, is_empty}
use Rattle.h265_model.specs.Fields.{Descriptor, U, Ue, Field, element_bits, fields_bits, aligned_bits, read_element, or_number, read_field, read_fields, read_trailing}
use Rattle.h265_model.specs.NalUnits.{EndsWell}
use Rattle.h265_model.proofs.BitLaws.{read_u-u, read-ue}
use Rattle.h265_model.proofs.ByteLaws.{bits-bytes}

-- ---- fields are read back

-- a value that its descriptor can spell
abbrev pub fits : Descriptor → ℕ → Bool
fits (U n) v = nat_lt v (2 ^ n)
fits Ue v = nat_lt v 4294967295

abbrev pub all_fit : List Field → Bool
all_fit fs = list_all (λ f. fits f.coding f.value) fs

pub read_element-element_bits : (coding : Descriptor) (v : ℕ) (rest : List Bool) → fits coding v ≡ true → read_element coding (element_bits coding v ++ rest) ≡ Some (v, rest)
read_element-element_bits (U n) v rest h =
    let below : v < 2 ^ n = grind (arith, nat_tests) in
    read_u-u n v rest ∙ ap (λ m. Some (m, rest)) (mod-eq_of_lt below)
read_element-element_bits Ue v rest h = read-ue v rest (grind (arith, nat_tests))

pub read_field-element_bits : (number : ℕ) (coding : Descriptor) (v : ℕ) (rest : List Bool) → fits coding v ≡ true → read_field number coding (element_bits coding v ++ rest) ≡ Ok (v, rest)
read_field-element_bits number coding v rest h = ap (or_number number) (read_element-element_bits coding v rest h)

pub same : (n : ℕ) → (n == n) ≡ true
same n = grind (arith, nat_tests)

pub both : (a b : Bool) → (a && b) ≡ true → (a ≡ true) × (b ≡ true)
both true b h = (refl, h)
both false b h = absurd (cc)

pub read_fields-fields_bits : (fs : List Field) (rest : List Bool) → all_fit fs ≡ true → read_fields fs (fields_bits fs ++ rest) ≡ Ok rest
unfolding read_fields fields_bits
read_fields-fields_bits [] rest h = refl
read_fields-fields_bits (f ∷ fs) rest h =
    let parts = both (fits f.coding f.value) (all_fit fs) h in
    ap (λ l. read_fields (f ∷ fs) l) (append_assoc (element_bits f.coding f.value) (fields_bits fs) rest)
    ∙ ap (λ r. r >>- λ found. cond (found.0 == f.value) (read_fields fs found.1) (Err f.number))
    (read_field-element_bits f.number f.coding f.value (fields_bits fs ++ rest) parts.0)
    ∙ rw (same f.value) (read_fields-fields_bits fs rest parts.1)

pub fields_bits-append : (fs gs : List Field) → fields_bits (fs ++ gs) ≡ fields_bits fs ++ fields_bits gs
unfolding fields_bits
fields_bits-append [] gs = refl
fields_bits-append (f ∷ fs) gs =
    ap (λ l. element_bits f.coding f.value ++ l) (fields_bits-append fs gs) ∙ sym (append_assoc (element_bits f.coding f.value) (fields_bits fs) (fields_bits gs))

-- ---- the end of a table

zeros : (n : ℕ) → all_zero (replicate n false) ≡ true
zeros zero = refl
zeros (suc n) = zeros n

spare : (n m : ℕ) → m % 8 ≡ 0 → (7 - n % 8 + m) % 8 ≡ 7 - n % 8
spare n m h = omega arith

pub read_alignment-alignment : (n : ℕ) (rest : List Bool) → length rest % 8 ≡ 0 → read_alignment (alignment n ++ rest) ≡ Some rest
unfolding read_alignment
read_alignment-alignment n rest h =
    let k = 7 - n % 8 in
    let long : length (replicate k false ++ rest) % 8 ≡ k = ap (λ m. m % 8) (length-append (replicate k false) rest ∙ ap (λ m. m + length rest) (length-replicate k false)) ∙ spare n (length rest) h in
    rw (long, take_at (replicate k false) rest k (length-replicate k false), drop_at (replicate k false) rest k (length-replicate k false), zeros k)

whole_bytes : (n : ℕ) → (n + suc (7 - n % 8)) % 8 ≡ 0
whole_bytes n = omega arith

pub length-aligned_bits : (bs : List Bool) → length (aligned_bits bs) % 8 ≡ 0
length-aligned_bits bs =
    ap (λ m. m % 8) (length-append bs (alignment (length bs)) ∙ ap (λ m. length bs + suc m) (length-replicate (7 - length bs % 8) false))
    ∙ whole_bytes (length bs)

pub bits-aligned_bits : (bs : List Bool) → bits (bytes (aligned_bits bs)) ≡ bs ++ alignment (length bs)
bits-aligned_bits bs = bits-bytes (aligned_bits bs) (length-aligned_bits bs)

pub read_trailing-alignment : (number n : ℕ) → read_trailing number (alignment n) ≡ Ok tt
read_trailing-alignment number n =
    ap (λ l. read_trailing number l) (sym (append-nil (alignment n)))
    ∙ ap (λ r. or_number number r >>- λ rest. cond (is_empty rest) (Ok tt) (Err number)) (read_alignment-alignment n [] refl)

-- ---- the last byte of a table is no zero

at_least : (n : ℕ) (bs : List Bool) → n ≤ value_after n bs
unfolding value_after
at_least n [] = omega arith
at_least n (b ∷ bs) = let more = at_least (2 * n + digit b) bs in omega (arith, more)

holds_one : (n : ℕ) (bs rest : List Bool) → 0 < value_after n (bs ++ true ∷ rest)
unfolding value_after
holds_one n [] rest = let more = at_least (2 * n + 1) rest in omega (arith, more)
holds_one n (b ∷ bs) rest = holds_one (2 * n + digit b) bs rest

no_zero : (v : ℕ) → 0 < v → Some v ≢ Some 0
no_zero v h = λ z. let none : v ≡ 0 = cc in omega arith

last_byte : (bs : List Bool) (n : ℕ) (d : Option ℕ) → n % 8 ≡ length bs % 8 → last_or d (bytes (bs ++ alignment n)) ≢ Some 0
unfolding bytes
last_byte (a ∷ b ∷ c ∷ d ∷ e ∷ f ∷ g ∷ h ∷ bs) n o same = last_byte bs n (Some (value (a ∷ b ∷ c ∷ d ∷ e ∷ f ∷ g ∷ h ∷ []))) (omega arith)
last_byte bs n o same = rw same (no_zero (value (bs ++ true ∷ replicate (7 - length bs) false)) (holds_one 0 bs (replicate (7 - length bs) false)))

pub ends-aligned_bits : (bs : List Bool) → EndsWell (bytes (aligned_bits bs))
ends-aligned_bits bs = last_byte bs (length bs) (Some 1) refl
