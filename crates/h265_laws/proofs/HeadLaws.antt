-- The law of slice headers: they are read back.
use Rattle.std.proofs.Common.{◌≡◌, ℕ, ◌+◌, ◌-◌, ◌*◌, ◌/◌, ◌^◌, ◌<◌, Bool, true, false, List, [], ◌∷◌, ◌++◌, length, map, Ok, refl, sym, ◌∙◌, ap, arith, append_assoc, length-append}
use Rattle.std.specs.Prelude.{nat_lt, IsTrue}
use Rattle.std.specs.List.{AllByRecursion}
use Rattle.std.proofs.lemmas.Bool.Decides.{nat_tests}
use Rattle.h265_model.specs.Bits.{◌>>-◌}
use Rattle.h265_model.specs.Bits.{u, bits, bytes, alignment}
use Rattle.h265_model.specs.Fields.{Field, U, fixed, golomb, fields_bits, aligned_bits, read_field}
use Rattle.h265_model.specs.SliceHead.{head_front, poc_fields, head_middle, entry_fields, head_fields, head_bits, read_poc, read_offsets, read_entries, read_head}
use Rattle.h265_laws.specs.Laws.{EachHeadIsRead}
use Rattle.h265_model.proofs.ByteLaws.{bits-append, length-bits, length-bits-mod}
use Rattle.h265_model.proofs.FieldLaws.{fits, all_fit, read_field-element_bits, read_fields-fields_bits, fields_bits-append, read_alignment-alignment, bits-aligned_bits}

-- ---- the parts of a header

poc_read : (idr : Bool) (poc : ℕ) (rest : List Bool) → poc < 256 → (IsTrue idr → poc ≡ 0) → read_poc idr (fields_bits (poc_fields idr poc) ++ rest) ≡ Ok (poc, rest)
unfolding fields_bits
poc_read true poc rest h k = ap (λ p. Ok (p, rest)) (sym (k refl))
poc_read false poc rest h k = ap (λ l. read_field 5 (U 8) l) (append_assoc (u 8 poc) [] rest) ∙ read_field-element_bits 5 (U 8) poc rest (grind (arith, nat_tests))

offset_small : (o : ℕ) → 0 < o → o < 2 ^ 32 → nat_lt (o - 1) 4294967295 ≡ true
offset_small o h k = grind (arith, nat_tests)

offset_fits : (o : ℕ) → 0 < o → o < 2 ^ 32 → fits (U 32) (o - 1) ≡ true
offset_fits o h k = grind (arith, nat_tests)

offsets_read : (offsets : List ℕ) (rest : List Bool) → AllByRecursion (λ o. (0 < o) × (o < 2 ^ 32)) offsets →
    read_offsets (length offsets) (fields_bits (map (λ o. fixed 12 32 (o - 1)) offsets) ++ rest) ≡ Ok (offsets, rest)
unfolding fields_bits read_offsets
offsets_read [] rest h = refl
offsets_read (o ∷ offsets) rest h =
    let others = fields_bits (map (λ o. fixed 12 32 (o - 1)) offsets) in
    let back : o - 1 + 1 ≡ o = omega (arith, h.0.0) in
    rw (append_assoc (u 32 (o - 1)) others rest, read_field-element_bits 12 (U 32) (o - 1) (others ++ rest) (offset_fits o h.0.0 h.0.1), offset_small o h.0.0 h.0.1, offsets_read offsets rest h.1, back)

entries_read : (offsets : List ℕ) (rest : List Bool) → AllByRecursion (λ o. (0 < o) × (o < 2 ^ 32)) offsets →
    read_entries (length offsets) (fields_bits (entry_fields offsets) ++ rest) ≡ Ok (offsets, rest)
unfolding fields_bits
entries_read [] rest h = refl
entries_read (o ∷ offsets) rest h =
    let all = map (λ o. fixed 12 32 (o - 1)) (o ∷ offsets) in
    ap (λ l. read_entries (length (o ∷ offsets)) (l ++ rest)) (fields_bits-append (golomb 11 31 ∷ []) all)
    ∙ ap (λ l. read_entries (length (o ∷ offsets)) l) (append_assoc (fields_bits (golomb 11 31 ∷ [])) (fields_bits all) rest)
    ∙ ap (λ r. r >>- λ bits. read_offsets (length (o ∷ offsets)) bits) (read_fields-fields_bits (golomb 11 31 ∷ []) (fields_bits all ++ rest) refl)
    ∙ offsets_read (o ∷ offsets) rest h

front_fits : (idr : Bool) → all_fit (head_front idr) ≡ true
unfolding head_front
front_fits true = refl
front_fits false = refl

few : (n : ℕ) → n < 2 ^ 32 - 1 → nat_lt n 4294967295 ≡ true
few n h = grind (arith, nat_tests)

middle_fits : (idr : Bool) (n : ℕ) → n < 2 ^ 32 - 1 → all_fit (head_middle idr ++ golomb 10 n ∷ []) ≡ true
unfolding head_middle
middle_fits true n h = rw (few n h)
middle_fits false n h = rw (few n h)

-- ---- the whole

pub regrouped : (front poc middle entries : List Field) (points : Field) → front ++ poc ++ middle ++ points ∷ entries ≡ front ++ (poc ++ ((middle ++ points ∷ []) ++ entries))
regrouped front poc middle entries points = simp append_assoc

pub in_parts : (front poc middle entries : List Field) (rest : List Bool) →
    fields_bits (front ++ (poc ++ (middle ++ entries))) ++ rest ≡ fields_bits front ++ (fields_bits poc ++ (fields_bits middle ++ (fields_bits entries ++ rest)))
in_parts front poc middle entries rest = simp (fields_bits-append, append_assoc)

pub all_but : (n m k : ℕ) → k ≡ 8 * m → n + m - k / 8 ≡ n
all_but n m k h = omega arith

pub read_head-head_bits : EachHeadIsRead
unfolding read_head head_bits
read_head-head_bits head rest h =
    let n = length head.offsets in
    let fields = head_fields head in
    let own = fields_bits fields in
    let tail : List Bool = alignment (length own) ++ bits rest in
    let middle : List Field = head_middle head.idr ++ golomb 10 n ∷ [] in
    let less : n + 1 - 1 ≡ n = omega arith in
    let parts =
    bits-append (bytes (aligned_bits own)) rest ∙ ap (λ l. l ++ bits rest) (bits-aligned_bits own) ∙ append_assoc own (alignment (length own)) (bits rest)
    ∙ ap (λ l. fields_bits l ++ tail) (regrouped (head_front head.idr) (poc_fields head.idr head.poc) (head_middle head.idr) (entry_fields head.offsets) (golomb 10 n))
    ∙ in_parts (head_front head.idr) (poc_fields head.idr head.poc) middle (entry_fields head.offsets) tail in
    let at_entries = fields_bits (entry_fields head.offsets) ++ tail in
    let at_middle = fields_bits middle ++ at_entries in
    let at_poc = fields_bits (poc_fields head.idr head.poc) ++ at_middle in
    rw (
      less,
      parts,
      read_fields-fields_bits (head_front head.idr) at_poc (front_fits head.idr),
      poc_read head.idr head.poc at_middle h.poc h.idr,
      read_fields-fields_bits middle at_entries (middle_fits head.idr n h.fewer),
      entries_read head.offsets tail h.offsets,
      read_alignment-alignment (length own) (bits rest) (length-bits-mod rest),
    )
    (ap (λ m. Ok (head, m)) (ap (λ m. m - length (bits rest) / 8) (length-append (bytes (aligned_bits own)) rest) ∙ all_but (length (bytes (aligned_bits own))) (length rest) (length (bits rest)) (length-bits rest)))
