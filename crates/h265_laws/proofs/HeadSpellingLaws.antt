-- The law of slice headers: nothing else is read as a header.
use Rattle.std.proofs.Common.{◌≡◌, ℕ, zero, suc, ◌+◌, ◌-◌, ◌*◌, ◌/◌, ◌%◌, ◌<◌, Bool, true, false, cond, List, [], ◌∷◌, ◌++◌, length, map, take, Ok, Err, refl, sym, ◌∙◌, ap, subst, arith, append_assoc, length-append}
use Rattle.std.specs.Prelude.{nat_lt}
use Rattle.std.proofs.Math.Seq.{take-append_seam}
use Rattle.std.proofs.lemmas.List.{append-nil}
use Rattle.h265_model.specs.Bits.{◌>>-◌}
use Rattle.h265_model.specs.Plain.{AreBytes}
use Rattle.h265_model.specs.Bits.{u, value, bits, bytes, alignment, read_alignment}
use Rattle.h265_model.specs.Fields.{U, fixed, golomb, fields_bits, aligned_bits, read_field, read_fields, or_number}
use Rattle.h265_model.specs.SliceHead.{Head, head_front, poc_fields, head_middle, entry_fields, head_fields, head_bits, read_poc, read_offsets, read_entries, read_head}
use Rattle.h265_model.proofs.ByteLaws.{bytes-bits, bits-bytes, length-bits, length-bits-mod}
use Rattle.h265_model.proofs.FieldLaws.{bits-aligned_bits}
use Rattle.h265_laws.specs.Laws.{EachHeadIsSpelled}
use Rattle.h265_laws.proofs.HeadLaws.{regrouped, in_parts}
use Rattle.h265_laws.proofs.SpellingLaws.{went, passed, numbered, read_field-is, read_fields-is, read_alignment-is}

-- ---- the parts of a header

poc_is : (idr : Bool) (bs : List Bool) (found : ℕ × List Bool) → read_poc idr bs ≡ Ok found → bs ≡ fields_bits (poc_fields idr found.0) ++ found.1
unfolding fields_bits
poc_is true bs found h =
    let same : (0, bs) ≡ found = cc in
    ap (λ (x : ℕ × List Bool). x.1) same
poc_is false bs found h = read_field-is 5 (U 8) bs found h ∙ ap (λ l. l ++ found.1) (sym (append-nil (u 8 found.0)))

-- what was read of offsets
pub record AreOffsets (n : ℕ) (bs : List Bool) (found : List ℕ × List Bool) : Type 0 where
  pub spelling : bs ≡ fields_bits (map (λ o. fixed 12 32 (o - 1)) found.0) ++ found.1
  pub count : length found.0 ≡ n

less_one : (v : ℕ) → v ≡ v + 1 - 1
less_one v = omega arith

one_offset : (v : ℕ) (bs left tail rest : List Bool) → bs ≡ u 32 v ++ left → left ≡ tail ++ rest → bs ≡ (u 32 (v + 1 - 1) ++ tail) ++ rest
one_offset v bs left tail rest e f =
    e ∙ ap (λ l. u 32 v ++ l) f ∙ sym (append_assoc (u 32 v) tail rest) ∙ ap (λ w. (u 32 w ++ tail) ++ rest) (less_one v)

offsets_are : (n : ℕ) (bs : List Bool) (found : List ℕ × List Bool) → read_offsets n bs ≡ Ok found → AreOffsets n bs found
unfolding read_offsets fields_bits
offsets_are zero bs found h =
    let none : List ℕ = [] in
    let same : (none, bs) ≡ found = cc in
    subst (AreOffsets zero bs) same (record { spelling = refl; count = refl })
offsets_are (suc n) bs found h =
    let step = went (read_field 12 (U 32) bs)
    (λ first. cond (nat_lt first.0 4294967295) (read_offsets n first.1 >>- λ others. Ok ((first.0 + 1) ∷ others.0, others.1)) (Err 12)) found h in
    let v = step.value.0 in
    let test = passed (nat_lt v 4294967295) (read_offsets n step.value.1 >>- λ others. Ok ((v + 1) ∷ others.0, others.1)) 12 found step.then in
    let rest = went (read_offsets n step.value.1) (λ others. Ok ((v + 1) ∷ others.0, others.1)) found test.1 in
    let others = offsets_are n step.value.1 rest.value rest.first in
    let same : ((v + 1) ∷ rest.value.0, rest.value.1) ≡ found = let e = rest.then in cc in
    let tail = fields_bits (map (λ o. fixed 12 32 (o - 1)) rest.value.0) in
    subst (AreOffsets (suc n) bs) same
    (record {
      spelling =
          one_offset v bs step.value.1 tail rest.value.1 (read_field-is 12 (U 32) bs step.value step.first) others.spelling;
      count = ap suc others.count;
    })

pub record AreEntries (n : ℕ) (bs : List Bool) (found : List ℕ × List Bool) : Type 0 where
  pub spelling : bs ≡ fields_bits (entry_fields found.0) ++ found.1
  pub count : length found.0 ≡ n

put_first : (n : ℕ) (bs rest : List Bool) (found : List ℕ × List Bool) → bs ≡ fields_bits (golomb 11 31 ∷ []) ++ rest → AreOffsets (suc n) rest found → AreEntries (suc n) bs found
unfolding fields_bits
put_first n bs rest ([], left) e are = let none = are.count in absurd (omega arith)
put_first n bs rest (o ∷ offsets, left) e are = record {
  spelling = e ∙ ap (λ l. fields_bits (golomb 11 31 ∷ []) ++ l) are.spelling ∙ simp append_assoc;
  count = are.count;
}

entries_are : (n : ℕ) (bs : List Bool) (found : List ℕ × List Bool) → read_entries n bs ≡ Ok found → AreEntries n bs found
unfolding fields_bits
entries_are zero bs found h =
    let none : List ℕ = [] in
    let same : (none, bs) ≡ found = cc in
    subst (AreEntries zero bs) same (record { spelling = refl; count = refl })
entries_are (suc n) bs found h =
    let step = went (read_fields (golomb 11 31 ∷ []) bs) (λ bits. read_offsets (suc n) bits) found h in
    put_first n bs step.value found (read_fields-is (golomb 11 31 ∷ []) bs step.value step.first) (offsets_are (suc n) step.value found step.then)

-- ---- bytes

bytes-append : (xs ys : List Bool) → length xs % 8 ≡ 0 → bytes (xs ++ ys) ≡ bytes xs ++ bytes ys
unfolding bytes
bytes-append (a ∷ b ∷ c ∷ d ∷ e ∷ f ∷ g ∷ h ∷ rest) ys whole = ap (λ l. value (a ∷ b ∷ c ∷ d ∷ e ∷ f ∷ g ∷ h ∷ []) ∷ l) (bytes-append rest ys (omega arith))
bytes-append [] ys whole = refl
bytes-append _ ys whole = absurd (omega arith)

length-bytes : (bs : List Bool) → length bs % 8 ≡ 0 → length bs ≡ 8 * length (bytes bs)
length-bytes bs h = ap length (sym (bits-bytes bs h)) ∙ length-bits (bytes bs)

aligned_whole : (own : List Bool) → length (aligned_bits own) % 8 ≡ 0
aligned_whole own = ap (λ l. length l % 8) (sym (bits-aligned_bits own)) ∙ length-bits-mod (bytes (aligned_bits own))

rest_whole : (a b c : ℕ) → a % 8 ≡ 0 → c % 8 ≡ 0 → c ≡ a + b → b % 8 ≡ 0
rest_whole a b c h k e = omega arith

front_length : (a b l r : ℕ) → l ≡ a + b → r ≡ 8 * b → l - r / 8 ≡ a
front_length a b l r e h = omega arith

-- bytes whose bits are a table's with its end and more begin with the table's bytes
pub front_is : (rbsp : List ℕ) (own rest : List Bool) → AreBytes rbsp → bits rbsp ≡ aligned_bits own ++ rest → take (length rbsp - length rest / 8) rbsp ≡ bytes (aligned_bits own)
front_is rbsp own rest are e =
    let table = aligned_bits own in
    let whole = aligned_whole own in
    let sum = ap length e ∙ length-append table rest in
    let left = rest_whole (length table) (length rest) (length (bits rbsp)) whole (length-bits-mod rbsp) sum in
    let parts = sym (bytes-bits rbsp are) ∙ ap bytes e ∙ bytes-append table rest whole in
    let front = bytes table in
    let back = bytes rest in
    let long = ap length parts ∙ length-append front back in
    ap (λ k. take k rbsp) (front_length (length front) (length back) (length rbsp) (length rest) long (length-bytes rest left))
    ∙ ap (λ l. take (length front) l) parts
    ∙ take-append_seam front back

-- ---- the whole

one_more : (n rows : ℕ) → 0 < rows → n ≡ rows - 1 → n + 1 ≡ rows
one_more n rows some h = omega arith

pub whole_sum : (a b c : ℕ) → c ≡ a + b → c % 8 ≡ 0 → (a + b) % 8 ≡ 0
whole_sum a b c e h = omega arith

pub read_head-is : EachHeadIsSpelled
unfolding read_head head_bits
read_head-is rbsp idr rows head n are some h =
    let front = went (read_fields (head_front idr) (bits rbsp))
    (λ bits. read_poc idr bits >>- λ poc. read_fields (head_middle idr ++ golomb 10 (rows - 1) ∷ []) poc.1 >>- λ bits. read_entries (rows - 1) bits >>- λ entries. or_number 13 (read_alignment entries.1) >>- λ rest. Ok (record { idr = idr; poc = poc.0; offsets = entries.0 }, length rbsp - length rest / 8)) (head, n) h in
    let poc = went (read_poc idr front.value)
    (λ poc. read_fields (head_middle idr ++ golomb 10 (rows - 1) ∷ []) poc.1 >>- λ bits. read_entries (rows - 1) bits >>- λ entries. or_number 13 (read_alignment entries.1) >>- λ rest. Ok (record { idr = idr; poc = poc.0; offsets = entries.0 }, length rbsp - length rest / 8)) (head, n) front.then in
    let p = poc.value.0 in
    let middle = went (read_fields (head_middle idr ++ golomb 10 (rows - 1) ∷ []) poc.value.1)
    (λ bits. read_entries (rows - 1) bits >>- λ entries. or_number 13 (read_alignment entries.1) >>- λ rest. Ok (record { idr = idr; poc = p; offsets = entries.0 }, length rbsp - length rest / 8)) (head, n) poc.then in
    let entries = went (read_entries (rows - 1) middle.value)
    (λ entries. or_number 13 (read_alignment entries.1) >>- λ rest. Ok (record { idr = idr; poc = p; offsets = entries.0 }, length rbsp - length rest / 8)) (head, n) middle.then in
    let offsets = entries.value.0 in
    let end = went (or_number 13 (read_alignment entries.value.1)) (λ rest. Ok (record { idr = idr; poc = p; offsets = offsets }, length rbsp - length rest / 8)) (head, n) entries.then in
    let rest = end.value in
    let found : Head = record { idr = idr; poc = p; offsets = offsets } in
    let same : (found, length rbsp - length rest / 8) ≡ (head, n) = let e = end.then in cc in
    let own = fields_bits (head_fields found) in
    let points = entries_are (rows - 1) middle.value entries.value entries.first in
    let count : length offsets ≡ rows - 1 = points.count in
    let parts : bits rbsp ≡ own ++ entries.value.1 =
    read_fields-is (head_front idr) (bits rbsp) front.value front.first
    ∙ ap (λ l. fields_bits (head_front idr) ++ l)
    (poc_is idr front.value poc.value poc.first
    ∙ ap (λ l. fields_bits (poc_fields idr p) ++ l)
    (read_fields-is (head_middle idr ++ golomb 10 (rows - 1) ∷ []) poc.value.1 middle.value middle.first
    ∙ ap (λ l. fields_bits (head_middle idr ++ golomb 10 (rows - 1) ∷ []) ++ l) points.spelling))
    ∙ sym (in_parts (head_front idr) (poc_fields idr p) (head_middle idr ++ golomb 10 (rows - 1) ∷ []) (entry_fields offsets) entries.value.1)
    ∙ ap (λ (k : ℕ). fields_bits (head_front idr ++ (poc_fields idr p ++ ((head_middle idr ++ golomb 10 k ∷ []) ++ entry_fields offsets))) ++ entries.value.1) (sym count)
    ∙ ap (λ l. fields_bits l ++ entries.value.1) (sym (regrouped (head_front idr) (poc_fields idr p) (head_middle idr) (entry_fields offsets) (golomb 10 (length offsets)))) in
    let sum = whole_sum (length own) (length entries.value.1) (length (bits rbsp)) (ap length parts ∙ length-append own entries.value.1) (length-bits-mod rbsp) in
    let aligned = read_alignment-is (length own) entries.value.1 rest sum (numbered 13 (read_alignment entries.value.1) rest end.first) in
    let all : bits rbsp ≡ aligned_bits own ++ rest = parts ∙ ap (λ l. own ++ l) aligned ∙ sym (append_assoc own (alignment (length own)) rest) in
    let rows_are = one_more (length offsets) rows some count in
    let P : Head × ℕ → Type 0 = λ x. (x.0.idr ≡ idr) × (length x.0.offsets + 1 ≡ rows) × (take x.1 rbsp ≡ bytes (head_bits x.0)) in
    subst P same (refl, rows_are, front_is rbsp own rest are all)
