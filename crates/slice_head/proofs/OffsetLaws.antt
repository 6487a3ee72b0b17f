-- Laws of entry points that are read.
use Rattle.std.proofs.Common.{◌≡◌, ℕ, suc, ◌+◌, ◌-◌, ◌/◌, ◌<◌, ◌≤◌, Bool, true, false, List, [], ◌∷◌, ◌++◌, length, Option, Some, None, Result, Ok, Err, refl, sym, ◌∙◌, ap, arith, append_assoc}
use Rattle.std.specs.Prelude.{nat_lt}
use Rattle.std.proofs.lemmas.Bool.Decides.{nat_tests}
use Rattle.std.proofs.lemmas.List.{append-nil}
use Rattle.h265_model.specs.Bits.{◌>>-◌}
use Rattle.h265_model.specs.Bits.{bits, read_u, read_alignment}
use Rattle.h265_model.specs.Fields.{golomb, or_number, read_fields}
use Rattle.h265_model.specs.SliceHead as specified
use Rattle.h265_model.specs.SliceHead.{head_front, head_middle, read_poc, read_offsets, read_entries, read_head}
use Rattle.slice_head.specs.Answers.{IsAnswer, IsList, aligned_length, front_of}
use Rattle.slice_head.specs.declared.error.HeadError.{HeadError}
use Rattle.slice_head.specs.declared.error.HeadError.TheVariants.{BadHead, NoMemory}

abbrev Found : Type 0
Found = Result (List ℕ × List Bool) ℕ

-- offsets before those that are read
abbrev pub put_before : List ℕ → Found → Found
put_before front r = r >>- λ others. Ok (front ++ others.0, others.1)

pub none_before : (r : Found) → r ≡ put_before [] r
none_before (Ok o) = refl
none_before (Err e) = refl

one_before : (front : List ℕ) (v : ℕ) (r : Found) → put_before front (r >>- λ others. Ok (v ∷ others.0, others.1)) ≡ put_before (front ++ v ∷ []) r
one_before front v (Err e) = refl
one_before front v (Ok o) =
    let F : List ℕ → Found = λ l. Ok (l, o.1) in
    ap F (sym (append_assoc front (v ∷ []) o.0))

small : (v : ℕ) → v < 4294967295 → nat_lt v 4294967295 ≡ true
small v h = grind (arith, nat_tests)

large : (v : ℕ) → 4294967295 ≤ v → nat_lt v 4294967295 ≡ false
large v h = grind (arith, nat_tests)

step : (j v : ℕ) (bs rest : List Bool) (front : List ℕ) → read_u 32 bs ≡ Some (v, rest) → v < 4294967295 → put_before front (read_offsets (suc j) bs) ≡ put_before (front ++ (v + 1) ∷ []) (read_offsets j rest)
unfolding read_offsets
step j v bs rest front e h = rw (e, small v h) (one_before front (v + 1) (read_offsets j rest))

pub offset_read : (k j v : ℕ) (bs rest : List Bool) (front : List ℕ) → k ≡ suc j → read_u 32 bs ≡ Some (v, rest) → v < 4294967295 → put_before front (read_offsets k bs) ≡ put_before (front ++ (v + 1) ∷ []) (read_offsets j rest)
offset_read k j v bs rest front is e h = ap (λ k. put_before front (read_offsets k bs)) is ∙ step j v bs rest front e h

ends : (j : ℕ) (bs : List Bool) (front : List ℕ) → read_u 32 bs ≡ None → put_before front (read_offsets (suc j) bs) ≡ Err 12
unfolding read_offsets
ends j bs front e = rw e refl

pub offset_ends : (k j : ℕ) (bs : List Bool) (front : List ℕ) → k ≡ suc j → read_u 32 bs ≡ None → put_before front (read_offsets k bs) ≡ Err 12
offset_ends k j bs front is e = ap (λ k. put_before front (read_offsets k bs)) is ∙ ends j bs front e

overflows : (j v : ℕ) (bs rest : List Bool) (front : List ℕ) → read_u 32 bs ≡ Some (v, rest) → 4294967295 ≤ v → put_before front (read_offsets (suc j) bs) ≡ Err 12
unfolding read_offsets
overflows j v bs rest front e h = rw (e, large v h) refl

pub offset_overflows : (k j v : ℕ) (bs rest : List Bool) (front : List ℕ) → k ≡ suc j → read_u 32 bs ≡ Some (v, rest) → 4294967295 ≤ v → put_before front (read_offsets k bs) ≡ Err 12
offset_overflows k j v bs rest front is e h = ap (λ k. put_before front (read_offsets k bs)) is ∙ overflows j v bs rest front e h

pub offsets_done : (k : ℕ) (bs : List Bool) (front : List ℕ) → k ≡ 0 → put_before front (read_offsets k bs) ≡ Ok (front, bs)
unfolding read_offsets
offsets_done k bs front is =
    let F : List ℕ → Found = λ l. Ok (l, bs) in
    ap (λ k. put_before front (read_offsets k bs)) is ∙ ap F (append-nil front)

-- ---- a header after its parts

abbrev Whole : Type 0
Whole = Result (specified.Head × ℕ) ℕ

head_of : Bool → ℕ → List ℕ → specified.Head
head_of idr poc offsets = record { idr = idr; poc = poc; offsets = offsets }

after_entries : List ℕ → Bool → ℕ → Found → Whole
unfolding head_of
after_entries rbsp idr poc r = r >>- λ entries. or_number 13 (read_alignment entries.1) >>- λ rest. Ok (head_of idr poc entries.0, length rbsp - length rest / 8)

after_front : List ℕ → Bool → ℕ → Result (ℕ × List Bool) ℕ → Whole
unfolding after_entries
after_front rbsp idr count r = r >>- λ front. after_entries rbsp idr front.0 (read_entries count front.1)

three : (rbsp : List ℕ) (idr : Bool) (count poc : ℕ) (r : Result (List Bool) ℕ) →
    (r >>- λ bits. after_entries rbsp idr poc (read_entries count bits)) ≡ after_front rbsp idr count (r >>- λ bits. Ok (poc, bits))
unfolding after_front
three rbsp idr count poc (Ok bits) = refl
three rbsp idr count poc (Err e) = refl

two : (rbsp : List ℕ) (idr : Bool) (count : ℕ) (r : Result (ℕ × List Bool) ℕ) →
    (r >>- λ poc. read_fields (head_middle idr ++ golomb 10 count ∷ []) poc.1 >>- λ bits. after_entries rbsp idr poc.0 (read_entries count bits))
    ≡ after_front rbsp idr count (r >>- λ poc. read_fields (head_middle idr ++ golomb 10 count ∷ []) poc.1 >>- λ bits. Ok (poc.0, bits))
unfolding after_front
two rbsp idr count (Ok poc) = three rbsp idr count poc.0 (read_fields (head_middle idr ++ golomb 10 count ∷ []) poc.1)
two rbsp idr count (Err e) = refl

one : (rbsp : List ℕ) (idr : Bool) (count : ℕ) (r : Result (List Bool) ℕ) →
    (r >>- λ bits. read_poc idr bits >>- λ poc. read_fields (head_middle idr ++ golomb 10 count ∷ []) poc.1 >>- λ bits. after_entries rbsp idr poc.0 (read_entries count bits))
    ≡ after_front rbsp idr count (r >>- λ bits. read_poc idr bits >>- λ poc. read_fields (head_middle idr ++ golomb 10 count ∷ []) poc.1 >>- λ bits. Ok (poc.0, bits))
unfolding after_front
one rbsp idr count (Ok bits) = two rbsp idr count (read_poc idr bits)
one rbsp idr count (Err e) = refl

by_parts : (rbsp : List ℕ) (idr : Bool) (rows : ℕ) → read_head rbsp idr rows ≡ after_front rbsp idr (rows - 1) (front_of idr (rows - 1) (bits rbsp))
unfolding read_head after_entries head_of
by_parts rbsp idr rows = one rbsp idr (rows - 1) (read_fields (head_front idr) (bits rbsp))

pub front_differs : (rbsp : List ℕ) (idr : Bool) (rows n : ℕ) → front_of idr (rows - 1) (bits rbsp) ≡ Err n → read_head rbsp idr rows ≡ Err n
unfolding after_front
front_differs rbsp idr rows n e = by_parts rbsp idr rows ∙ ap (after_front rbsp idr (rows - 1)) e

with_front : (rbsp : List ℕ) (idr : Bool) (rows poc : ℕ) (y : List Bool) → front_of idr (rows - 1) (bits rbsp) ≡ Ok (poc, y) → read_head rbsp idr rows ≡ after_entries rbsp idr poc (read_entries (rows - 1) y)
unfolding after_front
with_front rbsp idr rows poc y e = by_parts rbsp idr rows ∙ ap (after_front rbsp idr (rows - 1)) e

pub entries_differ : (rbsp : List ℕ) (idr : Bool) (rows poc n : ℕ) (y : List Bool) → front_of idr (rows - 1) (bits rbsp) ≡ Ok (poc, y) → read_entries (rows - 1) y ≡ Err n → read_head rbsp idr rows ≡ Err n
unfolding after_entries
entries_differ rbsp idr rows poc n y e f = with_front rbsp idr rows poc y e ∙ ap (after_entries rbsp idr poc) f

-- a value beside a length
unfoldable pub beside : {A : Type 0} → A → Result ℕ ℕ → Result (A × ℕ) ℕ
beside a r = r >>- λ n. Ok (a, n)

abbrev pub with_length : {A : Type 0} → A → List ℕ → ℕ → Option (List Bool) → Result (A × ℕ) ℕ
with_length a rbsp number o = or_number number o >>- λ rest. Ok (a, length rbsp - length rest / 8)

pub length_beside : {A : Type 0} (a : A) (rbsp : List ℕ) (number : ℕ) (o : Option (List Bool)) → with_length a rbsp number o ≡ beside a (or_number number o >>- λ rest. Ok (length rbsp - length rest / 8))
unfolding beside
length_beside a rbsp number None = refl
length_beside a rbsp number (Some rest) = refl

with_entries : (rbsp : List ℕ) (idr : Bool) (rows poc : ℕ) (y : List Bool) (offsets : List ℕ) (z : List Bool) → front_of idr (rows - 1) (bits rbsp) ≡ Ok (poc, y) → read_entries (rows - 1) y ≡ Ok (offsets, z) →
    read_head rbsp idr rows ≡ beside (head_of idr poc offsets) (aligned_length rbsp 13 z)
unfolding after_entries
with_entries rbsp idr rows poc y offsets z e f = with_front rbsp idr rows poc y e ∙ ap (after_entries rbsp idr poc) f ∙ length_beside (head_of idr poc offsets) rbsp 13 (read_alignment z)

pub not_aligned : (rbsp : List ℕ) (idr : Bool) (rows poc : ℕ) (y : List Bool) (offsets : List ℕ) (z : List Bool) (n : ℕ) → front_of idr (rows - 1) (bits rbsp) ≡ Ok (poc, y) → read_entries (rows - 1) y ≡ Ok (offsets, z) → aligned_length rbsp 13 z ≡ Err n →
    read_head rbsp idr rows ≡ Err n
unfolding beside
not_aligned rbsp idr rows poc y offsets z n e f g = with_entries rbsp idr rows poc y offsets z e f ∙ ap (beside (head_of idr poc offsets)) g

pub head_read : (rbsp : List ℕ) (idr : Bool) (rows poc : ℕ) (y : List Bool) (offsets : List ℕ) (z : List Bool) (n : ℕ) → front_of idr (rows - 1) (bits rbsp) ≡ Ok (poc, y) → read_entries (rows - 1) y ≡ Ok (offsets, z) → aligned_length rbsp 13 z ≡ Ok n →
    read_head rbsp idr rows ≡ Ok (record { idr = idr; poc = poc; offsets = offsets }, n)
unfolding beside head_of
head_read rbsp idr rows poc y offsets z n e f g = with_entries rbsp idr rows poc y offsets z e f ∙ ap (beside (head_of idr poc offsets)) g

pub passed_on : (rbsp : List ℕ) (idr : Bool) (rows poc : ℕ) (y left : List Bool) (error : HeadError) → front_of idr (rows - 1) (bits rbsp) ≡ Ok (poc, y) → IsList (read_entries (rows - 1) y) (Err error) left → IsAnswer (read_head rbsp idr rows) (Err error)
passed_on rbsp idr rows poc y left (BadHead n) e f = entries_differ rbsp idr rows poc n y e f
passed_on rbsp idr rows poc y left NoMemory e f = tt
