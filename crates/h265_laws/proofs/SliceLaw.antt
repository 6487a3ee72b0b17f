-- The rows of a picture's slice data are read back.
use Rattle.std.proofs.Common.{◌≡◌, refl, sym, ◌∙◌, ap, subst, ℕ, zero, suc, ◌+◌, ◌-◌, ◌*◌, ◌<◌, ◌≤◌, List, [], ◌∷◌, ◌++◌, Bool, true, false, cond, length, take, get_or, map, append_assoc, append-nil, take_all, arith, le_refl}
use Rattle.std.specs.Prelude.{Option, Some, None, nat_le}
use Rattle.std.specs.List.{flat_map, range_with_len}
use Rattle.std.proofs.lemmas.Bool.{leb-true}
use Rattle.std.proofs.lemmas.Nat.{row_fits}
use Rattle.h265_model.specs.declared.Item.{Item}
use Rattle.h265_model.specs.declared.leaf.SliceKind.{SliceKind}
use Rattle.h265_model.specs.declared.leaf.Leaf.{Leaf}
use Rattle.h265_model.specs.Plain.{Size, ctus, below, terminate_bin, joined}
use Rattle.h265_model.specs.Bits.{bits, ◌>>=◌}
use Rattle.h265_model.specs.Engine.{Engine, start, is_done, at_end, aligned}
use Rattle.std.proofs.lemmas.Grind.{flat_map-append}
use Rattle.h265_model.specs.Contexts.{row_start, start as first_contexts}
use Rattle.h265_model.specs.Code.{code, contexts_after}
use Rattle.h265_model.specs.Tree.{leaf_units, Source, ctu_items, ctu_with_flag, ctus_items, is_last, items_of_row}
use Rattle.h265_laws.proofs.LeafReading.{ReadLeaf, ReadCtu, reads_of, values_from, read_row}
use Rattle.h265_model.specs.Slice.{contexts_at, row_code, substreams, IsSlice}
use Rattle.h265_laws.proofs.LeafDecoding.{leaves_of, handed_on, row_read, read_rows, read_data}
use Rattle.h265_model.specs.NalUnits.{escape}
use Rattle.h265_model.specs.Stream.{but_last}
use Rattle.h265_laws.specs.Laws.{IsReadBack}
use Rattle.h265_laws.proofs.Parts.{law, start_contexts}
use Rattle.h265_laws.proofs.TreeLaw.{leaves_back, reads_of-append}
use Rattle.h265_laws.proofs.RowLaw.{row_law, joined_take, same_after_flag}
use Rattle.h265_laws.proofs.RowForm.{row_form}
use Rattle.h265_laws.proofs.ContextsLaw.{contexts_at_is, after_both}
use Rattle.h265_model.proofs.SyntaxLaws.{cut-escape}
use Rattle.h265_model.proofs.ListParts.{take_more}
use Rattle.h265_laws.proofs.CoverLaw.{sides_of}

-- what is read of a row
abbrev pub row_values : SliceKind → Size → Source → List (List Leaf) → ℕ → List ReadCtu
row_values kind size source leaves row = values_from kind size source leaves (row * ctus size.w) (ctus size.w) (contexts_at kind (leaf_units kind source) size leaves row)

-- ---- one row

pub rows_fit : (row w h : ℕ) → row < h → row * w + w ≤ w * h
rows_fit row w h less = let a : row * w + w ≤ h * w = row_fits row w h w less (le_refl w) in omega arith

pub done_at : (left : Engine) → aligned left ≡ Some [] → is_done left ≡ true
unfolding is_done
done_at left e = ap at_end e

pub row_is_read : (kind : SliceKind) (size : Size) (source : Source) (leaves : List (List Leaf)) (row : ℕ) (handed : List ℕ) → IsSlice kind size source leaves → row < ctus size.h
    → row_start kind (ctus size.w) row handed ≡ contexts_at kind (leaf_units kind source) size leaves row
    → row_read kind size row (take (row * ctus size.w) leaves) handed (row_code kind (leaf_units kind source) size leaves row) ≡ Some (row_values kind size source leaves row)
unfolding row_read
row_is_read kind size source leaves row handed is less same =
    let list : List Item = items_of_row (leaf_units kind source) size leaves row in
    let c : List ℕ = contexts_at kind (leaf_units kind source) size leaves row in
    let back : IsReadBack list c [] = law list c [] (row_form kind size source leaves row is.source_is (sides_of kind size source leaves is) is.wide less) (contexts_at_is kind size source leaves row) in
    let starts : start (row_start kind (ctus size.w) row handed) (bits (row_code kind (leaf_units kind source) size leaves row)) ≡ Some back.first =
    ap (λ (d : List ℕ). start d (bits (row_code kind (leaf_units kind source) size leaves row))) same
    ∙ (ap (λ (bs : List ℕ). start c (bits bs)) (sym (append-nil (code list c))) ∙ back.starts) in
    let contexts_are : back.first.contexts ≡ c = start_contexts c (bits (code list c ++ [])) back.first back.starts in
    let reads : read_row kind size row (take (row * ctus size.w) leaves) back.first ≡ Some (row_values kind size source leaves row, back.left) =
    (row_law kind size source leaves row (ctus size.w * ctus size.h) (rows_fit row (ctus size.w) (ctus size.h) less) is.lawful is.source_is).from back.first back.left back.gives
    ∙ ap (λ (d : List ℕ). Some (values_from kind size source leaves (row * ctus size.w) (ctus size.w) d, back.left)) contexts_are in
    let done : is_done back.left ≡ true = done_at back.left back.ends in
    let behind : List ReadCtu × Engine → Option (List ReadCtu) = λ read. cond (is_done read.1) (Some read.0) None in
    ap (λ (o : Option Engine). o >>= λ (first : Engine). (read_row kind size row (take (row * ctus size.w) leaves) first >>= behind)) starts
    ∙ (ap (λ (o : Option (List ReadCtu × Engine)). o >>= behind) reads
    ∙ ap (λ (b : Bool). cond b (Some (row_values kind size source leaves row)) None) done)

-- ---- what a row hands on

handed_is : (kind : SliceKind) (size : Size) (source : Source) (leaves : List (List Leaf)) (ctu w : ℕ) (c : List ℕ)
    → handed_on (values_from kind size source leaves ctu (suc (suc w)) c)
    ≡ contexts_after (ctu_with_flag (leaf_units kind source) size (is_last size) leaves ctu ++ (ctu_with_flag (leaf_units kind source) size (is_last size) leaves (suc ctu) ++ [])) c
handed_is kind size source leaves ctu w c =
    let a : List Item = ctu_items (leaf_units kind source) size (joined (take ctu leaves)) (get_or leaves ctu []) ctu in
    let b : List Item = ctu_items (leaf_units kind source) size (joined (take (suc ctu) leaves)) (get_or leaves (suc ctu) []) (suc ctu) in
    let first : contexts_after (a ++ terminate_bin (is_last size ctu) ∷ []) c ≡ contexts_after a c = after_both a _ c ∙ same_after_flag (is_last size ctu) (contexts_after a c) in
    let second : (d : List ℕ) → contexts_after (b ++ terminate_bin (is_last size (suc ctu)) ∷ []) d ≡ contexts_after b d = λ d. after_both b _ d ∙ same_after_flag (is_last size (suc ctu)) (contexts_after b d) in
    sym (after_both (ctu_with_flag (leaf_units kind source) size (is_last size) leaves ctu) (ctu_with_flag (leaf_units kind source) size (is_last size) leaves (suc ctu) ++ []) c
    ∙ (ap (λ (d : List ℕ). contexts_after (ctu_with_flag (leaf_units kind source) size (is_last size) leaves (suc ctu) ++ []) d) first
    ∙ (ap (λ (l : List Item). contexts_after l (contexts_after a c)) (append-nil (ctu_with_flag (leaf_units kind source) size (is_last size) leaves (suc ctu)))
    ∙ second (contexts_after a c))))

two_units : (kind : SliceKind) (size : Size) (source : Source) (leaves : List (List Leaf)) (row : ℕ)
    → ctus_items (leaf_units kind source) size (is_last size) leaves row 2 ≡ ctu_with_flag (leaf_units kind source) size (is_last size) leaves (row * ctus size.w) ++ (ctu_with_flag (leaf_units kind source) size (is_last size) leaves (suc (row * ctus size.w)) ++ [])
two_units kind size source leaves row =
    let first : row * ctus size.w + 0 ≡ row * ctus size.w = omega arith in
    let second : row * ctus size.w + 1 ≡ suc (row * ctus size.w) = omega arith in
    ap (λ (i : ℕ). ctu_with_flag (leaf_units kind source) size (is_last size) leaves i ++ (ctu_with_flag (leaf_units kind source) size (is_last size) leaves (row * ctus size.w + 1) ++ [])) first
    ∙ ap (λ (i : ℕ). ctu_with_flag (leaf_units kind source) size (is_last size) leaves (row * ctus size.w) ++ (ctu_with_flag (leaf_units kind source) size (is_last size) leaves i ++ [])) second

-- the next row starts from the contexts that it was coded from
pub next_start : (kind : SliceKind) (size : Size) (source : Source) (leaves : List (List Leaf)) (row : ℕ)
    → row_start kind (ctus size.w) (suc row) (handed_on (row_values kind size source leaves row)) ≡ contexts_at kind (leaf_units kind source) size leaves (suc row)
unfolding row_start contexts_at
next_start kind size source leaves row = go (nat_le 2 (ctus size.w)) refl
  where
    c : List ℕ
    c = contexts_at kind (leaf_units kind source) size leaves row

    wide : (w : ℕ) → 2 ≤ w → handed_on (values_from kind size source leaves (row * ctus size.w) w c) ≡ contexts_after (ctus_items (leaf_units kind source) size (is_last size) leaves row 2) c
    wide zero h = absurd (omega arith)
    wide (suc zero) h = absurd (omega arith)
    wide (suc (suc w)) h = handed_is kind size source leaves (row * ctus size.w) w c ∙ ap (λ (l : List Item). contexts_after l c) (sym (two_units kind size source leaves row))

    go : (b : Bool) → nat_le 2 (ctus size.w) ≡ b
        → cond b (handed_on (row_values kind size source leaves row)) (first_contexts kind) ≡ cond b (contexts_after (ctus_items (leaf_units kind source) size (is_last size) leaves row 2) c) (first_contexts kind)
    go true e = wide (ctus size.w) (leb-true _ _ e)
    go false e = refl

-- ---- the leaves that were read

values_leaves : (kind : SliceKind) (size : Size) (source : Source) (leaves : List (List Leaf)) (ctu n : ℕ) (c : List ℕ) → ctu + n ≤ length leaves
    → take ctu leaves ++ leaves_of (values_from kind size source leaves ctu n c) ≡ take (ctu + n) leaves
values_leaves kind size source leaves ctu zero c h = append-nil (take ctu leaves) ∙ (let e : ctu ≡ ctu + 0 = omega arith in ap (λ (k : ℕ). take k leaves) e)
values_leaves kind size source leaves ctu (suc n) c h =
    let here : List Leaf = get_or leaves ctu [] in
    let d : List ℕ = contexts_after (ctu_items (leaf_units kind source) size (joined (take ctu leaves)) here ctu) c in
    let others : List (List Leaf) = leaves_of (values_from kind size source leaves (suc ctu) n d) in
    let e : suc ctu + n ≡ ctu + suc n = omega arith in
    ap (λ (l : List Leaf). take ctu leaves ++ l ∷ others) (leaves_back source here)
    ∙ (sym (append_assoc (take ctu leaves) (here ∷ []) others)
    ∙ (ap (λ (l : List (List Leaf)). l ++ others) (sym (take_more leaves ctu [] (omega arith)))
    ∙ (values_leaves kind size source leaves (suc ctu) n d (omega arith) ∙ ap (λ (k : ℕ). take k leaves) e)))

-- what was read of all leaves
abbrev pub all_read : List ReadCtu → List ReadLeaf
all_read ctus = flat_map (λ ctu. ctu.leaves) ctus

values_read : (kind : SliceKind) (size : Size) (source : Source) (leaves : List (List Leaf)) (ctu n : ℕ) (c : List ℕ)
    → reads_of source (joined (take ctu leaves)) ++ all_read (values_from kind size source leaves ctu n c) ≡ reads_of source (joined (take (ctu + n) leaves))
values_read kind size source leaves ctu zero c = append-nil (reads_of source (joined (take ctu leaves))) ∙ (let e : ctu ≡ ctu + 0 = omega arith in ap (λ (k : ℕ). reads_of source (joined (take k leaves))) e)
values_read kind size source leaves ctu (suc n) c =
    let here : List Leaf = get_or leaves ctu [] in
    let d : List ℕ = contexts_after (ctu_items (leaf_units kind source) size (joined (take ctu leaves)) here ctu) c in
    let others : List ReadLeaf = all_read (values_from kind size source leaves (suc ctu) n d) in
    let e : suc ctu + n ≡ ctu + suc n = omega arith in
    sym (append_assoc (reads_of source (joined (take ctu leaves))) (reads_of source here) others)
    ∙ (ap (λ (l : List ReadLeaf). l ++ others) (sym (reads_of-append source (joined (take ctu leaves)) here) ∙ ap (reads_of source) (sym (joined_take leaves ctu)))
    ∙ (values_read kind size source leaves (suc ctu) n d ∙ ap (λ (k : ℕ). reads_of source (joined (take k leaves))) e))

-- ---- all rows

abbrev pub rows_values : SliceKind → Size → Source → List (List Leaf) → ℕ → ℕ → List ReadCtu
rows_values kind size source leaves row n = flat_map (row_values kind size source leaves) (range_with_len row n)

pub rows_are_read : (kind : SliceKind) (size : Size) (source : Source) (leaves : List (List Leaf)) (n row : ℕ) (handed : List ℕ) → IsSlice kind size source leaves → row + n ≤ ctus size.h
    → row_start kind (ctus size.w) row handed ≡ contexts_at kind (leaf_units kind source) size leaves row
    → read_rows kind size row (take (row * ctus size.w) leaves) handed (map (row_code kind (leaf_units kind source) size leaves) (range_with_len row n)) ≡ Some (rows_values kind size source leaves row n)
unfolding read_rows
rows_are_read kind size source leaves zero row handed is fits same = refl
rows_are_read kind size source leaves (suc n) row handed is fits same =
    let values : List ReadCtu = row_values kind size source leaves row in
    let codes : List (List ℕ) = map (row_code kind (leaf_units kind source) size leaves) (range_with_len (row + 1) n) in
    let here : row_read kind size row (take (row * ctus size.w) leaves) handed (row_code kind (leaf_units kind source) size leaves row) ≡ Some values = row_is_read kind size source leaves row handed is (omega arith) same in
    let one_more : row + 1 ≡ suc row = omega arith in
    let next : row_start kind (ctus size.w) (row + 1) (handed_on values) ≡ contexts_at kind (leaf_units kind source) size leaves (row + 1) =
    subst (λ (r : ℕ). row_start kind (ctus size.w) r (handed_on values) ≡ contexts_at kind (leaf_units kind source) size leaves r) (sym one_more) (next_start kind size source leaves row) in
    let fit : row * ctus size.w + ctus size.w ≤ length leaves = (let a : row * ctus size.w + ctus size.w ≤ ctus size.w * ctus size.h = rows_fit row (ctus size.w) (ctus size.h) (omega arith) in let m : length leaves ≡ ctus size.w * ctus size.h = is.many in omega arith) in
    let before : take (row * ctus size.w) leaves ++ leaves_of values ≡ take ((row + 1) * ctus size.w) leaves =
    values_leaves kind size source leaves (row * ctus size.w) (ctus size.w) (contexts_at kind (leaf_units kind source) size leaves row) fit
    ∙ (let e : row * ctus size.w + ctus size.w ≡ (row + 1) * ctus size.w = omega arith in ap (λ (k : ℕ). take k leaves) e) in
    let later : read_rows kind size (row + 1) (take ((row + 1) * ctus size.w) leaves) (handed_on values) codes ≡ Some (rows_values kind size source leaves (row + 1) n) =
    rows_are_read kind size source leaves n (row + 1) (handed_on values) is (omega arith) next in
    let joined_on : List ReadCtu → Option (List ReadCtu) = λ read. read_rows kind size (row + 1) (take (row * ctus size.w) leaves ++ leaves_of read) (handed_on read) codes >>= λ others. Some (read ++ others) in
    ap (λ (o : Option (List ReadCtu)). o >>= joined_on) here
    ∙ (ap (λ (b : List (List Leaf)). read_rows kind size (row + 1) b (handed_on values) codes >>= λ others. Some (values ++ others)) before
    ∙ ap (λ (o : Option (List ReadCtu)). o >>= λ others. Some (values ++ others)) later)

rows_read_leaves : (kind : SliceKind) (size : Size) (source : Source) (leaves : List (List Leaf)) (row n : ℕ)
    → reads_of source (joined (take (row * ctus size.w) leaves)) ++ all_read (rows_values kind size source leaves row n) ≡ reads_of source (joined (take ((row + n) * ctus size.w) leaves))
rows_read_leaves kind size source leaves row zero =
    append-nil (reads_of source (joined (take (row * ctus size.w) leaves))) ∙ (let e : row ≡ row + 0 = omega arith in ap (λ (k : ℕ). reads_of source (joined (take (k * ctus size.w) leaves))) e)
rows_read_leaves kind size source leaves row (suc n) =
    let values : List ReadCtu = row_values kind size source leaves row in
    let others : List ReadCtu = rows_values kind size source leaves (row + 1) n in
    let e : row * ctus size.w + ctus size.w ≡ (row + 1) * ctus size.w = omega arith in
    let f : (row + 1) + n ≡ row + suc n = omega arith in
    ap (λ (l : List ReadLeaf). reads_of source (joined (take (row * ctus size.w) leaves)) ++ l) (flat_map-append (λ (ctu : ReadCtu). ctu.leaves) values others)
    ∙ (sym (append_assoc (reads_of source (joined (take (row * ctus size.w) leaves))) (all_read values) (all_read others))
    ∙ (ap (λ (l : List ReadLeaf). l ++ all_read others) (values_read kind size source leaves (row * ctus size.w) (ctus size.w) (contexts_at kind (leaf_units kind source) size leaves row) ∙ ap (λ (k : ℕ). reads_of source (joined (take k leaves))) e)
    ∙ (rows_read_leaves kind size source leaves (row + 1) n ∙ ap (λ (k : ℕ). reads_of source (joined (take (k * ctus size.w) leaves))) f)))

-- what is read of all rows is what was written of all leaves
pub slice_leaves : (kind : SliceKind) (size : Size) (source : Source) (leaves : List (List Leaf)) → length leaves ≡ ctus size.w * ctus size.h
    → all_read (rows_values kind size source leaves 0 (ctus size.h)) ≡ reads_of source (joined leaves)
slice_leaves kind size source leaves many =
    let start : 0 * ctus size.w ≡ 0 = omega arith in
    let all : (0 + ctus size.h) * ctus size.w ≡ length leaves = omega arith in
    ap (λ (k : ℕ). reads_of source (joined (take k leaves)) ++ all_read (rows_values kind size source leaves 0 (ctus size.h))) (sym start)
    ∙ (rows_read_leaves kind size source leaves 0 (ctus size.h) ∙ (ap (λ (k : ℕ). reads_of source (joined (take k leaves))) all ∙ ap (λ (l : List (List Leaf)). reads_of source (joined l)) (take_all (length leaves) leaves (le_refl (length leaves)))))

-- ---- the substreams

pub substreams_cut : (row : List ℕ) (rows : List (List ℕ)) → substreams (map length (but_last (map escape (row ∷ rows)))) (flat_map (λ r. r) (row ∷ rows)) ≡ Some (row ∷ rows)
unfolding substreams
substreams_cut row [] = ap (λ (l : List ℕ). Some (l ∷ [])) (append-nil row)
substreams_cut row (next ∷ rows) =
    let es : List (List ℕ) = map escape (next ∷ rows) in
    let n : length (escape row ∷ es) - 1 ≡ suc (length es - 1) = omega arith in
    let fewer : but_last (escape row ∷ es) ≡ escape row ∷ but_last es = ap (λ (k : ℕ). take k (escape row ∷ es)) n in
    let rest : List ℕ = flat_map (λ r. r) (next ∷ rows) in
    ap (λ (l : List (List ℕ)). substreams (map length l) (row ++ rest)) fewer
    ∙ (ap (λ (o : Option (List ℕ × List ℕ)). o >>= λ cut. (substreams (map length (but_last es)) cut.1 >>= λ others. Some (cut.0 ∷ others))) (cut-escape 255 255 row rest)
    ∙ ap (λ (o : Option (List (List ℕ))). o >>= λ others. Some (row ∷ others)) (substreams_cut next rows))

-- the slice data of a picture is read back
pub data_is_read : (kind : SliceKind) (size : Size) (source : Source) (leaves : List (List Leaf)) → IsSlice kind size source leaves → 0 < ctus size.h
    → (let rows : List (List ℕ) = map (row_code kind (leaf_units kind source) size leaves) (below (ctus size.h)) in
    read_data kind size (map length (but_last (map escape rows))) (flat_map (λ r. r) rows) ≡ Some (rows_values kind size source leaves 0 (ctus size.h)))
unfolding row_start contexts_at
data_is_read kind size source leaves is some = go (ctus size.h) some refl
  where
    go : (h : ℕ) → 0 < h → h ≡ ctus size.h
        → read_data kind size (map length (but_last (map escape (map (row_code kind (leaf_units kind source) size leaves) (below h))))) (flat_map (λ r. r) (map (row_code kind (leaf_units kind source) size leaves) (below h))) ≡ Some (rows_values kind size source leaves 0 h)
    go zero p e = absurd (omega arith)
    go (suc h) p e =
        let start : 0 * ctus size.w ≡ 0 = omega arith in
        ap (λ (o : Option (List (List ℕ))). o >>= λ rows. read_rows kind size 0 [] [] rows) (substreams_cut (row_code kind (leaf_units kind source) size leaves 0) (map (row_code kind (leaf_units kind source) size leaves) (range_with_len (0 + 1) h)))
        ∙ (ap (λ (k : ℕ). read_rows kind size 0 (take k leaves) [] (map (row_code kind (leaf_units kind source) size leaves) (below (suc h)))) (sym start)
        ∙ rows_are_read kind size source leaves (suc h) 0 [] is (omega arith) refl)
