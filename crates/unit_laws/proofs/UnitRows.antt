-- A row of coding tree units that was written where blocks may move is read, in a slice and as a segment.
use Rattle.std.proofs.Common.{◌≡◌, refl, sym, ◌∙◌, ap, subst, ℕ, zero, suc, ◌+◌, ◌*◌, ◌≤◌, List, [], ◌∷◌, ◌++◌, Bool, true, false, cond, take, map, get_or, append_assoc, append-nil, arith, add-zero}
use Rattle.std.specs.Prelude.{Option, Some, None, ◌==◌, nat_le}
use Rattle.std.specs.List.{flat_map, range_with_len}
use Rattle.std.proofs.lemmas.Bool.{leb-true}
use Rattle.h265_model.specs.declared.Item.{Item}
use Rattle.h265_model.specs.declared.Place.TheVariants.{Terminate}
use Rattle.h265_model.specs.declared.leaf.SliceKind.{SliceKind}
use Rattle.h265_model.specs.declared.moves.MoveLeaf.{MoveLeaf}
use Rattle.h265_model.specs.Plain.{Size, ctus, terminate_bin, joined}
use Rattle.h265_model.specs.Bits.{bits, ◌>>=◌ as and_then}
use Rattle.h265_model.specs.Engine.{Engine, start, is_done, Reader, ◌>>=◌, give, Reads, ReadsWith}
use Rattle.h265_model.specs.Contexts.{row_start, start as first_contexts, AreContexts}
use Rattle.h265_model.specs.Code.{code, contexts_after, IsWellFormed}
use Rattle.h265_model.specs.Tree.{moving, Source, IsSource, expect, contexts_read, is_last}
use Rattle.h265_model.specs.Motion.{Moving, coded_after}
use Rattle.h265_model.specs.Tree.{ReadUnit, ReadCtu, units_of, units_after, moving_of, ctu_read, ctus_read, ends_row}
use Rattle.h265_model.specs.Slice.{contexts_at, slice_row_read, segment_row_read, handed_on, row_of_bytes}
use Rattle.h265_model.specs.Tree.{UnitItems, move_unit, ctu_items, coded_first, ctu_with_flag, ctus_items, items_of_row, items_of_segment}
use Rattle.h265_laws.specs.Laws.{IsReadBack}
use Rattle.h265_laws.proofs.Parts.{law, start_contexts}
use Rattle.h265_laws.proofs.RowLaw.{with_any, with_bind, with_expect, with_as, with_map, with_contexts, same_after_flag}
use Rattle.h265_laws.proofs.ContextsLaw.{after_both, after_is, row_start_is}
use Rattle.h265_laws.proofs.SliceLaw.{done_at}
use Rattle.h265_model.proofs.ContextLaws.{start_is}
use Rattle.unit_laws.specs.Laws.{AreLawfulUnits, reads_after, units_from, EachUnitRowIsRead, EachCodedUnitIsFit}
use Rattle.unit_laws.proofs.UnitTreeLaw.{AreFit, coded-append, reads-append, after_reads, fit_all, trees_are_read}

-- ---- the units before a coding tree unit

joined_more : (units : List (List MoveLeaf)) (n : ℕ) → joined (take (suc n) units) ≡ joined (take n units) ++ get_or units n []
joined_more [] zero = refl
joined_more [] (suc n) = refl
joined_more (l ∷ units) zero = append-nil l
joined_more (l ∷ units) (suc n) = ap (λ (r : List MoveLeaf). l ++ r) (joined_more units n) ∙ sym (append_assoc l (joined (take n units)) (get_or units n []))

pub first_more : (units : List (List MoveLeaf)) (n : ℕ) → coded_first units (suc n) ≡ coded_after (coded_first units n) (get_or units n [])
first_more units n = ap (coded_after []) (joined_more units n) ∙ coded-append [] (joined (take n units)) (get_or units n [])

pub first_fit : (kind : SliceKind) (size : Size) (units : List (List MoveLeaf)) (total n : ℕ) → n ≤ total → AreLawfulUnits kind size units total → AreFit (coded_first units n)
first_fit kind size units total zero h are = record { modes = tt; short = tt }
first_fit kind size units total (suc n) h are =
    subst AreFit (sym (first_more units n)) (fit_all kind size (coded_first units n) (get_or units n []) (are.stand n (omega arith)) (first_fit kind size units total n (omega arith) are))

-- ---- the coding tree units of a row

-- the items of n coding tree units from this one on
abbrev pub items_from : UnitItems → Size → (ℕ → Bool) → List (List MoveLeaf) → ℕ → ℕ → List Item
items_from unit size ends units ctu zero = []
items_from unit size ends units ctu (suc n) = ctu_with_flag (moving unit) size ends units ctu ++ items_from unit size ends units (suc ctu) n

in_order : (unit : UnitItems) (size : Size) (ends : ℕ → Bool) (units : List (List MoveLeaf)) (base n first : ℕ)
    → flat_map (λ i. ctu_with_flag (moving unit) size ends units (base + i)) (range_with_len first n) ≡ items_from unit size ends units (base + first) n
in_order unit size ends units base zero first = refl
in_order unit size ends units base (suc n) first =
    let e : base + (first + 1) ≡ suc (base + first) = omega arith in
    ap (λ (l : List Item). ctu_with_flag (moving unit) size ends units (base + first) ++ l)
    (in_order unit size ends units base n (first + 1) ∙ ap (λ (k : ℕ). items_from unit size ends units k n) e)

pub row_order : (unit : UnitItems) (size : Size) (ends : ℕ → Bool) (units : List (List MoveLeaf)) (row n : ℕ) → ctus_items (moving unit) size ends units row n ≡ items_from unit size ends units (row * ctus size.w) n
row_order unit size ends units row n =
    in_order unit size ends units (row * ctus size.w) n 0 ∙ ap (λ (k : ℕ). items_from unit size ends units k n) (add-zero (row * ctus size.w))

ctus_law : (kind : SliceKind) (size : Size) (source : Source) (units : List (List MoveLeaf)) (ends : ℕ → Bool) (total ctu n : ℕ) → ctu + n ≤ total → AreLawfulUnits kind size units total → IsSource source
    → ReadsWith (ctus_read kind size ends n ctu (coded_first units ctu)) (items_from (move_unit kind source) size ends units ctu n) (units_from kind size source units ctu n)
ctus_law kind size source units ends total ctu zero h are is = record { from = λ e left g. ap (λ (d : Engine). Some ([], d)) g }
ctus_law kind size source units ends total ctu (suc n) h are is =
    let before : List Moving = coded_first units ctu in
    let here : List MoveLeaf = get_or units ctu [] in
    let own : List Item = ctu_items (moving (move_unit kind source)) size before here ctu in
    let made : List ReadUnit → List ℕ → List ReadCtu → List ReadCtu = λ us c others. record { units = us; contexts = c } ∷ others in
    let rest : List Item = items_from (move_unit kind source) size ends units (suc ctu) n in
    let later : ReadsWith (ctus_read kind size ends n (suc ctu) (coded_first units (suc ctu))) rest (units_from kind size source units (suc ctu) n) =
    ctus_law kind size source units ends total (suc ctu) n (omega arith) are is in
    let same : units_after before (reads_after source before here) ≡ coded_first units (suc ctu) = after_reads source before here ∙ sym (first_more units ctu) in
    let later_here : ReadsWith (ctus_read kind size ends n (suc ctu) (units_after before (reads_after source before here))) rest (units_from kind size source units (suc ctu) n) =
    subst (λ (b : List Moving). ReadsWith (ctus_read kind size ends n (suc ctu) b) rest (units_from kind size source units (suc ctu) n)) (sym same) later in
    let f : List ReadUnit → Reader (List ReadCtu) = λ us. contexts_read >>= λ c. expect Terminate (ends ctu) (ctus_read kind size ends n (suc ctu) (units_after before us) >>= λ others. give (made us c others)) in
    let fit : AreFit before = first_fit kind size units total ctu (omega arith) are in
    let first : Reads (ctu_read kind size before ctu) own (reads_after source before here) =
    trees_are_read kind size source ctu before here is fit.modes fit.short (are.tree ctu (omega arith)) (are.stand ctu (omega arith)) in
    with_as (ctus_read kind size ends (suc n) ctu before) _ _ _ (sym (append_assoc own (terminate_bin (ends ctu) ∷ []) rest))
    (with_bind (ctu_read kind size before ctu) f own (terminate_bin (ends ctu) ∷ rest)
    (λ c. reads_after source before here) (λ c d. made (reads_after source before here) d (units_from kind size source units (suc ctu) n d)) tt (with_any _ _ _ first)
    (λ c. with_contexts _ _ (λ d d'. made (reads_after source before here) d (units_from kind size source units (suc ctu) n d'))
    (λ d. with_expect (ends ctu) _ rest _ (with_map (ctus_read kind size ends n (suc ctu) (units_after before (reads_after source before here))) (made (reads_after source before here) d) rest _ later_here))))

-- ---- the row

ctus_row : (kind : SliceKind) (size : Size) (source : Source) (units : List (List MoveLeaf)) (ends : ℕ → Bool) (row total : ℕ) → row * ctus size.w + ctus size.w ≤ total → AreLawfulUnits kind size units total → IsSource source
    → ReadsWith (ctus_read kind size ends (ctus size.w) (row * ctus size.w) (coded_first units (row * ctus size.w))) (ctus_items (moving (move_unit kind source)) size ends units row (ctus size.w))
    (units_from kind size source units (row * ctus size.w) (ctus size.w))
ctus_row kind size source units ends row total h are is =
    with_as _ _ _ (units_from kind size source units (row * ctus size.w) (ctus size.w)) (sym (row_order (move_unit kind source) size ends units row (ctus size.w)))
    (ctus_law kind size source units ends total (row * ctus size.w) (ctus size.w) h are is)

pub slice_row : (kind : SliceKind) (size : Size) (source : Source) (units : List (List MoveLeaf)) (row total : ℕ) → row * ctus size.w + ctus size.w ≤ total → AreLawfulUnits kind size units total → IsSource source
    → ReadsWith (slice_row_read kind size row (coded_first units (row * ctus size.w))) (items_of_row (moving (move_unit kind source)) size units row) (units_from kind size source units (row * ctus size.w) (ctus size.w))
unfolding slice_row_read items_of_row
slice_row kind size source units row total h are is = go (row + 1 == ctus size.h)
  where
    values : List ℕ → List ReadCtu
    values = units_from kind size source units (row * ctus size.w) (ctus size.w)

    front : List Item
    front = ctus_items (moving (move_unit kind source)) size (is_last size) units row (ctus size.w)

    all : Reader (List ReadCtu)
    all = ctus_read kind size (is_last size) (ctus size.w) (row * ctus size.w) (coded_first units (row * ctus size.w))

    read : ReadsWith all front values
    read = ctus_row kind size source units (is_last size) row total h are is

    go : (b : Bool) → ReadsWith (all >>= λ r. cond b (give r) (expect Terminate true (give r))) (front ++ cond b [] (terminate_bin true ∷ [])) values
    go true = with_bind _ (λ r. give r) front [] values (λ c d. values c) tt read (λ c. record { from = λ e left g. ap (λ (x : Engine). Some (values c, x)) g })
    go false = with_bind _ (λ r. expect Terminate true (give r)) front (terminate_bin true ∷ []) values (λ c d. values c) tt read
        (λ c. with_expect true (give (values c)) [] (λ d. values c) (record { from = λ e left g. ap (λ (x : Engine). Some (values c, x)) g }))

pub segment_row : (kind : SliceKind) (size : Size) (source : Source) (units : List (List MoveLeaf)) (row total : ℕ) → row * ctus size.w + ctus size.w ≤ total → AreLawfulUnits kind size units total → IsSource source
    → ReadsWith (segment_row_read kind size row (coded_first units (row * ctus size.w))) (items_of_segment (moving (move_unit kind source)) size units row) (units_from kind size source units (row * ctus size.w) (ctus size.w))
unfolding segment_row_read items_of_segment
segment_row kind size source units row total h are is = ctus_row kind size source units (ends_row size) row total h are is

pub rows_are_read : EachUnitRowIsRead
rows_are_read kind size source units row total h are is =
    (slice_row kind size source units row total h are is, segment_row kind size source units row total h are is)

-- ---- a row of bytes

pub row_is_read : (read : Reader (List ReadCtu)) (list : List Item) (c : List ℕ) (values : List ℕ → List ReadCtu) → IsWellFormed list → AreContexts c → ReadsWith read list values
    → row_of_bytes read c (code list c) ≡ Some (values c)
unfolding row_of_bytes
row_is_read read list c values formed are r =
    let back : IsReadBack list c [] = law list c [] formed are in
    let starts : start c (bits (code list c)) ≡ Some back.first = ap (λ (bs : List ℕ). start c (bits bs)) (sym (append-nil (code list c))) ∙ back.starts in
    let contexts_are : back.first.contexts ≡ c = start_contexts c (bits (code list c ++ [])) back.first back.starts in
    let reads : read back.first ≡ Some (values c, back.left) = r.from back.first back.left back.gives ∙ ap (λ (d : List ℕ). Some (values d, back.left)) contexts_are in
    let behind : List ReadCtu × Engine → Option (List ReadCtu) = λ found. cond (is_done found.1) (Some found.0) None in
    ap (λ (o : Option Engine). and_then o (λ (first : Engine). and_then (read first) behind)) starts
    ∙ (ap (λ (o : Option (List ReadCtu × Engine)). and_then o behind) reads
    ∙ ap (λ (b : Bool). cond b (Some (values c)) None) (done_at back.left back.ends))

-- ---- contexts

pub contexts_are : (kind : SliceKind) (unit : UnitItems) (size : Size) (units : List (List MoveLeaf)) (row : ℕ) → AreContexts (contexts_at kind (moving unit) size units row)
unfolding contexts_at row_start
contexts_are kind unit size units zero = start_is kind
contexts_are kind unit size units (suc row) =
    row_start_is kind (ctus size.w) (suc row) _ (after_is (ctus_items (moving unit) size (is_last size) units row 2) (contexts_at kind (moving unit) size units row) (contexts_are kind unit size units row))

-- what is read of a row
abbrev pub row_values : SliceKind → Size → Source → List (List MoveLeaf) → ℕ → List ReadCtu
row_values kind size source units row = units_from kind size source units (row * ctus size.w) (ctus size.w) (contexts_at kind (moving (move_unit kind source)) size units row)

handed_is : (kind : SliceKind) (size : Size) (source : Source) (units : List (List MoveLeaf)) (ctu w : ℕ) (c : List ℕ)
    → handed_on (units_from kind size source units ctu (suc (suc w)) c) ≡ contexts_after (items_from (move_unit kind source) size (is_last size) units ctu 2) c
handed_is kind size source units ctu w c =
    let unit : UnitItems = move_unit kind source in
    let a : List Item = ctu_items (moving unit) size (coded_first units ctu) (get_or units ctu []) ctu in
    let b : List Item = ctu_items (moving unit) size (coded_first units (suc ctu)) (get_or units (suc ctu) []) (suc ctu) in
    let second_items : List Item = ctu_with_flag (moving unit) size (is_last size) units (suc ctu) in
    let first : contexts_after (a ++ terminate_bin (is_last size ctu) ∷ []) c ≡ contexts_after a c = after_both a _ c ∙ same_after_flag (is_last size ctu) (contexts_after a c) in
    let second : (d : List ℕ) → contexts_after (b ++ terminate_bin (is_last size (suc ctu)) ∷ []) d ≡ contexts_after b d = λ d. after_both b _ d ∙ same_after_flag (is_last size (suc ctu)) (contexts_after b d) in
    sym (after_both (ctu_with_flag (moving unit) size (is_last size) units ctu) (second_items ++ []) c
    ∙ (ap (λ (d : List ℕ). contexts_after (second_items ++ []) d) first
    ∙ (ap (λ (l : List Item). contexts_after l (contexts_after a c)) (append-nil second_items)
    ∙ second (contexts_after a c))))

-- the next row starts from the contexts that it was coded from
pub next_start : (kind : SliceKind) (size : Size) (source : Source) (units : List (List MoveLeaf)) (row : ℕ)
    → row_start kind (ctus size.w) (suc row) (handed_on (row_values kind size source units row)) ≡ contexts_at kind (moving (move_unit kind source)) size units (suc row)
unfolding row_start contexts_at
next_start kind size source units row = go (nat_le 2 (ctus size.w)) refl
  where
    unit : UnitItems
    unit = move_unit kind source

    c : List ℕ
    c = contexts_at kind (moving unit) size units row

    wide : (w : ℕ) → 2 ≤ w → handed_on (units_from kind size source units (row * ctus size.w) w c) ≡ contexts_after (ctus_items (moving unit) size (is_last size) units row 2) c
    wide zero h = absurd (omega arith)
    wide (suc zero) h = absurd (omega arith)
    wide (suc (suc w)) h = handed_is kind size source units (row * ctus size.w) w c ∙ ap (λ (l : List Item). contexts_after l c) (sym (row_order unit size (is_last size) units row 2))

    go : (b : Bool) → nat_le 2 (ctus size.w) ≡ b
        → cond b (handed_on (row_values kind size source units row)) (first_contexts kind) ≡ cond b (contexts_after (ctus_items (moving unit) size (is_last size) units row 2) c) (first_contexts kind)
    go true e = wide (ctus size.w) (leb-true _ _ e)
    go false e = refl

-- ---- the units that were read

-- what is read of the units of the first n coding tree units
abbrev pub read_first : Source → List (List MoveLeaf) → ℕ → List ReadUnit
read_first source units n = reads_after source [] (joined (take n units))

pub coded_is : (source : Source) (units : List (List MoveLeaf)) (n : ℕ) → map moving_of (read_first source units n) ≡ coded_first units n
coded_is source units n = after_reads source [] (joined (take n units))

values_read : (kind : SliceKind) (size : Size) (source : Source) (units : List (List MoveLeaf)) (ctu n : ℕ) (c : List ℕ)
    → read_first source units ctu ++ units_of (units_from kind size source units ctu n c) ≡ read_first source units (ctu + n)
values_read kind size source units ctu zero c = append-nil (read_first source units ctu) ∙ (let e : ctu ≡ ctu + 0 = omega arith in ap (read_first source units) e)
values_read kind size source units ctu (suc n) c =
    let before : List Moving = coded_first units ctu in
    let here : List MoveLeaf = get_or units ctu [] in
    let d : List ℕ = contexts_after (ctu_items (moving (move_unit kind source)) size before here ctu) c in
    let others : List ReadUnit = units_of (units_from kind size source units (suc ctu) n d) in
    let e : suc ctu + n ≡ ctu + suc n = omega arith in
    let more : read_first source units (suc ctu) ≡ read_first source units ctu ++ reads_after source before here =
    ap (reads_after source []) (joined_more units ctu) ∙ reads-append source [] (joined (take ctu units)) here in
    sym (append_assoc (read_first source units ctu) (reads_after source before here) others)
    ∙ (ap (λ (l : List ReadUnit). l ++ others) (sym more)
    ∙ (values_read kind size source units (suc ctu) n d ∙ ap (read_first source units) e))

pub row_read_on : (kind : SliceKind) (size : Size) (source : Source) (units : List (List MoveLeaf)) (row : ℕ)
    → read_first source units (row * ctus size.w) ++ units_of (row_values kind size source units row) ≡ read_first source units ((row + 1) * ctus size.w)
row_read_on kind size source units row =
    values_read kind size source units (row * ctus size.w) (ctus size.w) (contexts_at kind (moving (move_unit kind source)) size units row)
    ∙ (let e : row * ctus size.w + ctus size.w ≡ (row + 1) * ctus size.w = omega arith in ap (read_first source units) e)

pub coded_are_fit : EachCodedUnitIsFit
coded_are_fit kind size units total n few are = let f : AreFit (coded_first units n) = first_fit kind size units total n few are in (f.modes, f.short)
