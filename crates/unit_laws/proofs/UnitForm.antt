-- The items of rows are well formed where blocks may move, in slices and as segments.
use Rattle.std.proofs.Common.{◌≡◌, refl, sym, ◌∙◌, ap, subst, ℕ, zero, suc, ◌+◌, ◌-◌, ◌*◌, ◌%◌, ◌^◌, ◌<◌, ◌≤◌, List, [], ◌∷◌, ◌++◌, Bool, true, false, cond, not, ⊎_elim, length, get_or, append-nil, arith, le_refl}
use Rattle.std.specs.Prelude.{nat_abs, ◌==◌, MatchBool, ◌⊎◌}
use Rattle.std.specs.List.{AllByRecursion}
use Rattle.std.proofs.lemmas.Bool.{eqb-true, eqb-false, eq-eqb, ne_eqb, cases_lt}
use Rattle.std.proofs.lemmas.Nat.{row_fits, mod-mul-add}
use Rattle.std.proofs.lemmas.List.{get_or_past}
use Rattle.h265_model.specs.declared.Item.{Item}
use Rattle.h265_model.specs.declared.leaf.SliceKind.{SliceKind}
use Rattle.h265_model.specs.declared.moves.Vector.{Vector}
use Rattle.h265_model.specs.declared.moves.MoveLeaf.{MoveLeaf}
use Rattle.h265_model.specs.declared.moves.MoveKind.{MoveKind}
use Rattle.h265_model.specs.declared.moves.MoveKind.TheVariants as moves
use Rattle.h265_model.specs.Plain.{block_at, Size, ctus, context_bin, bypass_bin, terminate_bin, ctu_x, ctu_y}
use Rattle.h265_model.specs.Code.{Plain, Filled, GoesOn, IsWellFormed}
use Rattle.h265_model.specs.Predict.{is_inside}
use Rattle.h265_model.specs.Binarise.{eg, bypass_bins}
use Rattle.h265_model.specs.Residual.{IsSide, eight, is_negative}
use Rattle.h265_model.specs.Tree.{moving, unit_block, Source, IsSource, split_context, is_whole, is_last}
use Rattle.h265_model.specs.Motion.{Moving, leaves, leaf_as_coded, predictors, predictor, difference, greater1_of, size_items, part_items, difference_items, second_is_nearer, move_items}
use Rattle.h265_model.specs.Tree.{ends_row}
use Rattle.h265_model.specs.Tree.{Walk, walk_on, and_walk, quarters, no_walk, coding_unit_walk, is_next, tree_walk, ctu_items, coded_first, ctu_with_flag, ctus_items, items_of_row, items_of_segment, moved_unit, unit_of_kind, move_unit}
use Rattle.h265_model.proofs.ListParts.{all_append}
use Rattle.h265_laws.proofs.FormLaw.{AreFine, fine_append, fine_bypass, Continues, continues_none, continues_append, continues_fine}
use Rattle.h265_laws.proofs.RowForm.{skip_small, split_small, unit_continues}
use Rattle.h265_laws.proofs.TreeLaw.{depth_side}
use Rattle.unit_laws.specs.Laws.{IsOneUnit, AreFourParts, IsUnitTree, AreLawfulUnits, EachUnitRowIsWellFormed}
use Rattle.unit_laws.proofs.UnitRows.{items_from, row_order}

-- ---- units

greater1_fine : (n : ℕ) → AreFine (greater1_of n)
greater1_fine zero = tt
greater1_fine (suc n) = (omega arith, tt)

size_fine : (n : ℕ) (negative : Bool) → AreFine (size_items n negative)
size_fine zero negative = tt
size_fine (suc zero) negative = (tt, tt)
size_fine (suc (suc n)) negative = fine_append (bypass_bins (eg 1 n)) (bypass_bin negative ∷ []) (fine_bypass (eg 1 n)) (tt, tt)

difference_fine : (d : Vector) → AreFine (difference_items d)
unfolding difference_items
difference_fine d = (
  omega arith,
  (
    omega arith,
    fine_append (greater1_of (nat_abs d.x)) _ (greater1_fine (nat_abs d.x))
        (fine_append (greater1_of (nat_abs d.y)) _ (greater1_fine (nat_abs d.y))
        (fine_append (part_items d.x) (part_items d.y) (size_fine (nat_abs d.x) (is_negative d.x)) (size_fine (nat_abs d.y) (is_negative d.y)))),
  ),
)

move_fine : (v : Vector) (both : Vector × Vector) → AreFine (move_items v both)
unfolding move_items
move_fine v both = (
  omega arith,
  fine_append (difference_items (difference v (predictor (second_is_nearer v both) both))) _ (difference_fine _) (omega arith, (omega arith, tt)),
)

moved_fine : (before : List Moving) (unit : MoveLeaf) (v : Vector) → AreFine (moved_unit before unit v)
unfolding moved_unit
moved_fine before unit v =
    (omega arith, (skip_small (leaves before) unit.block.x unit.block.y, (omega arith, (omega arith, move_fine v (predictors before unit.block)))))

move_unit_continues : (kind : SliceKind) (source : Source) (before : List Moving) (unit : MoveLeaf) → IsSource source → IsSide unit.block.log2 → Continues (move_unit kind source before unit)
unfolding move_unit
move_unit_continues kind source before unit is side = go unit.kind
  where
    still : Continues (unit_of_kind kind source before unit moves.Pcm)
    still = unit_continues kind source (leaves before) (leaf_as_coded unit) is side

    go : (k : MoveKind) → Continues (unit_of_kind kind source before unit k)
    go moves.Skip = still
    go (moves.Move v) = continues_fine (moved_unit before unit v) (moved_fine before unit v)
    go moves.Pcm = still
    go (moves.Intra mode) = still

-- ---- sides

-- units with sides of 8, 16 or 32
abbrev pub UnitsHaveSides : List MoveLeaf → Type 0
UnitsHaveSides units = AllByRecursion (λ unit. IsSide unit.block.log2) units

abbrev pub AllUnitsHaveSides : List (List MoveLeaf) → Type 0
AllUnitsHaveSides units = (ctu : ℕ) → UnitsHaveSides (get_or units ctu [])

one_side : (x y log2 : ℕ) (units : List MoveLeaf) → IsSide log2 → IsOneUnit (block_at x y log2) units → UnitsHaveSides units
one_side x y log2 units side u = subst UnitsHaveSides (sym u.one) (side, tt)

tree_sides : (size : Size) (depth x y : ℕ) (units : List MoveLeaf) → depth < 3 → IsUnitTree size depth x y units → UnitsHaveSides units
tree_sides size zero x y units small t = go (is_inside size x y) t
  where
    go : (b : Bool) → MatchBool b (IsOneUnit (block_at x y 3) units) (units ≡ []) → UnitsHaveSides units
    go true u = one_side x y 3 units eight u
    go false none = subst UnitsHaveSides (sym none) tt
tree_sides size (suc depth) x y units small t = go (is_inside size x y) (is_whole size (2 * half) x y) t (λ px py us q. tree_sides size depth px py us (omega arith) q)
  where
    half : ℕ
    half = 2 ^ (3 + depth)

    Lower : Type 0
    Lower = (px py : ℕ) (us : List MoveLeaf) → IsUnitTree size depth px py us → UnitsHaveSides us

    Sided : MoveLeaf → Type 0
    Sided unit = IsSide unit.block.log2

    four : AreFourParts (IsUnitTree size depth) half x y units → Lower → UnitsHaveSides units
    four q lower =
        subst UnitsHaveSides (sym q.together)
        (all_append Sided ((q.first ++ q.second) ++ q.third) q.fourth
        (all_append Sided (q.first ++ q.second) q.third
        (all_append Sided q.first q.second (lower _ _ q.first q.top_left) (lower _ _ q.second q.top_right)) (lower _ _ q.third q.bottom_left))
        (lower _ _ q.fourth q.bottom_right))

    go : (a b : Bool) → MatchBool a (MatchBool b (IsOneUnit (block_at x y (4 + depth)) units ⊎ AreFourParts (IsUnitTree size depth) half x y units) (AreFourParts (IsUnitTree size depth) half x y units)) (units ≡ []) → Lower → UnitsHaveSides units
    go false b none lower = subst UnitsHaveSides (sym none) tt
    go true false q lower = four q lower
    go true true u lower = ⊎_elim (λ v. one_side x y (4 + depth) units (depth_side depth (omega arith)) v) (λ q. four q lower) u

pub lawful_sides : (kind : SliceKind) (size : Size) (units : List (List MoveLeaf)) (total : ℕ) → length units ≡ total → AreLawfulUnits kind size units total → AllUnitsHaveSides units
lawful_sides kind size units total many are ctu =
    ⊎_elim
    (λ few. tree_sides size 2 (ctu_x size ctu) (ctu_y size ctu) (get_or units ctu []) (omega arith) (are.tree ctu few))
    (λ past. subst UnitsHaveSides (sym (get_or_past units ctu [] (omega arith))) tt)
    (cases_lt ctu total)

-- ---- trees

record WalksOn (w : Walk MoveLeaf Moving) : Type 0 where
  list : Continues w.list
  left : UnitsHaveSides w.left

walks_on : (list : List Item) (w : Walk MoveLeaf Moving) → Continues list → WalksOn w → WalksOn (walk_on list w)
walks_on list w h k = record { list = continues_append list w.list h k.list; left = k.left }

walks_both : (w : Walk MoveLeaf Moving) (go : List Moving → List MoveLeaf → Walk MoveLeaf Moving) → WalksOn w → ((before : List Moving) (left : List MoveLeaf) → UnitsHaveSides left → WalksOn (go before left)) → WalksOn (and_walk w go)
walks_both w go h k = walks_on w.list (go w.before w.left) h.list (k w.before w.left h.left)

module _ (kind : SliceKind) (size : Size) (source : Source) (is : IsSource source) where
  one_walks : (before : List Moving) (left : List MoveLeaf) → UnitsHaveSides left → WalksOn (coding_unit_walk (moving (move_unit kind source)) before left)
  one_walks before [] h = record { list = continues_none; left = tt }
  one_walks before (leaf ∷ left) h = record { list = move_unit_continues kind source before leaf is h.0; left = h.1 }

  tree_walks : (depth x y : ℕ) (before : List Moving) (left : List MoveLeaf) → UnitsHaveSides left → WalksOn (tree_walk (moving (move_unit kind source)) size depth x y before left)
  tree_walks zero x y before left h = go (is_inside size x y)
    where
      go : (b : Bool) → WalksOn (cond b (coding_unit_walk (moving (move_unit kind source)) before left) (no_walk before left))
      go true = one_walks before left h
      go false = record { list = continues_none; left = h }
  tree_walks (suc depth) x y before left h =
      go (not (is_inside size x y)) (not (is_whole size (2 * half) x y)) (is_next unit_block (4 + depth) left) (λ px py b l k. tree_walks depth px py b l k)
    where
      half : ℕ
      half = 2 ^ (3 + depth)

      Lower : Type 0
      Lower = (px py : ℕ) (b : List Moving) (l : List MoveLeaf) → UnitsHaveSides l → WalksOn (tree_walk (moving (move_unit kind source)) size depth px py b l)

      split : Walk MoveLeaf Moving
      split = quarters (tree_walk (moving (move_unit kind source)) size depth) half x y before left

      flag : Bool → List Item
      flag value = context_bin value (split_context (leaves before) (block_at x y (4 + depth))) ∷ []

      flag_continues : (value : Bool) → Continues (flag value)
      flag_continues value = continues_fine (flag value) (split_small (leaves before) x y (4 + depth), tt)

      split_walks : Lower → WalksOn split
      split_walks lower =
          walks_both _ _ (walks_both _ _ (walks_both _ _ (lower x y before left h) (lower (x + half) y)) (lower x (y + half))) (lower (x + half) (y + half))

      go : (a b c : Bool) → Lower → WalksOn (cond a (no_walk before left) (cond b split (cond c (walk_on (flag false) (coding_unit_walk (moving (move_unit kind source)) before left)) (walk_on (flag true) split))))
      go true b c lower = record { list = continues_none; left = h }
      go false true c lower = split_walks lower
      go false false true lower = walks_on (flag false) _ (flag_continues false) (one_walks before left h)
      go false false false lower = walks_on (flag true) _ (flag_continues true) (split_walks lower)

  ctu_continues : (before : List Moving) (units : List MoveLeaf) (ctu : ℕ) → UnitsHaveSides units → Continues (ctu_items (moving (move_unit kind source)) size before units ctu)
  unfolding ctu_items
  ctu_continues before units ctu h = (tree_walks 2 (ctu_x size ctu) (ctu_y size ctu) before units h).list

  -- ---- rows

  with_end : (ends : ℕ → Bool) (units : List (List MoveLeaf)) (ctu : ℕ) → AllUnitsHaveSides units → ends ctu ≡ false → Continues (ctu_with_flag (moving (move_unit kind source)) size ends units ctu)
  with_end ends units ctu h e =
      continues_append (ctu_items (moving (move_unit kind source)) size (coded_first units ctu) (get_or units ctu []) ctu) _ (ctu_continues _ _ ctu (h ctu))
      (continues_fine (terminate_bin (ends ctu) ∷ []) (e, tt))

  -- coding tree units of which none ends the slice segment
  before_last : (ends : ℕ → Bool) (units : List (List MoveLeaf)) (ctu n : ℕ) → AllUnitsHaveSides units → ((i : ℕ) → i < n → ends (ctu + i) ≡ false)
      → Continues (items_from (move_unit kind source) size ends units ctu n)
  before_last ends units ctu zero h none = continues_none
  before_last ends units ctu (suc n) h none =
      let here : ctu + 0 ≡ ctu = omega arith in
      continues_append (ctu_with_flag (moving (move_unit kind source)) size ends units ctu) _
      (with_end ends units ctu h (ap ends (sym here) ∙ none 0 (omega arith)))
      (before_last ends units (suc ctu) n h (λ i k. let e : suc ctu + i ≡ ctu + suc i = omega arith in ap ends e ∙ none (suc i) (omega arith)))

  -- those of which the last one ends it
  to_last : (ends : ℕ → Bool) (units : List (List MoveLeaf)) (ctu n : ℕ) → AllUnitsHaveSides units → ((i : ℕ) → i < n → ends (ctu + i) ≡ false) → ends (ctu + n) ≡ true
      → IsWellFormed (items_from (move_unit kind source) size ends units ctu (suc n)) × GoesOn Filled (items_from (move_unit kind source) size ends units ctu (suc n))
  to_last ends units ctu zero h none last =
      let list : List Item = ctu_items (moving (move_unit kind source)) size (coded_first units ctu) (get_or units ctu []) ctu in
      let c : Continues list = ctu_continues _ _ ctu (h ctu) in
      let here : ctu ≡ ctu + 0 = omega arith in
      let e : ctu_with_flag (moving (move_unit kind source)) size ends units ctu ++ [] ≡ list ++ terminate_bin true ∷ [] = append-nil _ ∙ ap (λ (b : Bool). list ++ terminate_bin b ∷ []) (ap ends here ∙ last) in (
        subst (λ (l : List Item). GoesOn Plain l) (sym e) (c.plain (terminate_bin true ∷ []) (tt, tt) (tt, tt)),
        subst (λ (l : List Item). GoesOn Filled l) (sym e) (c.filled (terminate_bin true ∷ []) (tt, tt) (tt, tt)),
      )
  to_last ends units ctu (suc n) h none last =
      let e : suc ctu + n ≡ ctu + suc n = omega arith in
      let here : ctu + 0 ≡ ctu = omega arith in
      let later = to_last ends units (suc ctu) n h (λ i k. let e : suc ctu + i ≡ ctu + suc i = omega arith in ap ends e ∙ none (suc i) (omega arith)) (ap ends e ∙ last) in
      let c : Continues (ctu_with_flag (moving (move_unit kind source)) size ends units ctu) = with_end ends units ctu h (ap ends (sym here) ∙ none 0 (omega arith)) in
      (c.plain (items_from (move_unit kind source) size ends units (suc ctu) (suc n)) later.0 later.1, c.filled (items_from (move_unit kind source) size ends units (suc ctu) (suc n)) later.0 later.1)

  turned : (a b : ℕ) → a * b ≡ b * a
  turned a b = omega arith

  -- a row of a slice
  pub slice_form : (units : List (List MoveLeaf)) (row : ℕ) → AllUnitsHaveSides units → 0 < ctus size.w → row < ctus size.h → IsWellFormed (items_of_row (moving (move_unit kind source)) size units row)
  unfolding items_of_row
  slice_form units row h some few = go (row + 1 == ctus size.h) refl
    where
      w : ℕ
      w = ctus size.w

      first : ℕ
      first = row * w

      same : ctus_items (moving (move_unit kind source)) size (is_last size) units row w ≡ items_from (move_unit kind source) size (is_last size) units first w
      same = row_order (move_unit kind source) size (is_last size) units row w

      go : (b : Bool) → (row + 1 == ctus size.h) ≡ b → IsWellFormed (ctus_items (moving (move_unit kind source)) size (is_last size) units row w ++ cond b [] (terminate_bin true ∷ []))
      go true e =
          let last : row + 1 ≡ ctus size.h = eqb-true _ _ e in
          let all : first + w ≡ w * ctus size.h = (let a : first + w ≡ (row + 1) * w = omega arith in a ∙ (ap (λ (n : ℕ). n * w) last ∙ turned (ctus size.h) w)) in
          let wide : suc (w - 1) ≡ w = omega arith in
          let whole : IsWellFormed (items_from (move_unit kind source) size (is_last size) units first (suc (w - 1))) =
          (to_last (is_last size) units first (w - 1) h (λ i k. ne_eqb (first + i + 1) (w * ctus size.h) (λ q. omega arith)) (eq-eqb (first + (w - 1) + 1) (w * ctus size.h) (omega arith))).0 in
          subst (λ (l : List Item). GoesOn Plain l) (sym (append-nil _ ∙ same)) (subst (λ (n : ℕ). GoesOn Plain (items_from (move_unit kind source) size (is_last size) units first n)) wide whole)
      go false e =
          let not_last : row + 1 ≡ ctus size.h → ⊥ = eqb-false _ _ e in
          let less : row + 1 < ctus size.h = omega arith in
          let fits : (row + 1) * w + w ≤ ctus size.h * w = row_fits (row + 1) w (ctus size.h) w less (le_refl w) in
          let few' : first + w < w * ctus size.h = (let t : ctus size.h * w ≡ w * ctus size.h = turned (ctus size.h) w in omega arith) in
          let c : Continues (items_from (move_unit kind source) size (is_last size) units first w) =
          before_last (is_last size) units first w h (λ i k. ne_eqb (first + i + 1) (w * ctus size.h) (λ q. omega arith)) in
          subst (λ (l : List Item). GoesOn Plain (l ++ terminate_bin true ∷ [])) (sym same) (c.plain (terminate_bin true ∷ []) (tt, tt) (tt, tt))

  -- a row that is a segment of its own
  pub segment_form : (units : List (List MoveLeaf)) (row : ℕ) → AllUnitsHaveSides units → 0 < ctus size.w → IsWellFormed (items_of_segment (moving (move_unit kind source)) size units row)
  unfolding items_of_segment
  segment_form units row h some =
      let w : ℕ = ctus size.w in
      let first : ℕ = row * w in
      let wide : suc (w - 1) ≡ w = omega arith in
      let inner : (i : ℕ) → i < w - 1 → ends_row size (first + i) ≡ false =
      λ i k. let e : first + i + 1 ≡ row * w + (i + 1) = omega arith in
      let m : (first + i + 1) % w ≡ i + 1 = ap (λ (n : ℕ). n % w) e ∙ mod-mul-add row w (i + 1) (omega arith) in
      ne_eqb ((first + i + 1) % w) 0 (λ q. omega arith) in
      let last : ends_row size (first + (w - 1)) ≡ true =
      (let e : first + (w - 1) + 1 ≡ (row + 1) * w + 0 = omega arith in
      eq-eqb ((first + (w - 1) + 1) % w) 0 (ap (λ (n : ℕ). n % w) e ∙ mod-mul-add (row + 1) w 0 some)) in
      let whole : IsWellFormed (items_from (move_unit kind source) size (ends_row size) units first (suc (w - 1))) = (to_last (ends_row size) units first (w - 1) h inner last).0 in
      subst (λ (l : List Item). GoesOn Plain l) (sym (row_order (move_unit kind source) size (ends_row size) units row w))
      (subst (λ (n : ℕ). GoesOn Plain (items_from (move_unit kind source) size (ends_row size) units first n)) wide whole)

pub rows_are_well_formed : EachUnitRowIsWellFormed
rows_are_well_formed kind size source units row is many are some few =
    let sides : AllUnitsHaveSides units = lawful_sides kind size units (ctus size.w * ctus size.h) many are in
    (slice_form kind size source is units row sides some few, segment_form kind size source is units row sides some)
