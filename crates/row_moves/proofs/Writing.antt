-- Coding tree units of a picture, written one after another.
use Rattle.std.proofs.Common.{◌≡◌, refl, sym, ◌∙◌, ap, subst, ℕ, suc, ◌+◌, List, [], ◌∷◌, ◌++◌, get_or, map, arith}
use Rattle.std.specs.List.{AllByRecursion}
use Rattle.h265_model.specs.declared.Item.{Item}
use Rattle.h265_model.specs.declared.leaf.Kind.{Kind}
use Rattle.h265_model.specs.declared.leaf.Kind.TheVariants.{Skip, Pcm, Intra}
use Rattle.h265_model.specs.declared.leaf.Leaf.{Leaf}
use Rattle.h265_model.specs.declared.leaf.SliceKind.{SliceKind}
use Rattle.h265_model.specs.declared.moves.MoveKind.{MoveKind}
use Rattle.h265_model.specs.declared.moves.MoveKind.TheVariants as moves
use Rattle.h265_model.specs.declared.moves.MoveLeaf.{MoveLeaf}
use Rattle.h265_model.specs.Plain.{Size, Picture, ctus, below}
use Rattle.h265_model.specs.Motion.{Moving, leaves, leaf_as_coded, as_coded, coded_after}
use Rattle.h265_model.specs.Tree.{Source, source_of, moving, move_unit, unit_of_kind, still_unit, content_items, coding_unit_items, ctu_items, coded_first, IsLawfulTree}
use Rattle.unit_laws.proofs.UnitRows.{first_more}
use Rattle.px_plane.specs.Planes.{picture_of}
use Rattle.bin_items.specs.Growth.{Grew, Meaning}
use Rattle.bin_items.proofs.Growing.{grew_as}
use Rattle.pu_code.specs.Cells.{Cells, IsUnit}
use Rattle.coding_tree.specs.UnitFlags.{flags_items}
use Rattle.motion_grid.specs.Cells as motions
use Rattle.motion_code.specs.Moves.{AreKept, HasShort, coded_leaves}
use Rattle.motion_code.proofs.MoveWalks.{units_items, units_are}
use Rattle.row_coder.specs.Sources.{picture_source}
use Rattle.row_coder.proofs.Walks.{GiveSame, gives_same, ctu_units}
use Rattle.picture_encoder.specs.declared.planning.Task.{Task}
use Rattle.picture_encoder.specs.Planning.{planes_of_task, size_of_task, kind_of_task}
use Rattle.row_sequence.specs.Sequence.{code_of}
use Rattle.row_sequence.specs.declared.writer.Ending.TheVariants.{Slice}
use Rattle.row_sequence.proofs.Definitions.{row_code_is}
use Rattle.row_moves.specs.Moves.{all_units, units_of_task, items_of_task, code_of_task, IsReady}

-- ---- a unit has the same items from two sources that give the same of it

content_same : (s t : Source) (before : List Leaf) (leaf : Leaf) (kind : Kind) → leaf.kind ≡ kind → GiveSame s t leaf → content_items s before leaf kind ≡ content_items t before leaf kind
content_same s t before leaf Skip e give = refl
content_same s t before leaf Pcm e give = rw (give.samples 0, give.samples 1, give.samples 2) refl
content_same s t before leaf (Intra mode) e give = rw (give.levels 0 mode e, give.levels 1 mode e, give.levels 2 mode e) refl

coding_unit_same : (kind : SliceKind) (s t : Source) (before : List Leaf) (leaf : Leaf) → GiveSame s t leaf → coding_unit_items kind s before leaf ≡ coding_unit_items kind t before leaf
unfolding coding_unit_items
coding_unit_same kind s t before leaf give = rw (content_same s t before leaf leaf.kind refl give) refl

module _ (kind : SliceKind) (size : Size) (picture : Picture) where
  abbrev near : Source
  near = picture_source size picture

  abbrev whole : Source
  whole = source_of size picture

  unit_same : (before : List Moving) (unit : MoveLeaf) → IsUnit size (leaf_as_coded unit) → move_unit kind near before unit ≡ move_unit kind whole before unit
  unfolding move_unit
  unit_same before unit is = go unit.kind
    where
      unmoved : still_unit kind near before unit ≡ still_unit kind whole before unit
      unmoved = coding_unit_same kind near whole (leaves before) (leaf_as_coded unit) (gives_same size picture (leaf_as_coded unit) is)

      go : (k : MoveKind) → unit_of_kind kind near before unit k ≡ unit_of_kind kind whole before unit k
      go (moves.Move v) = refl
      go moves.Skip = unmoved
      go moves.Pcm = unmoved
      go (moves.Intra mode) = unmoved

  units_same : (before : List Moving) (units : List MoveLeaf) → AllByRecursion (IsUnit size) (coded_leaves units) → units_items (move_unit kind near) size before units ≡ units_items (move_unit kind whole) size before units
  unfolding units_items
  units_same before [] all = refl
  units_same before (unit ∷ units) all =
      let after : List Moving = before ++ as_coded before unit ∷ [] in
      let flags : List Item = flags_items size (leaves before) (leaf_as_coded unit) in
      ap (λ (l : List Item). (flags ++ l) ++ units_items (move_unit kind near) size after units) (unit_same before unit all.0)
      ∙ ap (λ (l : List Item). (flags ++ move_unit kind whole before unit) ++ l) (units_same after units all.1)

  -- the items of a coding tree unit
  ctu_same : (before : List Moving) (units : List MoveLeaf) (ctu : ℕ) → IsLawfulTree size ctu (coded_leaves units)
      → ctu_items (moving (move_unit kind near)) size before units ctu ≡ ctu_items (moving (move_unit kind whole)) size before units ctu
  ctu_same before units ctu tree =
      units_are (move_unit kind near) size before units ctu tree
      ∙ (units_same before units (ctu_units size ctu (coded_leaves units) tree) ∙ sym (units_are (move_unit kind whole) size before units ctu tree))

module _ (t : Task) (ctu : ℕ) where
  -- what is written is the definition's
  pub written : (grid : Cells) (motion : motions.Cells) (source : Source) (kind : SliceKind) (size : Size) (units : List MoveLeaf) (x y : Meaning) → IsReady t grid motion source ctu → kind ≡ kind_of_task t
      → size ≡ size_of_task t → units ≡ get_or (all_units t) ctu [] → IsLawfulTree (size_of_task t) ctu (coded_leaves units)
      → ((before : List Moving) → AreKept grid motion before → Grew (ctu_items (moving (move_unit kind source)) size before units ctu) x y) → Grew (items_of_task t ctu) x y
  written grid motion source kind size units x y ready ek es eu tree taken =
      let before : List Moving = coded_first (all_units t) ctu in
      grew_as (ctu_items (moving (move_unit kind source)) size before units ctu) (items_of_task t ctu) x y
      (ap (λ (k : SliceKind). ctu_items (moving (move_unit k source)) size before units ctu) ek
      ∙ (ap (λ (s : Source). ctu_items (moving (move_unit (kind_of_task t) s)) size before units ctu) ready.source_is
      ∙ (ap (λ (z : Size). ctu_items (moving (move_unit (kind_of_task t) (picture_source (size_of_task t) (picture_of (planes_of_task t))))) z before units ctu) es
      ∙ (ctu_same (kind_of_task t) (size_of_task t) (picture_of (planes_of_task t)) before units ctu tree
      ∙ ap (λ (l : List MoveLeaf). ctu_items (units_of_task t) (size_of_task t) before l ctu) eu))))
      (taken before ready.kept)

  -- and one unit more is written
  pub one_ready : (grid next : Cells) (motion after : motions.Cells) (source then : Source) (size : Size) (units : List MoveLeaf) → IsReady t grid motion source ctu → size ≡ size_of_task t
      → units ≡ get_or (all_units t) ctu [] → next.size ≡ size → after.size ≡ size → HasShort after → then ≡ source
      → ((before : List Moving) → AreKept grid motion before → AreKept next after (coded_after before units)) → IsReady t next after then (ctu + 1)
  one_ready grid next motion after source then size units ready es eu same moved short kept set =
      let one : ctu + 1 ≡ suc ctu = omega arith in
      let before : List Moving = coded_first (all_units t) ctu in
      record {
        task = ready.task;
        size = same ∙ es;
        motion_size = moved ∙ es;
        kept = subst (AreKept next after) (ap (coded_after before) eu ∙ (sym (first_more (all_units t) ctu) ∙ ap (coded_first (all_units t)) (sym one))) (set before ready.kept);
        short = short;
        source_is = kept ∙ ready.source_is;
      }

same_map : (f g : ℕ → List ℕ) (list : List ℕ) → ((i : ℕ) → f i ≡ g i) → map f list ≡ map g list
same_map f g [] h = refl
same_map f g (x ∷ list) h = ap (λ (l : List ℕ). l ∷ map f list) (h x) ∙ ap (λ (l : List (List ℕ)). g x ∷ l) (same_map f g list h)

-- the rows are those of the definition
pub rows_are : (t given : Task) (kind : SliceKind) (size : Size) (rows : List (List ℕ)) → t ≡ given → kind ≡ kind_of_task given → size ≡ size_of_task given
    → rows ≡ map (code_of Slice kind size (items_of_task t)) (below (ctus size.h)) → rows ≡ map (code_of_task given) (below (ctus (size_of_task given).h))
rows_are t given kind size rows et ek es e =
    e
    ∙ (ap (λ (u : Task). map (code_of Slice kind size (items_of_task u)) (below (ctus size.h))) et
    ∙ (ap (λ (k : SliceKind). map (code_of Slice k size (items_of_task given)) (below (ctus size.h))) ek
    ∙ (ap (λ (z : Size). map (code_of Slice (kind_of_task given) z (items_of_task given)) (below (ctus z.h))) es
    ∙ same_map (code_of Slice (kind_of_task given) (size_of_task given) (items_of_task given)) (code_of_task given) (below (ctus (size_of_task given).h))
    (λ i. row_code_is (kind_of_task given) (units_of_task given) (size_of_task given) (all_units given) i))))
