-- Coding tree units of a picture, written one after another.
use Rattle.std.proofs.Common.{◌≡◌, refl, sym, ◌∙◌, ap, subst, ℕ, zero, suc, ◌+◌, ◌*◌, ◌<◌, List, [], ◌∷◌, ◌++◌, take, get_or, map, arith}
use Rattle.std.proofs.lemmas.List.FromFn.{get_or-map-range_with_len}
use Rattle.h265_model.specs.declared.leaf.Leaf.{Leaf}
use Rattle.h265_model.specs.declared.leaf.SliceKind.{SliceKind}
use Rattle.h265_model.specs.Plain.{Size, ctus, ctu_y, below, joined}
use Rattle.h265_model.specs.Tiles.{tile_count}
use Rattle.h265_model.specs.Tree.{Source, leaf_units, source_of, ctu_items, IsLawfulTree, AreAllowed}
use Rattle.h265_laws.proofs.ChoiceLaw.{choice_is_lawful}
use Rattle.h265_laws.proofs.RowLaw.{joined_take}
use Rattle.px_plane.specs.Planes.{picture_of}
use Rattle.bin_items.specs.Growth.{Grew, Meaning}
use Rattle.bin_items.proofs.Growing.{grew_as}
use Rattle.pu_code.specs.Cells.{Cells, StandsFor}
use Rattle.row_coder.specs.Sources.{picture_source}
use Rattle.row_coder.proofs.Walks.{Agree, ctu_same}
use Rattle.picture_encoder.specs.declared.planning.Task.{Task}
use Rattle.picture_encoder.specs.Planning.{reference_of_task, planes_of_task, size_of_task, kind_of_task, chosen, all_chosen}
use Rattle.picture_encoder.proofs.Choices.{allowed_is}
use Rattle.row_sequence.specs.Sequence.{code_of}
use Rattle.row_sequence.specs.declared.writer.Ending.TheVariants.{Segment}
use Rattle.row_sequence.proofs.Definitions.{segment_code_is}
use Rattle.row_segments.specs.Segments.{units_of_task, items_of_task, segment_of_task, IsReady}

module _ (t : Task) (ctu : ℕ) where
  pub tree_is : (size : Size) (leaves : List Leaf) → size ≡ size_of_task t → leaves ≡ chosen t ctu → IsLawfulTree size ctu leaves
  tree_is size leaves e f =
      subst (λ (s : Size). IsLawfulTree s ctu leaves) (sym e)
      (subst (λ (l : List Leaf). IsLawfulTree (size_of_task t) ctu l) (sym f) (choice_is_lawful (reference_of_task t) (picture_of (planes_of_task t)) (size_of_task t) t.effort ctu))

  pub kinds_are : (kind : SliceKind) (leaves : List Leaf) → kind ≡ kind_of_task t → leaves ≡ chosen t ctu → AreAllowed kind leaves
  kinds_are kind leaves e f =
      subst (λ (k : SliceKind). AreAllowed k leaves) (sym e)
      (subst (λ (l : List Leaf). AreAllowed (kind_of_task t) l) (sym f) (allowed_is (picture_of (planes_of_task t)) (size_of_task t) t.effort (reference_of_task t) ctu))

  leaves_at : ctu < tile_count (size_of_task t) → get_or (all_chosen t) ctu [] ≡ chosen t ctu
  leaves_at less = get_or-map-range_with_len (chosen t) 0 (ctus (size_of_task t).w * ctus (size_of_task t).h) ctu ctu [] less (omega arith)

  -- what is written is the definition's
  pub written : (grid : Cells) (source : Source) (kind : SliceKind) (size : Size) (leaves : List Leaf) (x y : Meaning) → IsReady t grid source ctu → kind ≡ kind_of_task t → size ≡ size_of_task t → leaves ≡ chosen t ctu
      → ctu < tile_count (size_of_task t) → ((before : List Leaf) → StandsFor grid before → Grew (ctu_items (leaf_units kind source) size before leaves ctu) x y) → Grew (items_of_task t ctu) x y
  written grid source kind size leaves x y ready ek es el less taken =
      let before : List Leaf = joined (take ctu (all_chosen t)) in
      let here : leaves ≡ get_or (all_chosen t) ctu [] = el ∙ sym (leaves_at less) in
      grew_as (ctu_items (leaf_units kind source) size before leaves ctu) (items_of_task t ctu) x y
      (ap (λ (k : SliceKind). ctu_items (leaf_units k source) size before leaves ctu) ek
      ∙ (ap (λ (s : Source). ctu_items (leaf_units (kind_of_task t) s) size before leaves ctu) ready.source_is
      ∙ (ap (λ (z : Size). ctu_items (leaf_units (kind_of_task t) (picture_source (size_of_task t) (picture_of (planes_of_task t)))) z before leaves ctu) es
      ∙ (ap (λ (l : List Leaf). ctu_items (leaf_units (kind_of_task t) (picture_source (size_of_task t) (picture_of (planes_of_task t)))) (size_of_task t) before l ctu) here
      ∙ ctu_same (kind_of_task t) (size_of_task t) (picture_of (planes_of_task t)) before before (get_or (all_chosen t) ctu []) ctu (tree_is (size_of_task t) (get_or (all_chosen t) ctu []) refl (leaves_at less)) (record { each = λ u v h. refl })))))
      (taken before ready.set)

  -- and one unit more is written
  pub one_ready : (grid next : Cells) (source then : Source) (leaves : List Leaf) → IsReady t grid source ctu → leaves ≡ chosen t ctu → ctu < tile_count (size_of_task t) → next.size ≡ grid.size → then ≡ source
      → ((before : List Leaf) → StandsFor grid before → StandsFor next (before ++ leaves)) → IsReady t next then (ctu + 1)
  one_ready grid next source then leaves ready el less same kept set =
      let one : ctu + 1 ≡ suc ctu = omega arith in
      record {
        task = ready.task;
        size = same ∙ ready.size;
        set = subst (StandsFor next)
            (ap (λ (l : List Leaf). joined (take ctu (all_chosen t)) ++ l) (el ∙ sym (leaves_at less)) ∙ (sym (joined_take (all_chosen t) ctu) ∙ ap (λ (k : ℕ). joined (take k (all_chosen t))) (sym one)))
            (set (joined (take ctu (all_chosen t))) ready.set);
        source_is = kept ∙ ready.source_is;
      }

same_map : (f g : ℕ → List ℕ) (list : List ℕ) → ((i : ℕ) → f i ≡ g i) → map f list ≡ map g list
same_map f g [] h = refl
same_map f g (x ∷ list) h = ap (λ (l : List ℕ). l ∷ map f list) (h x) ∙ ap (λ (l : List (List ℕ)). g x ∷ l) (same_map f g list h)

-- the rows are the segments of the definition
pub rows_are : (t given : Task) (kind : SliceKind) (size : Size) (rows : List (List ℕ)) → t ≡ given → kind ≡ kind_of_task given → size ≡ size_of_task given
    → rows ≡ map (code_of Segment kind size (items_of_task t)) (below (ctus size.h)) → rows ≡ map (segment_of_task given) (below (ctus (size_of_task given).h))
rows_are t given kind size rows et ek es e =
    e
    ∙ (ap (λ (u : Task). map (code_of Segment kind size (items_of_task u)) (below (ctus size.h))) et
    ∙ (ap (λ (k : SliceKind). map (code_of Segment k size (items_of_task given)) (below (ctus size.h))) ek
    ∙ (ap (λ (z : Size). map (code_of Segment (kind_of_task given) z (items_of_task given)) (below (ctus z.h))) es
    ∙ same_map (code_of Segment (kind_of_task given) (size_of_task given) (items_of_task given)) (segment_of_task given) (below (ctus (size_of_task given).h))
    (λ i. segment_code_is (kind_of_task given) (units_of_task given) (size_of_task given) (all_chosen given) i))))
