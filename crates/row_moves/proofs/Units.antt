-- The coding units of a picture: those of each coding tree unit, and what holds of all of them.
use Rattle.std.proofs.Common.{◌≡◌, refl, sym, ◌∙◌, ap, subst, ℕ, ◌*◌, ◌<◌, List, [], ◌∷◌, false, length, get_or, map, arith}
use Rattle.std.specs.Prelude.{Option, Some, None, is_none}
use Rattle.std.proofs.lemmas.List.{length-map}
use Rattle.std.proofs.lemmas.List.FromFn.{length-map-range_with_len, get_or-map-range_with_len}
use Rattle.h265_model.specs.declared.leaf.Kind.{Kind}
use Rattle.h265_model.specs.declared.leaf.Kind.TheVariants.{Skip, Pcm, Intra}
use Rattle.h265_model.specs.declared.leaf.Leaf.{Leaf}
use Rattle.h265_model.specs.declared.leaf.SliceKind.TheVariants.{I}
use Rattle.h265_model.specs.declared.moves.MoveLeaf.{MoveLeaf}
use Rattle.h265_model.specs.Plain.{Size, Picture, ctus, below}
use Rattle.h265_model.specs.Choice.{choice}
use Rattle.h265_model.specs.Motion.{Moving, still, still_kind}
use Rattle.h265_model.specs.MotionChoice.{moved_choice}
use Rattle.h265_model.specs.Settings.{Settings}
use Rattle.h265_model.specs.Stream.{slice_kind, moved_units}
use Rattle.h265_model.specs.Tiles.{tile_count}
use Rattle.h265_model.specs.Tree.{IsLawfulTree, AreAllowed, is_skipped, coded_first}
use Rattle.h265_laws.proofs.ChoiceLaw.{choice_is_lawful}
use Rattle.unit_laws.specs.Laws.{AreLawfulUnits}
use Rattle.unit_laws.proofs.StillLaw.{leaf_still, at_same}
use Rattle.unit_laws.proofs.StillUnits.{lawful_still}
use Rattle.motion_laws.proofs.MovedChoice.{chosen_length, chosen_here, chosen_lawful}
use Rattle.px_plane.specs.Planes.{Planes, picture_of}
use Rattle.motion_code.specs.Moves.{MayStand, MayAllStand, coded_leaves}
use Rattle.picture_encoder.specs.declared.planning.Task.{Task}
use Rattle.picture_encoder.specs.Planning.{planes_of_task, size_of_task, kind_of_task, reference_of_task, chosen}
use Rattle.picture_encoder.proofs.Choices.{lawful_are, allowed_is}
use Rattle.row_moves.specs.Moves.{moved, all_units}

-- ---- units of which none moves

coded_still : (leaves : List Leaf) → coded_leaves (map still leaves) ≡ leaves
coded_still [] = refl
coded_still (leaf ∷ leaves) = ap (λ (l : Leaf). l ∷ coded_leaves (map still leaves)) (leaf_still leaf) ∙ ap (λ (l : List Leaf). leaf ∷ l) (coded_still leaves)

may_stand : (kind : Kind) → is_skipped kind ≡ false → MayStand I (still_kind kind)
may_stand Skip e = absurd (cc)
may_stand Pcm e = tt
may_stand (Intra mode) e = tt

stand_still : (leaves : List Leaf) → AreAllowed I leaves → MayAllStand I (map still leaves)
stand_still [] all = tt
stand_still (leaf ∷ leaves) all = (may_stand leaf.kind all.0, stand_still leaves all.1)

-- ---- the units of a picture

-- they are the same, whatever the distance of IDR pictures
pub same_units : (settings : Settings) (before : Option Picture) (now : Picture) → moved_units (moved settings.size settings.effort 0) before now ≡ moved_units settings before now
unfolding moved_units
same_units settings None now = refl
same_units settings (Some prev) now = refl

module _ (now : Picture) (size : Size) (effort : ℕ) where
  abbrev total : ℕ
  total = ctus size.w * ctus size.h

  abbrev units : Option Picture → List (List MoveLeaf)
  units before = moved_units (moved size effort 0) before now

  -- those of a coding tree unit, after a picture before
  pub chosen_after : (prev : Picture) (ctu : ℕ) → ctu < total → get_or (units (Some prev)) ctu [] ≡ moved_choice prev now size effort (coded_first (units (Some prev)) ctu) ctu
  unfolding moved_units
  chosen_after prev ctu less = chosen_here prev now size effort total ctu less

  -- and without one
  pub chosen_alone : (ctu : ℕ) → ctu < total → get_or (units None) ctu [] ≡ map still (choice None now size effort ctu)
  unfolding moved_units
  chosen_alone ctu less =
      at_same ctu (map (choice None now size effort) (below total))
      ∙ ap (λ (l : List Leaf). map still l) (get_or-map-range_with_len (choice None now size effort) 0 total ctu ctu [] less (omega arith))

  pub tree_alone : (ctu : ℕ) → IsLawfulTree size ctu (coded_leaves (map still (choice None now size effort ctu)))
  tree_alone ctu = subst (IsLawfulTree size ctu) (sym (coded_still (choice None now size effort ctu))) (choice_is_lawful None now size effort ctu)

  pub stand_alone : (ctu : ℕ) → MayAllStand I (map still (choice None now size effort ctu))
  stand_alone ctu = stand_still (choice None now size effort ctu) (allowed_is now size effort None ctu)

  -- a list for each coding tree unit
  pub many_units : (before : Option Picture) → length (units before) ≡ total
  unfolding moved_units
  many_units None = length-map (map (choice None now size effort) (below total)) (map still) ∙ length-map-range_with_len (choice None now size effort) 0 total
  many_units (Some prev) = chosen_length prev now size effort total [] 0

  -- they are lawful
  pub lawful_units : (before : Option Picture) → 0 < ctus size.w → AreLawfulUnits (slice_kind (is_none before)) size (units before) total
  unfolding moved_units
  lawful_units None wide = lawful_still I size (map (choice None now size effort) (below total)) total wide (lawful_are now size effort None total)
  lawful_units (Some prev) wide = chosen_lawful prev now size effort total

-- ---- the units of a coding tree unit of a task

-- these are the definition's, and may be written
pub record ArePlanned (t : Task) (ctu : ℕ) (list : List MoveLeaf) : Type 0 where
  pub chosen : list ≡ get_or (all_units t) ctu []
  pub tree : IsLawfulTree (size_of_task t) ctu (coded_leaves list)
  pub allowed : MayAllStand (kind_of_task t) list

module _ (t : Task) (ctu : ℕ) where
  pub after_picture : (prev : Picture) (now : Planes) (list : List MoveLeaf) → reference_of_task t ≡ Some prev → now ≡ planes_of_task t → ctu < tile_count (size_of_task t)
      → list ≡ moved_choice prev (picture_of now) now.size t.effort (coded_first (all_units t) ctu) ctu → list ≡ get_or (all_units t) ctu []
  after_picture prev now list some same less is =
      let picture : Picture = picture_of (planes_of_task t) in
      let before : List Moving = coded_first (all_units t) ctu in
      is
      ∙ (ap (λ (p : Planes). moved_choice prev (picture_of p) p.size t.effort before ctu) same
      ∙ subst (λ (r : Option Picture). moved_choice prev picture (size_of_task t) t.effort (coded_first (units picture (size_of_task t) t.effort r) ctu) ctu ≡ get_or (units picture (size_of_task t) t.effort r) ctu [])
      (sym some) (sym (chosen_after picture (size_of_task t) t.effort prev ctu less)))

  pub alone : (found : List Leaf) (list : List MoveLeaf) → reference_of_task t ≡ None → ctu < tile_count (size_of_task t) → found ≡ chosen t ctu → list ≡ map still found → ArePlanned t ctu list
  alone found list none less chose is =
      let picture : Picture = picture_of (planes_of_task t) in
      let still_is : list ≡ map still (choice None picture (size_of_task t) t.effort ctu) =
      is ∙ ap (λ (l : List Leaf). map still l) (chose ∙ ap (λ (r : Option Picture). choice r picture (size_of_task t) t.effort ctu) none) in
      record {
        chosen = still_is
            ∙ (sym (chosen_alone picture (size_of_task t) t.effort ctu less) ∙ ap (λ (r : Option Picture). get_or (units picture (size_of_task t) t.effort r) ctu []) (sym none));
        tree = subst (λ (l : List MoveLeaf). IsLawfulTree (size_of_task t) ctu (coded_leaves l)) (sym still_is) (tree_alone picture (size_of_task t) t.effort ctu);
        allowed = subst (λ (r : Option Picture). MayAllStand (slice_kind (is_none r)) list) (sym none)
            (subst (MayAllStand I) (sym still_is) (stand_alone picture (size_of_task t) t.effort ctu));
      }
