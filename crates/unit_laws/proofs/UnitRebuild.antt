-- What was read of a picture's units rebuilds the picture, where blocks may be copied from other places.
use Rattle.std.proofs.Common.{◌≡◌, refl, sym, ◌∙◌, ap, subst, ℕ, ◌+◌, ◌-◌, ◌*◌, ◌<◌, List, [], ◌∷◌, ◌++◌, Bool, true, false, cond, ◌||◌, ⊎_elim, get_or, append_assoc, append-nil, arith}
use Rattle.std.proofs.lemmas.Bool.{and_parts, or_cases, ltb-true}
use Rattle.std.proofs.lemmas.List.Folds.{list_any-append}
use Rattle.h265_model.specs.declared.leaf.Leaf.{Leaf}
use Rattle.h265_model.specs.declared.leaf.Kind.{Kind}
use Rattle.h265_model.specs.declared.leaf.Kind.TheVariants.{Skip, Pcm, Intra}
use Rattle.h265_model.specs.declared.moves.MoveLeaf.{MoveLeaf}
use Rattle.h265_model.specs.declared.moves.MoveKind.{MoveKind}
use Rattle.h265_model.specs.declared.moves.MoveKind.TheVariants as moves
use Rattle.h265_model.specs.Plain.{Size, Picture, coded, joined, leaf_with, IsPicture}
use Rattle.h265_model.specs.Predict.{is_inside, is_available}
use Rattle.h265_model.specs.Raster.{plane, blank}
use Rattle.h265_model.specs.Tree.{source_of, samples_in}
use Rattle.h265_model.specs.Plain.{covers, leaf_side}
use Rattle.h265_laws.proofs.LeafReading.{content_of}
use Rattle.h265_laws.proofs.LeafDecoding as Old
use Rattle.h265_model.specs.Rebuild.{with_block}
use Rattle.h265_model.specs.Motion.{Moving, leaf_as_coded, kind_as_coded, as_coded}
use Rattle.h265_model.specs.Tree.{ReadUnit, kind_of}
use Rattle.h265_model.specs.Rebuild.{block_of, with_unit, with_units, rebuild}
use Rattle.h265_model.proofs.Squares.{same_places}
use Rattle.h265_laws.proofs.Coverage.{is_covered, IsPlaced, ArePlaced, inside_from}
use Rattle.h265_laws.proofs.RebuildLaw.{Agree, block_back, at_samples, last_order}
use Rattle.unit_laws.specs.Laws.{IsCopied, AreCopied, unit_content, reads_after, EachUnitPictureIsRebuilt}
use Rattle.unit_laws.proofs.UnitCover.{leaves_from, units_cover}

-- ---- one unit

kind_read : (now : Picture) (size : Size) (before : List Moving) (unit : MoveLeaf) (k : MoveKind) → kind_of (unit_content (source_of size now) before unit k) ≡ kind_as_coded k
kind_read now size before unit moves.Skip = refl
kind_read now size before unit (moves.Move v) = refl
kind_read now size before unit moves.Pcm = refl
kind_read now size before unit (moves.Intra mode) = refl

-- the block that is laid in is the picture's
unit_back : (size : Size) (prev now cur : Picture) (before : List Moving) (unit : MoveLeaf) (component : ℕ) → component < 3 → IsPicture now → IsCopied prev now before unit unit.kind
    → ((qx qy : ℕ) → is_available size unit.block.x unit.block.y qx qy ≡ true → cur component qx qy ≡ now component qx qy)
    → block_of size prev cur (leaf_as_coded unit) (unit_content (source_of size now) before unit unit.kind) component ≡ samples_in now (leaf_as_coded unit) component
unfolding block_of Old.block_of
unit_back size prev now cur before unit component small is copied near = go unit.kind refl copied
  where
    leaf : Leaf
    leaf = leaf_as_coded unit

    coded_back : (k : Kind) → leaf.kind ≡ k → (k ≡ Skip → ⊥) → Old.block_of size prev cur leaf (content_of (source_of size now) leaf k) component ≡ samples_in now leaf component
    coded_back k e plain =
        ap (λ (j : Kind). Old.block_of size prev cur leaf (content_of (source_of size now) leaf j) component) (sym e)
        ∙ block_back size prev now cur leaf component small is (λ s. absurd (plain (sym e ∙ s))) near

    go : (k : MoveKind) → unit.kind ≡ k → IsCopied prev now before unit k → block_of size prev cur leaf (unit_content (source_of size now) before unit k) component ≡ samples_in now leaf component
    go moves.Skip e c = c component small
    go (moves.Move v) e c = c component small
    go moves.Pcm e c = coded_back Pcm (ap kind_as_coded e) (λ s. absurd (cc))
    go (moves.Intra mode) e c = coded_back (Intra mode) (ap kind_as_coded e) (λ s. absurd (cc))

-- a block of a picture laid into one that has all earlier ones
block_agrees : (now cur : Picture) (before : List Leaf) (leaf : Leaf) (blocks : ℕ → List ℕ) → ((component : ℕ) → component < 3 → blocks component ≡ samples_in now leaf component)
    → Agree cur now before → Agree (with_block cur leaf blocks) now (before ++ leaf ∷ [])
block_agrees now cur before leaf blocks back agree = record { each = λ component x y small covered. at component x y small covered }
  where
    earlier : (x y : ℕ) (t : Bool) → t ≡ false → (is_covered before x y || (t || false)) ≡ true → is_covered before x y ≡ true
    earlier x y true e h = absurd (cc)
    earlier x y false e h = ⊎_elim (λ k. k) (λ k. absurd (cc)) (or_cases (is_covered before x y) false h)

    at : (component x y : ℕ) → component < 3 → is_covered (before ++ leaf ∷ []) x y ≡ true → with_block cur leaf blocks component x y ≡ now component x y
    at component x y small covered = go (covers x y leaf) refl
      where
        go : (t : Bool) → covers x y leaf ≡ t → cond t (get_or (blocks component) ((y - leaf.block.y) * leaf_side leaf + (x - leaf.block.x)) 0) (cur component x y) ≡ now component x y
        go true e = ap (λ (l : List ℕ). get_or l ((y - leaf.block.y) * leaf_side leaf + (x - leaf.block.x)) 0) (back component small) ∙ at_samples now leaf component x y e
        go false e = agree.each component x y small (earlier x y (covers x y leaf) e (sym (list_any-append (covers x y) before (leaf ∷ [])) ∙ covered))

unit_rebuilt : (size : Size) (prev now cur : Picture) (before : List Moving) (placed_before : List Leaf) (unit : MoveLeaf) → IsPicture now → IsCopied prev now before unit unit.kind → IsPlaced size placed_before (leaf_as_coded unit)
    → Agree cur now placed_before
    → Agree (with_unit size prev cur (record { block = unit.block; content = unit_content (source_of size now) before unit unit.kind })) now (placed_before ++ leaf_as_coded unit ∷ [])
unit_rebuilt size prev now cur before placed_before unit is copied placed agree =
    subst
    (λ (k : Kind). Agree (with_block cur (leaf_with unit.block k) (block_of size prev cur (leaf_with unit.block k) (unit_content (source_of size now) before unit unit.kind))) now (placed_before ++ leaf_as_coded unit ∷ []))
    (sym (kind_read now size before unit unit.kind))
    (block_agrees now cur placed_before (leaf_as_coded unit) _
    (λ component small. unit_back size prev now cur before unit component small is copied
    (λ qx qy h. let p = and_parts _ _ h in agree.each component qx qy small (placed.behind.each qx qy p.0 (ltb-true _ _ p.1))))
    agree)

-- ---- all units

units_rebuilt : (size : Size) (prev now cur : Picture) (before : List Moving) (placed_before : List Leaf) (units : List MoveLeaf) → IsPicture now → AreCopied prev now before units → ArePlaced size placed_before (leaves_from units) → Agree cur now placed_before
    → Agree (with_units size prev cur (reads_after (source_of size now) before units)) now (placed_before ++ leaves_from units)
units_rebuilt size prev now cur before placed_before [] is copied placed agree = subst (λ (l : List Leaf). Agree cur now l) (sym (append-nil placed_before)) agree
units_rebuilt size prev now cur before placed_before (unit ∷ units) is copied placed agree =
    let read : ReadUnit = record { block = unit.block; content = unit_content (source_of size now) before unit unit.kind } in
    let next : Picture = with_unit size prev cur read in
    let after : List Moving = before ++ as_coded before unit ∷ [] in
    subst (λ (l : List Leaf). Agree (with_units size prev next (reads_after (source_of size now) after units)) now l) (append_assoc placed_before (leaf_as_coded unit ∷ []) (leaves_from units))
    (units_rebuilt size prev now next after (placed_before ++ leaf_as_coded unit ∷ []) units is copied.1 placed.1 (unit_rebuilt size prev now cur before placed_before unit is copied.0 placed.0 agree))

-- the planes that are rebuilt are those of the picture
pub pictures_are_rebuilt : EachUnitPictureIsRebuilt
unfolding rebuild
pictures_are_rebuilt kind size prev now units some many are is copied =
    let reads : List ReadUnit = reads_after (source_of size now) [] (joined units) in
    let cover = units_cover kind size units some many are in
    let whole : Agree (with_units size prev blank reads) now (leaves_from (joined units)) =
    units_rebuilt size prev now blank [] [] (joined units) is copied cover.0 (record { each = λ component x y small h. absurd (cc) }) in
    let one : (component : ℕ) → component < 3 → plane size (with_units size prev blank reads) component ≡ plane size now component =
    λ component small. same_places (coded size.w) (coded size.h) (with_units size prev blank reads component) (now component)
    (λ x y hx hy. let inside : is_inside size x y ≡ true = inside_from size x y hx hy in whole.each component x y small (cover.1.each x y inside (last_order size x y inside))) in
    rw (one 0 (omega arith), one 1 (omega arith), one 2 (omega arith)) refl
