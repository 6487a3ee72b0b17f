-- Copies without motion may be left out where a picture is drawn over the picture before.
use Rattle.std.proofs.Common.{◌≡◌, refl, sym, ◌∙◌, ap, ℕ, ◌+◌, ◌-◌, ◌*◌, ◌<◌, List, [], ◌∷◌, ◌++◌, Bool, true, false, cond, not, ◌||◌, map, get_or, add-zero, arith}
use Rattle.std.specs.Prelude.{ℤ, pos, negsuc}
use Rattle.std.proofs.lemmas.Bool.{and_parts, eqb-true}
use Rattle.std.proofs.lemmas.List.Folds.{list_any-append}
use Rattle.h265_model.specs.declared.leaf.Leaf.{Leaf}
use Rattle.h265_model.specs.declared.moves.Vector.{Vector}
use Rattle.h265_model.specs.Plain.{Size, Picture, coded, ctus}
use Rattle.h265_model.specs.Raster.{plane, planes}
use Rattle.h265_model.specs.Tree.{samples_in}
use Rattle.h265_model.specs.Plain.{covers, leaf_side}
use Rattle.h265_model.specs.Motion.{vector, no_motion, int_eq, is_vector}
use Rattle.h265_model.specs.Tree.{ReadUnit, Content, Copied, Moved, Samples, Levels, leaf_of}
use Rattle.h265_model.specs.Rebuild.{moved_samples, block_of, with_unit, with_units}
use Rattle.h265_model.proofs.Squares.{same_places}
use Rattle.h265_laws.proofs.Coverage.{is_covered}
use Rattle.h265_laws.proofs.RebuildLaw.{at_samples}
use Rattle.read_laws.specs.Laws.{AreApart, is_still_copy, changing, EachStillCopyIsLeftOut, EachPictureIsDrawnInPlace}
use Rattle.read_laws.proofs.Apart.{places_are_apart}
use Rattle.read_laws.proofs.Drawn.{block_same, pictures_are_drawn}

-- ---- copies without motion

no_part : (z : ℤ) → int_eq z (pos 0) ≡ true → z ≡ pos 0
no_part (pos m) h = ap (λ (n : ℕ). pos n) (eqb-true m 0 h)
no_part (negsuc m) h = absurd (cc)

still_is : (v : Vector) → is_vector v no_motion ≡ true → v ≡ no_motion
still_is v h =
    let p = and_parts (int_eq v.x (pos 0)) (int_eq v.y (pos 0)) h in
    ap (λ (z : ℤ). vector z v.y) (no_part v.x p.0) ∙ ap (λ (z : ℤ). vector (pos 0) z) (no_part v.y p.1)

-- the samples that it draws are those of the picture before at the same places
still_samples : (prev : Picture) (leaf : Leaf) (component : ℕ) → moved_samples prev leaf no_motion component ≡ samples_in prev leaf component
unfolding moved_samples
still_samples prev leaf component =
    same_places (leaf_side leaf) (leaf_side leaf) (λ x y. prev component (leaf.block.x + x + 0) (leaf.block.y + y + 0)) (λ x y. prev component (leaf.block.x + x) (leaf.block.y + y))
    (λ x y hx hy. ap (λ (n : ℕ). prev component n (leaf.block.y + y + 0)) (add-zero (leaf.block.x + x)) ∙ ap (λ (n : ℕ). prev component (leaf.block.x + x) n) (add-zero (leaf.block.y + y)))

still_at : (size : Size) (prev now : Picture) (leaf : Leaf) (c : Content) (component x y : ℕ) → is_still_copy c ≡ true → covers x y leaf ≡ true
    → get_or (block_of size prev now leaf c component) ((y - leaf.block.y) * leaf_side leaf + (x - leaf.block.x)) 0 ≡ prev component x y
unfolding block_of
still_at size prev now leaf (Copied v) component x y still inside =
    ap (λ (w : Vector). get_or (moved_samples prev leaf w component) ((y - leaf.block.y) * leaf_side leaf + (x - leaf.block.x)) 0) (still_is v still)
    ∙ (ap (λ (l : List ℕ). get_or l ((y - leaf.block.y) * leaf_side leaf + (x - leaf.block.x)) 0) (still_samples prev leaf component) ∙ at_samples prev leaf component x y inside)
still_at size prev now leaf (Moved v) component x y still inside = absurd (cc)
still_at size prev now leaf (Samples planes) component x y still inside = absurd (cc)
still_at size prev now leaf (Levels mode planes) component x y still inside = absurd (cc)

-- ---- two canvases

-- the same everywhere
abbrev IsSame : Picture → Picture → Type 0
IsSame a b = (component x y : ℕ) → component < 3 → a component x y ≡ b component x y

-- the picture before wherever none of these leaves is
abbrev IsUntouched : Picture → Picture → List Leaf → Type 0
IsUntouched prev now before = (component x y : ℕ) → component < 3 → is_covered before x y ≡ false → now component x y ≡ prev component x y

neither_of : (b c : Bool) → (b || (c || false)) ≡ false → (b ≡ false) × (c ≡ false)
neither_of true c h = absurd (cc)
neither_of false true h = absurd (cc)
neither_of false false h = (refl, refl)

untouched_after : (size : Size) (prev now : Picture) (before : List Leaf) (unit : ReadUnit) → IsUntouched prev now before → IsUntouched prev (with_unit size prev now unit) (before ++ leaf_of unit ∷ [])
untouched_after size prev now before unit h component x y small clear =
    let p = neither_of (is_covered before x y) (covers x y (leaf_of unit)) (sym (list_any-append (covers x y) before (leaf_of unit ∷ [])) ∙ clear) in
    ap (λ (t : Bool). cond t (get_or (block_of size prev now (leaf_of unit) unit.content component) ((y - unit.block.y) * leaf_side (leaf_of unit) + (x - unit.block.x)) 0) (now component x y)) p.1
    ∙ h component x y small p.0

drawn_same : (size : Size) (prev a b : Picture) (unit : ReadUnit) → IsSame a b → IsSame (with_unit size prev a unit) (with_unit size prev b unit)
drawn_same size prev a b unit h component x y small = go (covers x y (leaf_of unit))
  where
    go : (t : Bool) → cond t (get_or (block_of size prev a (leaf_of unit) unit.content component) ((y - unit.block.y) * leaf_side (leaf_of unit) + (x - unit.block.x)) 0) (a component x y)
        ≡ cond t (get_or (block_of size prev b (leaf_of unit) unit.content component) ((y - unit.block.y) * leaf_side (leaf_of unit) + (x - unit.block.x)) 0) (b component x y)
    go true =
        ap (λ (l : List ℕ). get_or l ((y - unit.block.y) * leaf_side (leaf_of unit) + (x - unit.block.x)) 0)
        (block_same size prev a b (leaf_of unit) unit.content component (λ qx qy k. h component qx qy small))
    go false = h component x y small

left_same : (size : Size) (prev a b : Picture) (before : List Leaf) (unit : ReadUnit) → IsSame a b → IsUntouched prev b before → ((x y : ℕ) → covers x y (leaf_of unit) ≡ true → is_covered before x y ≡ false)
    → is_still_copy unit.content ≡ true → IsSame a (with_unit size prev b unit)
left_same size prev a b before unit h untouched apart still component x y small = go (covers x y (leaf_of unit)) refl
  where
    go : (t : Bool) → covers x y (leaf_of unit) ≡ t
        → a component x y ≡ cond t (get_or (block_of size prev b (leaf_of unit) unit.content component) ((y - unit.block.y) * leaf_side (leaf_of unit) + (x - unit.block.x)) 0) (b component x y)
    go true e = h component x y small ∙ (untouched component x y small (apart x y e) ∙ sym (still_at size prev b (leaf_of unit) unit.content component x y still e))
    go false e = h component x y small

-- ---- all units

all_same : (size : Size) (prev a b : Picture) (before : List Leaf) (units : List ReadUnit) → AreApart before (map leaf_of units) → IsSame a b → IsUntouched prev b before
    → IsSame (with_units size prev a (changing units)) (with_units size prev b units)
all_same size prev a b before [] apart h untouched = h
all_same size prev a b before (unit ∷ units) apart h untouched =
    go (is_still_copy unit.content) refl
    (λ c k. all_same size prev c (with_unit size prev b unit) (before ++ leaf_of unit ∷ []) units apart.1 k (untouched_after size prev b before unit untouched))
  where
    next : Picture
    next = with_unit size prev b unit

    Later : Type 0
    Later = (c : Picture) → IsSame c next → IsSame (with_units size prev c (changing units)) (with_units size prev next units)

    go : (t : Bool) → is_still_copy unit.content ≡ t → Later → IsSame (with_units size prev a (cond (not t) (unit ∷ changing units) (changing units))) (with_units size prev next units)
    go true e later = later a (left_same size prev a b before unit h untouched apart.0 e)
    go false e later = later (with_unit size prev a unit) (drawn_same size prev a b unit h)

pub still_copies_are_left_out : EachStillCopyIsLeftOut
still_copies_are_left_out kind size n prev units is =
    all_same size prev prev prev [] units (places_are_apart kind size n units is) (λ component x y small. refl) (λ component x y small clear. refl)

pub pictures_are_drawn_in_place : EachPictureIsDrawnInPlace
pictures_are_drawn_in_place kind size prev units some is =
    let few : Picture = with_units size prev prev (changing units) in
    let all : Picture = with_units size prev prev units in
    let one : (component : ℕ) → component < 3 → plane size few component ≡ plane size all component =
    λ component small. same_places (coded size.w) (coded size.h) (few component) (all component) (λ x y hx hy. still_copies_are_left_out kind size (ctus size.w * ctus size.h) prev units is component x y small) in
    let same : planes size few ≡ planes size all = rw (one 0 (omega arith), one 1 (omega arith), one 2 (omega arith)) refl in
    same ∙ pictures_are_drawn kind size prev prev units some is
