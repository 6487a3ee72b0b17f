-- The units that are read of a whole picture draw it, whatever they are drawn over.
use Rattle.std.proofs.Common.{◌≡◌, refl, sym, ◌∙◌, ap, subst, ℕ, zero, suc, ◌+◌, ◌-◌, ◌*◌, ◌<◌, List, [], ◌∷◌, ◌++◌, Bool, true, false, cond, ◌||◌, ⊎_elim, length, take, get_or, map, append_assoc, append-nil, arith, le_refl, take_all}
use Rattle.std.specs.List.{AllByRecursion}
use Rattle.std.proofs.lemmas.Bool.{and_parts, or_cases, ltb-true}
use Rattle.std.proofs.lemmas.List.{length-map}
use Rattle.std.proofs.lemmas.List.Folds.{list_any-append}
use Rattle.h265_model.specs.declared.leaf.SliceKind.{SliceKind}
use Rattle.h265_model.specs.declared.leaf.SliceKind.TheVariants.{I, P}
use Rattle.h265_model.specs.declared.leaf.Leaf.{Leaf}
use Rattle.h265_model.specs.Plain.{Size, Picture, coded, ctus, joined}
use Rattle.h265_model.specs.Predict.{is_inside, is_available}
use Rattle.h265_model.specs.Raster.{plane, planes, blank}
use Rattle.h265_model.specs.Tree.{IsLawfulTree, AreLawfulTrees, IsAllowed, AreAllowed}
use Rattle.h265_model.specs.Plain.{covers, leaf_side}
use Rattle.h265_model.specs.Rebuild.{sums}
use Rattle.h265_model.specs.Tree.{ReadUnit, Content, Copied, Moved, Samples, Levels, kind_of, vector_of, leaf_of}
use Rattle.h265_model.specs.Rebuild.{block_of, with_unit, with_units, rebuild}
use Rattle.h265_model.proofs.Squares.{same_places}
use Rattle.h265_laws.proofs.Coverage.{is_covered, Covers, IsPlaced, ArePlaced, CoversBlock, inside_from}
use Rattle.h265_laws.proofs.CoverLaw.{joined_cover}
use Rattle.h265_laws.proofs.RebuildLaw.{Agree, prediction_same, last_order}
use Rattle.read_laws.proofs.ReadTrees.{map-append}
use Rattle.read_laws.specs.Laws.{IsNoCopy, IsSound, AreTreesFrom, IsReadFirst, EachReadPictureIsDrawn}

-- ---- trees of leaves

abbrev leaves_from : List ReadUnit → List Leaf
leaves_from us = map leaf_of us

leaves_joined : (trees : List (List ReadUnit)) → joined (map leaves_from trees) ≡ leaves_from (joined trees)
leaves_joined [] = refl
leaves_joined (us ∷ trees) = ap (λ (l : List Leaf). leaves_from us ++ l) (leaves_joined trees) ∙ sym (map-append us (joined trees))

one_allowed : (kind : SliceKind) (c : Content) → IsNoCopy kind (vector_of c) → IsAllowed kind (kind_of c)
one_allowed I (Copied v) h = absurd (cc)
one_allowed I (Moved v) h = refl
one_allowed I (Samples planes) h = refl
one_allowed I (Levels mode planes) h = refl
one_allowed P c h = tt

all_allowed : (kind : SliceKind) (size : Size) (us : List ReadUnit) → AllByRecursion (IsSound kind size) us → AreAllowed kind (leaves_from us)
all_allowed kind size [] h = tt
all_allowed kind size (u ∷ us) h = (one_allowed kind u.content h.0.copies, all_allowed kind size us h.1)

tree_at : (kind : SliceKind) (size : Size) (ctu i : ℕ) (trees : List (List ReadUnit)) → AreTreesFrom kind size ctu trees → i < length trees
    → IsLawfulTree size (ctu + i) (get_or (map leaves_from trees) i []) × AreAllowed kind (get_or (map leaves_from trees) i [])
tree_at kind size ctu i [] h few = absurd (omega arith)
tree_at kind size ctu zero (us ∷ trees) h few = let e : ctu ≡ ctu + 0 = omega arith in (subst (λ (n : ℕ). IsLawfulTree size n (leaves_from us)) e h.0, all_allowed kind size us h.1)
tree_at kind size ctu (suc i) (us ∷ trees) h few =
    let e : suc ctu + i ≡ ctu + suc i = omega arith in
    let later = tree_at kind size (suc ctu) i trees h.2 (omega arith) in
    (subst (λ (n : ℕ). IsLawfulTree size n (get_or (map leaves_from trees) i [])) e later.0, later.1)

trees_lawful : (kind : SliceKind) (size : Size) (trees : List (List ReadUnit)) → AreTreesFrom kind size 0 trees → AreLawfulTrees kind size (map leaves_from trees) (length trees)
trees_lawful kind size trees h = record {
  tree = λ ctu few. let e : 0 + ctu ≡ ctu = omega arith in subst (λ (n : ℕ). IsLawfulTree size n (get_or (map leaves_from trees) ctu [])) e (tree_at kind size 0 ctu trees h few).0;
  allowed = λ ctu few. (tree_at kind size 0 ctu trees h few).1;
}

-- the units that were read cover the picture
pub read_cover : (kind : SliceKind) (size : Size) (units : List ReadUnit) → 0 < ctus size.w → IsReadFirst kind size (ctus size.w * ctus size.h) units
    → ArePlaced size [] (leaves_from units) × Covers size (leaves_from units) (ctus size.w * ctus size.h * 1024)
read_cover kind size units some is =
    let total : ℕ = ctus size.w * ctus size.h in
    let leaves : List (List Leaf) = map leaves_from is.trees in
    let long : length leaves ≡ total = length-map is.trees leaves_from ∙ is.many in
    let lawful : AreLawfulTrees kind size leaves total = subst (AreLawfulTrees kind size leaves) is.many (trees_lawful kind size is.trees is.lawful) in
    let all : joined (take total leaves) ≡ leaves_from units =
    ap (λ (l : List (List Leaf)). joined l) (take_all total leaves (omega arith)) ∙ (leaves_joined is.trees ∙ ap leaves_from is.together) in
    let block : CoversBlock size [] (leaves_from units) 0 (total * 1024) = subst (λ (l : List Leaf). CoversBlock size [] l 0 (total * 1024)) all (joined_cover kind size leaves total total some lawful (le_refl total)) in
    let e : 0 + total * 1024 ≡ total * 1024 = omega arith in
    (block.placed, subst (λ (n : ℕ). Covers size (leaves_from units) n) e block.covers)

-- ---- two canvases

pub block_same : (size : Size) (prev a b : Picture) (leaf : Leaf) (c : Content) (component : ℕ) → ((qx qy : ℕ) → is_available size leaf.block.x leaf.block.y qx qy ≡ true → a component qx qy ≡ b component qx qy)
    → block_of size prev a leaf c component ≡ block_of size prev b leaf c component
unfolding block_of
block_same size prev a b leaf (Copied v) component near = refl
block_same size prev a b leaf (Moved v) component near = refl
block_same size prev a b leaf (Samples planes) component near = refl
block_same size prev a b leaf (Levels mode planes) component near = ap (λ (p : List ℕ). sums p (get_or planes component [])) (prediction_same size a b mode component leaf.block.x leaf.block.y leaf.block.log2 near)

unit_same : (size : Size) (prev a b : Picture) (before : List Leaf) (unit : ReadUnit) → IsPlaced size before (leaf_of unit) → Agree a b before → Agree (with_unit size prev a unit) (with_unit size prev b unit) (before ++ leaf_of unit ∷ [])
unit_same size prev a b before unit placed agree = record { each = λ component x y small covered. at component x y small covered }
  where
    earlier : (x y : ℕ) (t : Bool) → t ≡ false → (is_covered before x y || (t || false)) ≡ true → is_covered before x y ≡ true
    earlier x y true e h = absurd (cc)
    earlier x y false e h = ⊎_elim (λ k. k) (λ k. absurd (cc)) (or_cases (is_covered before x y) false h)

    at : (component x y : ℕ) → component < 3 → is_covered (before ++ leaf_of unit ∷ []) x y ≡ true → with_unit size prev a unit component x y ≡ with_unit size prev b unit component x y
    at component x y small covered = go (covers x y (leaf_of unit)) refl
      where
        near : (qx qy : ℕ) → is_available size unit.block.x unit.block.y qx qy ≡ true → a component qx qy ≡ b component qx qy
        near qx qy h = let p = and_parts _ _ h in agree.each component qx qy small (placed.behind.each qx qy p.0 (ltb-true _ _ p.1))

        go : (t : Bool) → covers x y (leaf_of unit) ≡ t
            → cond t (get_or (block_of size prev a (leaf_of unit) unit.content component) ((y - unit.block.y) * leaf_side (leaf_of unit) + (x - unit.block.x)) 0) (a component x y)
            ≡ cond t (get_or (block_of size prev b (leaf_of unit) unit.content component) ((y - unit.block.y) * leaf_side (leaf_of unit) + (x - unit.block.x)) 0) (b component x y)
        go true e = ap (λ (l : List ℕ). get_or l ((y - unit.block.y) * leaf_side (leaf_of unit) + (x - unit.block.x)) 0) (block_same size prev a b (leaf_of unit) unit.content component near)
        go false e = agree.each component x y small (earlier x y (covers x y (leaf_of unit)) e (sym (list_any-append (covers x y) before (leaf_of unit ∷ [])) ∙ covered))

units_same : (size : Size) (prev a b : Picture) (before : List Leaf) (units : List ReadUnit) → ArePlaced size before (leaves_from units) → Agree a b before
    → Agree (with_units size prev a units) (with_units size prev b units) (before ++ leaves_from units)
units_same size prev a b before [] placed agree = subst (Agree a b) (sym (append-nil before)) agree
units_same size prev a b before (unit ∷ units) placed agree =
    subst (Agree (with_units size prev a (unit ∷ units)) (with_units size prev b (unit ∷ units))) (append_assoc before (leaf_of unit ∷ []) (leaves_from units))
    (units_same size prev (with_unit size prev a unit) (with_unit size prev b unit) (before ++ leaf_of unit ∷ []) units placed.1 (unit_same size prev a b before unit placed.0 agree))

pub pictures_are_drawn : EachReadPictureIsDrawn
unfolding rebuild
pictures_are_drawn kind size prev canvas units some is =
    let cover = read_cover kind size units some is in
    let whole : Agree (with_units size prev canvas units) (with_units size prev blank units) (leaves_from units) =
    units_same size prev canvas blank [] units cover.0 (record { each = λ component x y small h. absurd (cc) }) in
    let one : (component : ℕ) → component < 3 → plane size (with_units size prev canvas units) component ≡ plane size (with_units size prev blank units) component =
    λ component small. same_places (coded size.w) (coded size.h) (with_units size prev canvas units component) (with_units size prev blank units component)
    (λ x y hx hy. let inside : is_inside size x y ≡ true = inside_from size x y hx hy in whole.each component x y small (cover.1.each x y inside (last_order size x y inside))) in
    rw (one 0 (omega arith), one 1 (omega arith), one 2 (omega arith)) refl
