-- The leaves of units are lawful trees, so that they cover the picture.
use Rattle.std.proofs.Common.{◌≡◌, refl, sym, ◌∙◌, ap, subst, ℕ, zero, suc, ◌+◌, ◌*◌, ◌^◌, ◌<◌, List, [], ◌∷◌, ◌++◌, Bool, true, false, ⊎_elim, take, map, get_or, length, inl, inr, arith, le_refl, take_all}
use Rattle.std.specs.Prelude.{MatchBool, ◌⊎◌}
use Rattle.std.proofs.lemmas.List.{length-map}
use Rattle.h265_model.specs.declared.leaf.SliceKind.{SliceKind}
use Rattle.h265_model.specs.declared.leaf.SliceKind.TheVariants.{I, P}
use Rattle.h265_model.specs.declared.leaf.Leaf.{Leaf}
use Rattle.h265_model.specs.declared.moves.MoveLeaf.{MoveLeaf}
use Rattle.h265_model.specs.declared.moves.MoveKind.{MoveKind}
use Rattle.h265_model.specs.declared.moves.MoveKind.TheVariants as moves
use Rattle.h265_model.specs.Plain.{block_at, Size, ctus, joined, ctu_x, ctu_y}
use Rattle.h265_model.specs.Predict.{is_inside}
use Rattle.h265_model.specs.Tree.{IsTree, IsLawfulTree, IsCodingUnit, AreQuarters, AreLawfulTrees, IsMode, AreModes, IsAllowed, AreAllowed, is_whole}
use Rattle.h265_model.specs.Motion.{Moving, leaf_as_coded, kind_as_coded, as_coded}
use Rattle.h265_model.proofs.ListParts.{all_front, all_back}
use Rattle.h265_laws.proofs.Coverage.{Covers, ArePlaced, CoversBlock}
use Rattle.h265_laws.proofs.CoverLaw.{joined_cover}
use Rattle.unit_laws.specs.Laws.{CanStand, CanStandAll, IsOneUnit, AreFourParts, IsUnitTree, AreLawfulUnits}

-- the leaves of units
abbrev pub leaves_from : List MoveLeaf → List Leaf
leaves_from units = map leaf_as_coded units

from-append : (a b : List MoveLeaf) → leaves_from (a ++ b) ≡ leaves_from a ++ leaves_from b
from-append [] b = refl
from-append (u ∷ a) b = ap (λ (l : List Leaf). leaf_as_coded u ∷ l) (from-append a b)

-- ---- modes and kinds

one_mode : (kind : SliceKind) (size : Size) (before : List Moving) (x y log2 : ℕ) (k : MoveKind) → CanStand kind size before (block_at x y log2) k → IsMode (kind_as_coded k)
one_mode kind size before x y log2 moves.Skip h = tt
one_mode kind size before x y log2 (moves.Move v) h = tt
one_mode kind size before x y log2 moves.Pcm h = tt
one_mode I size before x y log2 (moves.Intra m) h = h
one_mode P size before x y log2 (moves.Intra m) h = h

one_allowed : (kind : SliceKind) (size : Size) (before : List Moving) (x y log2 : ℕ) (k : MoveKind) → CanStand kind size before (block_at x y log2) k → IsAllowed kind (kind_as_coded k)
one_allowed I size before x y log2 moves.Skip h = elim h [ ]
one_allowed I size before x y log2 (moves.Move v) h = refl
one_allowed I size before x y log2 moves.Pcm h = refl
one_allowed I size before x y log2 (moves.Intra m) h = refl
one_allowed P size before x y log2 k h = tt

pub stand_modes : (kind : SliceKind) (size : Size) (before : List Moving) (us : List MoveLeaf) → CanStandAll kind size before us → AreModes (leaves_from us)
stand_modes kind size before [] h = tt
stand_modes kind size before (u ∷ us) h = (one_mode kind size before u.block.x u.block.y u.block.log2 u.kind h.0, stand_modes kind size (before ++ as_coded before u ∷ []) us h.1)

stand_allowed : (kind : SliceKind) (size : Size) (before : List Moving) (us : List MoveLeaf) → CanStandAll kind size before us → AreAllowed kind (leaves_from us)
stand_allowed kind size before [] h = tt
stand_allowed kind size before (u ∷ us) h = (one_allowed kind size before u.block.x u.block.y u.block.log2 u.kind h.0, stand_allowed kind size (before ++ as_coded before u ∷ []) us h.1)

-- ---- trees

one_leaf : (x y log2 : ℕ) (us : List MoveLeaf) → AreModes (leaves_from us) → IsOneUnit (block_at x y log2) us → IsCodingUnit (block_at x y log2) (leaves_from us)
one_leaf x y log2 us modes u = record {
  kind = kind_as_coded u.kind;
  one = ap leaves_from u.one;
  mode = (subst (λ (l : List MoveLeaf). AreModes (leaves_from l)) u.one modes).0;
}

tree_leaves : (size : Size) (depth x y : ℕ) (us : List MoveLeaf) → AreModes (leaves_from us) → IsUnitTree size depth x y us → IsTree size depth x y (leaves_from us)
tree_leaves size zero x y us modes t = go (is_inside size x y) t
  where
    go : (b : Bool) → MatchBool b (IsOneUnit (block_at x y 3) us) (us ≡ []) → MatchBool b (IsCodingUnit (block_at x y 3) (leaves_from us)) (leaves_from us ≡ [])
    go true u = one_leaf x y 3 us modes u
    go false none = ap leaves_from none
tree_leaves size (suc depth) x y us modes t = go (is_inside size x y) (is_whole size (2 * half) x y) t (λ px py l m q. tree_leaves size depth px py l m q)
  where
    half : ℕ
    half = 2 ^ (3 + depth)

    Lower : Type 0
    Lower = (px py : ℕ) (l : List MoveLeaf) → AreModes (leaves_from l) → IsUnitTree size depth px py l → IsTree size depth px py (leaves_from l)

    Fine : Leaf → Type 0
    Fine leaf = IsMode leaf.kind

    four : AreFourParts (IsUnitTree size depth) half x y us → Lower → AreQuarters (IsTree size depth) half x y (leaves_from us)
    four q lower =
        let a : List Leaf = leaves_from q.first in
        let b : List Leaf = leaves_from q.second in
        let c : List Leaf = leaves_from q.third in
        let d : List Leaf = leaves_from q.fourth in
        let all : leaves_from us ≡ ((a ++ b) ++ c) ++ d =
        ap leaves_from q.together
        ∙ (from-append ((q.first ++ q.second) ++ q.third) q.fourth
        ∙ ap (λ (l : List Leaf). l ++ d) (from-append (q.first ++ q.second) q.third ∙ ap (λ (l : List Leaf). l ++ c) (from-append q.first q.second))) in
        let m : AreModes (((a ++ b) ++ c) ++ d) = subst AreModes all modes in
        let m3 : AreModes ((a ++ b) ++ c) = all_front Fine ((a ++ b) ++ c) d m in
        let m2 : AreModes (a ++ b) = all_front Fine (a ++ b) c m3 in
        record {
          first = a;
          second = b;
          third = c;
          fourth = d;
          together = all;
          top_left = lower x y q.first (all_front Fine a b m2) q.top_left;
          top_right = lower (x + half) y q.second (all_back Fine a b m2) q.top_right;
          bottom_left = lower x (y + half) q.third (all_back Fine (a ++ b) c m3) q.bottom_left;
          bottom_right = lower (x + half) (y + half) q.fourth (all_back Fine ((a ++ b) ++ c) d m) q.bottom_right;
        }

    go : (a b : Bool) → MatchBool a (MatchBool b (IsOneUnit (block_at x y (4 + depth)) us ⊎ AreFourParts (IsUnitTree size depth) half x y us) (AreFourParts (IsUnitTree size depth) half x y us)) (us ≡ []) → Lower
        → MatchBool a (MatchBool b (IsCodingUnit (block_at x y (4 + depth)) (leaves_from us) ⊎ AreQuarters (IsTree size depth) half x y (leaves_from us)) (AreQuarters (IsTree size depth) half x y (leaves_from us))) (leaves_from us ≡ [])
    go false b none lower = ap leaves_from none
    go true false q lower = four q lower
    go true true u lower = ⊎_elim (λ v. inl (one_leaf x y (4 + depth) us modes v)) (λ q. inr (four q lower)) u

-- ---- all coding tree units

leaves_at : (n : ℕ) (units : List (List MoveLeaf)) → get_or (map leaves_from units) n [] ≡ leaves_from (get_or units n [])
leaves_at zero [] = refl
leaves_at zero (l ∷ units) = refl
leaves_at (suc n) [] = refl
leaves_at (suc n) (l ∷ units) = leaves_at n units

leaves_joined : (units : List (List MoveLeaf)) → joined (map leaves_from units) ≡ leaves_from (joined units)
leaves_joined [] = refl
leaves_joined (l ∷ units) = ap (λ (r : List Leaf). leaves_from l ++ r) (leaves_joined units) ∙ sym (from-append l (joined units))

pub lawful_leaves : (kind : SliceKind) (size : Size) (units : List (List MoveLeaf)) (total : ℕ) → AreLawfulUnits kind size units total → AreLawfulTrees kind size (map leaves_from units) total
lawful_leaves kind size units total are = record {
  tree = λ ctu few. subst (λ (l : List Leaf). IsLawfulTree size ctu l) (sym (leaves_at ctu units)) (tree_leaves size 2 (ctu_x size ctu) (ctu_y size ctu) (get_or units ctu []) (stand_modes kind size _ _ (are.stand ctu few)) (are.tree ctu few));
  allowed = λ ctu few. subst (λ (l : List Leaf). AreAllowed kind l) (sym (leaves_at ctu units)) (stand_allowed kind size _ _ (are.stand ctu few));
}

-- the leaves of all units, each in the picture and after those that cover what comes before it
pub units_cover : (kind : SliceKind) (size : Size) (units : List (List MoveLeaf)) → 0 < ctus size.w → length units ≡ ctus size.w * ctus size.h → AreLawfulUnits kind size units (ctus size.w * ctus size.h)
    → ArePlaced size [] (leaves_from (joined units)) × Covers size (leaves_from (joined units)) (ctus size.w * ctus size.h * 1024)
units_cover kind size units some many are =
    let total : ℕ = ctus size.w * ctus size.h in
    let leaves : List (List Leaf) = map leaves_from units in
    let long : length leaves ≡ total = length-map units leaves_from ∙ many in
    let all : joined (take total leaves) ≡ leaves_from (joined units) = ap (λ (l : List (List Leaf)). joined l) (take_all total leaves (omega arith)) ∙ leaves_joined units in
    let block : CoversBlock size [] (leaves_from (joined units)) 0 (total * 1024) =
    subst (λ (l : List Leaf). CoversBlock size [] l 0 (total * 1024)) all (joined_cover kind size leaves total total some (lawful_leaves kind size units total are) (le_refl total)) in
    let e : 0 + total * 1024 ≡ total * 1024 = omega arith in
    (block.placed, subst (λ (n : ℕ). Covers size (leaves_from (joined units)) n) e block.covers)
