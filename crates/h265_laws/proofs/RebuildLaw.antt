-- What was read of a picture's leaves rebuilds the picture.
use Rattle.std.proofs.Common.{◌≡◌, refl, sym, ◌∙◌, ap, subst, ℕ, zero, suc, ◌+◌, ◌-◌, ◌*◌, ◌/◌, ◌%◌, ◌^◌, ◌<◌, ◌≤◌, List, [], ◌∷◌, ◌++◌, Bool, true, false, cond, ◌||◌, ⊎_elim, length, get_or, append_assoc, append-nil, arith, le_refl}
use Rattle.std.specs.Prelude.{Option, Some, None, ℤ, pos, ◌+ℤ◌, ◌-ℤ◌}
use Rattle.std.specs.List.{AllByRecursion}
use Rattle.std.proofs.lemmas.Bool.{and_parts, or_cases, ltb-true}
use Rattle.std.proofs.lemmas.List.Folds.{list_any-append}
use Rattle.h265_model.specs.declared.leaf.Leaf.{Leaf}
use Rattle.h265_model.specs.declared.leaf.Kind.{Kind}
use Rattle.h265_model.specs.declared.leaf.Kind.TheVariants.{Skip, Pcm, Intra}
use Rattle.h265_model.specs.Plain.{block_at, Size, Picture, coded, ctus, IsPicture}
use Rattle.h265_model.specs.Contexts.{clip}
use Rattle.h265_model.specs.Raster.{plane, planes, blank}
use Rattle.std.proofs.lemmas.Nat.{row_fits_turned}
use Rattle.std.proofs.lemmas.Int.{ints}
use Rattle.h265_model.specs.Predict.{z_order, is_inside, is_available, coding_order, seen, neighbours, references, substituted, smoothed, is_filtered, predict, prediction, predicted}
use Rattle.h265_model.specs.Tree.{source_of, samples_in, differences, levels_in, mode_of, IsCopy}
use Rattle.h265_model.specs.Plain.{covers, leaf_side}
use Rattle.h265_laws.proofs.LeafReading.{content_of, read_of, reads_of}
use Rattle.h265_model.specs.Rebuild.{sums, with_block}
use Rattle.h265_laws.proofs.LeafDecoding.{block_of, with_leaf, with_leaves, rebuild}
use Rattle.h265_model.proofs.Squares.{length_places, at_places, same_places, same_below, all_places}
use Rattle.h265_laws.proofs.ZOrder.{IsWithin, splits, Splits}
use Rattle.h265_laws.proofs.Coverage.{is_covered, Covers, IsPlaced, ArePlaced, covers_parts, inside_parts, inside_from, inside_column}
use Rattle.h265_laws.proofs.TreeLaw.{leaf_back}

-- two pictures that have the same samples where these leaves are
pub record Agree (now other : Picture) (leaves : List Leaf) : Type 0 where
  pub each : (component x y : ℕ) → component < 3 → is_covered leaves x y ≡ true → now component x y ≡ other component x y

-- ---- predictions

seen_same : (size : Size) (a b : Picture) (component x y px py : ℕ) → ((qx qy : ℕ) → is_available size x y qx qy ≡ true → a component qx qy ≡ b component qx qy)
    → seen size a component x y px py ≡ seen size b component x y px py
seen_same size a b component x y zero py h = refl
seen_same size a b component x y (suc px) zero h = refl
seen_same size a b component x y (suc px) (suc py) h = go (is_available size x y px py) refl
  where
    go : (t : Bool) → is_available size x y px py ≡ t → cond t (Some (a component px py)) None ≡ cond t (Some (b component px py)) None
    go true e = ap (λ (v : ℕ). Some v) (h px py e)
    go false e = refl

-- predictions of pictures that have the same samples where these are available
pub prediction_same : (size : Size) (a b : Picture) (mode component x y log2 : ℕ) → ((qx qy : ℕ) → is_available size x y qx qy ≡ true → a component qx qy ≡ b component qx qy)
    → prediction size a mode component (block_at x y log2) ≡ prediction size b mode component (block_at x y log2)
unfolding references neighbours
prediction_same size a b mode component x y log2 h =
    let n : ℕ = 2 ^ log2 in
    let line : neighbours size a component (block_at x y log2) ≡ neighbours size b component (block_at x y log2) =
    same_below (4 * n + 1) (λ i. seen size a component x y (x + (i - 2 * n)) (y + (2 * n - i))) (λ i. seen size b component x y (x + (i - 2 * n)) (y + (2 * n - i)))
    (λ i k. seen_same size a b component x y (x + (i - 2 * n)) (y + (2 * n - i)) h) in
    ap (λ (l : List (Option ℕ)). predict mode component log2 (cond (is_filtered mode log2) (smoothed (substituted l)) (substituted l))) line

-- ---- prediction and levels

clipped : (s : ℕ) → s < 256 → clip 0 255 (pos s) ≡ s
clipped s h = omega arith

sum_back : (p s : ℕ) → pos p +ℤ (pos s -ℤ pos p) ≡ pos s
sum_back p s = omega (arith, ints)

pub sums_back : (ps ss : List ℕ) → length ps ≡ length ss → AllByRecursion (λ s. s < 256) ss → sums ps (differences ss ps) ≡ ss
sums_back [] [] e h = refl
sums_back [] (s ∷ ss) e h = absurd (omega arith)
sums_back (p ∷ ps) [] e h = absurd (omega arith)
sums_back (p ∷ ps) (s ∷ ss) e h =
    ap (λ (v : ℤ). clip 0 255 v ∷ sums ps (differences ss ps)) (sum_back p s)
    ∙ (ap (λ (v : ℕ). v ∷ sums ps (differences ss ps)) (clipped s h.0)
    ∙ ap (λ (l : List ℕ). s ∷ l) (sums_back ps ss (omega arith) h.1))

pub length_prediction : (size : Size) (picture : Picture) (mode component x y log2 : ℕ) → length (prediction size picture mode component (block_at x y log2)) ≡ 2 ^ log2 * 2 ^ log2
unfolding predict
length_prediction size picture mode component x y log2 = length_places (2 ^ log2) (2 ^ log2) (predicted mode component log2 (references size picture mode component (block_at x y log2)))

pub length_samples : (picture : Picture) (leaf : Leaf) (component : ℕ) → length (samples_in picture leaf component) ≡ 2 ^ leaf.block.log2 * 2 ^ leaf.block.log2
length_samples picture leaf component = length_places (leaf_side leaf) (leaf_side leaf) (λ x y. picture component (leaf.block.x + x) (leaf.block.y + y))

pub samples_are : (picture : Picture) (leaf : Leaf) (component : ℕ) → IsPicture picture → AllByRecursion (λ s. s < 256) (samples_in picture leaf component)
samples_are picture leaf component is = all_places (λ s. s < 256) (leaf_side leaf) (leaf_side leaf) (λ x y. picture component (leaf.block.x + x) (leaf.block.y + y)) (λ x y hx hy. is.each component (leaf.block.x + x) (leaf.block.y + y))

-- ---- one leaf

third_of : {A : Type 0} (f : ℕ → A) (component : ℕ) (d : A) → component < 3 → get_or (f 0 ∷ f 1 ∷ f 2 ∷ []) component d ≡ f component
third_of f zero d h = refl
third_of f (suc zero) d h = refl
third_of f (suc (suc zero)) d h = refl
third_of f (suc (suc (suc n))) d h = absurd (omega arith)

-- the block that is laid in is the picture's
pub block_back : (size : Size) (prev now cur : Picture) (leaf : Leaf) (component : ℕ) → component < 3 → IsPicture now → IsCopy prev now leaf
    → ((qx qy : ℕ) → is_available size leaf.block.x leaf.block.y qx qy ≡ true → cur component qx qy ≡ now component qx qy)
    → block_of size prev cur leaf (content_of (source_of size now) leaf leaf.kind) component ≡ samples_in now leaf component
unfolding block_of source_of
block_back size prev now cur leaf component small is copy near = go leaf.kind refl
  where
    go : (k : Kind) → leaf.kind ≡ k → block_of size prev cur leaf (content_of (source_of size now) leaf k) component ≡ samples_in now leaf component
    go Skip e = copy e component small
    go Pcm e = third_of (λ c. samples_in now leaf c) component [] small
    go (Intra mode) e =
        let m : mode_of leaf.kind ≡ mode = ap mode_of e in
        let p : List ℕ = prediction size now mode component leaf.block in
        let levels : get_or (levels_in size now leaf 0 ∷ levels_in size now leaf 1 ∷ levels_in size now leaf 2 ∷ []) component [] ≡ differences (samples_in now leaf component) p =
        third_of (λ c. levels_in size now leaf c) component [] small ∙ ap (λ (i : ℕ). differences (samples_in now leaf component) (prediction size now i component leaf.block)) m in
        ap (λ (l : List ℤ). sums (prediction size cur mode component leaf.block) l) levels
        ∙ (ap (λ (l : List ℕ). sums l (differences (samples_in now leaf component) p)) (prediction_same size cur now mode component leaf.block.x leaf.block.y leaf.block.log2 near)
        ∙ sums_back p (samples_in now leaf component) (length_prediction size now mode component leaf.block.x leaf.block.y leaf.block.log2 ∙ sym (length_samples now leaf component)) (samples_are now leaf component is))

-- a sample of the block
pub at_samples : (now : Picture) (leaf : Leaf) (component x y : ℕ) → covers x y leaf ≡ true
    → get_or (samples_in now leaf component) ((y - leaf.block.y) * leaf_side leaf + (x - leaf.block.x)) 0 ≡ now component x y
at_samples now leaf component x y h =
    let w : IsWithin leaf.block.x leaf.block.y (leaf_side leaf) x y = covers_parts leaf x y h in
    let left : leaf.block.x ≤ x = w.left in
    let right : x < leaf.block.x + leaf_side leaf = w.right in
    let top : leaf.block.y ≤ y = w.top in
    let bottom : y < leaf.block.y + leaf_side leaf = w.bottom in
    let ex : leaf.block.x + (x - leaf.block.x) ≡ x = back leaf.block.x x left in
    let ey : leaf.block.y + (y - leaf.block.y) ≡ y = back leaf.block.y y top in
    at_places (leaf_side leaf) (leaf_side leaf) (x - leaf.block.x) (y - leaf.block.y) (λ u v. now component (leaf.block.x + u) (leaf.block.y + v)) 0
    (less leaf.block.x x (leaf_side leaf) left right) (less leaf.block.y y (leaf_side leaf) top bottom)
    ∙ (ap (λ (u : ℕ). now component u (leaf.block.y + (y - leaf.block.y))) ex ∙ ap (λ (v : ℕ). now component x v) ey)
  where
    back : (a b : ℕ) → a ≤ b → a + (b - a) ≡ b
    back a b h = omega arith

    less : (a b n : ℕ) → a ≤ b → b < a + n → b - a < n
    less a b n h k = omega arith

one_rebuilt_at : (size : Size) (prev now cur : Picture) (before : List Leaf) (leaf : Leaf) → IsPicture now → IsCopy prev now leaf → IsPlaced size before leaf → Agree cur now before
    → (component x y : ℕ) → component < 3 → is_covered (before ++ leaf ∷ []) x y ≡ true
    → with_block cur leaf (block_of size prev cur leaf (content_of (source_of size now) leaf leaf.kind)) component x y ≡ now component x y
one_rebuilt_at size prev now cur before leaf is copy placed agree component x y small covered = go (covers x y leaf) refl
  where
    near : (qx qy : ℕ) → is_available size leaf.block.x leaf.block.y qx qy ≡ true → cur component qx qy ≡ now component qx qy
    near qx qy h = let p = and_parts _ _ h in agree.each component qx qy small (placed.behind.each qx qy p.0 (ltb-true _ _ p.1))

    block : ℕ → List ℕ
    block = block_of size prev cur leaf (content_of (source_of size now) leaf leaf.kind)

    earlier : (t : Bool) → t ≡ false → (is_covered before x y || (t || false)) ≡ true → is_covered before x y ≡ true
    earlier true e h = absurd (cc)
    earlier false e h = ⊎_elim (λ k. k) (λ k. absurd (cc)) (or_cases (is_covered before x y) false h)

    go : (t : Bool) → covers x y leaf ≡ t → cond t (get_or (block component) ((y - leaf.block.y) * leaf_side leaf + (x - leaf.block.x)) 0) (cur component x y) ≡ now component x y
    go true e = ap (λ (l : List ℕ). get_or l ((y - leaf.block.y) * leaf_side leaf + (x - leaf.block.x)) 0) (block_back size prev now cur leaf component small is copy near) ∙ at_samples now leaf component x y e
    go false e = agree.each component x y small (earlier (covers x y leaf) e (sym (list_any-append (covers x y) before (leaf ∷ [])) ∙ covered))

one_rebuilt : (size : Size) (prev now cur : Picture) (before : List Leaf) (leaf : Leaf) → IsPicture now → IsCopy prev now leaf → IsPlaced size before leaf → Agree cur now before
    → Agree (with_leaf size prev cur (read_of (source_of size now) leaf)) now (before ++ leaf ∷ [])
one_rebuilt size prev now cur before leaf is copy placed agree = record {
  each = λ component x y small covered.
      ap (λ (l : Leaf). with_block cur l (block_of size prev cur l (content_of (source_of size now) leaf leaf.kind)) component x y) (leaf_back (source_of size now) leaf)
      ∙ one_rebuilt_at size prev now cur before leaf is copy placed agree component x y small covered;
}

-- ---- all leaves

pub leaves_rebuilt : (size : Size) (prev now cur : Picture) (before leaves : List Leaf) → IsPicture now → AllByRecursion (IsCopy prev now) leaves → ArePlaced size before leaves → Agree cur now before
    → Agree (with_leaves size prev cur (reads_of (source_of size now) leaves)) now (before ++ leaves)
leaves_rebuilt size prev now cur before [] is copies placed agree = subst (λ (l : List Leaf). Agree cur now l) (sym (append-nil before)) agree
leaves_rebuilt size prev now cur before (leaf ∷ leaves) is copies placed agree =
    let next : Picture = with_leaf size prev cur (read_of (source_of size now) leaf) in
    subst (λ (l : List Leaf). Agree (with_leaves size prev next (reads_of (source_of size now) leaves)) now l) (append_assoc before (leaf ∷ []) leaves)
    (leaves_rebuilt size prev now next (before ++ leaf ∷ []) leaves is copies.1 placed.1 (one_rebuilt size prev now cur before leaf is copies.0 placed.0 agree))

pub last_order : (size : Size) (x y : ℕ) → is_inside size x y ≡ true → coding_order size x y < ctus size.w * ctus size.h * 1024
unfolding coding_order
last_order size x y inside =
    let s : Splits (x % 32) (y % 32) = splits (x % 32) (y % 32) (omega arith) (omega arith) in
    let cx : x / 32 < ctus size.w = inside_column size x y inside in
    let cy : y / 32 < ctus size.h = rows_in y size.h (inside_parts size x y inside).1 in
    under (y / 32) (x / 32) (ctus size.w) (ctus size.h) (z_of (x % 32) (y % 32)) cx cy s.below_1024
  where
    z_of : ℕ → ℕ → ℕ
    z_of u v = z_order 5 u v

    rows_in : (p h : ℕ) → p < coded h → p / 32 < ctus h
    rows_in p h a = omega arith

    under : (a b w h z : ℕ) → b < w → a < h → z < 1024 → (a * w + b) * 1024 + z < w * h * 1024
    under a b w h z hb ha hz = let f : a * w + w ≤ w * h = row_fits_turned a w w h ha (le_refl w) in omega arith

-- the planes that are rebuilt are those of the picture
pub rebuilt : (size : Size) (prev now : Picture) (leaves : List Leaf) → IsPicture now → AllByRecursion (IsCopy prev now) leaves → ArePlaced size [] leaves
    → Covers size leaves (ctus size.w * ctus size.h * 1024) → rebuild size prev (reads_of (source_of size now) leaves) ≡ planes size now
unfolding rebuild
rebuilt size prev now leaves is copies placed covered =
    let whole : Agree (with_leaves size prev blank (reads_of (source_of size now) leaves)) now leaves =
    leaves_rebuilt size prev now blank [] leaves is copies placed (record { each = λ component x y small h. absurd (cc) }) in
    let one : (component : ℕ) → component < 3 → plane size (with_leaves size prev blank (reads_of (source_of size now) leaves)) component ≡ plane size now component =
    λ component small. same_places (coded size.w) (coded size.h) (with_leaves size prev blank (reads_of (source_of size now) leaves) component) (now component)
    (λ x y hx hy. let inside : is_inside size x y ≡ true = inside_from size x y hx hy in whole.each component x y small (covered.each x y inside (last_order size x y inside))) in
    rw (one 0 (omega arith), one 1 (omega arith), one 2 (omega arith)) refl
