-- The items of coding units look at no leaves but those at hand.
use Rattle.std.proofs.Common.{◌≡◌, refl, sym, ◌∙◌, ap, subst, ℕ, zero, suc, ◌+◌, ◌*◌, ◌/◌, ◌%◌, ◌^◌, ◌<◌, ◌≤◌, ◌&&◌, List, [], ◌∷◌, ◌++◌, Bool, true, false, cond, arith, not, inl, inr}
use Rattle.std.specs.Prelude.{Option, None, MatchBool, ◌⊎◌}
use Rattle.std.specs.Option.{option_or}
use Rattle.std.specs.List.{AllByRecursion}
use Rattle.std.proofs.lemmas.Bool.{cond-true, cond-false, and_from, eq-eqb, le-leb, lt-ltb, and_right, le-ltb, and_parts, leb-true}
use Rattle.std.proofs.lemmas.List.Folds.{find-append}
use Rattle.h265_model.specs.declared.Item.{Item}
use Rattle.h265_model.specs.declared.block.CodingBlock.{CodingBlock}
use Rattle.h265_model.specs.declared.leaf.Kind.{Kind}
use Rattle.h265_model.specs.declared.leaf.Kind.TheVariants.{Skip, Pcm, Intra}
use Rattle.h265_model.specs.declared.leaf.Leaf.{Leaf}
use Rattle.h265_model.specs.declared.leaf.SliceKind.{SliceKind}
use Rattle.h265_model.specs.Plain.{block_at, Size, Picture, coded, context_bin, ctus, ctu_x, ctu_y}
use Rattle.h265_model.proofs.ListParts.{all_append}
use Rattle.h265_model.specs.Tree.{leaf_block, leaf_units, Source, leaf_at, left_of, above, split_context, skip_context, candidates_at, content_items, coding_unit_items, source_of, is_whole, IsMode, IsLawfulTree, IsTree, IsCodingUnit, AreQuarters, ctu_items, Walk, walk_on, and_walk, quarters, coding_unit_walk, no_walk, is_next, tree_walk}
use Rattle.h265_model.specs.Plain.{covers, leaf_side}
use Rattle.h265_model.specs.Predict.{is_inside}
use Rattle.pu_code.specs.Cells.{IsUnit}
use Rattle.h265_laws.proofs.Coverage.{inside_parts}
use Rattle.row_coder.specs.Sources.{is_placed, is_predicted, picture_source}

-- from the row of places just above the top on, these leaves stand where those stand
pub record Agree (top : ℕ) (a b : List Leaf) : Type 0 where
  pub each : (x y : ℕ) → top ≤ suc y → leaf_at a x y ≡ leaf_at b x y

pub agree_more : (top : ℕ) (a b leaves : List Leaf) → Agree top a b → Agree top (a ++ leaves) (b ++ leaves)
agree_more top a b leaves same = record {
  each = λ x y h. find-append (covers x y) a leaves ∙ (ap (λ (o : Option Leaf). option_or o (leaf_at leaves x y)) (same.each x y h) ∙ sym (find-append (covers x y) b leaves));
}

left_same : (top : ℕ) (a b : List Leaf) (x y : ℕ) → Agree top a b → top ≤ y → left_of a x y ≡ left_of b x y
left_same top a b zero y same h = refl
left_same top a b (suc x) y same h = same.each x y (omega arith)

above_same : (top : ℕ) (a b : List Leaf) (x y : ℕ) → Agree top a b → top ≤ y → above a x y ≡ above b x y
above_same top a b x zero same h = refl
above_same top a b x (suc y) same h = same.each x y h

split_same : (top : ℕ) (a b : List Leaf) (block : CodingBlock) → Agree top a b → top ≤ block.y → split_context a block ≡ split_context b block
unfolding split_context
split_same top a b block same h = rw (left_same top a b block.x block.y same h, above_same top a b block.x block.y same h) refl

skip_same : (top : ℕ) (a b : List Leaf) (x y : ℕ) → Agree top a b → top ≤ y → skip_context a x y ≡ skip_context b x y
unfolding skip_context
skip_same top a b x y same h = rw (left_same top a b x y same h, above_same top a b x y same h) refl

candidates_same : (top : ℕ) (a b : List Leaf) (x y : ℕ) → Agree top a b → top ≤ y → candidates_at a x y ≡ candidates_at b x y
unfolding candidates_at
candidates_same top a b x y same h = rw (left_same top a b x y same h, above_same top a b x y same h) refl

-- ---- what the sources give

-- two sources give the same of a coding unit
pub record GiveSame (s t : Source) (leaf : Leaf) : Type 0 where
  pub samples : (component : ℕ) → s.samples leaf component ≡ t.samples leaf component
  pub levels : (component mode : ℕ) → leaf.kind ≡ Intra mode → s.levels leaf component ≡ t.levels leaf component

content_same : (s t : Source) (top : ℕ) (a b : List Leaf) (leaf : Leaf) (kind : Kind) → leaf.kind ≡ kind → GiveSame s t leaf → Agree top a b → top ≤ leaf.block.y → content_items s a leaf kind ≡ content_items t b leaf kind
content_same s t top a b leaf Skip e give same h = refl
content_same s t top a b leaf Pcm e give same h = rw (give.samples 0, give.samples 1, give.samples 2) refl
content_same s t top a b leaf (Intra mode) e give same h =
    rw (candidates_same top a b leaf.block.x leaf.block.y same h, give.levels 0 mode e, give.levels 1 mode e, give.levels 2 mode e) refl

coding_unit_same : (kind : SliceKind) (s t : Source) (top : ℕ) (a b : List Leaf) (leaf : Leaf) → GiveSame s t leaf → Agree top a b → top ≤ leaf.block.y → coding_unit_items kind s a leaf ≡ coding_unit_items kind t b leaf
unfolding coding_unit_items
coding_unit_same kind s t top a b leaf give same h = rw (skip_same top a b leaf.block.x leaf.block.y same h, content_same s t top a b leaf leaf.kind refl give same h) refl

-- coding units that begin below the top, with the same content
pub record IsSeenSame (s t : Source) (top : ℕ) (leaf : Leaf) : Type 0 where
  pub give : GiveSame s t leaf
  pub low : top ≤ leaf.block.y

-- two walks through the same leaves, with the same items
record AreSame (s t : Source) (top : ℕ) (p q : Walk Leaf Leaf) : Type 0 where
  list : p.list ≡ q.list
  left : p.left ≡ q.left
  before : Agree top p.before q.before
  seen : AllByRecursion (IsSeenSame s t top) p.left

-- what goes on in the same way after leaves that agree
GoSame : Source → Source → ℕ → (List Leaf → List Leaf → Walk Leaf Leaf) → (List Leaf → List Leaf → Walk Leaf Leaf) → Type 0
GoSame s t top f g = (a b left : List Leaf) → AllByRecursion (IsSeenSame s t top) left → Agree top a b → AreSame s t top (f a left) (g b left)

module _ (kind : SliceKind) (size : Size) (s t : Source) (top : ℕ) where
  on_same : (list other : List Item) (p q : Walk Leaf Leaf) → list ≡ other → AreSame s t top p q → AreSame s t top (walk_on list p) (walk_on other q)
  on_same list other p q e same = record { list = ap (λ (l : List Item). l ++ p.list) e ∙ ap (λ (l : List Item). other ++ l) same.list; left = same.left; before = same.before; seen = same.seen }

  and_same : (p q : Walk Leaf Leaf) (f g : List Leaf → List Leaf → Walk Leaf Leaf) → AreSame s t top p q → GoSame s t top f g → AreSame s t top (and_walk p f) (and_walk q g)
  unfolding GoSame
  and_same p q f g same go =
      let next : AreSame s t top (f p.before p.left) (g q.before p.left) = go p.before q.before p.left same.seen same.before in
      on_same p.list q.list (f p.before p.left) (g q.before q.left) same.list (subst (λ (l : List Leaf). AreSame s t top (f p.before p.left) (g q.before l)) same.left next)

  quarters_same : (f g : ℕ → ℕ → List Leaf → List Leaf → Walk Leaf Leaf) (half x y : ℕ) → ((u v : ℕ) → top ≤ v → GoSame s t top (f u v) (g u v)) → top ≤ y → GoSame s t top (quarters f half x y) (quarters g half x y)
  unfolding GoSame
  quarters_same f g half x y each h a b left seen same =
      and_same _ _ (f (x + half) (y + half)) (g (x + half) (y + half))
      (and_same _ _ (f x (y + half)) (g x (y + half))
      (and_same (f x y a left) (g x y b left) (f (x + half) y) (g (x + half) y) (each x y h a b left seen same) (each (x + half) y h))
      (each x (y + half) (omega arith)))
      (each (x + half) (y + half) (omega arith))

  unit_same : GoSame s t top (coding_unit_walk (leaf_units kind s)) (coding_unit_walk (leaf_units kind t))
  unfolding GoSame
  unit_same a b [] seen same = record { list = refl; left = refl; before = same; seen = tt }
  unit_same a b (leaf ∷ leaves) seen same = record {
    list = coding_unit_same kind s t top a b leaf seen.0.give same seen.0.low;
    left = refl;
    before = agree_more top a b (leaf ∷ []) same;
    seen = seen.1;
  }

  none_same : GoSame s t top no_walk no_walk
  unfolding GoSame
  none_same a b left seen same = record { list = refl; left = refl; before = same; seen = seen }

  choice_same : (c : Bool) (p q u v : Walk Leaf Leaf) → AreSame s t top p q → AreSame s t top u v → AreSame s t top (cond c p u) (cond c q v)
  choice_same true p q u v a b = a
  choice_same false p q u v a b = b

  walk_same : (depth x y : ℕ) → top ≤ y → GoSame s t top (tree_walk (leaf_units kind s) size depth x y) (tree_walk (leaf_units kind t) size depth x y)
  unfolding GoSame
  walk_same zero x y h a b left seen same = choice_same (is_inside size x y) _ _ _ _ (unit_same a b left seen same) (none_same a b left seen same)
  walk_same (suc depth) x y h a b left seen same =
      let flag = split_same top a b (block_at x y (4 + depth)) same h in
      let split = quarters_same (tree_walk (leaf_units kind s) size depth) (tree_walk (leaf_units kind t) size depth) (2 ^ (3 + depth)) x y (walk_same depth) h a b left seen same in
      choice_same (not (is_inside size x y)) _ _ _ _ (none_same a b left seen same)
      (choice_same (not (is_whole size (2 * 2 ^ (3 + depth)) x y)) _ _ _ _ split
      (choice_same (is_next leaf_block (4 + depth) left) _ _ _ _
      (on_same _ _ _ _ (ap (λ (n : ℕ). context_bin false n ∷ []) flag) (unit_same a b left seen same))
      (on_same _ _ _ _ (ap (λ (n : ℕ). context_bin true n ∷ []) flag) split)))

-- a picture gives the same of a coding unit of it
pub gives_same : (size : Size) (picture : Picture) (leaf : Leaf) → IsUnit size leaf → GiveSame (picture_source size picture) (source_of size picture) leaf
unfolding picture_source source_of
gives_same size picture leaf u = record {
  samples = λ component. cond-true (is_placed size leaf) _ _ placed;
  levels = λ component mode e. cond-true (is_placed size leaf && is_predicted leaf.kind) _ _ (and_from _ _ placed (predicted mode leaf.kind e u.mode));
}
  where
    placed : is_placed size leaf ≡ true
    placed = and_from _ _ (and_from _ _ (eq-eqb _ _ u.column) (eq-eqb _ _ u.row)) (and_from _ _ (le-leb _ _ u.across) (le-leb _ _ u.down))

    predicted : (mode : ℕ) (k : Kind) → k ≡ Intra mode → IsMode k → is_predicted k ≡ true
    predicted mode Skip e m = absurd (cc)
    predicted mode Pcm e m = absurd (cc)
    predicted mode (Intra n) e m = lt-ltb n 35 m

-- ---- where the leaves of a tree lie

-- a coding unit of the picture between these rows of places
pub record IsIn (size : Size) (side y : ℕ) (leaf : Leaf) : Type 0 where
  pub unit : IsUnit size leaf
  pub top : y ≤ leaf.block.y
  pub bottom : leaf.block.y + leaf_side leaf ≤ y + side

widened : (size : Size) (half v side y : ℕ) (leaves : List Leaf) → y ≤ v → v + half ≤ y + side → AllByRecursion (IsIn size half v) leaves → AllByRecursion (IsIn size side y) leaves
widened size half v side y [] a b all = tt
widened size half v side y (leaf ∷ leaves) a b all =
    let t = all.0.top in
    let u = all.0.bottom in
    (record { unit = all.0.unit; top = omega arith; bottom = omega arith }, widened size half v side y leaves a b all.1)

one_in : (size : Size) (log2 x y : ℕ) (leaves : List Leaf) → 3 ≤ log2 → log2 ≤ 5 → x % 2 ^ log2 ≡ 0 → y % 2 ^ log2 ≡ 0 → x + 2 ^ log2 ≤ coded size.w → y + 2 ^ log2 ≤ coded size.h
    → IsCodingUnit (block_at x y log2) leaves → AllByRecursion (IsIn size (2 ^ log2) y) leaves
one_in size log2 x y leaves low high column row across down u =
    subst (AllByRecursion (IsIn size (2 ^ log2) y)) (sym u.one)
    (record { unit = record { low = low; high = high; column = column; row = row; across = across; down = down; mode = u.mode }; top = omega arith; bottom = omega arith }, tt)

quarters_in : (size : Size) (Tree : ℕ → ℕ → List Leaf → Type 0) (half x y : ℕ) (leaves : List Leaf)
    → ((u v : ℕ) (l : List Leaf) → u % half ≡ 0 → v % half ≡ 0 → Tree u v l → AllByRecursion (IsIn size half v) l)
    → x % half ≡ 0 → (x + half) % half ≡ 0 → y % half ≡ 0 → (y + half) % half ≡ 0 → AreQuarters Tree half x y leaves → AllByRecursion (IsIn size (half + half) y) leaves
quarters_in size Tree half x y leaves each x0 x1 y0 y1 q =
    let T : Leaf → Type 0 = IsIn size (half + half) y in
    subst (AllByRecursion (IsIn size (half + half) y)) (sym q.together)
    (all_append (IsIn size (half + half) y) (q.first ++ q.second ++ q.third) q.fourth
    (all_append (IsIn size (half + half) y) (q.first ++ q.second) q.third
    (all_append (IsIn size (half + half) y) q.first q.second
    (widened size half y (half + half) y q.first (omega arith) (omega arith) (each x y q.first x0 y0 q.top_left))
    (widened size half y (half + half) y q.second (omega arith) (omega arith) (each (x + half) y q.second x1 y0 q.top_right)))
    (widened size half (y + half) (half + half) y q.third (omega arith) (omega arith) (each x (y + half) q.third x0 y1 q.bottom_left)))
    (widened size half (y + half) (half + half) y q.fourth (omega arith) (omega arith) (each (x + half) (y + half) q.fourth x1 y1 q.bottom_right)))

no_leaves_in : (size : Size) (side y : ℕ) (leaves : List Leaf) → leaves ≡ [] → AllByRecursion (IsIn size side y) leaves
no_leaves_in size side y leaves e = subst (AllByRecursion (IsIn size side y)) (sym e) tt

whole_parts : (size : Size) (side x y : ℕ) → is_whole size side x y ≡ true → (x + side ≤ coded size.w) × (y + side ≤ coded size.h)
whole_parts size side x y h = let p = and_parts _ _ h in (leb-true _ _ p.0, leb-true _ _ p.1)

eight_in : (size : Size) (x y : ℕ) (leaves : List Leaf) → x % 8 ≡ 0 → y % 8 ≡ 0 → IsTree size 0 x y leaves → AllByRecursion (IsIn size 8 y) leaves
eight_in size x y leaves a b tree = go (is_inside size x y) refl tree
  where
    go : (i : Bool) → is_inside size x y ≡ i → MatchBool i (IsCodingUnit (block_at x y 3) leaves) (leaves ≡ []) → AllByRecursion (IsIn size 8 y) leaves
    go true e u =
        let p = inside_parts size x y e in
        let px = p.0 in
        let py = p.1 in
        one_in size 3 x y leaves (omega arith) (omega arith) a b (omega arith) (omega arith) u
    go false e none = no_leaves_in size 8 y leaves none

sixteen_in : (size : Size) (x y : ℕ) (leaves : List Leaf) → x % 16 ≡ 0 → y % 16 ≡ 0 → IsTree size 1 x y leaves → AllByRecursion (IsIn size 16 y) leaves
sixteen_in size x y leaves a b tree = go (is_inside size x y) (is_whole size 16 x y) refl tree
  where
    quarter : AreQuarters (IsTree size 0) 8 x y leaves → AllByRecursion (IsIn size 16 y) leaves
    quarter q = quarters_in size (IsTree size 0) 8 x y leaves (eight_in size) (omega arith) (omega arith) (omega arith) (omega arith) q

    go : (i w : Bool) → is_whole size 16 x y ≡ w → MatchBool i (MatchBool w (IsCodingUnit (block_at x y 4) leaves ⊎ AreQuarters (IsTree size 0) 8 x y leaves) (AreQuarters (IsTree size 0) 8 x y leaves)) (leaves ≡ []) → AllByRecursion (IsIn size 16 y) leaves
    go false w e none = no_leaves_in size 16 y leaves none
    go true false e q = quarter q
    go true true e (inl u) = let p = whole_parts size 16 x y e in one_in size 4 x y leaves (omega arith) (omega arith) a b p.0 p.1 u
    go true true e (inr q) = quarter q

thirty_two_in : (size : Size) (x y : ℕ) (leaves : List Leaf) → x % 32 ≡ 0 → y % 32 ≡ 0 → IsTree size 2 x y leaves → AllByRecursion (IsIn size 32 y) leaves
thirty_two_in size x y leaves a b tree = go (is_inside size x y) (is_whole size 32 x y) refl tree
  where
    quarter : AreQuarters (IsTree size 1) 16 x y leaves → AllByRecursion (IsIn size 32 y) leaves
    quarter q = quarters_in size (IsTree size 1) 16 x y leaves (sixteen_in size) (omega arith) (omega arith) (omega arith) (omega arith) q

    go : (i w : Bool) → is_whole size 32 x y ≡ w → MatchBool i (MatchBool w (IsCodingUnit (block_at x y 5) leaves ⊎ AreQuarters (IsTree size 1) 16 x y leaves) (AreQuarters (IsTree size 1) 16 x y leaves)) (leaves ≡ []) → AllByRecursion (IsIn size 32 y) leaves
    go false w e none = no_leaves_in size 32 y leaves none
    go true false e q = quarter q
    go true true e (inl u) = let p = whole_parts size 32 x y e in one_in size 5 x y leaves (omega arith) (omega arith) a b p.0 p.1 u
    go true true e (inr q) = quarter q

-- the leaves of a coding tree unit lie in it
pub ctu_in : (size : Size) (ctu : ℕ) (leaves : List Leaf) → IsLawfulTree size ctu leaves → AllByRecursion (IsIn size 32 (ctu_y size ctu)) leaves
ctu_in size ctu leaves tree = thirty_two_in size (ctu_x size ctu) (ctu_y size ctu) leaves (multiple (ctu % ctus size.w)) (multiple (ctu / ctus size.w)) tree
  where
    multiple : (n : ℕ) → n * 32 % 32 ≡ 0
    multiple n = omega arith

pub ctu_units : (size : Size) (ctu : ℕ) (leaves : List Leaf) → IsLawfulTree size ctu leaves → AllByRecursion (IsUnit size) leaves
ctu_units size ctu leaves tree = go leaves (ctu_in size ctu leaves tree)
  where
    go : (leaves : List Leaf) → AllByRecursion (IsIn size 32 (ctu_y size ctu)) leaves → AllByRecursion (IsUnit size) leaves
    go [] all = tt
    go (leaf ∷ leaves) all = (all.0.unit, go leaves all.1)

-- the items of a coding tree unit of a picture
pub ctu_same : (kind : SliceKind) (size : Size) (picture : Picture) (a b leaves : List Leaf) (ctu : ℕ) → IsLawfulTree size ctu leaves → Agree (ctu_y size ctu) a b
    → ctu_items (leaf_units kind (picture_source size picture)) size a leaves ctu ≡ ctu_items (leaf_units kind (source_of size picture)) size b leaves ctu
unfolding ctu_items GoSame
ctu_same kind size picture a b leaves ctu tree same =
    (walk_same kind size (picture_source size picture) (source_of size picture) (ctu_y size ctu) 2 (ctu_x size ctu) (ctu_y size ctu) (omega arith) a b leaves (seen leaves (ctu_in size ctu leaves tree)) same).list
  where
    seen : (leaves : List Leaf) → AllByRecursion (IsIn size 32 (ctu_y size ctu)) leaves → AllByRecursion (IsSeenSame (picture_source size picture) (source_of size picture) (ctu_y size ctu)) leaves
    seen [] all = tt
    seen (leaf ∷ leaves) all = (record { give = gives_same size picture leaf all.0.unit; low = all.0.top }, seen leaves all.1)

-- ---- leaves of rows further up

-- a leaf that ends above this place
pub record IsBefore (bottom : ℕ) (leaf : Leaf) : Type 0 where
  pub ends : leaf.block.y + leaf_side leaf ≤ bottom

none_covers : (leaves : List Leaf) (bottom x y : ℕ) → bottom ≤ y → AllByRecursion (IsBefore bottom) leaves → leaf_at leaves x y ≡ None
none_covers [] bottom x y h all = refl
none_covers (leaf ∷ leaves) bottom x y h all =
    let e = all.0.ends in
    cond-false (covers x y leaf) _ _ (and_right _ _ (le-ltb y (leaf.block.y + leaf_side leaf) (omega arith))) ∙ none_covers leaves bottom x y h all.1

-- rows that end above the top count for nothing
pub agree_far : (top bottom : ℕ) (far near : List Leaf) → bottom < top → AllByRecursion (IsBefore bottom) far → Agree top near (far ++ near)
agree_far top bottom far near h all = record {
  each = λ x y k. sym (find-append (covers x y) far near ∙ ap (λ (o : Option Leaf). option_or o (leaf_at near x y)) (none_covers far bottom x y (omega arith) all));
}

-- the leaves of a coding tree unit end with its row
pub unit_before : (size : Size) (ctu row : ℕ) (leaves : List Leaf) → ctu / ctus size.w < row → IsLawfulTree size ctu leaves → AllByRecursion (IsBefore (row * 32)) leaves
unit_before size ctu row leaves less tree = go leaves (ctu_in size ctu leaves tree)
  where
    go : (leaves : List Leaf) → AllByRecursion (IsIn size 32 (ctu_y size ctu)) leaves → AllByRecursion (IsBefore (row * 32)) leaves
    go [] all = tt
    go (leaf ∷ leaves) all =
        let b : leaf.block.y + leaf_side leaf ≤ ctu / ctus size.w * 32 + 32 = all.0.bottom in
        (record { ends = omega arith }, go leaves all.1)
