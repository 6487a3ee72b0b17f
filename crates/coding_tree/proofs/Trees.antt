-- Where the leaves of a tree lie.
use Rattle.std.proofs.Common.{◌≡◌, refl, sym, ◌∙◌, ap, subst, ℕ, zero, suc, ◌+◌, ◌*◌, ◌%◌, ◌^◌, ◌<◌, ◌≤◌, List, [], ◌∷◌, ◌++◌, Bool, true, false, arith, ⊎_elim}
use Rattle.std.specs.Prelude.{◌⊎◌, MatchBool, nat_lt, nat_le}
use Rattle.std.specs.List.{AllByRecursion}
use Rattle.std.proofs.lemmas.Bool.{and_parts, ltb-true, leb-true}
use Rattle.h265_model.specs.declared.leaf.Leaf.{Leaf}
use Rattle.h265_model.specs.declared.leaf.Kind.{Kind}
use Rattle.h265_model.specs.Plain.{block_at, Size, coded, leaf_with, ctu_x, ctu_y}
use Rattle.h265_model.specs.Predict.{is_inside}
use Rattle.h265_model.specs.Tree.{is_whole, IsCodingUnit, AreQuarters, IsTree, IsMode, IsLawfulTree}
use Rattle.h265_model.proofs.ListParts.{all_append}
use Rattle.pu_code.specs.Cells.{IsUnit}

-- ---- sides

-- what is so of the sides of 16 and of 32
pub record HasHalf (depth side half : ℕ) : Type 0 where
  pub log2 : 3 + suc depth ≡ 4 + depth
  pub whole : 2 ^ (3 + suc depth) ≡ side
  pub double : 2 * half ≡ side
  pub twice : side ≡ half + half
  pub some : 0 < half

pub has_half : (depth : ℕ) → depth < 2 → HasHalf depth (2 ^ (4 + depth)) (2 ^ (3 + depth))
has_half zero h = record { log2 = refl; whole = refl; double = refl; twice = refl; some = omega arith }
has_half (suc zero) h = record { log2 = refl; whole = refl; double = refl; twice = refl; some = omega arith }
has_half (suc (suc depth)) h = absurd (omega arith)

-- a place at multiples of a side
pub record IsCorner (side x y : ℕ) : Type 0 where
  pub column : x % side ≡ 0
  pub row : y % side ≡ 0

half_multiple : (depth n : ℕ) → depth < 2 → n % 2 ^ (4 + depth) ≡ 0 → n % 2 ^ (3 + depth) ≡ 0
half_multiple zero n h e = omega arith
half_multiple (suc zero) n h e = omega arith
half_multiple (suc (suc depth)) n h e = absurd (omega arith)

next_multiple : (depth n : ℕ) → depth < 2 → n % 2 ^ (4 + depth) ≡ 0 → (n + 2 ^ (3 + depth)) % 2 ^ (3 + depth) ≡ 0
next_multiple zero n h e = omega arith
next_multiple (suc zero) n h e = omega arith
next_multiple (suc (suc depth)) n h e = absurd (omega arith)

-- the corners of the four quarters
pub record AreCorners (half x y : ℕ) : Type 0 where
  pub top_left : IsCorner half x y
  pub top_right : IsCorner half (x + half) y
  pub bottom_left : IsCorner half x (y + half)
  pub bottom_right : IsCorner half (x + half) (y + half)

pub corners : (depth x y : ℕ) → depth < 2 → IsCorner (2 ^ (4 + depth)) x y → AreCorners (2 ^ (3 + depth)) x y
corners depth x y h c =
    let left : x % 2 ^ (3 + depth) ≡ 0 = half_multiple depth x h c.column in
    let right : (x + 2 ^ (3 + depth)) % 2 ^ (3 + depth) ≡ 0 = next_multiple depth x h c.column in
    let top : y % 2 ^ (3 + depth) ≡ 0 = half_multiple depth y h c.row in
    let bottom : (y + 2 ^ (3 + depth)) % 2 ^ (3 + depth) ≡ 0 = next_multiple depth y h c.row in
    record {
      top_left = record { column = left; row = top };
      top_right = record { column = right; row = top };
      bottom_left = record { column = left; row = bottom };
      bottom_right = record { column = right; row = bottom };
    }

pub corner_at : (depth x y : ℕ) → depth < 2 → IsCorner (2 ^ (3 + suc depth)) x y → IsCorner (2 ^ (4 + depth)) x y
corner_at depth x y h c = subst (λ side. IsCorner side x y) (has_half depth h).whole c

-- ---- units

pub all_each : {A : Type 0} (T U : A → Type 0) (list : List A) → ((a : A) → T a → U a) → AllByRecursion T list → AllByRecursion U list
all_each T U [] f h = tt
all_each T U (x ∷ list) f h = (f x h.0, all_each T U list f h.1)

small_side : (side n : ℕ) → n % 8 ≡ 0 → n < coded side → n + 8 ≤ coded side
small_side side n e h = omega arith

small_unit : (size : Size) (x y : ℕ) (kind : Kind) → IsMode kind → IsCorner 8 x y → is_inside size x y ≡ true → IsUnit size (leaf_with (block_at x y 3) kind)
small_unit size x y kind mode c inside =
    let p : (nat_lt x (coded size.w) ≡ true) × (nat_lt y (coded size.h) ≡ true) = and_parts _ _ inside in
    record {
      low = omega arith;
      high = omega arith;
      column = c.column;
      row = c.row;
      across = small_side size.w x c.column (ltb-true _ _ p.0);
      down = small_side size.h y c.row (ltb-true _ _ p.1);
      mode = mode;
    }

large_unit : (size : Size) (depth x y : ℕ) (kind : Kind) → depth < 2 → IsMode kind → IsCorner (2 ^ (4 + depth)) x y → is_whole size (2 * 2 ^ (3 + depth)) x y ≡ true
    → IsUnit size (leaf_with (block_at x y (4 + depth)) kind)
large_unit size depth x y kind h mode c whole =
    let p : (nat_le (x + 2 * 2 ^ (3 + depth)) (coded size.w) ≡ true) × (nat_le (y + 2 * 2 ^ (3 + depth)) (coded size.h) ≡ true) = and_parts _ _ whole in
    let double : 2 * 2 ^ (3 + depth) ≡ 2 ^ (4 + depth) = (has_half depth h).double in
    record {
      low = omega arith;
      high = omega arith;
      column = c.column;
      row = c.row;
      across = subst (λ side. x + side ≤ coded size.w) double (leb-true _ _ p.0);
      down = subst (λ side. y + side ≤ coded size.h) double (leb-true _ _ p.1);
      mode = mode;
    }

-- the leaves of a tree are units
pub tree_units : (size : Size) (depth x y : ℕ) (leaves : List Leaf) → depth < 3 → IsCorner (2 ^ (3 + depth)) x y → IsTree size depth x y leaves → AllByRecursion (IsUnit size) leaves
tree_units size zero x y leaves h c t = go (is_inside size x y) refl t
  where
    go : (b : Bool) → is_inside size x y ≡ b → MatchBool b (IsCodingUnit (block_at x y 3) leaves) (leaves ≡ []) → AllByRecursion (IsUnit size) leaves
    go true e u = subst (AllByRecursion (IsUnit size)) (sym u.one) (small_unit size x y u.kind u.mode c e, tt)
    go false e none = subst (AllByRecursion (IsUnit size)) (sym none) tt
tree_units size (suc depth) x y leaves h c t =
    let small : depth < 2 = omega arith in
    go small (corner_at depth x y small c) (is_inside size x y) (is_whole size (2 * half) x y) refl t (λ px py ls. tree_units size depth px py ls (omega arith))
  where
    half : ℕ
    half = 2 ^ (3 + depth)

    All : List Leaf → Type 0
    All = AllByRecursion (IsUnit size)

    Lower : Type 0
    Lower = (px py : ℕ) (ls : List Leaf) → IsCorner half px py → IsTree size depth px py ls → All ls

    four : AreCorners half x y → AreQuarters (IsTree size depth) half x y leaves → Lower → All leaves
    four k q lower = subst All (sym q.together)
        (all_append (IsUnit size) ((q.first ++ q.second) ++ q.third) q.fourth
        (all_append (IsUnit size) (q.first ++ q.second) q.third
        (all_append (IsUnit size) q.first q.second (lower _ _ _ k.top_left q.top_left) (lower _ _ _ k.top_right q.top_right))
        (lower _ _ _ k.bottom_left q.bottom_left)) (lower _ _ _ k.bottom_right q.bottom_right))

    go : depth < 2 → IsCorner (2 ^ (4 + depth)) x y → (a b : Bool) → is_whole size (2 * half) x y ≡ b
        → MatchBool a (MatchBool b (IsCodingUnit (block_at x y (4 + depth)) leaves ⊎ AreQuarters (IsTree size depth) half x y leaves) (AreQuarters (IsTree size depth) half x y leaves)) (leaves ≡ [])
        → Lower → All leaves
    go small k true true e u lower = ⊎_elim
        (λ (v : IsCodingUnit (block_at x y (4 + depth)) leaves). subst All (sym v.one) (large_unit size depth x y v.kind small v.mode k e, tt))
        (λ (q : AreQuarters (IsTree size depth) half x y leaves). four (corners depth x y small k) q lower) u
    go small k true false e q lower = four (corners depth x y small k) q lower
    go small k false b e none lower = subst All (sym none) tt

-- ---- places

-- a leaf begins within a square
pub record IsWithin (side x y : ℕ) (leaf : Leaf) : Type 0 where
  pub left : x ≤ leaf.block.x
  pub right : leaf.block.x < x + side
  pub top : y ≤ leaf.block.y
  pub bottom : leaf.block.y < y + side

-- and not at its corner
pub record IsLater (side x y : ℕ) (leaf : Leaf) : Type 0 where
  pub within : IsWithin side x y leaf
  pub after : x + y < leaf.block.x + leaf.block.y

widened : (side half x y px py : ℕ) → side ≡ half + half → x ≤ px → px ≤ x + half → y ≤ py → py ≤ y + half → (leaf : Leaf) → IsWithin half px py leaf → IsWithin side x y leaf
widened side half x y px py e a b c d leaf w =
    let l : px ≤ leaf.block.x = w.left in
    let r : leaf.block.x < px + half = w.right in
    let t : py ≤ leaf.block.y = w.top in
    let m : leaf.block.y < py + half = w.bottom in
    record { left = omega arith; right = omega arith; top = omega arith; bottom = omega arith }

later : (side half x y px py : ℕ) → side ≡ half + half → x ≤ px → px ≤ x + half → y ≤ py → py ≤ y + half → x + y < px + py → (leaf : Leaf) → IsWithin half px py leaf → IsLater side x y leaf
later side half x y px py e a b c d more leaf w =
    let l : px ≤ leaf.block.x = w.left in
    let t : py ≤ leaf.block.y = w.top in
    record { within = widened side half x y px py e a b c d leaf w; after = omega arith }

still_later : (side half x y : ℕ) → side ≡ half + half → (leaf : Leaf) → IsLater half x y leaf → IsLater side x y leaf
still_later side half x y e leaf l = record { within = widened side half x y x y e (omega arith) (omega arith) (omega arith) (omega arith) leaf l.within; after = l.after }

at_corner : (side x y log2 : ℕ) (kind : Kind) → 0 < side → IsWithin side x y (leaf_with (block_at x y log2) kind)
at_corner side x y log2 kind h = record { left = omega arith; right = omega arith; top = omega arith; bottom = omega arith }

-- the leaves of a tree begin within its block
pub tree_within : (size : Size) (depth x y : ℕ) (leaves : List Leaf) → depth < 3 → IsTree size depth x y leaves → AllByRecursion (IsWithin (2 ^ (3 + depth)) x y) leaves
tree_within size zero x y leaves h t = go (is_inside size x y) t
  where
    go : (b : Bool) → MatchBool b (IsCodingUnit (block_at x y 3) leaves) (leaves ≡ []) → AllByRecursion (IsWithin 8 x y) leaves
    go true u = subst (AllByRecursion (IsWithin 8 x y)) (sym u.one) (at_corner 8 x y 3 u.kind (omega arith), tt)
    go false none = subst (AllByRecursion (IsWithin 8 x y)) (sym none) tt
tree_within size (suc depth) x y leaves h t =
    let small : depth < 2 = omega arith in
    let k : HasHalf depth (2 ^ (4 + depth)) half = has_half depth small in
    subst (λ side. AllByRecursion (IsWithin side x y) leaves) (sym k.whole)
    (go k.twice k.some (is_inside size x y) (is_whole size (2 * half) x y) t (λ px py ls. tree_within size depth px py ls (omega arith)))
  where
    half : ℕ
    half = 2 ^ (3 + depth)

    side : ℕ
    side = 2 ^ (4 + depth)

    All : List Leaf → Type 0
    All = AllByRecursion (IsWithin side x y)

    Lower : Type 0
    Lower = (px py : ℕ) (ls : List Leaf) → IsTree size depth px py ls → AllByRecursion (IsWithin half px py) ls

    four : side ≡ half + half → AreQuarters (IsTree size depth) half x y leaves → Lower → All leaves
    four e q lower = subst All (sym q.together)
        (all_append (IsWithin side x y) ((q.first ++ q.second) ++ q.third) q.fourth
        (all_append (IsWithin side x y) (q.first ++ q.second) q.third
        (all_append (IsWithin side x y) q.first q.second
        (all_each (IsWithin half x y) (IsWithin side x y) _ (widened side half x y x y e (omega arith) (omega arith) (omega arith) (omega arith)) (lower _ _ _ q.top_left))
        (all_each (IsWithin half (x + half) y) (IsWithin side x y) _ (widened side half x y (x + half) y e (omega arith) (omega arith) (omega arith) (omega arith)) (lower _ _ _ q.top_right)))
        (all_each (IsWithin half x (y + half)) (IsWithin side x y) _ (widened side half x y x (y + half) e (omega arith) (omega arith) (omega arith) (omega arith)) (lower _ _ _ q.bottom_left)))
        (all_each (IsWithin half (x + half) (y + half)) (IsWithin side x y) _ (widened side half x y (x + half) (y + half) e (omega arith) (omega arith) (omega arith) (omega arith)) (lower _ _ _ q.bottom_right)))

    go : side ≡ half + half → 0 < half → (a b : Bool)
        → MatchBool a (MatchBool b (IsCodingUnit (block_at x y (4 + depth)) leaves ⊎ AreQuarters (IsTree size depth) half x y leaves) (AreQuarters (IsTree size depth) half x y leaves)) (leaves ≡ [])
        → Lower → All leaves
    go e s true true u lower = ⊎_elim
        (λ (v : IsCodingUnit (block_at x y (4 + depth)) leaves). subst All (sym v.one) (at_corner side x y (4 + depth) v.kind (omega arith), tt))
        (λ (q : AreQuarters (IsTree size depth) half x y leaves). four e q lower) u
    go e s true false q lower = four e q lower
    go e s false b none lower = subst All (sym none) tt

-- the first leaf of a block lies at its corner, and is no larger, and the others begin within it but not there
pub record IsBlock (side log2 x y : ℕ) (leaves : List Leaf) : Type 0 where
  pub first : Leaf
  pub more : List Leaf
  pub is : leaves ≡ first ∷ more
  pub small : first.block.log2 ≤ log2
  pub column : first.block.x ≡ x
  pub row : first.block.y ≡ y
  pub others : AllByRecursion (IsLater side x y) more

pub tree_block : (size : Size) (depth x y : ℕ) (leaves : List Leaf) → depth < 3 → IsTree size depth x y leaves → is_inside size x y ≡ true → IsBlock (2 ^ (3 + depth)) (3 + depth) x y leaves
tree_block size zero x y leaves h t inside = go (is_inside size x y) inside t
  where
    go : (b : Bool) → b ≡ true → MatchBool b (IsCodingUnit (block_at x y 3) leaves) (leaves ≡ []) → IsBlock 8 3 x y leaves
    go true e u = record { first = leaf_with (block_at x y 3) u.kind; more = []; is = u.one; small = omega arith; column = refl; row = refl; others = tt }
    go false e u = absurd (cc)
tree_block size (suc depth) x y leaves h t inside =
    let small : depth < 2 = omega arith in
    let k : HasHalf depth (2 ^ (4 + depth)) half = has_half depth small in
    subst (λ s. IsBlock s (3 + suc depth) x y leaves) (sym k.whole)
    (go k.twice k.some (is_inside size x y) inside (is_whole size (2 * half) x y) t (λ ls q. tree_block size depth x y ls (omega arith) q inside)
    (λ px py ls. tree_within size depth px py ls (omega arith)))
  where
    half : ℕ
    half = 2 ^ (3 + depth)

    side : ℕ
    side = 2 ^ (4 + depth)

    First : Type 0
    First = (ls : List Leaf) → IsTree size depth x y ls → IsBlock half (3 + depth) x y ls

    Within : Type 0
    Within = (px py : ℕ) (ls : List Leaf) → IsTree size depth px py ls → AllByRecursion (IsWithin half px py) ls

    four : side ≡ half + half → 0 < half → AreQuarters (IsTree size depth) half x y leaves → First → Within → IsBlock side (3 + suc depth) x y leaves
    four e s q f w = let b : IsBlock half (3 + depth) x y q.first = f q.first q.top_left in
        record {
          first = b.first;
          more = ((b.more ++ q.second) ++ q.third) ++ q.fourth;
          is = q.together ∙ ap (λ (l : List Leaf). ((l ++ q.second) ++ q.third) ++ q.fourth) b.is;
          small = let small : b.first.block.log2 ≤ 3 + depth = b.small in omega arith;
          column = b.column;
          row = b.row;
          others =
              all_append (IsLater side x y) ((b.more ++ q.second) ++ q.third) q.fourth
              (all_append (IsLater side x y) (b.more ++ q.second) q.third
              (all_append (IsLater side x y) b.more q.second
              (all_each (IsLater half x y) (IsLater side x y) b.more (still_later side half x y e) b.others)
              (all_each (IsWithin half (x + half) y) (IsLater side x y) _ (later side half x y (x + half) y e (omega arith) (omega arith) (omega arith) (omega arith) (omega arith)) (w _ _ _ q.top_right)))
              (all_each (IsWithin half x (y + half)) (IsLater side x y) _ (later side half x y x (y + half) e (omega arith) (omega arith) (omega arith) (omega arith) (omega arith)) (w _ _ _ q.bottom_left)))
              (all_each (IsWithin half (x + half) (y + half)) (IsLater side x y) _ (later side half x y (x + half) (y + half) e (omega arith) (omega arith) (omega arith) (omega arith) (omega arith)) (w _ _ _ q.bottom_right));
        }

    go : side ≡ half + half → 0 < half → (a : Bool) → a ≡ true → (b : Bool)
        → MatchBool a (MatchBool b (IsCodingUnit (block_at x y (4 + depth)) leaves ⊎ AreQuarters (IsTree size depth) half x y leaves) (AreQuarters (IsTree size depth) half x y leaves)) (leaves ≡ [])
        → First → Within → IsBlock side (3 + suc depth) x y leaves
    go e s true i true u f w = ⊎_elim
        (λ (v : IsCodingUnit (block_at x y (4 + depth)) leaves). record { first = leaf_with (block_at x y (4 + depth)) v.kind; more = []; is = v.one; small = omega arith; column = refl; row = refl; others = tt })
        (λ (q : AreQuarters (IsTree size depth) half x y leaves). four e s q f w) u
    go e s true i false q f w = four e s q f w
    go e s false i b u f w = absurd (cc)

-- ---- coding tree units

multiple : (n : ℕ) → n * 32 % 32 ≡ 0
multiple n = omega arith

pub ctu_corner : (size : Size) (ctu : ℕ) → IsCorner 32 (ctu_x size ctu) (ctu_y size ctu)
ctu_corner size ctu = record { column = multiple _; row = multiple _ }

pub ctu_units : (size : Size) (ctu : ℕ) (leaves : List Leaf) → IsLawfulTree size ctu leaves → AllByRecursion (IsUnit size) leaves
ctu_units size ctu leaves t = tree_units size 2 _ _ leaves (omega arith) (ctu_corner size ctu) t
