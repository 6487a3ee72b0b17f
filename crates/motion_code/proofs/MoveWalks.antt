-- A coding tree of units that may move is written unit by unit, each with the flags of the blocks that begin with it.
use Rattle.std.proofs.Common.{◌≡◌, refl, sym, ◌∙◌, ap, subst, ℕ, zero, suc, ◌+◌, ◌*◌, ◌^◌, ◌<◌, ◌≤◌, List, [], ◌∷◌, ◌++◌, Bool, true, false, cond, not, append_assoc, append-nil, arith, ⊎_elim}
use Rattle.std.specs.Prelude.{◌⊎◌, MatchBool, nat_lt, get_or, drop}
use Rattle.std.specs.List.{AllByRecursion}
use Rattle.std.proofs.lemmas.Bool.{cond-true, cond-false, eq-eqb, ne_eqb, lt-ltb}
use Rattle.h265_model.specs.declared.Item.{Item}
use Rattle.h265_model.specs.declared.leaf.Leaf.{Leaf}
use Rattle.h265_model.specs.declared.moves.MoveLeaf.{MoveLeaf}
use Rattle.h265_model.specs.Plain.{block_at, Size, context_bin, leaf_with, ctu_x, ctu_y}
use Rattle.h265_model.specs.Predict.{is_inside}
use Rattle.h265_model.specs.Motion.{Moving, leaves, leaf_as_coded, as_coded, coded_after}
use Rattle.h265_model.specs.Tree.{UnitItems, moving, unit_block, Walk, walk_on, and_walk, quarters, coding_unit_walk, no_walk, is_whole, is_next, tree_walk, split_context, ctu_items, IsCodingUnit, AreQuarters, IsTree, IsLawfulTree}
use Rattle.coding_tree.specs.Splits.{split_items}
use Rattle.coding_tree.specs.UnitFlags.{flag_items, flags_items}
use Rattle.coding_tree.proofs.Trees.{HasHalf, has_half, IsCorner, AreCorners, corners, corner_at, IsLater, IsBlock, tree_block, ctu_corner}
use Rattle.coding_tree.proofs.UnitWalks.{begins_later, flags_to, no_flag, first_flag, no_flags, not_less, flag_is, flag_inferred}
use Rattle.motion_code.specs.Moves.{coded_leaves}

-- ---- lists of units

pub coded-append : (before : List Moving) (a b : List MoveLeaf) → coded_after before (a ++ b) ≡ coded_after (coded_after before a) b
coded-append before [] b = refl
coded-append before (u ∷ a) b = coded-append (before ++ as_coded before u ∷ []) a b

first_of : (a b : Leaf) (as_ bs : List Leaf) → a ∷ as_ ≡ b ∷ bs → a ≡ b
first_of a b as_ bs e = ap (λ (l : List Leaf). get_or l 0 a) e

rest_of : (a b : Leaf) (as_ bs : List Leaf) → a ∷ as_ ≡ b ∷ bs → as_ ≡ bs
rest_of a b as_ bs e = ap (λ (l : List Leaf). drop 1 l) e

-- units whose leaves are those of two lists
record AreTwo (us : List MoveLeaf) (p q : List Leaf) : Type 0 where
  front : List MoveLeaf
  back : List MoveLeaf
  whole : us ≡ front ++ back
  first : coded_leaves front ≡ p
  second : coded_leaves back ≡ q

two_parts : (us : List MoveLeaf) (p q : List Leaf) → coded_leaves us ≡ p ++ q → AreTwo us p q
two_parts us [] q e = record { front = []; back = us; whole = refl; first = refl; second = e }
two_parts [] (x ∷ p) q e = absurd (cc)
two_parts (u ∷ us) (x ∷ p) q e =
    let t : AreTwo us p q = two_parts us p q (rest_of (leaf_as_coded u) x (coded_leaves us) (p ++ q) e) in
    record {
      front = u ∷ t.front;
      back = t.back;
      whole = ap (λ (l : List MoveLeaf). u ∷ l) t.whole;
      first = ap (λ (l : List Leaf). leaf_as_coded u ∷ l) t.first ∙ ap (λ (l : Leaf). l ∷ p) (first_of (leaf_as_coded u) x (coded_leaves us) (p ++ q) e);
      second = t.second;
    }

-- units whose leaves are those of four lists
record AreFour (us : List MoveLeaf) (p q r s : List Leaf) : Type 0 where
  one : List MoveLeaf
  two : List MoveLeaf
  three : List MoveLeaf
  four : List MoveLeaf
  whole : us ≡ ((one ++ two) ++ three) ++ four
  first : coded_leaves one ≡ p
  second : coded_leaves two ≡ q
  third : coded_leaves three ≡ r
  fourth : coded_leaves four ≡ s

four_parts : (us : List MoveLeaf) (p q r s : List Leaf) → coded_leaves us ≡ ((p ++ q) ++ r) ++ s → AreFour us p q r s
four_parts us p q r s e =
    let d : AreTwo us ((p ++ q) ++ r) s = two_parts us ((p ++ q) ++ r) s e in
    let c : AreTwo d.front (p ++ q) r = two_parts d.front (p ++ q) r d.first in
    let b : AreTwo c.front p q = two_parts c.front p q c.first in
    record {
      one = b.front;
      two = b.back;
      three = c.back;
      four = d.back;
      whole = d.whole ∙ ap (λ (l : List MoveLeaf). l ++ d.back) (c.whole ∙ ap (λ (l : List MoveLeaf). l ++ c.back) b.whole);
      first = b.first;
      second = b.second;
      third = c.second;
      fourth = d.second;
    }

-- units whose leaves are one leaf
record IsOne (us : List MoveLeaf) (leaf : Leaf) : Type 0 where
  unit : MoveLeaf
  whole : us ≡ unit ∷ []
  is : leaf_as_coded unit ≡ leaf

one_unit : (us : List MoveLeaf) (leaf : Leaf) → coded_leaves us ≡ leaf ∷ [] → IsOne us leaf
one_unit [] leaf e = absurd (cc)
one_unit (u ∷ []) leaf e = record { unit = u; whole = refl; is = first_of (leaf_as_coded u) leaf [] [] e }
one_unit (u ∷ v ∷ us) leaf e = absurd (let none : coded_leaves (v ∷ us) ≡ [] = rest_of (leaf_as_coded u) leaf (coded_leaves (v ∷ us)) [] e in cc)

no_units : (us : List MoveLeaf) → coded_leaves us ≡ [] → us ≡ []
no_units [] e = refl
no_units (u ∷ us) e = absurd (cc)

-- the first unit of a block lies at its corner, and is no larger, and the others begin within it but not there
record IsUnitBlock (side log2 x y : ℕ) (us : List MoveLeaf) : Type 0 where
  unit : MoveLeaf
  more : List MoveLeaf
  whole : us ≡ unit ∷ more
  small : (leaf_as_coded unit).block.log2 ≤ log2
  column : (leaf_as_coded unit).block.x ≡ x
  row : (leaf_as_coded unit).block.y ≡ y
  others : AllByRecursion (IsLater side x y) (coded_leaves more)

unit_block_of : (side log2 x y : ℕ) (us : List MoveLeaf) → IsBlock side log2 x y (coded_leaves us) → IsUnitBlock side log2 x y us
unit_block_of side log2 x y [] b = absurd (let e : [] ≡ b.first ∷ b.more = b.is in cc)
unit_block_of side log2 x y (u ∷ us) b =
    let e : leaf_as_coded u ≡ b.first = first_of (leaf_as_coded u) b.first (coded_leaves us) b.more b.is in
    record {
      unit = u;
      more = us;
      whole = refl;
      small = subst (λ (l : Leaf). l.block.log2 ≤ log2) (sym e) b.small;
      column = ap (λ (l : Leaf). l.block.x) e ∙ b.column;
      row = ap (λ (l : Leaf). l.block.y) e ∙ b.row;
      others = subst (AllByRecursion (IsLater side x y)) (sym (rest_of (leaf_as_coded u) b.first (coded_leaves us) b.more b.is)) b.others;
    }

same_unit : (us : List MoveLeaf) (a b : MoveLeaf) (as_ bs : List MoveLeaf) → us ≡ a ∷ as_ → us ≡ b ∷ bs → a ≡ b
same_unit us a b as_ bs e f = ap (λ (l : List MoveLeaf). get_or l 0 a) (sym e ∙ f)

-- after these units the walk takes those, whatever follows, and has these items
record Walks (walk : List Moving → List MoveLeaf → Walk MoveLeaf Moving) (before : List Moving) (us : List MoveLeaf) (list : List Item) : Type 0 where
  walks : (rest : List MoveLeaf) → walk before (us ++ rest) ≡ record { list = list; before = coded_after before us; left = rest }

walks_as : (walk walk' : List Moving → List MoveLeaf → Walk MoveLeaf Moving) (before : List Moving) (us : List MoveLeaf) (list list' : List Item)
    → ((rest : List MoveLeaf) → walk' before (us ++ rest) ≡ walk before (us ++ rest)) → list ≡ list' → Walks walk before us list → Walks walk' before us list'
walks_as walk walk' before us list list' same e w = record {
  walks = λ rest. same rest ∙ (w.walks rest ∙ ap (λ (l : List Item). record { list = l; before = coded_after before us; left = rest }) e);
}

walks_none : (before : List Moving) (us : List MoveLeaf) → us ≡ [] → Walks no_walk before us []
walks_none before us none = record {
  walks = λ rest. ap (λ (l : List MoveLeaf). no_walk before (l ++ rest)) none
      ∙ ap (λ (l : List MoveLeaf). record { list = []; before = coded_after before l; left = rest }) (sym none);
}

walks_on : (walk : List Moving → List MoveLeaf → Walk MoveLeaf Moving) (before : List Moving) (us : List MoveLeaf) (list front : List Item) → Walks walk before us list
    → Walks (λ b left. walk_on front (walk b left)) before us (front ++ list)
walks_on walk before us list front w = record { walks = λ rest. ap (walk_on front) (w.walks rest) }

walks_quarters : (go : ℕ → ℕ → List Moving → List MoveLeaf → Walk MoveLeaf Moving) (half x y : ℕ) (before : List Moving) (a b c d : List MoveLeaf) (p q r s : List Item)
    → Walks (go x y) before a p
    → Walks (go (x + half) y) (coded_after before a) b q
    → Walks (go x (y + half)) (coded_after (coded_after before a) b) c r
    → Walks (go (x + half) (y + half)) (coded_after (coded_after (coded_after before a) b) c) d s
    → Walks (quarters go half x y) before (((a ++ b) ++ c) ++ d) (((p ++ q) ++ r) ++ s)
walks_quarters go half x y before a b c d p q r s wa wb wc wd = record {
  walks = λ rest.
      let first : go x y before ((((a ++ b) ++ c) ++ d) ++ rest) ≡ record { list = p; before = coded_after before a; left = b ++ (c ++ (d ++ rest)) } =
      ap (go x y before) (append_assoc ((a ++ b) ++ c) d rest ∙ (append_assoc (a ++ b) c (d ++ rest) ∙ append_assoc a b (c ++ (d ++ rest)))) ∙ wa.walks (b ++ (c ++ (d ++ rest))) in
      let second : Walk MoveLeaf Moving → Walk MoveLeaf Moving = λ w. and_walk w (go (x + half) y) in
      let third : Walk MoveLeaf Moving → Walk MoveLeaf Moving = λ w. and_walk w (go x (y + half)) in
      let fourth : Walk MoveLeaf Moving → Walk MoveLeaf Moving = λ w. and_walk w (go (x + half) (y + half)) in
      let end : coded_after (coded_after (coded_after (coded_after before a) b) c) d ≡ coded_after before (((a ++ b) ++ c) ++ d) =
      ap (λ (l : List Moving). coded_after (coded_after l c) d) (sym (coded-append before a b))
      ∙ (ap (λ (l : List Moving). coded_after l d) (sym (coded-append before (a ++ b) c)) ∙ sym (coded-append before ((a ++ b) ++ c) d)) in
      ap (λ (w : Walk MoveLeaf Moving). fourth (third (second w))) first
      ∙ (ap (λ (w : Walk MoveLeaf Moving). fourth (third (walk_on p w))) (wb.walks (c ++ (d ++ rest)))
      ∙ (ap (λ (w : Walk MoveLeaf Moving). fourth (walk_on (p ++ q) w)) (wc.walks (d ++ rest))
      ∙ (ap (λ (w : Walk MoveLeaf Moving). walk_on ((p ++ q) ++ r) w) (wd.walks rest)
      ∙ ap (λ (l : List Moving). record { list = ((p ++ q) ++ r) ++ s; before = l; left = rest }) end)));
}

module _ (items : UnitItems) (size : Size) where
  -- ---- units one by one

  parts : ℕ → List Moving → List MoveLeaf → List Item
  parts depth before [] = []
  parts depth before (u ∷ us) = (flags_to size (leaves before) (leaf_as_coded u) depth ++ items before u) ++ parts depth (before ++ as_coded before u ∷ []) us

  -- the same up to the largest block
  unfoldable pub units_items : List Moving → List MoveLeaf → List Item
  units_items before [] = []
  units_items before (u ∷ us) = (flags_items size (leaves before) (leaf_as_coded u) ++ items before u) ++ units_items (before ++ as_coded before u ∷ []) us

  parts_are : (before : List Moving) (us : List MoveLeaf) → parts 2 before us ≡ units_items before us
  unfolding parts units_items flags_to flags_items
  parts_are before [] = refl
  parts_are before (u ∷ us) =
      let five : List Item = flag_items size (leaves before) (leaf_as_coded u) 5 in
      let four : List Item = flag_items size (leaves before) (leaf_as_coded u) 4 in
      let flags : five ++ (four ++ []) ≡ five ++ four = ap (λ (l : List Item). five ++ l) (append-nil four) in
      ap (λ (l : List Item). (l ++ items before u) ++ parts 2 (before ++ as_coded before u ∷ []) us) flags
      ∙ ap (λ (l : List Item). ((five ++ four) ++ items before u) ++ l) (parts_are (before ++ as_coded before u ∷ []) us)

  parts-append : (depth : ℕ) (before : List Moving) (a b : List MoveLeaf) → parts depth before (a ++ b) ≡ parts depth before a ++ parts depth (coded_after before a) b
  unfolding parts
  parts-append depth before [] b = refl
  parts-append depth before (u ∷ a) b =
      let one : List Item = flags_to size (leaves before) (leaf_as_coded u) depth ++ items before u in
      let after : List Moving = before ++ as_coded before u ∷ [] in
      ap (λ (l : List Item). one ++ l) (parts-append depth after a b) ∙ sym (append_assoc one (parts depth after a) (parts depth (coded_after after a) b))

  parts_later : (depth x y : ℕ) (before : List Moving) (us : List MoveLeaf) → depth < 2 → IsCorner (2 ^ (4 + depth)) x y → AllByRecursion (IsLater (2 ^ (4 + depth)) x y) (coded_leaves us)
      → parts (suc depth) before us ≡ parts depth before us
  unfolding parts flags_to
  parts_later depth x y before [] h c all = refl
  parts_later depth x y before (u ∷ us) h c all =
      let leaf : Leaf = leaf_as_coded u in
      ap (λ (l : List Item). ((l ++ flags_to size (leaves before) leaf depth) ++ items before u) ++ parts (suc depth) (before ++ as_coded before u ∷ []) us)
      (no_flag size (leaves before) leaf (4 + depth) (begins_later depth x y leaf h c all.0))
      ∙ ap (λ (l : List Item). (flags_to size (leaves before) leaf depth ++ items before u) ++ l) (parts_later depth x y (before ++ as_coded before u ∷ []) us h c all.1)

  parts_block : (depth x y : ℕ) (before : List Moving) (us : List MoveLeaf) → depth < 2 → IsCorner (2 ^ (4 + depth)) x y
      → (b : IsUnitBlock (2 ^ (4 + depth)) (4 + depth) x y us)
      → parts (suc depth) before us ≡ split_items size (leaves before) (block_at x y (4 + depth)) (nat_lt (leaf_as_coded b.unit).block.log2 (4 + depth)) ++ parts depth before us
  unfolding parts flags_to
  parts_block depth x y before us h c b =
      let leaf : Leaf = leaf_as_coded b.unit in
      let flag : List Item = split_items size (leaves before) (block_at x y (4 + depth)) (nat_lt leaf.block.log2 (4 + depth)) in
      let flags : List Item = flags_to size (leaves before) leaf depth in
      let unit : List Item = items before b.unit in
      let after : List Moving = before ++ as_coded before b.unit ∷ [] in
      let more : List Item = parts depth after b.more in
      ap (parts (suc depth) before) b.whole
      ∙ (ap (λ (l : List Item). ((l ++ flags) ++ unit) ++ parts (suc depth) after b.more) (first_flag size (leaves before) leaf (4 + depth) x y b.small b.column b.row c)
      ∙ (ap (λ (l : List Item). ((flag ++ flags) ++ unit) ++ l) (parts_later depth x y after b.more h c b.others)
      ∙ (ap (λ (l : List Item). l ++ more) (append_assoc flag flags unit)
      ∙ (append_assoc flag (flags ++ unit) more ∙ ap (λ (l : List MoveLeaf). flag ++ parts depth before l) (sym b.whole)))))

  parts_one : (depth : ℕ) (before : List Moving) (u : MoveLeaf) → flags_to size (leaves before) (leaf_as_coded u) depth ≡ [] → parts depth before (u ∷ []) ≡ items before u
  unfolding parts
  parts_one depth before u e =
      append-nil (flags_to size (leaves before) (leaf_as_coded u) depth ++ items before u) ∙ ap (λ (l : List Item). l ++ items before u) e

  -- ---- walks

  walks_unit : (before : List Moving) (us : List MoveLeaf) (u : MoveLeaf) → us ≡ u ∷ [] → Walks (coding_unit_walk (moving items)) before us (items before u)
  walks_unit before us u e = record {
    walks = λ rest. ap (λ (l : List MoveLeaf). coding_unit_walk (moving items) before (l ++ rest)) e
        ∙ ap (λ (l : List MoveLeaf). record { list = items before u; before = coded_after before l; left = rest }) (sym e);
  }

  parts_four : (depth : ℕ) (before : List Moving) (a b c d : List MoveLeaf)
      → ((parts depth before a ++ parts depth (coded_after before a) b) ++ parts depth (coded_after (coded_after before a) b) c)
      ++ parts depth (coded_after (coded_after (coded_after before a) b) c) d ≡ parts depth before (((a ++ b) ++ c) ++ d)
  parts_four depth before a b c d =
      let on : List Moving → List MoveLeaf → List Item = parts depth in
      let third : List Item = on (coded_after (coded_after before a) b) c in
      let fourth : List Item = on (coded_after (coded_after (coded_after before a) b) c) d in
      ap (λ (l : List Item). (l ++ third) ++ fourth) (sym (parts-append depth before a b))
      ∙ (ap (λ (l : List Moving). (on before (a ++ b) ++ on l c) ++ fourth) (sym (coded-append before a b))
      ∙ (ap (λ (l : List Item). l ++ fourth) (sym (parts-append depth before (a ++ b) c))
      ∙ (ap (λ (l : List Moving). on before ((a ++ b) ++ c) ++ on l d) (ap (λ (l : List Moving). coded_after l c) (sym (coded-append before a b)) ∙ sym (coded-append before (a ++ b) c))
      ∙ sym (parts-append depth before ((a ++ b) ++ c) d))))

  -- ---- a block

  tree_walks : (depth x y : ℕ) (before : List Moving) (us : List MoveLeaf) → depth < 3 → IsCorner (2 ^ (3 + depth)) x y → IsTree size depth x y (coded_leaves us)
      → Walks (tree_walk (moving items) size depth x y) before us (parts depth before us)
  unfolding parts flags_to
  tree_walks zero x y before us small c t = go (is_inside size x y) refl t
    where
      go : (b : Bool) → is_inside size x y ≡ b → MatchBool b (IsCodingUnit (block_at x y 3) (coded_leaves us)) (coded_leaves us ≡ []) → Walks (tree_walk (moving items) size zero x y) before us (parts zero before us)
      go true e v =
          let o : IsOne us (leaf_with (block_at x y 3) v.kind) = one_unit us _ v.one in
          walks_as (coding_unit_walk (moving items)) _ before us _ _ (λ rest. cond-true (is_inside size x y) _ _ e)
          (sym (parts_one zero before o.unit refl) ∙ ap (parts zero before) (sym o.whole))
          (walks_unit before us o.unit o.whole)
      go false e none = let empty : us ≡ [] = no_units us none in
          walks_as no_walk _ before us _ _ (λ rest. cond-false (is_inside size x y) _ _ e) (ap (parts zero before) (sym empty)) (walks_none before us empty)
  tree_walks (suc depth) x y before us h c t =
      let small : depth < 2 = omega arith in
      go small (corner_at depth x y small c) (is_inside size x y) refl (is_whole size (2 * half) x y) refl t
      (λ e. let k : HasHalf depth (2 ^ (4 + depth)) half = has_half depth small in
      unit_block_of side (4 + depth) x y us
      (subst (λ n. IsBlock (2 ^ (4 + depth)) n x y (coded_leaves us)) k.log2 (subst (λ s. IsBlock s (3 + suc depth) x y (coded_leaves us)) k.whole (tree_block size (suc depth) x y (coded_leaves us) h t e))))
      (λ ls q e. unit_block_of half (3 + depth) x y ls (tree_block size depth x y (coded_leaves ls) (omega arith) q e))
      (λ px py b ls. tree_walks depth px py b ls (omega arith))
    where
      half : ℕ
      half = 2 ^ (3 + depth)

      side : ℕ
      side = 2 ^ (4 + depth)

      Lower : Type 0
      Lower = (px py : ℕ) (b : List Moving) (ls : List MoveLeaf) → IsCorner half px py → IsTree size depth px py (coded_leaves ls) → Walks (tree_walk (moving items) size depth px py) b ls (parts depth b ls)

      flag : ℕ
      flag = split_context (leaves before) (block_at x y (4 + depth))

      split_walk : List Moving → List MoveLeaf → Walk MoveLeaf Moving
      split_walk = quarters (tree_walk (moving items) size depth) half x y

      four : AreCorners half x y → (q : AreQuarters (IsTree size depth) half x y (coded_leaves us)) → AreFour us q.first q.second q.third q.fourth → Lower → Walks split_walk before us (parts depth before us)
      four k q f lower =
          let a : List MoveLeaf = f.one in
          let b : List MoveLeaf = f.two in
          let c : List MoveLeaf = f.three in
          let d : List MoveLeaf = f.four in
          subst (λ (l : List MoveLeaf). Walks split_walk before l (parts depth before l)) (sym f.whole)
          (walks_as split_walk split_walk before _ _ _ (λ rest. refl) (parts_four depth before a b c d)
          (walks_quarters (tree_walk (moving items) size depth) half x y before a b c d _ _ _ _
          (lower x y before a k.top_left (subst (IsTree size depth x y) (sym f.first) q.top_left))
          (lower (x + half) y (coded_after before a) b k.top_right (subst (IsTree size depth (x + half) y) (sym f.second) q.top_right))
          (lower x (y + half) (coded_after (coded_after before a) b) c k.bottom_left (subst (IsTree size depth x (y + half)) (sym f.third) q.bottom_left))
          (lower (x + half) (y + half) (coded_after (coded_after (coded_after before a) b) c) d k.bottom_right (subst (IsTree size depth (x + half) (y + half)) (sym f.fourth) q.bottom_right))))

      Block : Type 0
      Block = IsUnitBlock side (4 + depth) x y us

      Inner : Type 0
      Inner = (ls : List MoveLeaf) → IsTree size depth x y (coded_leaves ls) → is_inside size x y ≡ true → IsUnitBlock half (3 + depth) x y ls

      Goal : Type 0
      Goal = Walks (tree_walk (moving items) size (suc depth) x y) before us (parts (suc depth) before us)

      whole_is : depth < 2 → (b : Bool) → is_whole size (2 * half) x y ≡ b → is_whole size side x y ≡ b
      whole_is small b f = ap (λ s. is_whole size s x y) (sym (has_half depth small).double) ∙ f

      go : depth < 2 → IsCorner side x y → (a : Bool) → is_inside size x y ≡ a → (b : Bool) → is_whole size (2 * half) x y ≡ b
          → MatchBool a (MatchBool b (IsCodingUnit (block_at x y (4 + depth)) (coded_leaves us) ⊎ AreQuarters (IsTree size depth) half x y (coded_leaves us)) (AreQuarters (IsTree size depth) half x y (coded_leaves us))) (coded_leaves us ≡ [])
          → (is_inside size x y ≡ true → Block) → Inner → Lower → Goal
      go small k false e b f none block inner lower = let empty : us ≡ [] = no_units us none in
          walks_as no_walk _ before us _ _
          (λ rest. cond-true (not (is_inside size x y)) _ _ (ap not e)) (ap (parts (suc depth) before) (sym empty)) (walks_none before us empty)
      go small k true e false f q block inner lower =
          let b : Block = block e in
          walks_as split_walk _ before us _ _
          (λ rest. cond-false (not (is_inside size x y)) _ _ (ap not e) ∙ cond-true (not (is_whole size (2 * half) x y)) _ _ (ap not f))
          (sym (parts_block depth x y before us small k b
          ∙ ap (λ (l : List Item). l ++ parts depth before us) (flag_inferred size (leaves before) x y depth (nat_lt (leaf_as_coded b.unit).block.log2 (4 + depth)) (whole_is small false f))))
          (four (corners depth x y small k) q (four_parts us q.first q.second q.third q.fourth q.together) lower)
      go small k true e true f u block inner lower = ⊎_elim
          (λ (v : IsCodingUnit (block_at x y (4 + depth)) (coded_leaves us)).
          let leaf : Leaf = leaf_with (block_at x y (4 + depth)) v.kind in
          let o : IsOne us leaf = one_unit us leaf v.one in
          let first : leaf_as_coded b.unit ≡ leaf = ap leaf_as_coded (same_unit us b.unit o.unit b.more [] b.whole o.whole) ∙ o.is in
          let large : 3 + depth < (leaf_as_coded o.unit).block.log2 = subst (λ (l : Leaf). 3 + depth < l.block.log2) (sym o.is) (omega arith) in
          let next : (leaf_as_coded o.unit).block.log2 ≡ 4 + depth = ap (λ (l : Leaf). l.block.log2) o.is in
          walks_as (λ b left. walk_on (context_bin false flag ∷ []) (coding_unit_walk (moving items) b left)) _ before us _ _
          (λ rest. at_whole rest ∙ cond-true (is_next unit_block (4 + depth) (us ++ rest)) _ _
          (ap (λ (l : List MoveLeaf). is_next unit_block (4 + depth) (l ++ rest)) o.whole ∙ eq-eqb o.unit.block.log2 (4 + depth) next))
          (ap (λ (l : List Item). context_bin false flag ∷ l)
          (sym (parts_one depth before o.unit (no_flags size (leaves before) (leaf_as_coded o.unit) depth large)) ∙ ap (parts depth before) (sym o.whole))
          ∙ sym (flagged false (not_less (leaf_as_coded b.unit).block.log2 (4 + depth) (ap (λ (l : Leaf). l.block.log2) first))))
          (walks_on (coding_unit_walk (moving items)) before us _ (context_bin false flag ∷ []) (walks_unit before us o.unit o.whole)))
          (λ (q : AreQuarters (IsTree size depth) half x y (coded_leaves us)).
          let p : AreFour us q.first q.second q.third q.fourth = four_parts us q.first q.second q.third q.fourth q.together in
          let i : IsUnitBlock half (3 + depth) x y p.one = inner p.one (subst (IsTree size depth x y) (sym p.first) q.top_left) e in
          let is : us ≡ i.unit ∷ (((i.more ++ p.two) ++ p.three) ++ p.four) = p.whole ∙ ap (λ (l : List MoveLeaf). ((l ++ p.two) ++ p.three) ++ p.four) i.whole in
          let first : b.unit ≡ i.unit = same_unit us b.unit i.unit b.more _ b.whole is in
          let few : (leaf_as_coded i.unit).block.log2 ≤ 3 + depth = i.small in
          let less : (leaf_as_coded b.unit).block.log2 < 4 + depth = subst (λ (v : MoveLeaf). (leaf_as_coded v).block.log2 < 4 + depth) (sym first) (omega arith) in
          walks_as (λ b left. walk_on (context_bin true flag ∷ []) (split_walk b left)) _ before us _ _
          (λ rest. at_whole rest ∙ cond-false (is_next unit_block (4 + depth) (us ++ rest)) _ _
          (ap (λ (l : List MoveLeaf). is_next unit_block (4 + depth) (l ++ rest)) b.whole ∙ ne_eqb b.unit.block.log2 (4 + depth) (λ k. omega arith)))
          (sym (flagged true (lt-ltb _ _ less)))
          (walks_on split_walk before us _ (context_bin true flag ∷ []) (four (corners depth x y small k) q p lower)))
          u
        where
          at_whole : (rest : List MoveLeaf) → tree_walk (moving items) size (suc depth) x y before (us ++ rest)
              ≡ cond (is_next unit_block (4 + depth) (us ++ rest)) (walk_on (context_bin false flag ∷ []) (coding_unit_walk (moving items) before (us ++ rest))) (walk_on (context_bin true flag ∷ []) (split_walk before (us ++ rest)))
          at_whole rest = cond-false (not (is_inside size x y)) _ _ (ap not e) ∙ cond-false (not (is_whole size (2 * half) x y)) _ _ (ap not f)

          b : Block
          b = block e

          flagged : (split : Bool) → nat_lt (leaf_as_coded b.unit).block.log2 (4 + depth) ≡ split → parts (suc depth) before us ≡ context_bin split flag ∷ parts depth before us
          flagged split g = parts_block depth x y before us small k b
              ∙ ap (λ (l : List Item). l ++ parts depth before us)
              (ap (split_items size (leaves before) (block_at x y (4 + depth))) g ∙ flag_is size (leaves before) x y depth split (whole_is small true f))

  -- the items of a coding tree unit
  pub units_are : (before : List Moving) (us : List MoveLeaf) (ctu : ℕ) → IsLawfulTree size ctu (coded_leaves us) → ctu_items (moving items) size before us ctu ≡ units_items before us
  unfolding ctu_items
  units_are before us ctu t =
      let x : ℕ = ctu_x size ctu in
      let y : ℕ = ctu_y size ctu in
      let w : Walks (tree_walk (moving items) size 2 x y) before us (parts 2 before us) = tree_walks 2 x y before us (omega arith) (ctu_corner size ctu) t in
      ap (λ (l : List MoveLeaf). (tree_walk (moving items) size 2 x y before l).list) (sym (append-nil us))
      ∙ (ap (λ (w : Walk MoveLeaf Moving). w.list) (w.walks []) ∙ parts_are before us)
