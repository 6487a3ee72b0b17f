-- A coding tree is written unit by unit, each with the flags of the blocks that begin with it.
use Rattle.std.proofs.Common.{◌≡◌, refl, sym, ◌∙◌, ap, subst, ℕ, zero, suc, ◌+◌, ◌*◌, ◌%◌, ◌^◌, ◌<◌, ◌≤◌, List, [], ◌∷◌, ◌++◌, Bool, true, false, cond, not, ◌&&◌, append_assoc, append-nil, arith, ⊎_elim}
use Rattle.std.specs.Prelude.{◌⊎◌, ◌==◌, MatchBool, nat_lt, nat_le, get_or}
use Rattle.std.specs.List.{AllByRecursion}
use Rattle.std.proofs.lemmas.Bool.{cond-true, cond-false, eqb-true, eq-eqb, ne_eqb, lt-ltb, le-leb, leb-true, ltb-true}
use Rattle.h265_model.specs.declared.Item.{Item}
use Rattle.h265_model.specs.declared.leaf.SliceKind.{SliceKind}
use Rattle.h265_model.specs.declared.leaf.Leaf.{Leaf}
use Rattle.h265_model.specs.Plain.{block_at, Size, context_bin, leaf_with, ctu_x, ctu_y}
use Rattle.h265_model.specs.Predict.{is_inside}
use Rattle.h265_model.specs.Tree.{leaf_block, leaf_units, Source, Walk, walk_on, and_walk, quarters, coding_unit_walk, coding_unit_items, no_walk, is_whole, is_next, tree_walk, split_context, ctu_items, IsCodingUnit, AreQuarters, IsTree, IsLawfulTree}
use Rattle.coding_tree.specs.Splits.{split_items}
use Rattle.coding_tree.specs.UnitFlags.{begins, flag_items, flags_items, unit_items}
use Rattle.coding_tree.proofs.Trees.{HasHalf, has_half, IsCorner, AreCorners, corners, corner_at, IsLater, IsBlock, tree_block, ctu_corner}

-- ---- which blocks begin with a unit

no_corner : (a b c : Bool) → (b ≡ true → c ≡ true → ⊥) → (a && (b && c)) ≡ false
no_corner false b c f = refl
no_corner true false c f = refl
no_corner true true false f = refl
no_corner true true true f = absurd (f refl refl)

not_later : (depth x y u v : ℕ) → depth < 2 → x % 2 ^ (4 + depth) ≡ 0 → y % 2 ^ (4 + depth) ≡ 0 → x ≤ u → u < x + 2 ^ (4 + depth) → y ≤ v → v < y + 2 ^ (4 + depth) → x + y < u + v
    → u % 2 ^ (4 + depth) ≡ 0 → v % 2 ^ (4 + depth) ≡ 0 → ⊥
not_later zero x y u v h cx cy a b c d e f g = omega arith
not_later (suc zero) x y u v h cx cy a b c d e f g = omega arith
not_later (suc (suc depth)) x y u v h cx cy a b c d e f g = absurd (omega arith)

-- none that it doesn't lie at the corner of
pub begins_later : (depth x y : ℕ) (leaf : Leaf) → depth < 2 → IsCorner (2 ^ (4 + depth)) x y → IsLater (2 ^ (4 + depth)) x y leaf → begins leaf (4 + depth) ≡ false
begins_later depth x y leaf h c l =
    no_corner (nat_le leaf.block.log2 (4 + depth)) (leaf.block.x % 2 ^ (4 + depth) == 0) (leaf.block.y % 2 ^ (4 + depth) == 0)
    (λ p q. not_later depth x y leaf.block.x leaf.block.y h c.column c.row l.within.left l.within.right l.within.top l.within.bottom l.after (eqb-true _ _ p) (eqb-true _ _ q))

begins_first : (log2 : ℕ) (leaf : Leaf) → leaf.block.log2 ≤ log2 → leaf.block.x % 2 ^ log2 ≡ 0 → leaf.block.y % 2 ^ log2 ≡ 0 → begins leaf log2 ≡ true
begins_first log2 leaf small column row =
    rw (le-leb _ _ small, eq-eqb _ _ column, eq-eqb _ _ row) refl

begins_smaller : (log2 : ℕ) (leaf : Leaf) → log2 < leaf.block.log2 → begins leaf log2 ≡ false
begins_smaller log2 leaf h = go (nat_le leaf.block.log2 log2) refl
  where
    rest : Bool
    rest = leaf.block.x % 2 ^ log2 == 0 && leaf.block.y % 2 ^ log2 == 0

    go : (b : Bool) → nat_le leaf.block.log2 log2 ≡ b → (b && rest) ≡ false
    go true e = absurd (let k : leaf.block.log2 ≤ log2 = leb-true _ _ e in omega arith)
    go false e = refl

-- ---- units one by one

-- the flags of the blocks up to a depth, from that of the largest on
unfoldable pub flags_to : Size → List Leaf → Leaf → ℕ → List Item
flags_to size before leaf zero = []
flags_to size before leaf (suc depth) = flag_items size before leaf (4 + depth) ++ flags_to size before leaf depth

parts : SliceKind → Size → Source → ℕ → List Leaf → List Leaf → List Item
unfolding flags_to
parts kind size source depth before [] = []
parts kind size source depth before (leaf ∷ leaves) =
    (flags_to size before leaf depth ++ coding_unit_items kind source before leaf) ++ parts kind size source depth (before ++ leaf ∷ []) leaves

-- the same up to the largest block
unfoldable pub units_items : SliceKind → Size → Source → List Leaf → List Leaf → List Item
units_items kind size source before [] = []
units_items kind size source before (leaf ∷ leaves) = unit_items kind size source before leaf ++ units_items kind size source (before ++ leaf ∷ []) leaves

parts_are : (kind : SliceKind) (size : Size) (source : Source) (before leaves : List Leaf) → parts kind size source 2 before leaves ≡ units_items kind size source before leaves
unfolding parts units_items flags_to unit_items flags_items
parts_are kind size source before [] = refl
parts_are kind size source before (leaf ∷ leaves) =
    let five : List Item = flag_items size before leaf 5 in
    let four : List Item = flag_items size before leaf 4 in
    let flags : five ++ (four ++ []) ≡ five ++ four = ap (λ (l : List Item). five ++ l) (append-nil four) in
    ap (λ (l : List Item). (l ++ coding_unit_items kind source before leaf) ++ parts kind size source 2 (before ++ leaf ∷ []) leaves) flags
    ∙ ap (λ (l : List Item). ((five ++ four) ++ coding_unit_items kind source before leaf) ++ l) (parts_are kind size source (before ++ leaf ∷ []) leaves)

parts-append : (kind : SliceKind) (size : Size) (source : Source) (depth : ℕ) (before a b : List Leaf)
    → parts kind size source depth before (a ++ b) ≡ parts kind size source depth before a ++ parts kind size source depth (before ++ a) b
unfolding parts
parts-append kind size source depth before [] b = ap (λ (l : List Leaf). parts kind size source depth l b) (sym (append-nil before))
parts-append kind size source depth before (x ∷ a) b =
    let one : List Item = flags_to size before x depth ++ coding_unit_items kind source before x in
    ap (λ (l : List Item). one ++ l) (parts-append kind size source depth (before ++ x ∷ []) a b
    ∙ ap (λ (l : List Leaf). parts kind size source depth (before ++ x ∷ []) a ++ parts kind size source depth l b) (append_assoc before (x ∷ []) a))
    ∙ sym (append_assoc one (parts kind size source depth (before ++ x ∷ []) a) (parts kind size source depth (before ++ x ∷ a) b))

-- the flag of a block stands before its first unit alone
pub no_flag : (size : Size) (before : List Leaf) (leaf : Leaf) (log2 : ℕ) → begins leaf log2 ≡ false → flag_items size before leaf log2 ≡ []
unfolding flag_items
no_flag size before leaf log2 e = cond-false (begins leaf log2) _ _ e

parts_later : (kind : SliceKind) (size : Size) (source : Source) (depth x y : ℕ) (before leaves : List Leaf) → depth < 2 → IsCorner (2 ^ (4 + depth)) x y
    → AllByRecursion (IsLater (2 ^ (4 + depth)) x y) leaves → parts kind size source (suc depth) before leaves ≡ parts kind size source depth before leaves
unfolding parts flags_to
parts_later kind size source depth x y before [] h c all = refl
parts_later kind size source depth x y before (leaf ∷ leaves) h c all =
    ap (λ (l : List Item). ((l ++ flags_to size before leaf depth) ++ coding_unit_items kind source before leaf) ++ parts kind size source (suc depth) (before ++ leaf ∷ []) leaves)
    (no_flag size before leaf (4 + depth) (begins_later depth x y leaf h c all.0))
    ∙ ap (λ (l : List Item). (flags_to size before leaf depth ++ coding_unit_items kind source before leaf) ++ l) (parts_later kind size source depth x y (before ++ leaf ∷ []) leaves h c all.1)

pub first_flag : (size : Size) (before : List Leaf) (leaf : Leaf) (log2 x y : ℕ) → leaf.block.log2 ≤ log2 → leaf.block.x ≡ x → leaf.block.y ≡ y → IsCorner (2 ^ log2) x y
    → flag_items size before leaf log2 ≡ split_items size before (block_at x y log2) (nat_lt leaf.block.log2 log2)
unfolding flag_items
first_flag size before leaf log2 x y small ex ey c =
    cond-true (begins leaf log2) _ _ (begins_first log2 leaf small (ap (λ n. n % 2 ^ log2) ex ∙ c.column) (ap (λ n. n % 2 ^ log2) ey ∙ c.row))
    ∙ (ap (λ n. split_items size before (block_at n leaf.block.y log2) (nat_lt leaf.block.log2 log2)) ex ∙ ap (λ n. split_items size before (block_at x n log2) (nat_lt leaf.block.log2 log2)) ey)

parts_block : (kind : SliceKind) (size : Size) (source : Source) (depth x y : ℕ) (before leaves : List Leaf) → depth < 2 → IsCorner (2 ^ (4 + depth)) x y
    → (b : IsBlock (2 ^ (4 + depth)) (4 + depth) x y leaves)
    → parts kind size source (suc depth) before leaves ≡ split_items size before (block_at x y (4 + depth)) (nat_lt b.first.block.log2 (4 + depth)) ++ parts kind size source depth before leaves
unfolding parts flags_to
parts_block kind size source depth x y before leaves h c b =
    let flag : List Item = split_items size before (block_at x y (4 + depth)) (nat_lt b.first.block.log2 (4 + depth)) in
    let flags : List Item = flags_to size before b.first depth in
    let unit : List Item = coding_unit_items kind source before b.first in
    let more : List Item = parts kind size source depth (before ++ b.first ∷ []) b.more in
    ap (parts kind size source (suc depth) before) b.is
    ∙ (ap (λ (l : List Item). ((l ++ flags) ++ unit) ++ parts kind size source (suc depth) (before ++ b.first ∷ []) b.more) (first_flag size before b.first (4 + depth) x y b.small b.column b.row c)
    ∙ (ap (λ (l : List Item). ((flag ++ flags) ++ unit) ++ l) (parts_later kind size source depth x y (before ++ b.first ∷ []) b.more h c b.others)
    ∙ (ap (λ (l : List Item). l ++ more) (append_assoc flag flags unit)
    ∙ (append_assoc flag (flags ++ unit) more ∙ ap (λ (l : List Leaf). flag ++ parts kind size source depth before l) (sym b.is)))))

-- a unit that is as large as the block has no flags of smaller blocks
pub no_flags : (size : Size) (before : List Leaf) (leaf : Leaf) (depth : ℕ) → 3 + depth < leaf.block.log2 → flags_to size before leaf depth ≡ []
unfolding flags_to
no_flags size before leaf zero h = refl
no_flags size before leaf (suc depth) h =
    ap (λ (l : List Item). l ++ flags_to size before leaf depth) (no_flag size before leaf (4 + depth) (begins_smaller (4 + depth) leaf (omega arith)))
    ∙ no_flags size before leaf depth (omega arith)

parts_one : (kind : SliceKind) (size : Size) (source : Source) (depth : ℕ) (before : List Leaf) (leaf : Leaf) → flags_to size before leaf depth ≡ []
    → parts kind size source depth before (leaf ∷ []) ≡ coding_unit_items kind source before leaf
unfolding parts
parts_one kind size source depth before leaf e =
    append-nil (flags_to size before leaf depth ++ coding_unit_items kind source before leaf) ∙ ap (λ (l : List Item). l ++ coding_unit_items kind source before leaf) e

-- ---- walks

-- after these leaves the walk takes those, whatever follows, and has these items
record Walks (walk : List Leaf → List Leaf → Walk Leaf Leaf) (before leaves : List Leaf) (list : List Item) : Type 0 where
  walks : (rest : List Leaf) → walk before (leaves ++ rest) ≡ record { list = list; before = before ++ leaves; left = rest }

walks_as : (walk walk' : List Leaf → List Leaf → Walk Leaf Leaf) (before leaves : List Leaf) (list list' : List Item)
    → ((rest : List Leaf) → walk' before (leaves ++ rest) ≡ walk before (leaves ++ rest)) → list ≡ list' → Walks walk before leaves list → Walks walk' before leaves list'
walks_as walk walk' before leaves list list' same e w = record {
  walks = λ rest. same rest ∙ (w.walks rest ∙ ap (λ (l : List Item). record { list = l; before = before ++ leaves; left = rest }) e);
}

walks_none : (before leaves : List Leaf) → leaves ≡ [] → Walks no_walk before leaves []
walks_none before leaves none = record {
  walks = λ rest. ap (λ (l : List Leaf). no_walk before (l ++ rest)) none
      ∙ ap (λ (l : List Leaf). record { list = []; before = l; left = rest }) (sym (append-nil before) ∙ ap (λ (l : List Leaf). before ++ l) (sym none));
}

walks_unit : (kind : SliceKind) (source : Source) (before leaves : List Leaf) (leaf : Leaf) → leaves ≡ leaf ∷ [] → Walks (coding_unit_walk (leaf_units kind source)) before leaves (coding_unit_items kind source before leaf)
walks_unit kind source before leaves leaf e = record {
  walks = λ rest. ap (λ (l : List Leaf). coding_unit_walk (leaf_units kind source) before (l ++ rest)) e
      ∙ ap (λ (l : List Leaf). record { list = coding_unit_items kind source before leaf; before = before ++ l; left = rest }) (sym e);
}

walks_on : (walk : List Leaf → List Leaf → Walk Leaf Leaf) (before leaves : List Leaf) (list front : List Item) → Walks walk before leaves list
    → Walks (λ b left. walk_on front (walk b left)) before leaves (front ++ list)
walks_on walk before leaves list front w = record { walks = λ rest. ap (walk_on front) (w.walks rest) }

walks_quarters : (go : ℕ → ℕ → List Leaf → List Leaf → Walk Leaf Leaf) (half x y : ℕ) (before a b c d : List Leaf) (p q r s : List Item)
    → Walks (go x y) before a p
    → Walks (go (x + half) y) (before ++ a) b q
    → Walks (go x (y + half)) ((before ++ a) ++ b) c r
    → Walks (go (x + half) (y + half)) (((before ++ a) ++ b) ++ c) d s
    → Walks (quarters go half x y) before (((a ++ b) ++ c) ++ d) (((p ++ q) ++ r) ++ s)
walks_quarters go half x y before a b c d p q r s wa wb wc wd = record {
  walks = λ rest.
      let first : go x y before ((((a ++ b) ++ c) ++ d) ++ rest) ≡ record { list = p; before = before ++ a; left = b ++ (c ++ (d ++ rest)) } =
      ap (go x y before) (append_assoc ((a ++ b) ++ c) d rest ∙ (append_assoc (a ++ b) c (d ++ rest) ∙ append_assoc a b (c ++ (d ++ rest)))) ∙ wa.walks (b ++ (c ++ (d ++ rest))) in
      let second : Walk Leaf Leaf → Walk Leaf Leaf = λ w. and_walk w (go (x + half) y) in
      let third : Walk Leaf Leaf → Walk Leaf Leaf = λ w. and_walk w (go x (y + half)) in
      let fourth : Walk Leaf Leaf → Walk Leaf Leaf = λ w. and_walk w (go (x + half) (y + half)) in
      let end : (((before ++ a) ++ b) ++ c) ++ d ≡ before ++ (((a ++ b) ++ c) ++ d) =
      ap (λ (l : List Leaf). (l ++ c) ++ d) (append_assoc before a b) ∙ (ap (λ (l : List Leaf). l ++ d) (append_assoc before (a ++ b) c) ∙ append_assoc before ((a ++ b) ++ c) d) in
      ap (λ (w : Walk Leaf Leaf). fourth (third (second w))) first
      ∙ (ap (λ (w : Walk Leaf Leaf). fourth (third (walk_on p w))) (wb.walks (c ++ (d ++ rest)))
      ∙ (ap (λ (w : Walk Leaf Leaf). fourth (walk_on (p ++ q) w)) (wc.walks (d ++ rest))
      ∙ (ap (λ (w : Walk Leaf Leaf). walk_on ((p ++ q) ++ r) w) (wd.walks rest)
      ∙ ap (λ (l : List Leaf). record { list = ((p ++ q) ++ r) ++ s; before = l; left = rest }) end)));
}

parts_four : (kind : SliceKind) (size : Size) (source : Source) (depth : ℕ) (before a b c d : List Leaf)
    → ((parts kind size source depth before a ++ parts kind size source depth (before ++ a) b) ++ parts kind size source depth ((before ++ a) ++ b) c)
    ++ parts kind size source depth (((before ++ a) ++ b) ++ c) d ≡ parts kind size source depth before (((a ++ b) ++ c) ++ d)
parts_four kind size source depth before a b c d =
    let on : List Leaf → List Leaf → List Item = parts kind size source depth in
    let third : List Item = on ((before ++ a) ++ b) c in
    let fourth : List Item = on (((before ++ a) ++ b) ++ c) d in
    ap (λ (l : List Item). (l ++ third) ++ fourth) (sym (parts-append kind size source depth before a b))
    ∙ (ap (λ (l : List Leaf). (on before (a ++ b) ++ on l c) ++ fourth) (append_assoc before a b)
    ∙ (ap (λ (l : List Item). l ++ fourth) (sym (parts-append kind size source depth before (a ++ b) c))
    ∙ (ap (λ (l : List Leaf). on before ((a ++ b) ++ c) ++ on l d) (ap (λ (l : List Leaf). l ++ c) (append_assoc before a b) ∙ append_assoc before (a ++ b) c)
    ∙ sym (parts-append kind size source depth before ((a ++ b) ++ c) d))))

-- ---- a block

pub same_first : (leaves : List Leaf) (a b : Leaf) (as_ bs : List Leaf) → leaves ≡ a ∷ as_ → leaves ≡ b ∷ bs → a ≡ b
same_first leaves a b as_ bs e f = ap (λ (l : List Leaf). get_or l 0 a) (sym e ∙ f)

pub not_less : (a b : ℕ) → a ≡ b → nat_lt a b ≡ false
not_less a b e = go (nat_lt a b) refl
  where
    go : (c : Bool) → nat_lt a b ≡ c → c ≡ false
    go true h = absurd (let k : a < b = ltb-true _ _ h in omega arith)
    go false h = refl

pub flag_is : (size : Size) (before : List Leaf) (x y depth : ℕ) (split : Bool) → is_whole size (2 ^ (4 + depth)) x y ≡ true
    → split_items size before (block_at x y (4 + depth)) split ≡ context_bin split (split_context before (block_at x y (4 + depth))) ∷ []
flag_is size before x y depth split e =
    cond-false (4 + depth == 3) _ _ (ne_eqb (4 + depth) 3 (λ k. omega arith)) ∙ cond-true (is_whole size (2 ^ (4 + depth)) x y) _ _ e

pub flag_inferred : (size : Size) (before : List Leaf) (x y depth : ℕ) (split : Bool) → is_whole size (2 ^ (4 + depth)) x y ≡ false → split_items size before (block_at x y (4 + depth)) split ≡ []
flag_inferred size before x y depth split e =
    cond-false (4 + depth == 3) _ _ (ne_eqb (4 + depth) 3 (λ k. omega arith)) ∙ cond-false (is_whole size (2 ^ (4 + depth)) x y) _ _ e

tree_walks : (kind : SliceKind) (size : Size) (source : Source) (depth x y : ℕ) (before leaves : List Leaf) → depth < 3 → IsCorner (2 ^ (3 + depth)) x y → IsTree size depth x y leaves
    → Walks (tree_walk (leaf_units kind source) size depth x y) before leaves (parts kind size source depth before leaves)
unfolding parts flags_to
tree_walks kind size source zero x y before leaves small c t = go (is_inside size x y) refl t
  where
    go : (b : Bool) → is_inside size x y ≡ b → MatchBool b (IsCodingUnit (block_at x y 3) leaves) (leaves ≡ []) → Walks (tree_walk (leaf_units kind source) size zero x y) before leaves (parts kind size source zero before leaves)
    go true e u = walks_as (coding_unit_walk (leaf_units kind source)) _ before leaves _ _ (λ rest. cond-true (is_inside size x y) _ _ e)
        (sym (parts_one kind size source zero before (leaf_with (block_at x y 3) u.kind) refl) ∙ ap (parts kind size source zero before) (sym u.one))
        (walks_unit kind source before leaves (leaf_with (block_at x y 3) u.kind) u.one)
    go false e none = walks_as no_walk _ before leaves _ _ (λ rest. cond-false (is_inside size x y) _ _ e) (ap (parts kind size source zero before) (sym none)) (walks_none before leaves none)
tree_walks kind size source (suc depth) x y before leaves h c t =
    let small : depth < 2 = omega arith in
    go small (corner_at depth x y small c) (is_inside size x y) refl (is_whole size (2 * half) x y) refl t
    (λ e. let k : HasHalf depth (2 ^ (4 + depth)) half = has_half depth small in
    subst (λ n. IsBlock (2 ^ (4 + depth)) n x y leaves) k.log2 (subst (λ s. IsBlock s (3 + suc depth) x y leaves) k.whole (tree_block size (suc depth) x y leaves h t e)))
    (λ ls q e. tree_block size depth x y ls (omega arith) q e)
    (λ px py b ls. tree_walks kind size source depth px py b ls (omega arith))
  where
    half : ℕ
    half = 2 ^ (3 + depth)

    side : ℕ
    side = 2 ^ (4 + depth)

    Lower : Type 0
    Lower = (px py : ℕ) (b ls : List Leaf) → IsCorner half px py → IsTree size depth px py ls → Walks (tree_walk (leaf_units kind source) size depth px py) b ls (parts kind size source depth b ls)

    flag : ℕ
    flag = split_context before (block_at x y (4 + depth))

    split_walk : List Leaf → List Leaf → Walk Leaf Leaf
    split_walk = quarters (tree_walk (leaf_units kind source) size depth) half x y

    four : AreCorners half x y → AreQuarters (IsTree size depth) half x y leaves → Lower → Walks split_walk before leaves (parts kind size source depth before leaves)
    four k q lower = subst (λ (l : List Leaf). Walks split_walk before l (parts kind size source depth before l)) (sym q.together)
        (walks_as split_walk split_walk before _ _ _ (λ rest. refl) (parts_four kind size source depth before q.first q.second q.third q.fourth)
        (walks_quarters (tree_walk (leaf_units kind source) size depth) half x y before q.first q.second q.third q.fourth _ _ _ _
        (lower x y before q.first k.top_left q.top_left)
        (lower (x + half) y (before ++ q.first) q.second k.top_right q.top_right)
        (lower x (y + half) ((before ++ q.first) ++ q.second) q.third k.bottom_left q.bottom_left)
        (lower (x + half) (y + half) (((before ++ q.first) ++ q.second) ++ q.third) q.fourth k.bottom_right q.bottom_right)))

    Block : Type 0
    Block = IsBlock side (4 + depth) x y leaves

    Inner : Type 0
    Inner = (ls : List Leaf) → IsTree size depth x y ls → is_inside size x y ≡ true → IsBlock half (3 + depth) x y ls

    Goal : Type 0
    Goal = Walks (tree_walk (leaf_units kind source) size (suc depth) x y) before leaves (parts kind size source (suc depth) before leaves)

    whole_is : depth < 2 → (b : Bool) → is_whole size (2 * half) x y ≡ b → is_whole size side x y ≡ b
    whole_is small b f = ap (λ s. is_whole size s x y) (sym (has_half depth small).double) ∙ f

    go : depth < 2 → IsCorner side x y → (a : Bool) → is_inside size x y ≡ a → (b : Bool) → is_whole size (2 * half) x y ≡ b
        → MatchBool a (MatchBool b (IsCodingUnit (block_at x y (4 + depth)) leaves ⊎ AreQuarters (IsTree size depth) half x y leaves) (AreQuarters (IsTree size depth) half x y leaves)) (leaves ≡ [])
        → (is_inside size x y ≡ true → Block) → Inner → Lower → Goal
    go small k false e b f none block inner lower = walks_as no_walk _ before leaves _ _
        (λ rest. cond-true (not (is_inside size x y)) _ _ (ap not e)) (ap (parts kind size source (suc depth) before) (sym none)) (walks_none before leaves none)
    go small k true e false f q block inner lower =
        let b : Block = block e in
        walks_as split_walk _ before leaves _ _
        (λ rest. cond-false (not (is_inside size x y)) _ _ (ap not e) ∙ cond-true (not (is_whole size (2 * half) x y)) _ _ (ap not f))
        (sym (parts_block kind size source depth x y before leaves small k b
        ∙ ap (λ (l : List Item). l ++ parts kind size source depth before leaves) (flag_inferred size before x y depth (nat_lt b.first.block.log2 (4 + depth)) (whole_is small false f))))
        (four (corners depth x y small k) q lower)
    go small k true e true f u block inner lower = ⊎_elim
        (λ (v : IsCodingUnit (block_at x y (4 + depth)) leaves).
        let leaf : Leaf = leaf_with (block_at x y (4 + depth)) v.kind in
        let first : b.first ≡ leaf = same_first leaves b.first leaf b.more [] b.is v.one in
        walks_as (λ b left. walk_on (context_bin false flag ∷ []) (coding_unit_walk (leaf_units kind source) b left)) _ before leaves _ _
        (λ rest. at_whole rest ∙ cond-true (is_next leaf_block (4 + depth) (leaves ++ rest)) _ _ (ap (λ (l : List Leaf). is_next leaf_block (4 + depth) (l ++ rest)) v.one ∙ eq-eqb (4 + depth) (4 + depth) refl))
        (ap (λ (l : List Item). context_bin false flag ∷ l)
        (sym (parts_one kind size source depth before leaf (no_flags size before leaf depth (omega arith))) ∙ ap (parts kind size source depth before) (sym v.one))
        ∙ sym (flagged false (not_less b.first.block.log2 (4 + depth) (ap (λ (l : Leaf). l.block.log2) first))))
        (walks_on (coding_unit_walk (leaf_units kind source)) before leaves _ (context_bin false flag ∷ []) (walks_unit kind source before leaves leaf v.one)))
        (λ (q : AreQuarters (IsTree size depth) half x y leaves).
        let i : IsBlock half (3 + depth) x y q.first = inner q.first q.top_left e in
        let is : leaves ≡ i.first ∷ (((i.more ++ q.second) ++ q.third) ++ q.fourth) = q.together ∙ ap (λ (l : List Leaf). ((l ++ q.second) ++ q.third) ++ q.fourth) i.is in
        let first : b.first ≡ i.first = same_first leaves b.first i.first b.more _ b.is is in
        let few : i.first.block.log2 ≤ 3 + depth = i.small in
        let less : b.first.block.log2 < 4 + depth = subst (λ (l : Leaf). l.block.log2 < 4 + depth) (sym first) (omega arith) in
        walks_as (λ b left. walk_on (context_bin true flag ∷ []) (split_walk b left)) _ before leaves _ _
        (λ rest. at_whole rest ∙ cond-false (is_next leaf_block (4 + depth) (leaves ++ rest)) _ _
        (ap (λ (l : List Leaf). is_next leaf_block (4 + depth) (l ++ rest)) b.is ∙ ne_eqb b.first.block.log2 (4 + depth) (λ k. omega arith)))
        (sym (flagged true (lt-ltb _ _ less)))
        (walks_on split_walk before leaves _ (context_bin true flag ∷ []) (four (corners depth x y small k) q lower)))
        u
      where
        at_whole : (rest : List Leaf) → tree_walk (leaf_units kind source) size (suc depth) x y before (leaves ++ rest)
            ≡ cond (is_next leaf_block (4 + depth) (leaves ++ rest)) (walk_on (context_bin false flag ∷ []) (coding_unit_walk (leaf_units kind source) before (leaves ++ rest))) (walk_on (context_bin true flag ∷ []) (split_walk before (leaves ++ rest)))
        at_whole rest = cond-false (not (is_inside size x y)) _ _ (ap not e) ∙ cond-false (not (is_whole size (2 * half) x y)) _ _ (ap not f)

        b : Block
        b = block e

        flagged : (split : Bool) → nat_lt b.first.block.log2 (4 + depth) ≡ split → parts kind size source (suc depth) before leaves ≡ context_bin split flag ∷ parts kind size source depth before leaves
        flagged split g = parts_block kind size source depth x y before leaves small k b
            ∙ ap (λ (l : List Item). l ++ parts kind size source depth before leaves)
            (ap (split_items size before (block_at x y (4 + depth))) g ∙ flag_is size before x y depth split (whole_is small true f))

-- the items of a coding tree unit
pub units_are : (kind : SliceKind) (size : Size) (source : Source) (before leaves : List Leaf) (ctu : ℕ) → IsLawfulTree size ctu leaves
    → ctu_items (leaf_units kind source) size before leaves ctu ≡ units_items kind size source before leaves
unfolding ctu_items
units_are kind size source before leaves ctu t =
    let x : ℕ = ctu_x size ctu in
    let y : ℕ = ctu_y size ctu in
    let w : Walks (tree_walk (leaf_units kind source) size 2 x y) before leaves (parts kind size source 2 before leaves) =
    tree_walks kind size source 2 x y before leaves (omega arith) (ctu_corner size ctu) t in
    ap (λ (l : List Leaf). (tree_walk (leaf_units kind source) size 2 x y before l).list) (sym (append-nil leaves))
    ∙ (ap (λ (w : Walk Leaf Leaf). w.list) (w.walks []) ∙ parts_are kind size source before leaves)
