-- Without moves the walk of a tree, rows, contexts and codes are those of streams in which nothing moves.
use Rattle.std.proofs.Common.{◌≡◌, refl, sym, ◌∙◌, ap, subst, ℕ, zero, suc, ◌+◌, ◌*◌, ◌^◌, List, [], ◌∷◌, ◌++◌, Bool, true, false, cond, not, take, append_assoc, append-nil}
use Rattle.std.specs.Prelude.{get_or, map, ◌==◌}
use Rattle.std.specs.List.{flat_map}
use Rattle.h265_model.specs.declared.Item.{Item}
use Rattle.h265_model.specs.declared.leaf.SliceKind.{SliceKind}
use Rattle.h265_model.specs.declared.leaf.Kind.{Kind}
use Rattle.h265_model.specs.declared.leaf.Kind.TheVariants.{Skip, Pcm, Intra}
use Rattle.h265_model.specs.declared.leaf.Leaf.{Leaf}
use Rattle.h265_model.specs.declared.moves.MoveLeaf.{MoveLeaf}
use Rattle.h265_model.specs.Plain.{block_at, Size, ctus, below, context_bin, terminate_bin, joined, leaf_with, ctu_x, ctu_y}
use Rattle.h265_model.specs.Predict.{is_inside}
use Rattle.h265_model.specs.Contexts.{row_start}
use Rattle.h265_model.specs.Code.{code, contexts_after}
use Rattle.h265_model.specs.Tree.{moving, unit_block, leaf_block, leaf_units, Source, Walk, walk_on, and_walk, quarters, coding_unit_walk, no_walk, is_whole, is_last, is_next, tree_walk, ctu_items, ctu_with_flag, ctus_items, items_of_row, coding_unit_items, split_context}
use Rattle.h265_model.specs.Slice.{contexts_at, row_code}
use Rattle.h265_model.specs.Motion.{Moving, leaves, still, still_kind, kind_as_coded, leaf_as_coded, as_coded, coded_after}
use Rattle.h265_model.specs.Tree.{UnitItems, still_unit, unit_of_kind, move_unit, coded_first}
use Rattle.stream_laws.proofs.OldTree.{leaves-append}
use Rattle.unit_laws.specs.Laws.{EachRowIsStill}

-- ---- leaves and units

kind_still : (k : Kind) → kind_as_coded (still_kind k) ≡ k
kind_still Skip = refl
kind_still Pcm = refl
kind_still (Intra mode) = refl

pub leaf_still : (leaf : Leaf) → leaf_as_coded (still leaf) ≡ leaf
leaf_still leaf = ap (λ (k : Kind). leaf_with leaf.block k) (kind_still leaf.kind)

-- what a unit writes of a leaf that doesn't move
abbrev pub WritesLeaves : SliceKind → Source → UnitItems → Type 0
WritesLeaves kind source unit = (before : List Moving) (leaf : Leaf) → unit before (still leaf) ≡ coding_unit_items kind source (leaves before) leaf

pub still_writes : (kind : SliceKind) (source : Source) → WritesLeaves kind source (still_unit kind source)
still_writes kind source before leaf = ap (coding_unit_items kind source (leaves before)) (leaf_still leaf)

pub move_writes : (kind : SliceKind) (source : Source) → WritesLeaves kind source (move_unit kind source)
unfolding move_unit
move_writes kind source before leaf = go leaf.kind ∙ still_writes kind source before leaf
  where
    go : (k : Kind) → unit_of_kind kind source before (still leaf) (still_kind k) ≡ still_unit kind source before (still leaf)
    go Skip = refl
    go Pcm = refl
    go (Intra mode) = refl

-- ---- the walk of a tree

-- two walks that are at the same place
pub record Same (w : Walk MoveLeaf Moving) (t : Walk Leaf Leaf) : Type 0 where
  pub list : w.list ≡ t.list
  pub before : leaves w.before ≡ t.before
  pub left : w.left ≡ map still t.left

abbrev Follows : (List Moving → List MoveLeaf → Walk MoveLeaf Moving) → (List Leaf → List Leaf → Walk Leaf Leaf) → Type 0
Follows go go' =
    (before : List Moving) (before' : List Leaf) (left : List MoveLeaf) (left' : List Leaf) → leaves before ≡ before' → left ≡ map still left' → Same (go before left) (go' before' left')

and_same : (w : Walk MoveLeaf Moving) (t : Walk Leaf Leaf) (go : List Moving → List MoveLeaf → Walk MoveLeaf Moving) (go' : List Leaf → List Leaf → Walk Leaf Leaf)
    → Same w t → Follows go go' → Same (and_walk w go) (and_walk t go')
and_same w t go go' s f =
    let r : Same (go w.before w.left) (go' t.before t.left) = f w.before t.before w.left t.left s.before s.left in
    record {
      list = ap (λ (l : List Item). l ++ (go w.before w.left).list) s.list ∙ ap (λ (l : List Item). t.list ++ l) r.list;
      before = r.before;
      left = r.left;
    }

quarters_same : (go : ℕ → ℕ → List Moving → List MoveLeaf → Walk MoveLeaf Moving) (go' : ℕ → ℕ → List Leaf → List Leaf → Walk Leaf Leaf) (half : ℕ)
    → ((x y : ℕ) → Follows (go x y) (go' x y)) → (x y : ℕ) → Follows (quarters go half x y) (quarters go' half x y)
quarters_same go go' half f x y before before' left left' e g =
    and_same _ _ (go (x + half) (y + half)) (go' (x + half) (y + half))
    (and_same _ _ (go x (y + half)) (go' x (y + half))
    (and_same _ _ (go (x + half) y) (go' (x + half) y) (f x y before before' left left' e g) (f (x + half) y))
    (f x (y + half)))
    (f (x + half) (y + half))

nothing_same : Follows no_walk no_walk
nothing_same before before' left left' e g = record { list = refl; before = e; left = g }

one_same : (kind : SliceKind) (source : Source) (unit : UnitItems) → WritesLeaves kind source unit → Follows (coding_unit_walk (moving unit)) (coding_unit_walk (leaf_units kind source))
one_same kind source unit u before before' left left' e g =
    subst (λ (l : List MoveLeaf). Same (coding_unit_walk (moving unit) before l) (coding_unit_walk (leaf_units kind source) before' left')) (sym g) (go left')
  where
    go : (ls : List Leaf) → Same (coding_unit_walk (moving unit) before (map still ls)) (coding_unit_walk (leaf_units kind source) before' ls)
    go [] = record { list = refl; before = e; left = refl }
    go (leaf ∷ ls) = record {
      list = u before leaf ∙ ap (λ (b : List Leaf). coding_unit_items kind source b leaf) e;
      before = leaves-append before (as_coded before (still leaf) ∷ []) ∙ (ap (λ (b : List Leaf). b ++ leaf_as_coded (still leaf) ∷ []) e ∙ ap (λ (l : Leaf). before' ++ l ∷ []) (leaf_still leaf));
      left = refl;
    }

then_same : (a b : List Item) (w : Walk MoveLeaf Moving) (t : Walk Leaf Leaf) → a ≡ b → Same w t → Same (walk_on a w) (walk_on b t)
then_same a b w t e s = record {
  list = ap (λ (l : List Item). l ++ w.list) e ∙ ap (λ (l : List Item). b ++ l) s.list;
  before = s.before;
  left = s.left;
}

next_same : (log2 : ℕ) (left : List MoveLeaf) (left' : List Leaf) → left ≡ map still left' → is_next unit_block log2 left ≡ is_next leaf_block log2 left'
next_same log2 left left' g = ap (is_next unit_block log2) g ∙ go left'
  where
    go : (ls : List Leaf) → is_next unit_block log2 (map still ls) ≡ is_next leaf_block log2 ls
    go [] = refl
    go (leaf ∷ ls) = refl

chosen : (a b c d : Bool) (w0 w1 w2 w3 : Walk MoveLeaf Moving) (t0 t1 t2 t3 : Walk Leaf Leaf) → c ≡ d → Same w0 t0 → Same w1 t1 → Same w2 t2 → Same w3 t3
    → Same (cond a w0 (cond b w1 (cond c w2 w3))) (cond a t0 (cond b t1 (cond d t2 t3)))
chosen true b c d w0 w1 w2 w3 t0 t1 t2 t3 e s0 s1 s2 s3 = s0
chosen false true c d w0 w1 w2 w3 t0 t1 t2 t3 e s0 s1 s2 s3 = s1
chosen false false c d w0 w1 w2 w3 t0 t1 t2 t3 e s0 s1 s2 s3 =
    subst (λ (x : Bool). Same (cond c w2 w3) (cond x t2 t3)) e (go c)
  where
    go : (x : Bool) → Same (cond x w2 w3) (cond x t2 t3)
    go true = s2
    go false = s3

walk_same : (kind : SliceKind) (size : Size) (source : Source) (unit : UnitItems) → WritesLeaves kind source unit
    → (depth x y : ℕ) → Follows (tree_walk (moving unit) size depth x y) (tree_walk (leaf_units kind source) size depth x y)
walk_same kind size source unit u zero x y before before' left left' e g = go (is_inside size x y)
  where
    go : (b : Bool) → Same (cond b (coding_unit_walk (moving unit) before left) (no_walk before left)) (cond b (coding_unit_walk (leaf_units kind source) before' left') (no_walk before' left'))
    go true = one_same kind source unit u before before' left left' e g
    go false = nothing_same before before' left left' e g
walk_same kind size source unit u (suc depth) x y before before' left left' e g =
    let half : ℕ = 2 ^ (3 + depth) in
    let flag : split_context (leaves before) (block_at x y (4 + depth)) ≡ split_context before' (block_at x y (4 + depth)) = ap (λ (b : List Leaf). split_context b (block_at x y (4 + depth))) e in
    let split : Same (quarters (tree_walk (moving unit) size depth) half x y before left) (quarters (tree_walk (leaf_units kind source) size depth) half x y before' left') =
    quarters_same (tree_walk (moving unit) size depth) (tree_walk (leaf_units kind source) size depth) half (walk_same kind size source unit u depth) x y before before' left left' e g in
    let one : Same (coding_unit_walk (moving unit) before left) (coding_unit_walk (leaf_units kind source) before' left') = one_same kind source unit u before before' left left' e g in
    chosen (not (is_inside size x y)) (not (is_whole size (2 * half) x y)) (is_next unit_block (4 + depth) left) (is_next leaf_block (4 + depth) left') _ _ _ _ _ _ _ _
    (next_same (4 + depth) left left' g)
    (nothing_same before before' left left' e g) split
    (then_same _ _ _ _ (ap (λ (n : ℕ). context_bin false n ∷ []) flag) one)
    (then_same _ _ _ _ (ap (λ (n : ℕ). context_bin true n ∷ []) flag) split)

pub ctu_same : (kind : SliceKind) (size : Size) (source : Source) (unit : UnitItems) → WritesLeaves kind source unit
    → (before : List Moving) (before' ls : List Leaf) (ctu : ℕ) → leaves before ≡ before' → ctu_items (moving unit) size before (map still ls) ctu ≡ ctu_items (leaf_units kind source) size before' ls ctu
unfolding ctu_items
ctu_same kind size source unit u before before' ls ctu e = (walk_same kind size source unit u 2 (ctu_x size ctu) (ctu_y size ctu) before before' (map still ls) ls e refl).list

-- ---- rows

pub coded_same : (before : List Moving) (ls : List Leaf) → leaves (coded_after before (map still ls)) ≡ leaves before ++ ls
coded_same before [] = sym (append-nil (leaves before))
coded_same before (leaf ∷ ls) =
    coded_same (before ++ as_coded before (still leaf) ∷ []) ls
    ∙ (ap (λ (b : List Leaf). b ++ ls) (leaves-append before (as_coded before (still leaf) ∷ []) ∙ ap (λ (l : Leaf). leaves before ++ l ∷ []) (leaf_still leaf))
    ∙ append_assoc (leaves before) (leaf ∷ []) ls)

pub map-append : (a b : List Leaf) → map still (a ++ b) ≡ map still a ++ map still b
map-append [] b = refl
map-append (x ∷ a) b = ap (λ (l : List MoveLeaf). still x ∷ l) (map-append a b)

pub first_same : (n : ℕ) (ls : List (List Leaf)) → joined (take n (map (map still) ls)) ≡ map still (joined (take n ls))
first_same zero ls = refl
first_same (suc n) [] = refl
first_same (suc n) (l ∷ ls) = ap (λ (rest : List MoveLeaf). map still l ++ rest) (first_same n ls) ∙ sym (map-append l (joined (take n ls)))

pub at_same : (n : ℕ) (ls : List (List Leaf)) → get_or (map (map still) ls) n [] ≡ map still (get_or ls n [])
at_same zero [] = refl
at_same zero (l ∷ ls) = refl
at_same (suc n) [] = refl
at_same (suc n) (l ∷ ls) = at_same n ls

pub flat_same : (f g : ℕ → List Item) → ((i : ℕ) → f i ≡ g i) → (ns : List ℕ) → flat_map f ns ≡ flat_map g ns
flat_same f g e [] = refl
flat_same f g e (n ∷ ns) = ap (λ (l : List Item). l ++ flat_map f ns) (e n) ∙ ap (λ (l : List Item). g n ++ l) (flat_same f g e ns)

flag_same : (kind : SliceKind) (size : Size) (source : Source) (unit : UnitItems) → WritesLeaves kind source unit
    → (ls : List (List Leaf)) (ctu : ℕ) → ctu_with_flag (moving unit) size (is_last size) (map (map still) ls) ctu ≡ ctu_with_flag (leaf_units kind source) size (is_last size) ls ctu
flag_same kind size source unit u ls ctu =
    ap (λ (l : List Item). l ++ terminate_bin (is_last size ctu) ∷ [])
    (ap (λ (us : List MoveLeaf). ctu_items (moving unit) size (coded_first (map (map still) ls) ctu) us ctu) (at_same ctu ls)
    ∙ ctu_same kind size source unit u (coded_first (map (map still) ls) ctu) (joined (take ctu ls)) (get_or ls ctu []) ctu
    (ap (λ (us : List MoveLeaf). leaves (coded_after [] us)) (first_same ctu ls) ∙ coded_same [] (joined (take ctu ls))))

ctus_same : (kind : SliceKind) (size : Size) (source : Source) (unit : UnitItems) → WritesLeaves kind source unit
    → (ls : List (List Leaf)) (row n : ℕ) → ctus_items (moving unit) size (is_last size) (map (map still) ls) row n ≡ ctus_items (leaf_units kind source) size (is_last size) ls row n
ctus_same kind size source unit u ls row n = flat_same _ _ (λ i. flag_same kind size source unit u ls (row * ctus size.w + i)) (below n)

row_same : (kind : SliceKind) (size : Size) (source : Source) (unit : UnitItems) → WritesLeaves kind source unit
    → (ls : List (List Leaf)) (row : ℕ) → items_of_row (moving unit) size (map (map still) ls) row ≡ items_of_row (leaf_units kind source) size ls row
unfolding items_of_row
row_same kind size source unit u ls row =
    ap (λ (l : List Item). l ++ cond (row + 1 == ctus size.h) [] (terminate_bin true ∷ [])) (ctus_same kind size source unit u ls row (ctus size.w))

pub contexts_same : (kind : SliceKind) (size : Size) (source : Source) (unit : UnitItems) → WritesLeaves kind source unit
    → (ls : List (List Leaf)) (row : ℕ) → contexts_at kind (moving unit) size (map (map still) ls) row ≡ contexts_at kind (leaf_units kind source) size ls row
unfolding contexts_at
contexts_same kind size source unit u ls zero = refl
contexts_same kind size source unit u ls (suc row) =
    ap (row_start kind (ctus size.w) (suc row))
    (ap (λ (l : List Item). contexts_after l (contexts_at kind (moving unit) size (map (map still) ls) row)) (ctus_same kind size source unit u ls row 2)
    ∙ ap (contexts_after (ctus_items (leaf_units kind source) size (is_last size) ls row 2)) (contexts_same kind size source unit u ls row))

code_same : (kind : SliceKind) (size : Size) (source : Source) (unit : UnitItems) → WritesLeaves kind source unit
    → (ls : List (List Leaf)) (row : ℕ) → row_code kind (moving unit) size (map (map still) ls) row ≡ row_code kind (leaf_units kind source) size ls row
code_same kind size source unit u ls row =
    ap (λ (l : List Item). code l (contexts_at kind (moving unit) size (map (map still) ls) row)) (row_same kind size source unit u ls row)
    ∙ ap (code (items_of_row (leaf_units kind source) size ls row)) (contexts_same kind size source unit u ls row)

pub rows_are_still : EachRowIsStill
rows_are_still = (
  (λ kind size source ls row. code_same kind size source (still_unit kind source) (still_writes kind source) ls row),
  (λ kind size source ls row. code_same kind size source (move_unit kind source) (move_writes kind source) ls row),
)
