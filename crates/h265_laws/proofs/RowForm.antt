-- The items of a row of coding tree units are well formed.
use Rattle.std.proofs.Common.{◌≡◌, refl, sym, ◌∙◌, ap, subst, ℕ, zero, suc, ◌+◌, ◌-◌, ◌*◌, ◌^◌, ◌<◌, ◌≤◌, List, [], ◌∷◌, ◌++◌, Bool, true, false, cond, not, length, take, get_or, map, append-nil, add-zero, arith, le_refl}
use Rattle.std.specs.Prelude.{nat_lt, ◌==◌, ℤ, if◌then◌else◌}
use Rattle.std.specs.List.{AllByRecursion}
use Rattle.std.proofs.lemmas.Bool.{eqb-true, eqb-false, eq-eqb, ne_eqb}
use Rattle.std.proofs.lemmas.Nat.{row_fits}
use Rattle.h265_model.specs.declared.Item.{Item}
use Rattle.h265_model.specs.declared.Item.TheVariants as items
use Rattle.h265_model.specs.Bits.{digit}
use Rattle.h265_model.specs.declared.leaf.SliceKind.{SliceKind}
use Rattle.h265_model.specs.declared.leaf.SliceKind.TheVariants.{I, P}
use Rattle.h265_model.specs.declared.leaf.Kind.{Kind}
use Rattle.h265_model.specs.declared.leaf.Kind.TheVariants.{Skip, Pcm, Intra}
use Rattle.h265_model.specs.declared.leaf.Leaf.{Leaf}
use Rattle.h265_model.specs.Plain.{block_at, Size, ctus, context_bin, terminate_bin, ctu_x, ctu_y, joined}
use Rattle.h265_model.specs.Code.{Plain, Filled, GoesOn, IsWellFormed}
use Rattle.h265_model.specs.Modes.{mode_items}
use Rattle.h265_model.specs.Predict.{is_inside}
use Rattle.h265_model.specs.Residual.{IsSide, eight, sixteen, thirty_two, cbf, residual_items}
use Rattle.h265_model.specs.Tree.{leaf_block, leaf_units, Source, IsSource, is_skipped, skip_context, split_context, how_many, passes, left_of, above, candidates_at, shape_of, residual_if, content_items, in_P, coding_unit_items, Walk, walk_on, and_walk, quarters, coding_unit_walk, no_walk, is_whole, is_next, tree_walk, ctu_items, ctu_with_flag, is_last, items_of_row, ctus_items}
use Rattle.h265_laws.proofs.FormLaw.{AreFine, fine_append, residual_fine, mode_fine, Continues, continues_none, continues_append, continues_fine}
use Rattle.h265_laws.proofs.RowLaw.{items_from, in_order}
use Rattle.h265_model.proofs.ListParts.{all_append}
use Rattle.h265_laws.proofs.CoverLaw.{HaveSides, AllHaveSides}

-- ---- units

digit_small : (b : Bool) → digit b ≤ 1
digit_small true = omega arith
digit_small false = omega arith

many_small : (test : Leaf → Bool) (leaves : List Leaf) (x y : ℕ) → how_many test leaves x y ≤ 2
many_small test leaves x y =
    let a : digit (passes test (left_of leaves x y)) ≤ 1 = digit_small _ in
    let b : digit (passes test (above leaves x y)) ≤ 1 = digit_small _ in
    omega arith

pub skip_small : (leaves : List Leaf) (x y : ℕ) → skip_context leaves x y < 130
unfolding skip_context
skip_small leaves x y = let h : how_many (λ leaf. is_skipped leaf.kind) leaves x y ≤ 2 = many_small _ leaves x y in omega arith

pub split_small : (leaves : List Leaf) (x y log2 : ℕ) → split_context leaves (block_at x y log2) < 130
unfolding split_context
split_small leaves x y log2 = let h : how_many (λ leaf. nat_lt leaf.block.log2 log2) leaves x y ≤ 2 = many_small _ leaves x y in omega arith

pub side_small : (log2 : ℕ) → IsSide log2 → log2 ≤ 5
side_small _ eight = omega arith
side_small _ sixteen = omega arith
side_small _ thirty_two = omega arith

residual_if_fine : (log2 mode component : ℕ) (levels : List ℤ) → log2 ≤ 5 → AreFine (residual_if log2 mode component levels)
residual_if_fine log2 mode component levels h = go (cbf levels)
  where
    go : (b : Bool) → AreFine (cond b (residual_items (shape_of log2 mode component) levels) [])
    go true = residual_fine (shape_of log2 mode component) levels h
    go false = tt

-- samples, of which there are some, after a terminating bin 1
samples_fill : (xs : List ℕ) (rest : List Item) → AllByRecursion (λ x. x < 256) xs → GoesOn Filled rest → GoesOn Filled (map items.Sample xs ++ rest)
samples_fill [] rest h f = f
samples_fill (x ∷ xs) rest h f = (h.0, samples_fill xs rest h.1 f)

pcm_continues : (xs : List ℕ) → 0 < length xs → AllByRecursion (λ x. x < 256) xs → Continues (terminate_bin true ∷ map items.Sample xs)
pcm_continues [] some h = absurd (omega arith)
pcm_continues (x ∷ xs) some h = record {
  plain = λ rest p f. (tt, (h.0, samples_fill xs rest h.1 f));
  filled = λ rest p f. (tt, (h.0, samples_fill xs rest h.1 f));
}

some_front : (a b : List ℕ) → 0 < length a → 0 < length (a ++ b)
some_front [] b h = absurd (omega arith)
some_front (x ∷ a) b h = omega arith

some_samples : (log2 n : ℕ) → IsSide log2 → n ≡ 2 ^ log2 * 2 ^ log2 → 0 < n
some_samples _ n eight e = omega arith
some_samples _ n sixteen e = omega arith
some_samples _ n thirty_two e = omega arith

content_continues : (source : Source) (before : List Leaf) (leaf : Leaf) (k : Kind) → IsSource source → IsSide leaf.block.log2 → Continues (content_items source before leaf k)
content_continues source before leaf Skip is side = continues_none
content_continues source before leaf Pcm is side =
    let a : List ℕ = source.samples leaf 0 in
    let b : List ℕ = source.samples leaf 1 in
    let c : List ℕ = source.samples leaf 2 in
    pcm_continues ((a ++ b) ++ c) (some_front (a ++ b) c (some_front a b (some_samples leaf.block.log2 (length a) side (is.samples_long leaf 0))))
    (all_append (λ x. x < 256) (a ++ b) c (all_append (λ x. x < 256) a b (is.samples_fit leaf 0) (is.samples_fit leaf 1)) (is.samples_fit leaf 2))
content_continues source before leaf (Intra mode) is side =
    let h : leaf.block.log2 ≤ 5 = side_small leaf.block.log2 side in
    continues_fine _ (
      refl,
      fine_append (mode_items mode (candidates_at before leaf.block.x leaf.block.y)) _ (mode_fine mode (candidates_at before leaf.block.x leaf.block.y)) (
        omega arith,
        (
          omega arith,
          (
            omega arith,
            (
              omega arith,
              fine_append (residual_if leaf.block.log2 mode 0 (source.levels leaf 0)) _ (residual_if_fine leaf.block.log2 mode 0 (source.levels leaf 0) h)
                  (fine_append (residual_if leaf.block.log2 mode 1 (source.levels leaf 1)) _ (residual_if_fine leaf.block.log2 mode 1 (source.levels leaf 1) h)
                  (residual_if_fine leaf.block.log2 mode 2 (source.levels leaf 2) h)),
            ),
          ),
        ),
      ),
    )

pub unit_continues : (kind : SliceKind) (source : Source) (before : List Leaf) (leaf : Leaf) → IsSource source → IsSide leaf.block.log2 → Continues (coding_unit_items kind source before leaf)
unfolding coding_unit_items
unit_continues kind source before leaf is side =
    continues_append (context_bin true 0 ∷ in_P kind (context_bin (is_skipped leaf.kind) (skip_context before leaf.block.x leaf.block.y) ∷ [])) _ (continues_fine _ (omega arith, skip_flag kind)) (go (is_skipped leaf.kind))
  where
    skip_flag : (s : SliceKind) → AreFine (in_P s (context_bin (is_skipped leaf.kind) (skip_context before leaf.block.x leaf.block.y) ∷ []))
    skip_flag I = tt
    skip_flag P = (skip_small before leaf.block.x leaf.block.y, tt)

    mode_flag : (s : SliceKind) → AreFine (in_P s (context_bin true 7 ∷ []))
    mode_flag I = tt
    mode_flag P = (omega arith, tt)

    part_mode : (b : Bool) → AreFine (cond b (context_bin true 8 ∷ []) [])
    part_mode true = (omega arith, tt)
    part_mode false = tt

    go : (b : Bool) → Continues (cond b [] (in_P kind (context_bin true 7 ∷ []) ++ ((if leaf.block.log2 == 3 then context_bin true 8 ∷ [] else []) ++ content_items source before leaf leaf.kind)))
    go true = continues_none
    go false =
        continues_append (in_P kind (context_bin true 7 ∷ [])) _ (continues_fine _ (mode_flag kind))
        (continues_append (cond (leaf.block.log2 == 3) (context_bin true 8 ∷ []) []) _ (continues_fine _ (part_mode (leaf.block.log2 == 3))) (content_continues source before leaf leaf.kind is side))

-- ---- trees

record WalksOn (w : Walk Leaf Leaf) : Type 0 where
  list : Continues w.list
  left : HaveSides w.left

walks_on : (list : List Item) (w : Walk Leaf Leaf) → Continues list → WalksOn w → WalksOn (walk_on list w)
walks_on list w h k = record { list = continues_append list w.list h k.list; left = k.left }

walks_both : (w : Walk Leaf Leaf) (go : List Leaf → List Leaf → Walk Leaf Leaf) → WalksOn w → ((before left : List Leaf) → HaveSides left → WalksOn (go before left)) → WalksOn (and_walk w go)
walks_both w go h k = walks_on w.list (go w.before w.left) h.list (k w.before w.left h.left)

unit_walks : (kind : SliceKind) (source : Source) (before left : List Leaf) → IsSource source → HaveSides left → WalksOn (coding_unit_walk (leaf_units kind source) before left)
unit_walks kind source before [] is h = record { list = continues_none; left = tt }
unit_walks kind source before (leaf ∷ leaves) is h = record { list = unit_continues kind source before leaf is h.0; left = h.1 }

tree_walks : (kind : SliceKind) (size : Size) (source : Source) (depth x y : ℕ) (before left : List Leaf) → IsSource source → HaveSides left → WalksOn (tree_walk (leaf_units kind source) size depth x y before left)
tree_walks kind size source zero x y before left is h = go (is_inside size x y)
  where
    go : (b : Bool) → WalksOn (cond b (coding_unit_walk (leaf_units kind source) before left) (no_walk before left))
    go true = unit_walks kind source before left is h
    go false = record { list = continues_none; left = h }
tree_walks kind size source (suc depth) x y before left is h =
    go (not (is_inside size x y)) (not (is_whole size (2 * half) x y)) (is_next leaf_block (4 + depth) left) (λ px py b l k. tree_walks kind size source depth px py b l is k)
  where
    half : ℕ
    half = 2 ^ (3 + depth)

    Lower : Type 0
    Lower = (px py : ℕ) (b l : List Leaf) → HaveSides l → WalksOn (tree_walk (leaf_units kind source) size depth px py b l)

    split : Walk Leaf Leaf
    split = quarters (tree_walk (leaf_units kind source) size depth) half x y before left

    flag : Bool → List Item
    flag value = context_bin value (split_context before (block_at x y (4 + depth))) ∷ []

    flag_continues : (value : Bool) → Continues (flag value)
    flag_continues value = continues_fine (flag value) (split_small before x y (4 + depth), tt)

    split_walks : Lower → WalksOn split
    split_walks lower =
        walks_both _ _ (walks_both _ _ (walks_both _ _ (lower x y before left h) (lower (x + half) y)) (lower x (y + half))) (lower (x + half) (y + half))

    go : (a b c : Bool) → Lower → WalksOn (cond a (no_walk before left) (cond b split (cond c (walk_on (flag false) (coding_unit_walk (leaf_units kind source) before left)) (walk_on (flag true) split))))
    go true b c lower = record { list = continues_none; left = h }
    go false true c lower = split_walks lower
    go false false true lower = walks_on (flag false) _ (flag_continues false) (unit_walks kind source before left is h)
    go false false false lower = walks_on (flag true) _ (flag_continues true) (split_walks lower)

ctu_continues : (kind : SliceKind) (size : Size) (source : Source) (before leaves : List Leaf) (ctu : ℕ) → IsSource source → HaveSides leaves → Continues (ctu_items (leaf_units kind source) size before leaves ctu)
unfolding ctu_items
ctu_continues kind size source before leaves ctu is h = (tree_walks kind size source 2 (ctu_x size ctu) (ctu_y size ctu) before leaves is h).list

-- ---- rows

-- coding tree units of which none is the picture's last
before_last : (kind : SliceKind) (size : Size) (source : Source) (leaves : List (List Leaf)) (ctu n : ℕ) → IsSource source → AllHaveSides leaves → ctu + n < ctus size.w * ctus size.h
    → Continues (items_from kind size source leaves ctu n)
before_last kind size source leaves ctu zero is h few = continues_none
before_last kind size source leaves ctu (suc n) is h few =
    let not_last : is_last size ctu ≡ false = ne_eqb (ctu + 1) (ctus size.w * ctus size.h) (λ e. omega arith) in
    continues_append (ctu_with_flag (leaf_units kind source) size (is_last size) leaves ctu) _
    (continues_append (ctu_items (leaf_units kind source) size (joined (take ctu leaves)) (get_or leaves ctu []) ctu) _ (ctu_continues kind size source _ _ ctu is (h ctu))
    (continues_fine (terminate_bin (is_last size ctu) ∷ []) (not_last, tt)))
    (before_last kind size source leaves (suc ctu) n is h (omega arith))

-- the last ones
to_last : (kind : SliceKind) (size : Size) (source : Source) (leaves : List (List Leaf)) (ctu n : ℕ) → IsSource source → AllHaveSides leaves → ctu + suc n ≡ ctus size.w * ctus size.h
    → (GoesOn Plain (items_from kind size source leaves ctu (suc n))) × (GoesOn Filled (items_from kind size source leaves ctu (suc n)))
to_last kind size source leaves ctu zero is h all =
    let list : List Item = ctu_items (leaf_units kind source) size (joined (take ctu leaves)) (get_or leaves ctu []) ctu in
    let c : Continues list = ctu_continues kind size source _ _ ctu is (h ctu) in
    let last : is_last size ctu ≡ true = eq-eqb (ctu + 1) (ctus size.w * ctus size.h) (omega arith) in
    let e : ctu_with_flag (leaf_units kind source) size (is_last size) leaves ctu ++ [] ≡ list ++ terminate_bin true ∷ [] = append-nil _ ∙ ap (λ (b : Bool). list ++ terminate_bin b ∷ []) last in (
      subst (λ (l : List Item). GoesOn Plain l) (sym e) (c.plain (terminate_bin true ∷ []) (tt, tt) (tt, tt)),
      subst (λ (l : List Item). GoesOn Filled l) (sym e) (c.filled (terminate_bin true ∷ []) (tt, tt) (tt, tt)),
    )
to_last kind size source leaves ctu (suc n) is h all =
    let later = to_last kind size source leaves (suc ctu) n is h (omega arith) in
    let not_last : is_last size ctu ≡ false = ne_eqb (ctu + 1) (ctus size.w * ctus size.h) (λ e. omega arith) in
    let c : Continues (ctu_with_flag (leaf_units kind source) size (is_last size) leaves ctu) =
    continues_append (ctu_items (leaf_units kind source) size (joined (take ctu leaves)) (get_or leaves ctu []) ctu) _ (ctu_continues kind size source _ _ ctu is (h ctu))
    (continues_fine (terminate_bin (is_last size ctu) ∷ []) (not_last, tt)) in
    (c.plain (items_from kind size source leaves (suc ctu) (suc n)) later.0 later.1, c.filled (items_from kind size source leaves (suc ctu) (suc n)) later.0 later.1)

-- the items of a row are well formed
pub row_form : (kind : SliceKind) (size : Size) (source : Source) (leaves : List (List Leaf)) (row : ℕ) → IsSource source → AllHaveSides leaves → 0 < ctus size.w → row < ctus size.h
    → IsWellFormed (items_of_row (leaf_units kind source) size leaves row)
unfolding items_of_row
row_form kind size source leaves row is h some few = go (row + 1 == ctus size.h) refl
  where
    first : ℕ
    first = row * ctus size.w

    same : ctus_items (leaf_units kind source) size (is_last size) leaves row (ctus size.w) ≡ items_from kind size source leaves first (ctus size.w)
    same = in_order kind size source leaves first (ctus size.w) 0 ∙ ap (λ (k : ℕ). items_from kind size source leaves k (ctus size.w)) (add-zero first)

    turned : (a b : ℕ) → a * b ≡ b * a
    turned a b = omega arith

    go : (b : Bool) → (row + 1 == ctus size.h) ≡ b → IsWellFormed (ctus_items (leaf_units kind source) size (is_last size) leaves row (ctus size.w) ++ cond b [] (terminate_bin true ∷ []))
    go true e =
        let last : row + 1 ≡ ctus size.h = eqb-true _ _ e in
        let all : first + ctus size.w ≡ ctus size.w * ctus size.h = (let a : first + ctus size.w ≡ (row + 1) * ctus size.w = omega arith in a ∙ (ap (λ (n : ℕ). n * ctus size.w) last ∙ turned (ctus size.h) (ctus size.w))) in
        let wide : suc (ctus size.w - 1) ≡ ctus size.w = omega arith in
        let whole : GoesOn Plain (items_from kind size source leaves first (suc (ctus size.w - 1))) = (to_last kind size source leaves first (ctus size.w - 1) is h (omega arith)).0 in
        subst (λ (l : List Item). GoesOn Plain l) (sym (append-nil _ ∙ same) ∙ refl) (subst (λ (n : ℕ). GoesOn Plain (items_from kind size source leaves first n)) wide whole)
    go false e =
        let not_last : row + 1 ≡ ctus size.h → ⊥ = eqb-false _ _ e in
        let less : row + 1 < ctus size.h = omega arith in
        let fits : (row + 1) * ctus size.w + ctus size.w ≤ ctus size.h * ctus size.w = row_fits (row + 1) (ctus size.w) (ctus size.h) (ctus size.w) less (le_refl (ctus size.w)) in
        let few' : first + ctus size.w < ctus size.w * ctus size.h = (let t : ctus size.h * ctus size.w ≡ ctus size.w * ctus size.h = turned (ctus size.h) (ctus size.w) in omega arith) in
        let c : Continues (items_from kind size source leaves first (ctus size.w)) = before_last kind size source leaves first (ctus size.w) is h few' in
        subst (λ (l : List Item). GoesOn Plain (l ++ terminate_bin true ∷ [])) (sym same) (c.plain (terminate_bin true ∷ []) (tt, tt) (tt, tt))
