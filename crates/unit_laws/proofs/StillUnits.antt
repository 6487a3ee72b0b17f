-- Units that don't move are lawful where blocks may move, and what is read of them is what was read of leaves.
use Rattle.std.proofs.Common.{◌≡◌, refl, sym, ◌∙◌, ap, subst, ℕ, zero, suc, ◌+◌, ◌*◌, ◌^◌, ◌<◌, ◌≤◌, List, [], ◌∷◌, ◌++◌, Bool, true, false, ⊎_elim, take, map, get_or, inl, inr, arith}
use Rattle.std.specs.Prelude.{MatchBool, ◌⊎◌}
use Rattle.std.proofs.lemmas.Bool.{and_from}
use Rattle.h265_model.specs.declared.Item.{Item}
use Rattle.h265_model.specs.declared.leaf.SliceKind.{SliceKind}
use Rattle.h265_model.specs.declared.leaf.SliceKind.TheVariants.{I, P}
use Rattle.h265_model.specs.declared.leaf.Kind.{Kind}
use Rattle.h265_model.specs.declared.leaf.Kind.TheVariants.{Skip, Pcm, Intra}
use Rattle.h265_model.specs.declared.leaf.Leaf.{Leaf}
use Rattle.h265_model.specs.declared.moves.MoveLeaf.{MoveLeaf}
use Rattle.h265_model.specs.Plain.{block_at, Size, coded, ctus, joined, ctu_x, ctu_y}
use Rattle.h265_model.specs.Predict.{is_inside}
use Rattle.h265_model.specs.Code.{code}
use Rattle.h265_model.specs.Tree as Tree
use Rattle.h265_laws.proofs.LeafReading as Old
use Rattle.h265_model.specs.Tree.{moving, leaf_units, Source, IsTree, IsCodingUnit, AreQuarters, AreLawfulTrees, IsMode, AreModes, IsAllowed, AreAllowed, is_whole}
use Rattle.h265_model.specs.Plain.{leaf_side}
use Rattle.h265_model.specs.Motion.{Moving, as_coded, coded_after, kind_vector, merge, has_source, still, still_kind}
use Rattle.h265_model.specs.Tree.{ReadUnit, Content, Copied, ends_row}
use Rattle.h265_model.specs.Tree.{UnitItems, still_unit, move_unit, ctu_items, coded_first, ctu_with_flag, items_of_segment}
use Rattle.h265_model.specs.Plain.{below, terminate_bin}
use Rattle.h265_laws.proofs.Coverage.{Covers, ArePlaced, CoversBlock, ctu_covers}
use Rattle.h265_laws.proofs.CoverLaw.{joined_cover}
use Rattle.h265_laws.proofs.TreeLaw.{tree_modes}
use Rattle.stream_laws.proofs.OldTree.{content_as, unit_as, units_as, IsStill, AreStill, still-append, merge_still, fits}
use Rattle.h265_model.specs.Slice.{segment_code, contexts_at}
use Rattle.unit_laws.specs.Laws.{EachSegmentIsStill, CanStand, CanStandAll, unit_content, reads_after, IsOneUnit, AreFourParts, IsUnitTree, AreLawfulUnits}
use Rattle.unit_laws.proofs.StillLaw.{leaf_still, WritesLeaves, still_writes, move_writes, coded_same, map-append, first_same, at_same, flat_same, ctu_same, contexts_same}

-- ---- units that stay still

one_still : (before : List Moving) (leaf : Leaf) → AreStill before → AreStill (before ++ as_coded before (still leaf) ∷ [])
one_still before leaf h = still-append before (as_coded before (still leaf) ∷ []) h (go leaf.kind, tt)
  where
    go : (k : Kind) → IsStill (kind_vector (merge before leaf.block) (still_kind k))
    go Skip = merge_still before leaf.block.x leaf.block.y leaf.block.log2 h
    go Pcm = tt
    go (Intra mode) = tt

coded_still : (before : List Moving) (ls : List Leaf) → AreStill before → AreStill (coded_after before (map still ls))
coded_still before [] h = h
coded_still before (leaf ∷ ls) h = coded_still (before ++ as_coded before (still leaf) ∷ []) ls (one_still before leaf h)

first_still : (ls : List (List Leaf)) (n : ℕ) → AreStill (coded_first (map (map still) ls) n)
first_still ls n = subst (λ (us : List MoveLeaf). AreStill (coded_after [] us)) (sym (first_same n ls)) (coded_still [] (joined (take n ls)) tt)

-- ---- they can stand

one_stands : (kind : SliceKind) (size : Size) (before : List Moving) (leaf : Leaf) → AreStill before → leaf.block.x + leaf_side leaf ≤ coded size.w → leaf.block.y + leaf_side leaf ≤ coded size.h → IsMode leaf.kind → IsAllowed kind leaf.kind
    → CanStand kind size before leaf.block (still_kind leaf.kind)
unfolding has_source
one_stands kind size before leaf h hx hy mode allowed = go kind leaf.kind mode allowed
  where
    go : (s : SliceKind) (k : Kind) → IsMode k → IsAllowed s k → CanStand s size before leaf.block (still_kind k)
    go I Skip m a = absurd (cc)
    go P Skip m a =
        ap (has_source size leaf.block) (merge_still before leaf.block.x leaf.block.y leaf.block.log2 h)
        ∙ and_from _ _ (fits (coded size.w) (2 ^ leaf.block.log2) leaf.block.x hx) (fits (coded size.h) (2 ^ leaf.block.log2) leaf.block.y hy)
    go I Pcm m a = tt
    go P Pcm m a = tt
    go I (Intra mode) m a = m
    go P (Intra mode) m a = m

all_stand : (kind : SliceKind) (size : Size) (before : List Moving) (placed_before ls : List Leaf) → AreStill before → ArePlaced size placed_before ls → AreModes ls → AreAllowed kind ls → CanStandAll kind size before (map still ls)
all_stand kind size before placed_before [] h placed modes allowed = tt
all_stand kind size before placed_before (leaf ∷ ls) h placed modes allowed = (
  one_stands kind size before leaf h placed.0.right placed.0.bottom modes.0 allowed.0,
  all_stand kind size (before ++ as_coded before (still leaf) ∷ []) (placed_before ++ leaf ∷ []) ls (one_still before leaf h) placed.1 modes.1 allowed.1,
)

-- ---- their trees

one_tree : (x y log2 : ℕ) (ls : List Leaf) → IsCodingUnit (block_at x y log2) ls → IsOneUnit (block_at x y log2) (map still ls)
one_tree x y log2 ls u = record { kind = still_kind u.kind; one = ap (map still) u.one }

tree_still : (size : Size) (depth x y : ℕ) (ls : List Leaf) → IsTree size depth x y ls → IsUnitTree size depth x y (map still ls)
tree_still size zero x y ls t = go (is_inside size x y) t
  where
    go : (b : Bool) → MatchBool b (IsCodingUnit (block_at x y 3) ls) (ls ≡ []) → MatchBool b (IsOneUnit (block_at x y 3) (map still ls)) (map still ls ≡ [])
    go true u = one_tree x y 3 ls u
    go false none = ap (map still) none
tree_still size (suc depth) x y ls t = go (is_inside size x y) (is_whole size (2 * half) x y) t (λ px py l q. tree_still size depth px py l q)
  where
    half : ℕ
    half = 2 ^ (3 + depth)

    Lower : Type 0
    Lower = (px py : ℕ) (l : List Leaf) → IsTree size depth px py l → IsUnitTree size depth px py (map still l)

    four : AreQuarters (IsTree size depth) half x y ls → Lower → AreFourParts (IsUnitTree size depth) half x y (map still ls)
    four q lower = record {
      first = map still q.first;
      second = map still q.second;
      third = map still q.third;
      fourth = map still q.fourth;
      together =
          ap (map still) q.together
          ∙ (map-append ((q.first ++ q.second) ++ q.third) q.fourth
          ∙ ap (λ (l : List MoveLeaf). l ++ map still q.fourth) (map-append (q.first ++ q.second) q.third ∙ ap (λ (l : List MoveLeaf). l ++ map still q.third) (map-append q.first q.second)));
      top_left = lower x y q.first q.top_left;
      top_right = lower (x + half) y q.second q.top_right;
      bottom_left = lower x (y + half) q.third q.bottom_left;
      bottom_right = lower (x + half) (y + half) q.fourth q.bottom_right;
    }

    go : (a b : Bool) → MatchBool a (MatchBool b (IsCodingUnit (block_at x y (4 + depth)) ls ⊎ AreQuarters (IsTree size depth) half x y ls) (AreQuarters (IsTree size depth) half x y ls)) (ls ≡ []) → Lower
        → MatchBool a (MatchBool b (IsOneUnit (block_at x y (4 + depth)) (map still ls) ⊎ AreFourParts (IsUnitTree size depth) half x y (map still ls)) (AreFourParts (IsUnitTree size depth) half x y (map still ls))) (map still ls ≡ [])
    go false b none lower = ap (map still) none
    go true false q lower = four q lower
    go true true u lower = ⊎_elim (λ v. inl (one_tree x y (4 + depth) ls v)) (λ q. inr (four q lower)) u

-- ---- all of them

placed_at : (kind : SliceKind) (size : Size) (leaves : List (List Leaf)) (total ctu : ℕ) → 0 < ctus size.w → AreLawfulTrees kind size leaves total → ctu < total → ArePlaced size (joined (take ctu leaves)) (get_or leaves ctu [])
placed_at kind size leaves total ctu some are few =
    let earlier : CoversBlock size [] (joined (take ctu leaves)) 0 (ctu * 1024) = joined_cover kind size leaves total ctu some are (omega arith) in
    let start : 0 + ctu * 1024 ≡ ctu * 1024 = omega arith in
    (ctu_covers size ctu (joined (take ctu leaves)) (get_or leaves ctu []) some (are.tree ctu few) (subst (λ (k : ℕ). Covers size (joined (take ctu leaves)) k) start earlier.covers)).placed

pub lawful_still : (kind : SliceKind) (size : Size) (leaves : List (List Leaf)) (total : ℕ) → 0 < ctus size.w → AreLawfulTrees kind size leaves total → AreLawfulUnits kind size (map (map still) leaves) total
lawful_still kind size leaves total some are = record {
  tree = λ ctu few. subst (λ (l : List MoveLeaf). IsUnitTree size 2 (ctu_x size ctu) (ctu_y size ctu) l) (sym (at_same ctu leaves)) (tree_still size 2 (ctu_x size ctu) (ctu_y size ctu) (get_or leaves ctu []) (are.tree ctu few));
  stand = λ ctu few.
      subst (λ (l : List MoveLeaf). CanStandAll kind size (coded_first (map (map still) leaves) ctu) l) (sym (at_same ctu leaves))
      (all_stand kind size (coded_first (map (map still) leaves) ctu) (joined (take ctu leaves)) (get_or leaves ctu []) (first_still leaves ctu) (placed_at kind size leaves total ctu some are few)
      (tree_modes size 2 _ _ _ (are.tree ctu few)) (are.allowed ctu few));
}

-- ---- what is read of them

one_read : (source : Source) (before : List Moving) (leaf : Leaf) → AreStill before
    → unit_content source before (still leaf) (still_kind leaf.kind) ≡ content_as (Old.content_of source leaf leaf.kind)
one_read source before leaf h = go leaf.kind
  where
    go : (k : Kind) → unit_content source before (still leaf) (still_kind k) ≡ content_as (Old.content_of source leaf k)
    go Skip = ap Copied (merge_still before leaf.block.x leaf.block.y leaf.block.log2 h)
    go Pcm = ap (λ (l : Leaf). content_as (Old.content_of source l Pcm)) (leaf_still leaf)
    go (Intra mode) = ap (λ (l : Leaf). content_as (Old.content_of source l (Intra mode))) (leaf_still leaf)

still_reads : (source : Source) (before : List Moving) (ls : List Leaf) → AreStill before → reads_after source before (map still ls) ≡ units_as (Old.reads_of source ls)
still_reads source before [] h = refl
still_reads source before (leaf ∷ ls) h =
    ap (λ (c : Content). record { block = leaf.block; content = c } ∷ reads_after source (before ++ as_coded before (still leaf) ∷ []) (map still ls)) (one_read source before leaf h)
    ∙ ap (λ (l : List ReadUnit). unit_as (Old.read_of source leaf) ∷ l) (still_reads source (before ++ as_coded before (still leaf) ∷ []) ls (one_still before leaf h))

pub first_reads : (source : Source) (leaves : List (List Leaf)) (n : ℕ) → reads_after source [] (joined (take n (map (map still) leaves))) ≡ units_as (Old.reads_of source (joined (take n leaves)))
first_reads source leaves n = ap (reads_after source []) (first_same n leaves) ∙ still_reads source [] (joined (take n leaves)) tt

-- ---- what is written of them

-- a row as a segment is the leaves' items and flags, from the contexts that leaves have
pub segments_are_still : EachSegmentIsStill
unfolding items_of_segment
segments_are_still kind size source ls row =
    let units : List (List MoveLeaf) = map (map still) ls in
    let still_items : items_of_segment (moving (still_unit kind source)) size units row ≡ items_of_segment (leaf_units kind source) size ls row = flat_same _ _ (λ i. ctu_is (still_unit kind source) (still_writes kind source) (row * ctus size.w + i)) (below (ctus size.w)) in
    let move_items : items_of_segment (moving (move_unit kind source)) size units row ≡ items_of_segment (leaf_units kind source) size ls row = flat_same _ _ (λ i. ctu_is (move_unit kind source) (move_writes kind source) (row * ctus size.w + i)) (below (ctus size.w)) in
    let still_contexts : contexts_at kind (moving (still_unit kind source)) size units row ≡ contexts_at kind (leaf_units kind source) size ls row = contexts_same kind size source (still_unit kind source) (still_writes kind source) ls row in
    let move_contexts : contexts_at kind (moving (move_unit kind source)) size units row ≡ contexts_at kind (leaf_units kind source) size ls row = contexts_same kind size source (move_unit kind source) (move_writes kind source) ls row in (
      ap (λ (l : List Item). code l (contexts_at kind (moving (still_unit kind source)) size units row)) still_items ∙ ap (code (items_of_segment (leaf_units kind source) size ls row)) still_contexts,
      ap (λ (l : List Item). code l (contexts_at kind (moving (move_unit kind source)) size units row)) move_items ∙ ap (code (items_of_segment (leaf_units kind source) size ls row)) move_contexts,
    )
  where
    leaves_after : List MoveLeaf → List Leaf
    leaves_after us = map (λ (u : Moving). u.leaf) (coded_after [] us)

    ctu_is : (unit : UnitItems) → WritesLeaves kind source unit → (ctu : ℕ) → ctu_with_flag (moving unit) size (ends_row size) (map (map still) ls) ctu
        ≡ Tree.ctu_items (leaf_units kind source) size (joined (take ctu ls)) (get_or ls ctu []) ctu ++ terminate_bin (ends_row size ctu) ∷ []
    ctu_is unit u ctu =
        ap (λ (l : List Item). l ++ terminate_bin (ends_row size ctu) ∷ [])
        (ap (λ (us : List MoveLeaf). ctu_items (moving unit) size (coded_first (map (map still) ls) ctu) us ctu) (at_same ctu ls)
        ∙ ctu_same kind size source unit u (coded_first (map (map still) ls) ctu) (joined (take ctu ls)) (get_or ls ctu []) ctu
        (ap (λ (us : List MoveLeaf). leaves_after us) (first_same ctu ls) ∙ coded_same [] (joined (take ctu ls))))

-- the data of a segment of leaves, with units that might move
pub segment_code_still : (kind : SliceKind) (size : Size) (source : Source) (ls : List (List Leaf)) (row : ℕ)
    → segment_code kind (leaf_units kind source) size ls row ≡ segment_code kind (moving (move_unit kind source)) size (map (map still) ls) row
segment_code_still kind size source ls row = sym (segments_are_still kind size source ls row).1
