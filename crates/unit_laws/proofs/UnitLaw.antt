-- A coding unit that was written where blocks may move is read.
use Rattle.std.proofs.Common.{◌≡◌, refl, ◌∙◌, ap, ℕ, zero, suc, ◌+◌, ◌^◌, List, [], ◌∷◌, ◌++◌, Bool, true, false, cond, arith}
use Rattle.std.specs.Prelude.{Option, Some, None, IfSome, ◌==◌}
use Rattle.std.specs.List.{find}
use Rattle.std.proofs.lemmas.Bool.{cond-true}
use Rattle.h265_model.specs.declared.Place.TheVariants.{Context}
use Rattle.h265_model.specs.declared.Item.{Item}
use Rattle.h265_model.specs.declared.leaf.SliceKind.{SliceKind}
use Rattle.h265_model.specs.declared.leaf.SliceKind.TheVariants.{I, P}
use Rattle.h265_model.specs.declared.leaf.Kind.{Kind}
use Rattle.h265_model.specs.declared.leaf.Kind.TheVariants as kinds
use Rattle.h265_model.specs.declared.moves.Vector.{Vector}
use Rattle.h265_model.specs.declared.moves.MoveLeaf.{MoveLeaf}
use Rattle.h265_model.specs.declared.moves.MoveKind.{MoveKind}
use Rattle.h265_model.specs.declared.moves.MoveKind.TheVariants as moves
use Rattle.h265_model.specs.Plain.{block_at, Size, leaf_with, context_bin}
use Rattle.h265_model.specs.Bits.{◌>>=◌ as and_then}
use Rattle.h265_model.specs.Engine.{Reader, ◌>>=◌, give, refuse, Reads}
use Rattle.h265_model.specs.Residual.{IsSide}
use Rattle.h265_model.specs.Tree.{Source, IsSource, IsMode, AreModes, is_skipped, skip_context, coding_unit_items, content_items, in_P, skip_read}
use Rattle.h265_model.specs.Plain.{covers}
use Rattle.h265_laws.proofs.LeafReading.{content_of, part_mode_read, content_read}
use Rattle.h265_model.specs.Motion.{Moving, leaves, no_motion, vector_in, vector_before, first_vector, or_none, is_vector, two_of, predictors, merge, a0, a1, b0, b1, b2, has_source, move_items}
use Rattle.h265_model.specs.Tree.{Content, Copied, Moved, ReadUnit, vector_of, own_read, move_read, coded_read, is_in_picture, unit_with, coding_unit_read}
use Rattle.h265_model.specs.Tree.{moved_unit, move_unit}
use Rattle.h265_laws.proofs.Reading.{reads_as, reads_bin, reads_give}
use Rattle.h265_laws.proofs.TreeLaw.{reads_content, reads_part_mode}
use Rattle.unit_laws.specs.Laws.{IsShort, AreShort, EachUnitIsRead}
use Rattle.unit_laws.proofs.MotionLaw.{reads_expect, reads_move_as}
use Rattle.stream_laws.proofs.OldTree.{Refines, content_as, own_refines}
use Rattle.h265_model.specs.declared.block.CodingBlock.{CodingBlock}

-- ---- short vectors

abbrev Short : Option Vector → Type 0
Short o = IfSome o IsShort

no_motion_short : IsShort no_motion
no_motion_short = record { x = omega arith; y = omega arith }

find_short : (test : Moving → Bool) (units : List Moving) → AreShort units → Short (vector_in (find test units))
find_short test [] h = tt
find_short test (u ∷ units) h = go (find_short test units h.1) (test u)
  where
    go : Short (vector_in (find test units)) → (b : Bool) → Short (vector_in (cond b (Some u) (find test units)))
    go later true = h.0
    go later false = later

before_short : (units : List Moving) (x y : ℕ) → AreShort units → Short (vector_before units x y)
unfolding vector_before
before_short units zero y h = tt
before_short units (suc x) zero h = tt
before_short units (suc x) (suc y) h = find_short (λ (u : Moving). covers x y u.leaf) units h

abbrev AllShort : List (Option Vector) → Type 0
AllShort [] = Unit {0}
AllShort (o ∷ os) = Short o × AllShort os

first_short : (os : List (Option Vector)) → AllShort os → Short (first_vector os)
first_short [] h = tt
first_short (None ∷ os) h = first_short os h.1
first_short (Some v ∷ os) h = h.0

or_short : (o : Option Vector) → Short o → IsShort (or_none o)
or_short None h = no_motion_short
or_short (Some v) h = h

two_short : (a b : Option Vector) → Short a → Short b → IsShort (two_of a b).0 × IsShort (two_of a b).1
two_short None b ha hb = (or_short b hb, no_motion_short)
two_short (Some a) None ha hb = (ha, no_motion_short)
two_short (Some a) (Some b) ha hb = go (is_vector a b)
  where
    Both : Vector × Vector → Type 0
    Both p = IsShort p.0 × IsShort p.1

    go : (t : Bool) → Both (cond t (a, no_motion) (a, b))
    go true = (ha, no_motion_short)
    go false = (ha, hb)

predictors_short : (units : List Moving) (x y log2 : ℕ) → AreShort units → IsShort (predictors units (block_at x y log2)).0 × IsShort (predictors units (block_at x y log2)).1
unfolding predictors
predictors_short units x y log2 h =
    let n : ℕ = 2 ^ log2 in
    let b : CodingBlock = block_at x y log2 in
    two_short (first_vector (a0 units b ∷ a1 units b ∷ [])) (first_vector (b0 units b ∷ b1 units b ∷ b2 units b ∷ []))
    (first_short (a0 units b ∷ a1 units b ∷ []) (before_short units x (y + n + 1) h, (before_short units x (y + n) h, tt)))
    (first_short (b0 units b ∷ b1 units b ∷ b2 units b ∷ []) (before_short units (x + n + 1) y h, (before_short units (x + n) y h, (before_short units x y h, tt))))

pub merge_short : (units : List Moving) (x y log2 : ℕ) → AreShort units → IsShort (merge units (block_at x y log2))
unfolding merge
merge_short units x y log2 h =
    let n : ℕ = 2 ^ log2 in
    let b : CodingBlock = block_at x y log2 in
    or_short (first_vector (a1 units b ∷ b1 units b ∷ b0 units b ∷ a0 units b ∷ b2 units b ∷ []))
    (first_short (a1 units b ∷ b1 units b ∷ b0 units b ∷ a0 units b ∷ b2 units b ∷ [])
    (before_short units x (y + n) h, (before_short units (x + n) y h, (before_short units (x + n + 1) y h, (before_short units x (y + n + 1) h, (before_short units x y h, tt))))))

-- ---- readings that end in a test

reads_into : {A B : Type 0} (read : Reader A) (f : A → Reader B) (list : List Item) (a : A) (b : B) → Reads read list a → f a ≡ give b → Reads (read >>= f) list b
reads_into {B = B} read f list a b r e = record {
  from = λ e0 left h. ap (λ o. and_then o (λ found. f found.0 found.1)) (r.from e0 left h) ∙ ap (λ (g : Reader B). g left) e;
}

-- what the old reading reads, the new one reads
reads_new : {A B : Type 0} (c : A → B) (old : Reader A) (new : Reader B) (list : List Item) (a : A) → Refines c old new → Reads old list a → Reads new list (c a)
reads_new c old new list a f r = record { from = λ e left h. f.from e left a (r.from e left h) }

-- ---- units

abbrev unit_at : CodingBlock → MoveKind → MoveLeaf
unit_at block k = record { block = block; kind = k }

abbrev made : ℕ → ℕ → ℕ → Content → List ReadUnit
made x y log2 c = record { block = block_at x y log2; content = c } ∷ []

-- an intra unit, or one of samples
reads_own : (source : Source) (before : List Moving) (x y log2 : ℕ) (k : Kind) → IsSide log2 → IsSource source → AreModes (leaves before) → IsMode k → is_skipped k ≡ false
    → Reads (own_read before (block_at x y log2)) (cond (log2 == 3) (context_bin true 8 ∷ []) [] ++ content_items source (leaves before) (leaf_with (block_at x y log2) k) k)
    (content_as (content_of source (leaf_with (block_at x y log2) k) k))
reads_own source before x y log2 k side is modes mode plain =
    reads_new content_as (part_mode_read log2 (content_read (leaves before) (block_at x y log2))) (own_read before (block_at x y log2)) _ _ (own_refines before x y log2)
    (reads_part_mode log2 (content_read (leaves before) (block_at x y log2)) _ _ (reads_content source (leaves before) x y log2 k side is modes mode plain))

-- after cu_skip_flag 0, with what is read
reads_still : (kind : SliceKind) (size : Size) (source : Source) (before : List Moving) (x y log2 : ℕ) (k : Kind) (c : Content) → IsSide log2 → IsSource source → AreModes (leaves before) → IsMode k
    → is_skipped k ≡ false → content_as (content_of source (leaf_with (block_at x y log2) k) k) ≡ c → is_in_picture size (block_at x y log2) (vector_of c) ≡ true
    → Reads (coding_unit_read kind size before (block_at x y log2)) (coding_unit_items kind source (leaves before) (leaf_with (block_at x y log2) k)) (made x y log2 c)
unfolding coding_unit_read coding_unit_items
reads_still kind size source before x y log2 k c side is modes mode plain same inside = reads_expect (Context 0) true _ _ _ (go kind (is_skipped k) plain)
  where
    own_items : List Item
    own_items = cond (log2 == 3) (context_bin true 8 ∷ []) [] ++ content_items source (leaves before) (leaf_with (block_at x y log2) k) k

    own : Reads (own_read before (block_at x y log2)) own_items c
    own = reads_as (own_read before (block_at x y log2)) own_items own_items _ c refl same (reads_own source before x y log2 k side is modes mode plain)

    coded : (s : SliceKind) → Reads (coded_read s before (block_at x y log2)) (in_P s (context_bin true 7 ∷ []) ++ own_items) c
    coded I = own
    coded P = reads_bin (Context 7) true (λ intra. cond intra (own_read before (block_at x y log2)) (move_read before (block_at x y log2))) own_items c own

    ends : (s : SliceKind) → Reads (coded_read s before (block_at x y log2) >>= λ d. unit_with size (block_at x y log2) d) (in_P s (context_bin true 7 ∷ []) ++ own_items) (made x y log2 c)
    ends s = reads_into (coded_read s before (block_at x y log2)) (λ d. unit_with size (block_at x y log2) d) _ c (made x y log2 c) (coded s)
        (cond-true (is_in_picture size (block_at x y log2) (vector_of c)) (give (made x y log2 c)) refuse inside)

    go : (s : SliceKind) (b : Bool) → b ≡ false
        → Reads (skip_read s (leaves before) x y >>= λ skipped. (cond skipped (give (Copied (merge before (block_at x y log2)))) (coded_read s before (block_at x y log2)) >>= λ d. unit_with size (block_at x y log2) d))
        (in_P s (context_bin b (skip_context (leaves before) x y) ∷ []) ++ cond b [] (in_P s (context_bin true 7 ∷ []) ++ own_items)) (made x y log2 c)
    go s true q = absurd (cc)
    go I false q = let r : Reads (coded_read I before (block_at x y log2) >>= λ d. unit_with size (block_at x y log2) d) own_items (made x y log2 c) = ends I in record { from = r.from }
    go P false q = reads_bin (Context (skip_context (leaves before) x y)) false _ _ _ (ends P)

-- a skip
reads_skip : (size : Size) (source : Source) (before : List Moving) (x y log2 : ℕ) → has_source size (block_at x y log2) (merge before (block_at x y log2)) ≡ true
    → Reads (coding_unit_read P size before (block_at x y log2)) (coding_unit_items P source (leaves before) (leaf_with (block_at x y log2) kinds.Skip)) (made x y log2 (Copied (merge before (block_at x y log2))))
unfolding coding_unit_read coding_unit_items
reads_skip size source before x y log2 inside =
    let c : Content = Copied (merge before (block_at x y log2)) in
    let r : Reads (give c >>= λ d. unit_with size (block_at x y log2) d) [] (made x y log2 c) =
    reads_into (give c) (λ d. unit_with size (block_at x y log2) d) [] c (made x y log2 c) (reads_give c) (cond-true (has_source size (block_at x y log2) (merge before (block_at x y log2))) (give (made x y log2 c)) refuse inside) in
    reads_expect (Context 0) true _ _ _
    (reads_bin (Context (skip_context (leaves before) x y)) true
    (λ skipped. (cond skipped (give c) (coded_read P before (block_at x y log2)) >>= λ d. unit_with size (block_at x y log2) d)) [] _ (record { from = r.from }))

-- a moved unit
reads_moved : (size : Size) (before : List Moving) (x y log2 : ℕ) (v : Vector) → AreShort before → IsShort v → has_source size (block_at x y log2) v ≡ true
    → Reads (coding_unit_read P size before (block_at x y log2)) (moved_unit before (unit_at (block_at x y log2) (moves.Move v)) v) (made x y log2 (Moved v))
unfolding coding_unit_read moved_unit
reads_moved size before x y log2 v short hv inside =
    let ps = predictors_short before x y log2 short in
    let list : List Item = move_items v (predictors before (block_at x y log2)) in
    let move : Reads (move_read before (block_at x y log2)) (context_bin true 8 ∷ list) (Moved v) =
    reads_expect (Context 8) true _ list (Moved v) (reads_move_as Moved v (predictors before (block_at x y log2)) hv ps.0 ps.1) in
    let coded : Reads (coded_read P before (block_at x y log2)) (context_bin false 7 ∷ context_bin true 8 ∷ list) (Moved v) =
    reads_bin (Context 7) false (λ intra. cond intra (own_read before (block_at x y log2)) (move_read before (block_at x y log2))) (context_bin true 8 ∷ list) (Moved v) move in
    let ends : Reads (coded_read P before (block_at x y log2) >>= λ d. unit_with size (block_at x y log2) d) (context_bin false 7 ∷ context_bin true 8 ∷ list) (made x y log2 (Moved v)) =
    reads_into (coded_read P before (block_at x y log2)) (λ d. unit_with size (block_at x y log2) d) _ (Moved v) (made x y log2 (Moved v)) coded (cond-true (has_source size (block_at x y log2) v) (give (made x y log2 (Moved v))) refuse inside) in
    reads_expect (Context 0) true _ _ _
    (reads_bin (Context (skip_context (leaves before) x y)) false
    (λ skipped. (cond skipped (give (Copied (merge before (block_at x y log2)))) (coded_read P before (block_at x y log2)) >>= λ d. unit_with size (block_at x y log2) d)) (context_bin false 7 ∷ context_bin true 8 ∷ list) _ ends)

pub units_are_read : EachUnitIsRead
unfolding move_unit
units_are_read I size source before x y log2 moves.Skip side is modes short stand = elim stand [ ]
units_are_read P size source before x y log2 moves.Skip side is modes short stand = reads_skip size source before x y log2 stand
units_are_read I size source before x y log2 (moves.Move v) side is modes short stand = elim stand [ ]
units_are_read P size source before x y log2 (moves.Move v) side is modes short stand = reads_moved size before x y log2 v short stand.0 stand.1
units_are_read I size source before x y log2 moves.Pcm side is modes short stand = reads_still I size source before x y log2 kinds.Pcm _ side is modes tt refl refl refl
units_are_read P size source before x y log2 moves.Pcm side is modes short stand = reads_still P size source before x y log2 kinds.Pcm _ side is modes tt refl refl refl
units_are_read I size source before x y log2 (moves.Intra mode) side is modes short stand = reads_still I size source before x y log2 (kinds.Intra mode) _ side is modes stand refl refl refl
units_are_read P size source before x y log2 (moves.Intra mode) side is modes short stand = reads_still P size source before x y log2 (kinds.Intra mode) _ side is modes stand refl refl refl
