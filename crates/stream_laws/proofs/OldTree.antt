-- What the reading of trees without moves reads is read in the same way where blocks may move.
use Rattle.std.proofs.Common.{◌≡◌, refl, sym, ◌∙◌, ap, subst, ℕ, zero, suc, ◌+◌, ◌*◌, ◌/◌, ◌^◌, ◌<◌, ◌≤◌, List, [], ◌∷◌, ◌++◌, ◌%◌, pow-add, Bool, true, false, cond, not, arith}
use Rattle.std.specs.Prelude.{Option, Some, None, map, ◌==◌, pos}
use Rattle.std.specs.List.{find}
use Rattle.std.specs.Bool.{beq}
use Rattle.std.proofs.lemmas.Bool.{le-leb, ltb-true, leb-true, and_parts, and_from}
use Rattle.h265_model.specs.declared.Place.{Place}
use Rattle.h265_model.specs.declared.Place.TheVariants.{Context, Terminate}
use Rattle.h265_model.specs.declared.leaf.SliceKind.{SliceKind}
use Rattle.h265_model.specs.declared.leaf.SliceKind.TheVariants.{I, P}
use Rattle.h265_model.specs.declared.leaf.Leaf.{Leaf}
use Rattle.h265_model.specs.declared.moves.Vector.{Vector}
use Rattle.h265_model.specs.Plain.{block_at, Size, coded, ctus, ctu_x, ctu_y}
use Rattle.h265_model.specs.Bits.{◌>>=◌ as and_then}
use Rattle.h265_model.specs.Engine.{Engine, Reader, ◌>>=◌, give, refuse, bin, samples}
use Rattle.h265_model.specs.Predict.{is_inside}
use Rattle.h265_model.specs.Modes.{mode_read}
use Rattle.h265_laws.proofs.LeafReading as Tree
use Rattle.h265_model.specs.Tree.{split_context, candidates_at, is_whole, expect, thirds, component_read, skip_read}
use Rattle.h265_model.specs.Plain.{covers}
use Rattle.h265_laws.proofs.LeafReading.{part_mode_read}
use Rattle.h265_model.specs.Motion.{Moving, leaves, no_motion, vector_in, vector_before, first_vector, or_none, merge, has_source, reaches, a0, a1, b0, b1, b2}
use Rattle.h265_model.specs.Tree.{Content, Copied, Samples, Levels, ReadUnit, kind_of, vector_of, moving_of, units_after, intra_read, pcm_read, content_read, own_read, move_read, coded_read, is_in_picture, unit_with, coding_unit_read, quarters_read, tree_read, ctu_read}
use Rattle.h265_model.specs.declared.block.CodingBlock.{CodingBlock}

-- ---- readers of which one reads all that the other does

pub record Refines {A B : Type 0} (c : A → B) (old : Reader A) (new : Reader B) : Type 0 where
  pub from : (e left : Engine) (a : A) → old e ≡ Some (a, left) → new e ≡ Some (c a, left)

pub refines_same : {A : Type 0} (read : Reader A) → Refines (λ a. a) read read
refines_same read = record { from = λ e left a h. h }

pub refines_refuse : {A B : Type 0} (c : A → B) (new : Reader B) → Refines c refuse new
refines_refuse c new = record { from = λ e left a h. absurd (cc) }

abbrev pub turned : {A B : Type 0} → (A → B) → Option (A × Engine) → Option (B × Engine)
turned c None = None
turned c (Some p) = Some (c p.0, p.1)

pub refines_give : {A B : Type 0} (c : A → B) (a : A) (b : B) → c a ≡ b → Refines c (give a) (give b)
refines_give c a b q = record { from = λ e left v h. ap (λ x. Some (x, e)) (sym q) ∙ ap (turned c) h }

pub refines_bind : {A B C D : Type 0} (c : A → B) (d : C → D) (read : Reader A) (read' : Reader B) (f : A → Reader C) (f' : B → Reader D)
    → Refines c read read' → ((a : A) → Refines d (f a) (f' (c a))) → Refines d (read >>= f) (read' >>= f')
refines_bind {A = A} {C = C} c d read read' f f' r rs = record { from = λ e left v h. go e left v (read e) refl h }
  where
    go : (e left : Engine) (v : C) (o : Option (A × Engine)) → read e ≡ o → and_then o (λ found. f found.0 found.1) ≡ Some (v, left)
        → and_then (read' e) (λ found. f' found.0 found.1) ≡ Some (d v, left)
    go e left v None q h = absurd (cc)
    go e left v (Some found) q h = ap (λ o. and_then o (λ x. f' x.0 x.1)) (r.from e found.1 found.0 q) ∙ (rs found.0).from found.1 left v h

pub refines_cond : {A B : Type 0} (c : A → B) (b : Bool) (x y : Reader A) (x' y' : Reader B) → Refines c x x' → Refines c y y' → Refines c (cond b x y) (cond b x' y')
refines_cond c true x y x' y' r s = r
refines_cond c false x y x' y' r s = s

pub refines_expect : {A B : Type 0} (c : A → B) (place : Place) (value : Bool) (x : Reader A) (x' : Reader B) → Refines c x x' → Refines c (expect place value x) (expect place value x')
refines_expect c place value x x' r =
    refines_bind (λ b. b) c (bin place) (bin place) (λ b. cond (beq b value) x refuse) (λ b. cond (beq b value) x' refuse) (refines_same (bin place))
    (λ b. refines_cond c (beq b value) x refuse x' refuse r (refines_refuse c refuse))

-- ---- what was read

abbrev pub content_as : Tree.Content → Content
content_as Tree.Copied = Copied no_motion
content_as (Tree.Samples planes) = Samples planes
content_as (Tree.Levels mode planes) = Levels mode planes

abbrev pub unit_as : Tree.ReadLeaf → ReadUnit
unit_as read = record { block = read.block; content = content_as read.content }

abbrev pub units_as : List Tree.ReadLeaf → List ReadUnit
units_as reads = map unit_as reads

-- units that don't move
abbrev pub IsStill : Option Vector → Type 0
IsStill None = Unit {0}
IsStill (Some v) = v ≡ no_motion

abbrev pub AreStill : List Moving → Type 0
AreStill [] = Unit {0}
AreStill (u ∷ units) = IsStill u.vector × AreStill units

pub still-append : (a b : List Moving) → AreStill a → AreStill b → AreStill (a ++ b)
still-append [] b h k = k
still-append (u ∷ a) b h k = (h.0, still-append a b h.1 k)

kind_as : (c : Tree.Content) → kind_of (content_as c) ≡ Tree.kind_of c
kind_as Tree.Copied = refl
kind_as (Tree.Samples planes) = refl
kind_as (Tree.Levels mode planes) = refl

content_still : (c : Tree.Content) → IsStill (vector_of (content_as c))
content_still Tree.Copied = refl
content_still (Tree.Samples planes) = tt
content_still (Tree.Levels mode planes) = tt

pub units_still : (reads : List Tree.ReadLeaf) → AreStill (map moving_of (units_as reads))
units_still [] = tt
units_still (r ∷ reads) = (content_still r.content, units_still reads)

pub leaves-append : (a b : List Moving) → leaves (a ++ b) ≡ leaves a ++ leaves b
leaves-append [] b = refl
leaves-append (u ∷ a) b = ap (λ (l : List Leaf). u.leaf ∷ l) (leaves-append a b)

leaves_as : (reads : List Tree.ReadLeaf) → leaves (map moving_of (units_as reads)) ≡ map Tree.leaf_of reads
leaves_as [] = refl
leaves_as (r ∷ reads) =
    ap (λ k. record { block = r.block; kind = k } ∷ leaves (map moving_of (units_as reads))) (kind_as r.content)
    ∙ ap (λ (l : List Leaf). Tree.leaf_of r ∷ l) (leaves_as reads)

pub after_as : (before : List Moving) (reads : List Tree.ReadLeaf) → leaves (units_after before (units_as reads)) ≡ Tree.leaves_after (leaves before) reads
after_as before reads = leaves-append before (map moving_of (units_as reads)) ∙ ap (λ (l : List Leaf). leaves before ++ l) (leaves_as reads)

pub after_still : (before : List Moving) (reads : List Tree.ReadLeaf) → AreStill before → AreStill (units_after before (units_as reads))
after_still before reads h = still-append before (map moving_of (units_as reads)) h (units_still reads)

pub as-append : (a b : List Tree.ReadLeaf) → units_as (a ++ b) ≡ units_as a ++ units_as b
as-append [] b = refl
as-append (r ∷ a) b = ap (λ (l : List ReadUnit). unit_as r ∷ l) (as-append a b)

-- ---- the merge vector is no motion

find_still : (test : Moving → Bool) (units : List Moving) → AreStill units → IsStill (vector_in (find test units))
find_still test [] h = tt
find_still test (u ∷ units) h = go (find_still test units h.1) (test u)
  where
    go : IsStill (vector_in (find test units)) → (b : Bool) → IsStill (vector_in (cond b (Some u) (find test units)))
    go later true = h.0
    go later false = later

before_still : (units : List Moving) (x y : ℕ) → AreStill units → IsStill (vector_before units x y)
unfolding vector_before
before_still units zero y h = tt
before_still units (suc x) zero h = tt
before_still units (suc x) (suc y) h = find_still (λ (u : Moving). covers x y u.leaf) units h

abbrev AllStill : List (Option Vector) → Type 0
AllStill [] = Unit {0}
AllStill (o ∷ os) = IsStill o × AllStill os

first_still : (os : List (Option Vector)) → AllStill os → or_none (first_vector os) ≡ no_motion
first_still [] h = refl
first_still (None ∷ os) h = first_still os h.1
first_still (Some v ∷ os) h = h.0

pub merge_still : (units : List Moving) (x y log2 : ℕ) → AreStill units → merge units (block_at x y log2) ≡ no_motion
unfolding merge
merge_still units x y log2 h =
    let n : ℕ = 2 ^ log2 in
    let b : CodingBlock = block_at x y log2 in
    first_still (a1 units b ∷ b1 units b ∷ b0 units b ∷ a0 units b ∷ b2 units b ∷ [])
    (before_still units x (y + n) h, (before_still units (x + n) y h, (before_still units (x + n + 1) y h, (before_still units x (y + n + 1) h, (before_still units x y h, tt)))))

-- ---- units

-- a block within the picture is its own source
pub fits : (limit n x : ℕ) → x + n ≤ limit → reaches limit n x (pos 0) ≡ true
fits limit n x h = le-leb (x + 0 + n) limit (omega arith)

source_still : (size : Size) (x y log2 : ℕ) (c : Tree.Content) → x + 2 ^ log2 ≤ coded size.w → y + 2 ^ log2 ≤ coded size.h
    → is_in_picture size (block_at x y log2) (vector_of (content_as c)) ≡ true
unfolding has_source
source_still size x y log2 Tree.Copied hx hy = and_from _ _ (fits (coded size.w) (2 ^ log2) x hx) (fits (coded size.h) (2 ^ log2) y hy)
source_still size x y log2 (Tree.Samples planes) hx hy = refl
source_still size x y log2 (Tree.Levels mode planes) hx hy = refl

intra_refines : (before : List Moving) (x y log2 : ℕ) → Refines content_as (Tree.intra_read (leaves before) (block_at x y log2)) (intra_read before (block_at x y log2))
intra_refines before x y log2 =
    refines_bind (λ a. a) content_as (mode_read (candidates_at (leaves before) x y)) _ _ _ (refines_same _) (λ mode.
    refines_expect content_as (Context 10) false _ _
    (refines_bind (λ a. a) content_as (bin (Context 12)) _ _ _ (refines_same _) (λ cb.
    refines_bind (λ a. a) content_as (bin (Context 12)) _ _ _ (refines_same _) (λ cr.
    refines_bind (λ a. a) content_as (bin (Context 11)) _ _ _ (refines_same _) (λ luma.
    refines_bind (λ a. a) content_as (component_read log2 mode 0 luma) _ _ _ (refines_same _) (λ first.
    refines_bind (λ a. a) content_as (component_read log2 mode 1 cb) _ _ _ (refines_same _) (λ second.
    refines_bind (λ a. a) content_as (component_read log2 mode 2 cr) _ _ _ (refines_same _) (λ third.
    refines_give content_as (Tree.Levels mode (first ∷ second ∷ third ∷ [])) (Levels mode (first ∷ second ∷ third ∷ [])) refl))))))))

content_refines : (before : List Moving) (x y log2 : ℕ) → Refines content_as (Tree.content_read (leaves before) (block_at x y log2)) (content_read before (block_at x y log2))
content_refines before x y log2 =
    refines_bind (λ a. a) content_as (bin Terminate) _ _ _ (refines_same _) (λ pcm.
    refines_cond content_as pcm (Tree.pcm_read (2 ^ log2 * 2 ^ log2)) (Tree.intra_read (leaves before) (block_at x y log2)) (pcm_read (2 ^ log2 * 2 ^ log2)) (intra_read before (block_at x y log2))
    (let n : ℕ = 2 ^ log2 * 2 ^ log2 in
    refines_bind (λ a. a) content_as (samples (n + n + n)) _ _ _ (refines_same _) (λ list. refines_give content_as (Tree.Samples (thirds n list)) (Samples (thirds n list)) refl))
    (intra_refines before x y log2))

pub own_refines : (before : List Moving) (x y log2 : ℕ) → Refines content_as (part_mode_read log2 (Tree.content_read (leaves before) (block_at x y log2))) (own_read before (block_at x y log2))
own_refines before x y log2 =
    refines_cond content_as (log2 == 3) (expect (Context 8) true (Tree.content_read (leaves before) (block_at x y log2))) (Tree.content_read (leaves before) (block_at x y log2))
    (expect (Context 8) true (content_read before (block_at x y log2))) (content_read before (block_at x y log2))
    (refines_expect content_as (Context 8) true _ _ (content_refines before x y log2)) (content_refines before x y log2)

coded_refines : (kind : SliceKind) (before : List Moving) (x y log2 : ℕ) → Refines content_as (Tree.coded_read kind (leaves before) (block_at x y log2)) (coded_read kind before (block_at x y log2))
coded_refines I before x y log2 = own_refines before x y log2
coded_refines P before x y log2 =
    refines_bind (λ a. a) content_as (bin (Context 7)) _ _ (λ intra. cond intra (own_read before (block_at x y log2)) (move_read before (block_at x y log2))) (refines_same _) go
  where
    old : Reader Tree.Content
    old = part_mode_read log2 (Tree.content_read (leaves before) (block_at x y log2))

    go : (b : Bool) → Refines content_as (cond (beq b true) old refuse) (cond b (own_read before (block_at x y log2)) (move_read before (block_at x y log2)))
    go true = own_refines before x y log2
    go false = refines_refuse content_as (move_read before (block_at x y log2))

unit_refines : (kind : SliceKind) (size : Size) (before : List Moving) (x y log2 : ℕ) → AreStill before → x + 2 ^ log2 ≤ coded size.w → y + 2 ^ log2 ≤ coded size.h
    → Refines units_as (Tree.coding_unit_read kind (leaves before) (block_at x y log2)) (coding_unit_read kind size before (block_at x y log2))
unfolding Tree.coding_unit_read coding_unit_read
unit_refines kind size before x y log2 still hx hy =
    refines_expect units_as (Context 0) true _ _
    (refines_bind (λ a. a) units_as (skip_read kind (leaves before) x y) _ _ _ (refines_same _) (λ skipped.
    refines_bind content_as units_as _ _ _ (λ c. unit_with size (block_at x y log2) c)
    (refines_cond content_as skipped (give Tree.Copied) (Tree.coded_read kind (leaves before) (block_at x y log2)) (give (Copied (merge before (block_at x y log2)))) (coded_read kind before (block_at x y log2))
    (refines_give content_as Tree.Copied (Copied (merge before (block_at x y log2))) (ap Copied (sym (merge_still before x y log2 still))))
    (coded_refines kind before x y log2))
    made))
  where
    unit : Tree.Content → Tree.ReadLeaf
    unit c = record { block = block_at x y log2; content = c }

    made : (c : Tree.Content) → Refines units_as (give (unit c ∷ [])) (unit_with size (block_at x y log2) (content_as c))
    made c = go (is_in_picture size (block_at x y log2) (vector_of (content_as c))) (source_still size x y log2 c hx hy)
      where
        go : (b : Bool) → b ≡ true → Refines units_as (give (unit c ∷ [])) (cond b (give (unit_as (unit c) ∷ [])) refuse)
        go true q = refines_give units_as (unit c ∷ []) (unit_as (unit c) ∷ []) refl
        go false q = absurd (cc)

-- ---- trees

-- a multiple of 8
abbrev pub IsEven : ℕ → Type 0
IsEven x = (n : ℕ) × (x ≡ 8 * n)

quarters_refine : (go : ℕ → ℕ → List Leaf → Reader (List Tree.ReadLeaf)) (go' : ℕ → ℕ → List Moving → Reader (List ReadUnit)) (half : ℕ) → IsEven half
    → ((x y : ℕ) (before : List Moving) → IsEven x → IsEven y → AreStill before → Refines units_as (go x y (leaves before)) (go' x y before))
    → (x y : ℕ) (before : List Moving) → IsEven x → IsEven y → AreStill before
    → Refines units_as (Tree.quarters_read go half x y (leaves before)) (quarters_read go' half x y before)
quarters_refine go go' half h f x y before ex ey still =
    refines_bind units_as units_as _ _ _ _ (f x y before ex ey still) (λ a.
    refines_bind units_as units_as _ _ _ _ (at (x + half) y a ex' ey) (λ b.
    refines_bind units_as units_as _ _ _ (λ c'. go' (x + half) (y + half) (units_after before (units_as a ++ units_as b ++ c')) >>= λ d'. give (units_as a ++ units_as b ++ c' ++ d'))
    (subst (λ (l : List ReadUnit). Refines units_as (go x (y + half) (Tree.leaves_after (leaves before) (a ++ b))) (go' x (y + half) (units_after before l))) (as-append a b) (at x (y + half) (a ++ b) ex ey'))
    (λ c.
    refines_bind units_as units_as _ _ _ _
    (subst (λ (l : List ReadUnit). Refines units_as (go (x + half) (y + half) (Tree.leaves_after (leaves before) (a ++ b ++ c))) (go' (x + half) (y + half) (units_after before l)))
    (three a b c) (at (x + half) (y + half) (a ++ b ++ c) ex' ey'))
    (λ d. refines_give units_as (a ++ b ++ c ++ d) (units_as a ++ units_as b ++ units_as c ++ units_as d) (as-append (a ++ b ++ c) d ∙ ap (λ (l : List ReadUnit). l ++ units_as d) (three a b c))))))
  where
    ex' : IsEven (x + half)
    ex' = (ex.0 + h.0, omega (arith, ex.1, h.1))

    ey' : IsEven (y + half)
    ey' = (ey.0 + h.0, omega (arith, ey.1, h.1))

    at : (x1 y1 : ℕ) (reads : List Tree.ReadLeaf) → IsEven x1 → IsEven y1 → Refines units_as (go x1 y1 (Tree.leaves_after (leaves before) reads)) (go' x1 y1 (units_after before (units_as reads)))
    at x1 y1 reads e1 e2 =
        subst (λ (l : List Leaf). Refines units_as (go x1 y1 l) (go' x1 y1 (units_after before (units_as reads)))) (after_as before reads)
        (f x1 y1 (units_after before (units_as reads)) e1 e2 (after_still before reads still))

    three : (a b c : List Tree.ReadLeaf) → units_as (a ++ b ++ c) ≡ units_as a ++ units_as b ++ units_as c
    three a b c = as-append (a ++ b) c ∙ ap (λ (l : List ReadUnit). l ++ units_as c) (as-append a b)

even_half : (depth : ℕ) → IsEven (2 ^ (3 + depth))
even_half depth = (2 ^ depth, pow-add 2 3 depth)

-- where a block of 8 begins inside the picture, it ends there
whole_8 : (x n : ℕ) → IsEven x → x < coded n → x + 8 ≤ coded n
whole_8 x n e h = let c : coded n ≡ 8 * ((n + 7) / 8) = omega arith in let q : x ≡ 8 * e.0 = e.1 in omega arith

doubled : (depth : ℕ) → 2 ^ (4 + depth) ≡ 2 * 2 ^ (3 + depth)
doubled depth = let e : 4 + depth ≡ 1 + (3 + depth) = omega arith in ap (λ (m : ℕ). 2 ^ m) e ∙ pow-add 2 1 (3 + depth)

pub tree_refines : (kind : SliceKind) (size : Size) (depth x y : ℕ) (before : List Moving) → IsEven x → IsEven y → AreStill before
    → Refines units_as (Tree.tree_read kind size depth x y (leaves before)) (tree_read kind size depth x y before)
tree_refines kind size zero x y before ex ey still = go (is_inside size x y) refl
  where
    go : (b : Bool) → is_inside size x y ≡ b
        → Refines units_as (cond b (Tree.coding_unit_read kind (leaves before) (block_at x y 3)) (give [])) (cond b (coding_unit_read kind size before (block_at x y 3)) (give []))
    go true q =
        let p = and_parts _ _ q in
        let hx : x < coded size.w = ltb-true x (coded size.w) p.0 in
        let hy : y < coded size.h = ltb-true y (coded size.h) p.1 in
        unit_refines kind size before x y 3 still (whole_8 x size.w ex hx) (whole_8 y size.h ey hy)
    go false q = refines_give units_as [] [] refl
tree_refines kind size (suc depth) x y before ex ey still =
    go (quarters_refine (Tree.tree_read kind size depth) (tree_read kind size depth) (2 ^ (3 + depth)) (even_half depth)
    (λ x1 y1 before1 e1 e2 still1. tree_refines kind size depth x1 y1 before1 e1 e2 still1) x y before ex ey still)
    (not (is_inside size x y)) (is_whole size (2 * 2 ^ (3 + depth)) x y) refl
  where
    split : Reader (List Tree.ReadLeaf)
    split = Tree.quarters_read (Tree.tree_read kind size depth) (2 ^ (3 + depth)) x y (leaves before)

    split' : Reader (List ReadUnit)
    split' = quarters_read (tree_read kind size depth) (2 ^ (3 + depth)) x y before

    flagged : Reader (List Tree.ReadLeaf)
    flagged = bin (Context (split_context (leaves before) (block_at x y (4 + depth)))) >>= λ flag. cond flag split (Tree.coding_unit_read kind (leaves before) (block_at x y (4 + depth)))

    flagged' : Reader (List ReadUnit)
    flagged' = bin (Context (split_context (leaves before) (block_at x y (4 + depth)))) >>= λ flag. cond flag split' (coding_unit_read kind size before (block_at x y (4 + depth)))

    go : Refines units_as split split' → (a b : Bool) → is_whole size (2 * 2 ^ (3 + depth)) x y ≡ b
        → Refines units_as (cond a (give []) (cond (not b) split flagged)) (cond a (give []) (cond (not b) split' flagged'))
    go r true b q = refines_give units_as [] [] refl
    go r false false q = r
    go r false true q =
        let p = and_parts _ _ q in
        let hx : x + 2 * 2 ^ (3 + depth) ≤ coded size.w = leb-true _ _ p.0 in
        let hy : y + 2 * 2 ^ (3 + depth) ≤ coded size.h = leb-true _ _ p.1 in
        let d : 2 ^ (4 + depth) ≡ 2 * 2 ^ (3 + depth) = doubled depth in
        refines_bind (λ a. a) units_as (bin (Context (split_context (leaves before) (block_at x y (4 + depth))))) _ _ _ (refines_same _) (λ flag.
        refines_cond units_as flag split _ split' _ r
        (unit_refines kind size before x y (4 + depth) still
        (subst (λ (n : ℕ). x + n ≤ coded size.w) (sym d) hx) (subst (λ (n : ℕ). y + n ≤ coded size.h) (sym d) hy)))

even_ctu : (n : ℕ) → IsEven (n * 32)
even_ctu n = (n * 4, omega arith)

pub ctu_refines : (kind : SliceKind) (size : Size) (before : List Moving) (ctu : ℕ) → AreStill before → Refines units_as (Tree.ctu_read kind size (leaves before) ctu) (ctu_read kind size before ctu)
unfolding Tree.ctu_read ctu_read
ctu_refines kind size before ctu still =
    tree_refines kind size 2 (ctu_x size ctu) (ctu_y size ctu) before (even_ctu (ctu % ctus size.w)) (even_ctu (ctu / ctus size.w)) still
