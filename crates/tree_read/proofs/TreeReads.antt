-- Blocks of a coding tree, read part by part.
use Rattle.std.proofs.Common.{◌≡◌, refl, sym, ◌∙◌, ap, subst, ℕ, zero, suc, ◌+◌, ◌*◌, ◌/◌, ◌%◌, ◌^◌, ◌<◌, Bool, true, false, not, Some, None, Option, List, [], ◌++◌, map, append_assoc, append-nil, arith}
use Rattle.std.specs.Prelude.{if◌then◌else◌}
use Rattle.std.proofs.lemmas.Bool.{and_parts, and_from, lt-ltb, ltb-true}
use Rattle.h265_model.specs.declared.Place.TheVariants.{Context}
use Rattle.h265_model.specs.declared.leaf.SliceKind.{SliceKind}
use Rattle.h265_model.specs.declared.leaf.Leaf.{Leaf}
use Rattle.h265_model.specs.Bits.{◌>>=◌ as and_then}
use Rattle.h265_model.specs.Engine.{Engine, Reader, bin, give, refuse}
use Rattle.h265_model.specs.Plain.{block_at, Size, ctus, ctu_x, ctu_y}
use Rattle.h265_model.specs.Predict.{is_inside, coding_order}
use Rattle.h265_model.specs.Motion.{Moving, leaves}
use Rattle.h265_model.specs.Tree.{ReadUnit, AreModes, tree_read, ctu_read, quarters_read, coding_unit_read, units_after, is_whole, split_context, leaf_of, moving_of}
use Rattle.leaf_sink.specs.Units.{HasAvailable}
use Rattle.pu_code.specs.Cells as modes
use Rattle.motion_grid.specs.Cells as motions
use Rattle.h265_laws.proofs.Coverage.{Covers, IsAligned, tree_covers}
use Rattle.h265_laws.proofs.ZOrder.{quarters_follow}
use Rattle.read_laws.proofs.ReadTrees.{yields_tree, map-append}
use Rattle.std.proofs.lemmas.List.{map-append as maps_append}
use Rattle.residual_read.proofs.Steps.{then_some, then_none}
use Rattle.unit_read.specs.Units.{AreKept, AreTaken, Reads}
use Rattle.tree_read.specs.Blocks.{split_read}

-- ---- a block that is split, or not

abbrev pub parts_read : SliceKind → Size → ℕ → ℕ → ℕ → List Moving → Reader (List ReadUnit)
parts_read kind size zero x y before = refuse
parts_read kind size (suc depth) x y before = quarters_read (tree_read kind size depth) (2 ^ (3 + depth)) x y before

abbrev split_then : SliceKind → Size → ℕ → ℕ → ℕ → List Moving → Bool × Engine → Option (List ReadUnit × Engine)
split_then kind size depth x y before found = (if found.0 then parts_read kind size depth x y before else coding_unit_read kind size before (block_at x y (3 + depth))) found.1

pub outside : (kind : SliceKind) (size : Size) (depth x y : ℕ) (before : List Moving) (e : Engine) → is_inside size x y ≡ false → tree_read kind size depth x y before e ≡ Some ([], e)
outside kind size zero x y before e h = ap (λ (b : Bool). (if b then coding_unit_read kind size before (block_at x y 3) else give []) e) h
outside kind size (suc depth) x y before e h =
    ap (λ (b : Bool). (if not b then give [] else if not (is_whole size (2 * 2 ^ (3 + depth)) x y) then quarters_read (tree_read kind size depth) (2 ^ (3 + depth)) x y before
    else (λ e. and_then (bin (Context (split_context (leaves before) (block_at x y (4 + depth)))) e) (λ found. (if found.0 then quarters_read (tree_read kind size depth) (2 ^ (3 + depth)) x y before else coding_unit_read kind size before (block_at x y (4 + depth))) found.1))) e) h

inside : (kind : SliceKind) (size : Size) (depth x y : ℕ) (before : List Moving) (e : Engine) → is_inside size x y ≡ true
    → tree_read kind size depth x y before e ≡ and_then (split_read size (leaves before) depth x y e) (split_then kind size depth x y before)
unfolding split_read
inside kind size zero x y before e h = ap (λ (b : Bool). (if b then coding_unit_read kind size before (block_at x y 3) else give []) e) h
inside kind size (suc depth) x y before e h =
    ap (λ (b : Bool). (if not b then give [] else if not (is_whole size (2 * 2 ^ (3 + depth)) x y) then quarters_read (tree_read kind size depth) (2 ^ (3 + depth)) x y before
    else (λ e. and_then (bin (Context (split_context (leaves before) (block_at x y (4 + depth)))) e) (λ found. (if found.0 then quarters_read (tree_read kind size depth) (2 ^ (3 + depth)) x y before else coding_unit_read kind size before (block_at x y (4 + depth))) found.1))) e) h
    ∙ go (is_whole size (2 * 2 ^ (3 + depth)) x y)
  where
    deep : 4 + depth ≡ 3 + suc depth
    deep = omega arith

    flag : Reader Bool
    flag = bin (Context (split_context (leaves before) (block_at x y (4 + depth))))

    split : Reader (List ReadUnit)
    split = quarters_read (tree_read kind size depth) (2 ^ (3 + depth)) x y before

    go : (w : Bool) → (if not w then split else (λ e. and_then (flag e) (λ found. (if found.0 then split else coding_unit_read kind size before (block_at x y (4 + depth))) found.1))) e
        ≡ and_then ((if not w then give true else flag) e) (split_then kind size (suc depth) x y before)
    go false = refl
    go true = ap (λ (n : ℕ). and_then (flag e) (λ found. (if found.0 then split else coding_unit_read kind size before (block_at x y n)) found.1)) deep

pub split_none : (kind : SliceKind) (size : Size) (depth x y : ℕ) (before : List Moving) (e : Engine) → is_inside size x y ≡ true → split_read size (leaves before) depth x y e ≡ None
    → tree_read kind size depth x y before e ≡ None
split_none kind size depth x y before e h i = inside kind size depth x y before e h ∙ then_none (split_read size (leaves before) depth x y e) (split_then kind size depth x y before) i

pub split_no : (kind : SliceKind) (size : Size) (depth x y : ℕ) (before : List Moving) (e d : Engine) → is_inside size x y ≡ true → split_read size (leaves before) depth x y e ≡ Some (false, d)
    → tree_read kind size depth x y before e ≡ coding_unit_read kind size before (block_at x y (3 + depth)) d
split_no kind size depth x y before e d h i = inside kind size depth x y before e h ∙ then_some (split_read size (leaves before) depth x y e) (false, d) (split_then kind size depth x y before) i

split_yes : (kind : SliceKind) (size : Size) (depth k x y : ℕ) (before : List Moving) (e d : Engine) → depth ≡ suc k → is_inside size x y ≡ true → split_read size (leaves before) depth x y e ≡ Some (true, d)
    → tree_read kind size depth x y before e ≡ parts_read kind size (suc k) x y before d
split_yes kind size depth k x y before e d q h i =
    inside kind size depth x y before e h ∙ then_some (split_read size (leaves before) depth x y e) (true, d) (split_then kind size depth x y before) i ∙ ap (λ (n : ℕ). parts_read kind size n x y before d) q

-- ---- what is available to the next block

pub covers_from : (size : Size) (units : List ReadUnit) (x y : ℕ) → HasAvailable size units x y → Covers size (map leaf_of units) (coding_order size x y)
covers_from size units x y has = record { each = λ px py within less. has.each px py (and_from _ _ within (lt-ltb _ _ less)) }

pub available_from : (size : Size) (units : List ReadUnit) (x y n : ℕ) → n ≡ coding_order size x y → Covers size (map leaf_of units) n → HasAvailable size units x y
available_from size units x y n e covers = record { each = λ px py ok. covers.each px py (and_parts _ _ ok).0 (subst (λ (m : ℕ). coding_order size px py < m) (sym e) (ltb-true _ _ (and_parts _ _ ok).1)) }

passed : (kind : SliceKind) (size : Size) (k x y nx ny : ℕ) (before : List Moving) (e d : Engine) (units read : List ReadUnit) → k < 3 → IsAligned size (3 + k) x y → AreModes (leaves before)
    → tree_read kind size k x y before e ≡ Some (read, d) → coding_order size x y + 4 ^ (3 + k) ≡ coding_order size nx ny → HasAvailable size units x y → HasAvailable size (units ++ read) nx ny
passed kind size k x y nx ny before e d units read small at modes h next has =
    available_from size (units ++ read) nx ny (coding_order size x y + 4 ^ (3 + k)) next
    (subst (λ (l : List Leaf). Covers size l (coding_order size x y + 4 ^ (3 + k))) (sym (map-append units read))
    (tree_covers size k x y (map leaf_of units) (map leaf_of read) small at ((yields_tree kind size k x y before modes).from e d read h).0 (covers_from size units x y has)).covers)

-- ---- quarters

record IsHalved (k x : ℕ) : Type 0 where
  first : x % 2 ^ (3 + k) ≡ 0
  second : (x + 2 ^ (3 + k)) % 2 ^ (3 + k) ≡ 0
  same : (x + 2 ^ (3 + k)) / 32 ≡ x / 32

halved : (k x : ℕ) → k < 2 → x % 2 ^ (4 + k) ≡ 0 → IsHalved k x
halved zero x h e = let f : x % 16 ≡ 0 = e in record { first = omega arith; second = omega arith; same = omega arith }
halved (suc zero) x h e = let f : x % 32 ≡ 0 = e in record { first = omega arith; second = omega arith; same = omega arith }
halved (suc (suc k)) x h e = absurd (omega arith)

pub after_twice : (before : List Moving) (a b : List ReadUnit) → units_after (units_after before a) b ≡ units_after before (a ++ b)
after_twice before a b = append_assoc before (map moving_of a) (map moving_of b) ∙ ap (λ (l : List Moving). before ++ l) (sym (maps_append moving_of a b))

-- what a quarter does
abbrev pub Step : SliceKind → Size → ℕ → ℕ → ℕ → Engine → Engine → (List ReadUnit → Type 0) → (List ReadUnit → Type 0) → modes.Cells → motions.Cells → modes.Cells → motions.Cells → Type 0
Step kind size k x y e d stood stands cells vectors new_cells new_vectors =
    (before : List Moving) → AreKept cells vectors before → (units : List ReadUnit) × (tree_read kind size k x y before e ≡ Some (units, d)) × AreTaken stood stands size x y new_cells new_vectors before units

-- where it ends
abbrev pub Ends : SliceKind → Size → ℕ → ℕ → ℕ → Engine → modes.Cells → motions.Cells → Type 0
Ends kind size k x y e cells vectors = (before : List Moving) → AreKept cells vectors before → tree_read kind size k x y before e ≡ None

abbrev fourth_then : List ReadUnit → List ReadUnit → List ReadUnit → List ReadUnit × Engine → Option (List ReadUnit × Engine)
fourth_then a b c found = Some (((a ++ b) ++ c) ++ found.0, found.1)

abbrev third_then : SliceKind → Size → ℕ → ℕ → ℕ → List Moving → List ReadUnit → List ReadUnit → List ReadUnit × Engine → Option (List ReadUnit × Engine)
third_then kind size k x y before a b found = and_then (tree_read kind size k (x + 2 ^ (3 + k)) (y + 2 ^ (3 + k)) (units_after before ((a ++ b) ++ found.0)) found.1) (fourth_then a b found.0)

abbrev second_then : SliceKind → Size → ℕ → ℕ → ℕ → List Moving → List ReadUnit → List ReadUnit × Engine → Option (List ReadUnit × Engine)
second_then kind size k x y before a found = and_then (tree_read kind size k x (y + 2 ^ (3 + k)) (units_after before (a ++ found.0)) found.1) (third_then kind size k x y before a found.0)

abbrev first_then : SliceKind → Size → ℕ → ℕ → ℕ → List Moving → List ReadUnit × Engine → Option (List ReadUnit × Engine)
first_then kind size k x y before found = and_then (tree_read kind size k (x + 2 ^ (3 + k)) y (units_after before found.0) found.1) (second_then kind size k x y before found.0)

-- the first quarters, whose units are a, b and c
first_done : (kind : SliceKind) (size : Size) (k x y : ℕ) (before : List Moving) (e d : Engine) (a : List ReadUnit) → tree_read kind size k x y before e ≡ Some (a, d)
    → parts_read kind size (suc k) x y before e ≡ and_then (tree_read kind size k (x + 2 ^ (3 + k)) y (units_after before a) d) (second_then kind size k x y before a)
first_done kind size k x y before e d a h = then_some (tree_read kind size k x y before e) (a, d) (first_then kind size k x y before) h

pub ends_1 : (kind : SliceKind) (size : Size) (depth k x y : ℕ) (before : List Moving) (e0 e : Engine) (cells : modes.Cells) (vectors : motions.Cells) → depth ≡ suc k → is_inside size x y ≡ true
    → split_read size (leaves before) depth x y e0 ≡ Some (true, e) → AreKept cells vectors before → Ends kind size k x y e cells vectors → tree_read kind size depth x y before e0 ≡ None
ends_1 kind size depth k x y before e0 e cells vectors q within split are end =
    split_yes kind size depth k x y before e0 e q within split ∙ then_none (tree_read kind size k x y before e) (first_then kind size k x y before) (end before are)

pub ends_2 : (kind : SliceKind) (size : Size) (depth k x y : ℕ) (before : List Moving) (e0 e d : Engine) (s0 s1 : List ReadUnit → Type 0) (c0 c1 : modes.Cells) (v0 v1 : motions.Cells) → depth ≡ suc k → is_inside size x y ≡ true
    → split_read size (leaves before) depth x y e0 ≡ Some (true, e) → AreKept c0 v0 before → Step kind size k x y e d s0 s1 c0 v0 c1 v1 → Ends kind size k (x + 2 ^ (3 + k)) y d c1 v1 → tree_read kind size depth x y before e0 ≡ None
ends_2 kind size depth k x y before e0 e d s0 s1 c0 c1 v0 v1 q within split are step end = go (step before are)
  where
    go : (units : List ReadUnit) × (tree_read kind size k x y before e ≡ Some (units, d)) × AreTaken s0 s1 size x y c1 v1 before units → tree_read kind size depth x y before e0 ≡ None
    go (a, ra, ta) = split_yes kind size depth k x y before e0 e q within split ∙ first_done kind size k x y before e d a ra
        ∙ then_none (tree_read kind size k (x + 2 ^ (3 + k)) y (units_after before a) d) (second_then kind size k x y before a) (end (units_after before a) ta.kept)

-- two quarters
record Two (kind : SliceKind) (size : Size) (k x y : ℕ) (before : List Moving) (e d : Engine) (stood stands : List ReadUnit → Type 0) (cells : modes.Cells) (vectors : motions.Cells) : Type 0 where
  a : List ReadUnit
  b : List ReadUnit
  reads : parts_read kind size (suc k) x y before e ≡ and_then (tree_read kind size k x (y + 2 ^ (3 + k)) (units_after before (a ++ b)) d) (third_then kind size k x y before a b)
  kept : AreKept cells vectors (units_after before (a ++ b))
  taken : (units : List ReadUnit) → stood units → HasAvailable size units x y → stands ((units ++ a) ++ b) × HasAvailable size ((units ++ a) ++ b) x (y + 2 ^ (3 + k))

two_done : (kind : SliceKind) (size : Size) (k x y : ℕ) (before : List Moving) (e d f : Engine) (s0 s1 s2 : List ReadUnit → Type 0) (c0 c1 c2 : modes.Cells) (v0 v1 v2 : motions.Cells) → k < 2 → x % 2 ^ (4 + k) ≡ 0 → y % 2 ^ (4 + k) ≡ 0 → x / 32 < ctus size.w
    → AreKept c0 v0 before → Step kind size k x y e d s0 s1 c0 v0 c1 v1 → Step kind size k (x + 2 ^ (3 + k)) y d f s1 s2 c1 v1 c2 v2 → Two kind size k x y before e f s0 s2 c2 v2
two_done kind size k x y before e d f s0 s1 s2 c0 c1 c2 v0 v1 v2 small ex ey column are one two = go (one before are)
  where
    hx : IsHalved k x
    hx = halved k x small ex

    hy : IsHalved k y
    hy = halved k y small ey

    more : (a : List ReadUnit) → tree_read kind size k x y before e ≡ Some (a, d) → AreTaken s0 s1 size x y c1 v1 before a
        → (units : List ReadUnit) × (tree_read kind size k (x + 2 ^ (3 + k)) y (units_after before a) d ≡ Some (units, f)) × AreTaken s1 s2 size (x + 2 ^ (3 + k)) y c2 v2 (units_after before a) units
        → Two kind size k x y before e f s0 s2 c2 v2
    more a ra ta (b, rb, tb) = record {
      a = a;
      b = b;
      reads = first_done kind size k x y before e d a ra ∙ then_some (tree_read kind size k (x + 2 ^ (3 + k)) y (units_after before a) d) (b, f) (second_then kind size k x y before a) rb;
      kept = subst (λ (l : List Moving). AreKept c2 v2 l) (after_twice before a b) tb.kept;
      taken = λ units stood has.
          let follow = quarters_follow size k x y small ex ey in
          let second = passed kind size k x y (x + 2 ^ (3 + k)) y before e d units a (omega arith) (record { x_even = hx.first; y_even = hy.first; column = column }) are.lawful ra (sym follow.right) has in
          let third = passed kind size k (x + 2 ^ (3 + k)) y x (y + 2 ^ (3 + k)) (units_after before a) d f (units ++ a) b (omega arith) (record { x_even = hx.second; y_even = hy.first; column = subst (λ (n : ℕ). n < ctus size.w) (sym hx.same) column })
          ta.kept.lawful rb (by_right _ _ _ _ follow.right follow.down) second in
          (tb.taken (units ++ a) (ta.taken units stood has) second, third);
    }
      where
        by_right : (o r l c : ℕ) → r ≡ o + c → l ≡ o + 2 * c → r + c ≡ l
        by_right o r l c h i = omega arith

    go : (units : List ReadUnit) × (tree_read kind size k x y before e ≡ Some (units, d)) × AreTaken s0 s1 size x y c1 v1 before units → Two kind size k x y before e f s0 s2 c2 v2
    go (a, ra, ta) = more a ra ta (two (units_after before a) ta.kept)

pub ends_3 : (kind : SliceKind) (size : Size) (depth k x y : ℕ) (before : List Moving) (e0 e d f : Engine) (s0 s1 s2 : List ReadUnit → Type 0) (c0 c1 c2 : modes.Cells) (v0 v1 v2 : motions.Cells) → depth ≡ suc k → is_inside size x y ≡ true
    → split_read size (leaves before) depth x y e0 ≡ Some (true, e) → k < 2 → x % 2 ^ (4 + k) ≡ 0 → y % 2 ^ (4 + k) ≡ 0 → x / 32 < ctus size.w
    → AreKept c0 v0 before → Step kind size k x y e d s0 s1 c0 v0 c1 v1 → Step kind size k (x + 2 ^ (3 + k)) y d f s1 s2 c1 v1 c2 v2 → Ends kind size k x (y + 2 ^ (3 + k)) f c2 v2 → tree_read kind size depth x y before e0 ≡ None
ends_3 kind size depth k x y before e0 e d f s0 s1 s2 c0 c1 c2 v0 v1 v2 q within split small ex ey column are one two end =
    go (two_done kind size k x y before e d f s0 s1 s2 c0 c1 c2 v0 v1 v2 small ex ey column are one two)
  where
    go : Two kind size k x y before e f s0 s2 c2 v2 → tree_read kind size depth x y before e0 ≡ None
    go t = split_yes kind size depth k x y before e0 e q within split ∙ t.reads
        ∙ then_none (tree_read kind size k x (y + 2 ^ (3 + k)) (units_after before (t.a ++ t.b)) f) (third_then kind size k x y before t.a t.b) (end (units_after before (t.a ++ t.b)) t.kept)

-- three quarters
record Three (kind : SliceKind) (size : Size) (k x y : ℕ) (before : List Moving) (e d : Engine) (stood stands : List ReadUnit → Type 0) (cells : modes.Cells) (vectors : motions.Cells) : Type 0 where
  abc : List ReadUnit
  a : List ReadUnit
  b : List ReadUnit
  c : List ReadUnit
  together : abc ≡ (a ++ b) ++ c
  reads : parts_read kind size (suc k) x y before e ≡ and_then (tree_read kind size k (x + 2 ^ (3 + k)) (y + 2 ^ (3 + k)) (units_after before ((a ++ b) ++ c)) d) (fourth_then a b c)
  kept : AreKept cells vectors (units_after before ((a ++ b) ++ c))
  taken : (units : List ReadUnit) → stood units → HasAvailable size units x y → stands (((units ++ a) ++ b) ++ c) × HasAvailable size (((units ++ a) ++ b) ++ c) (x + 2 ^ (3 + k)) (y + 2 ^ (3 + k))

three_done : (kind : SliceKind) (size : Size) (k x y : ℕ) (before : List Moving) (e f g : Engine) (s0 s2 s3 : List ReadUnit → Type 0) (c2 c3 : modes.Cells) (v2 v3 : motions.Cells) → k < 2 → x % 2 ^ (4 + k) ≡ 0 → y % 2 ^ (4 + k) ≡ 0 → x / 32 < ctus size.w
    → Two kind size k x y before e f s0 s2 c2 v2 → Step kind size k x (y + 2 ^ (3 + k)) f g s2 s3 c2 v2 c3 v3 → Three kind size k x y before e g s0 s3 c3 v3
three_done kind size k x y before e f g s0 s2 s3 c2 c3 v2 v3 small ex ey column two three = go (three (units_after before (two.a ++ two.b)) two.kept)
  where
    hx : IsHalved k x
    hx = halved k x small ex

    hy : IsHalved k y
    hy = halved k y small ey

    by_down : (o l a c : ℕ) → l ≡ o + 2 * c → a ≡ o + 3 * c → l + c ≡ a
    by_down o l a c h i = omega arith

    go : (units : List ReadUnit) × (tree_read kind size k x (y + 2 ^ (3 + k)) (units_after before (two.a ++ two.b)) f ≡ Some (units, g)) × AreTaken s2 s3 size x (y + 2 ^ (3 + k)) c3 v3 (units_after before (two.a ++ two.b)) units
        → Three kind size k x y before e g s0 s3 c3 v3
    go (c, rc, tc) = record {
      abc = (two.a ++ two.b) ++ c;
      a = two.a;
      b = two.b;
      c = c;
      together = refl;
      reads = two.reads ∙ then_some (tree_read kind size k x (y + 2 ^ (3 + k)) (units_after before (two.a ++ two.b)) f) (c, g) (third_then kind size k x y before two.a two.b) rc;
      kept = subst (λ (l : List Moving). AreKept c3 v3 l) (after_twice before (two.a ++ two.b) c) tc.kept;
      taken = λ units stood has.
          let follow = quarters_follow size k x y small ex ey in
          let t = two.taken units stood has in
          let next = passed kind size k x (y + 2 ^ (3 + k)) (x + 2 ^ (3 + k)) (y + 2 ^ (3 + k)) (units_after before (two.a ++ two.b)) f g ((units ++ two.a) ++ two.b) c (omega arith)
          (record { x_even = hx.first; y_even = hy.second; column = column }) two.kept.lawful rc (by_down _ _ _ _ follow.down follow.across) t.1 in
          (tc.taken ((units ++ two.a) ++ two.b) t.0 t.1, next);
    }

pub ends_4 : (kind : SliceKind) (size : Size) (depth k x y : ℕ) (before : List Moving) (e0 e d f g : Engine) (s0 s1 s2 s3 : List ReadUnit → Type 0) (c0 c1 c2 c3 : modes.Cells) (v0 v1 v2 v3 : motions.Cells) → depth ≡ suc k → is_inside size x y ≡ true
    → split_read size (leaves before) depth x y e0 ≡ Some (true, e) → k < 2 → x % 2 ^ (4 + k) ≡ 0 → y % 2 ^ (4 + k) ≡ 0 → x / 32 < ctus size.w
    → AreKept c0 v0 before → Step kind size k x y e d s0 s1 c0 v0 c1 v1 → Step kind size k (x + 2 ^ (3 + k)) y d f s1 s2 c1 v1 c2 v2 → Step kind size k x (y + 2 ^ (3 + k)) f g s2 s3 c2 v2 c3 v3
    → Ends kind size k (x + 2 ^ (3 + k)) (y + 2 ^ (3 + k)) g c3 v3 → tree_read kind size depth x y before e0 ≡ None
ends_4 kind size depth k x y before e0 e d f g s0 s1 s2 s3 c0 c1 c2 c3 v0 v1 v2 v3 q within split small ex ey column are one two three end =
    go (three_done kind size k x y before e f g s0 s2 s3 c2 c3 v2 v3 small ex ey column (two_done kind size k x y before e d f s0 s1 s2 c0 c1 c2 v0 v1 v2 small ex ey column are one two) three)
  where
    go : Three kind size k x y before e g s0 s3 c3 v3 → tree_read kind size depth x y before e0 ≡ None
    go t = split_yes kind size depth k x y before e0 e q within split ∙ t.reads
        ∙ then_none (tree_read kind size k (x + 2 ^ (3 + k)) (y + 2 ^ (3 + k)) (units_after before ((t.a ++ t.b) ++ t.c)) g) (fourth_then t.a t.b t.c) (end (units_after before ((t.a ++ t.b) ++ t.c)) t.kept)

four_joined : (u a b c d : List ReadUnit) → (((u ++ a) ++ b) ++ c) ++ d ≡ u ++ (((a ++ b) ++ c) ++ d)
four_joined u a b c d =
    ap (λ (l : List ReadUnit). (l ++ c) ++ d) (append_assoc u a b) ∙ ap (λ (l : List ReadUnit). l ++ d) (append_assoc u (a ++ b) c) ∙ append_assoc u ((a ++ b) ++ c) d

pub all_done : (kind : SliceKind) (size : Size) (depth k x y : ℕ) (before : List Moving) (e0 e d f g h : Engine) (s0 s1 s2 s3 s4 : List ReadUnit → Type 0) (c0 c1 c2 c3 c4 : modes.Cells) (v0 v1 v2 v3 v4 : motions.Cells) → depth ≡ suc k → is_inside size x y ≡ true
    → split_read size (leaves before) depth x y e0 ≡ Some (true, e) → k < 2 → x % 2 ^ (4 + k) ≡ 0 → y % 2 ^ (4 + k) ≡ 0 → x / 32 < ctus size.w
    → AreKept c0 v0 before → Step kind size k x y e d s0 s1 c0 v0 c1 v1 → Step kind size k (x + 2 ^ (3 + k)) y d f s1 s2 c1 v1 c2 v2 → Step kind size k x (y + 2 ^ (3 + k)) f g s2 s3 c2 v2 c3 v3
    → Step kind size k (x + 2 ^ (3 + k)) (y + 2 ^ (3 + k)) g h s3 s4 c3 v3 c4 v4
    → (units : List ReadUnit) × (tree_read kind size depth x y before e0 ≡ Some (units, h)) × AreTaken s0 s4 size x y c4 v4 before units
all_done kind size depth k x y before e0 e d f g h s0 s1 s2 s3 s4 c0 c1 c2 c3 c4 v0 v1 v2 v3 v4 q within split small ex ey column are one two three four =
    go (three_done kind size k x y before e f g s0 s2 s3 c2 c3 v2 v3 small ex ey column (two_done kind size k x y before e d f s0 s1 s2 c0 c1 c2 v0 v1 v2 small ex ey column are one two) three)
  where
    last : (t : Three kind size k x y before e g s0 s3 c3 v3)
        → (units : List ReadUnit) × (tree_read kind size k (x + 2 ^ (3 + k)) (y + 2 ^ (3 + k)) (units_after before ((t.a ++ t.b) ++ t.c)) g ≡ Some (units, h)) × AreTaken s3 s4 size (x + 2 ^ (3 + k)) (y + 2 ^ (3 + k)) c4 v4 (units_after before ((t.a ++ t.b) ++ t.c)) units
        → (units : List ReadUnit) × (tree_read kind size depth x y before e0 ≡ Some (units, h)) × AreTaken s0 s4 size x y c4 v4 before units
    last t (u, ru, tu) = (
      ((t.a ++ t.b) ++ t.c) ++ u,
      split_yes kind size depth k x y before e0 e q within split ∙ t.reads
          ∙ then_some (tree_read kind size k (x + 2 ^ (3 + k)) (y + 2 ^ (3 + k)) (units_after before ((t.a ++ t.b) ++ t.c)) g) (u, h) (fourth_then t.a t.b t.c) ru,
      record {
        taken = λ units stood has. let p = t.taken units stood has in
            subst s4 (four_joined units t.a t.b t.c u) (tu.taken (((units ++ t.a) ++ t.b) ++ t.c) p.0 p.1);
        kept = subst (λ (l : List Moving). AreKept c4 v4 l) (after_twice before ((t.a ++ t.b) ++ t.c) u) tu.kept;
      },
    )

    go : Three kind size k x y before e g s0 s3 c3 v3 → (units : List ReadUnit) × (tree_read kind size depth x y before e0 ≡ Some (units, h)) × AreTaken s0 s4 size x y c4 v4 before units
    go t = last t (four (units_after before ((t.a ++ t.b) ++ t.c)) t.kept)

-- a block out of the picture has no unit
pub none_taken : (stood : List ReadUnit → Type 0) (kind : SliceKind) (size : Size) (depth x y : ℕ) (before : List Moving) (e : Engine) (cells : modes.Cells) (vectors : motions.Cells) → is_inside size x y ≡ false → AreKept cells vectors before
    → (units : List ReadUnit) × (tree_read kind size depth x y before e ≡ Some (units, e)) × AreTaken stood stood size x y cells vectors before units
none_taken stood kind size depth x y before e cells vectors h are = (
  [],
  outside kind size depth x y before e h,
  record {
    taken = λ units stands has. subst stood (sym (append-nil units)) stands;
    kept = subst (λ (l : List Moving). AreKept cells vectors l) (sym (append-nil before)) are;
  },
)

pub reads_as : (r : Option (Unit {0})) (read other : Option (List ReadUnit × Engine)) (new : Engine) (Holds : List ReadUnit → Type 0) → read ≡ other → Reads r read new Holds → Reads r other new Holds
reads_as r read other new Holds h reads = subst (λ (o : Option (List ReadUnit × Engine)). Reads r o new Holds) h reads

pub ctu_open : (kind : SliceKind) (size : Size) (before : List Moving) (ctu : ℕ) (e : Engine) → tree_read kind size 2 (ctu_x size ctu) (ctu_y size ctu) before e ≡ ctu_read kind size before ctu e
unfolding ctu_read
ctu_open kind size before ctu e = refl
