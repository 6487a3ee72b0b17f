-- The leaves of lawful trees cover the picture in the order of coding.
use Rattle.std.proofs.Common.{◌≡◌, refl, sym, ◌∙◌, ap, subst, ℕ, zero, suc, ◌+◌, ◌*◌, ◌/◌, ◌%◌, ◌^◌, ◌<◌, ◌≤◌, List, [], ◌∷◌, ◌++◌, Bool, true, false, ⊎_elim, append_assoc, append-nil, arith, pow-suc, mod-lt}
use Rattle.std.specs.Prelude.{MatchBool, ◌⊎◌}
use Rattle.std.specs.List.{list_any}
use Rattle.std.proofs.lemmas.Bool.{and_parts, and_from, or_left, or_right, cases_lt, lt-ltb, ltb-true, le-leb, leb-true}
use Rattle.std.proofs.lemmas.List.Folds.{list_any-append}
use Rattle.std.proofs.lemmas.Nat.{div-add-mod'}
use Rattle.h265_model.specs.declared.leaf.Leaf.{Leaf}
use Rattle.h265_model.specs.Plain.{block_at, Size, ctus, coded, leaf_with, ctu_x, ctu_y}
use Rattle.h265_model.specs.Predict.{is_inside, coding_order}
use Rattle.h265_model.specs.Residual.{IsSide, eight, sixteen, thirty_two}
use Rattle.h265_model.specs.Tree.{is_whole, IsTree, IsLawfulTree, IsCodingUnit, AreQuarters}
use Rattle.h265_model.specs.Plain.{covers, leaf_side}
use Rattle.h265_laws.proofs.ZOrder.{IsWithin, in_block, QuartersFollow, quarters_follow}

-- one of these leaves covers the place
abbrev pub is_covered : List Leaf → ℕ → ℕ → Bool
is_covered leaves x y = list_any (covers x y) leaves

-- these leaves cover the places of the picture with lower numbers in the order of coding
pub record Covers (size : Size) (leaves : List Leaf) (number : ℕ) : Type 0 where
  pub each : (x y : ℕ) → is_inside size x y ≡ true → coding_order size x y < number → is_covered leaves x y ≡ true

-- a leaf in the picture, after leaves that cover all that comes before it
pub record IsPlaced (size : Size) (before : List Leaf) (leaf : Leaf) : Type 0 where
  pub side : IsSide leaf.block.log2
  pub right : leaf.block.x + leaf_side leaf ≤ coded size.w
  pub bottom : leaf.block.y + leaf_side leaf ≤ coded size.h
  pub behind : Covers size before (coding_order size leaf.block.x leaf.block.y)

abbrev pub ArePlaced : Size → List Leaf → List Leaf → Type 0
ArePlaced size before [] = Unit {0}
ArePlaced size before (leaf ∷ leaves) = IsPlaced size before leaf × ArePlaced size (before ++ leaf ∷ []) leaves

pub placed-append : (size : Size) (before a b : List Leaf) → ArePlaced size before a → ArePlaced size (before ++ a) b → ArePlaced size before (a ++ b)
placed-append size before [] b h k = subst (λ (l : List Leaf). ArePlaced size l b) (append-nil before) k
placed-append size before (leaf ∷ a) b h k =
    (h.0, placed-append size (before ++ leaf ∷ []) a b h.1 (subst (λ (l : List Leaf). ArePlaced size l b) (sym (append_assoc before (leaf ∷ []) a)) k))

-- what the leaves of a block do after these
pub record CoversBlock (size : Size) (before leaves : List Leaf) (number count : ℕ) : Type 0 where
  pub placed : ArePlaced size before leaves
  pub covers : Covers size (before ++ leaves) (number + count)

-- ---- where a block stands

pub record IsAligned (size : Size) (log2 x y : ℕ) : Type 0 where
  pub x_even : x % 2 ^ log2 ≡ 0
  pub y_even : y % 2 ^ log2 ≡ 0
  pub column : x / 32 < ctus size.w

record AreAligned (size : Size) (log2 half x y : ℕ) : Type 0 where
  first : IsAligned size log2 x y
  second : IsAligned size log2 (x + half) y
  third : IsAligned size log2 x (y + half)
  fourth : IsAligned size log2 (x + half) (y + half)

quarters_aligned : (size : Size) (depth x y : ℕ) → depth < 2 → IsAligned size (4 + depth) x y → AreAligned size (3 + depth) (2 ^ (3 + depth)) x y
quarters_aligned size zero x y h at =
    let ex : x % 16 ≡ 0 = at.x_even in
    let ey : y % 16 ≡ 0 = at.y_even in
    let c : x / 32 < ctus size.w = at.column in
    let right : (x + 8) / 32 ≡ x / 32 = omega arith in
    let c' : (x + 8) / 32 < ctus size.w = subst (λ (k : ℕ). k < ctus size.w) (sym right) c in
    record {
      first = record { x_even = omega arith; y_even = omega arith; column = c };
      second = record { x_even = omega arith; y_even = omega arith; column = c' };
      third = record { x_even = omega arith; y_even = omega arith; column = c };
      fourth = record { x_even = omega arith; y_even = omega arith; column = c' };
    }
quarters_aligned size (suc zero) x y h at =
    let ex : x % 32 ≡ 0 = at.x_even in
    let ey : y % 32 ≡ 0 = at.y_even in
    let c : x / 32 < ctus size.w = at.column in
    let right : (x + 16) / 32 ≡ x / 32 = omega arith in
    let c' : (x + 16) / 32 < ctus size.w = subst (λ (k : ℕ). k < ctus size.w) (sym right) c in
    record {
      first = record { x_even = omega arith; y_even = omega arith; column = c };
      second = record { x_even = omega arith; y_even = omega arith; column = c' };
      third = record { x_even = omega arith; y_even = omega arith; column = c };
      fourth = record { x_even = omega arith; y_even = omega arith; column = c' };
    }
quarters_aligned size (suc (suc depth)) x y h at = absurd (omega arith)

pub inside_parts : (size : Size) (x y : ℕ) → is_inside size x y ≡ true → (x < coded size.w) × (y < coded size.h)
inside_parts size x y h = let p = and_parts _ _ h in (ltb-true _ _ p.0, ltb-true _ _ p.1)

pub inside_from : (size : Size) (x y : ℕ) → x < coded size.w → y < coded size.h → is_inside size x y ≡ true
inside_from size x y a b = and_from _ _ (lt-ltb x (coded size.w) a) (lt-ltb y (coded size.h) b)

pub inside_column : (size : Size) (x y : ℕ) → is_inside size x y ≡ true → x / 32 < ctus size.w
inside_column size x y h = let a : x < coded size.w = (inside_parts size x y h).0 in column x size.w a
  where
    column : (p w : ℕ) → p < coded w → p / 32 < ctus w
    column p w a = omega arith

-- ---- what is covered

covers_from : (leaf : Leaf) (x y : ℕ) → IsWithin leaf.block.x leaf.block.y (leaf_side leaf) x y → covers x y leaf ≡ true
covers_from leaf x y w =
    and_from _ _ (and_from _ _ (and_from _ _ (le-leb leaf.block.x x w.left) (lt-ltb x (leaf.block.x + leaf_side leaf) w.right)) (le-leb leaf.block.y y w.top)) (lt-ltb y (leaf.block.y + leaf_side leaf) w.bottom)

pub covers_parts : (leaf : Leaf) (x y : ℕ) → covers x y leaf ≡ true → IsWithin leaf.block.x leaf.block.y (leaf_side leaf) x y
covers_parts leaf x y h =
    let p = and_parts _ _ h in
    let q = and_parts _ _ p.0 in
    let r = and_parts _ _ q.0 in
    record { left = leb-true _ _ r.0; right = ltb-true _ _ r.1; top = leb-true _ _ q.1; bottom = ltb-true _ _ p.1 }

covered_before : (before leaves : List Leaf) (x y : ℕ) → is_covered before x y ≡ true → is_covered (before ++ leaves) x y ≡ true
covered_before before leaves x y h = list_any-append (covers x y) before leaves ∙ or_left (is_covered before x y) (is_covered leaves x y) h

covered_after : (before leaves : List Leaf) (x y : ℕ) → is_covered leaves x y ≡ true → is_covered (before ++ leaves) x y ≡ true
covered_after before leaves x y h = list_any-append (covers x y) before leaves ∙ or_right (is_covered before x y) (is_covered leaves x y) h

-- ---- one leaf, or none

one_covers : (size : Size) (before : List Leaf) (leaf : Leaf) → IsSide leaf.block.log2 → IsAligned size leaf.block.log2 leaf.block.x leaf.block.y → leaf.block.x + leaf_side leaf ≤ coded size.w → leaf.block.y + leaf_side leaf ≤ coded size.h
    → Covers size before (coding_order size leaf.block.x leaf.block.y) → CoversBlock size before (leaf ∷ []) (coding_order size leaf.block.x leaf.block.y) (4 ^ leaf.block.log2)
one_covers size before leaf side at right bottom behind = record {
  placed = (record { side = side; right = right; bottom = bottom; behind = behind }, tt);
  covers = record {
    each = λ x y inside lower. ⊎_elim
        (λ earlier. covered_before before (leaf ∷ []) x y (behind.each x y inside earlier))
        (λ later. covered_after before (leaf ∷ []) x y (or_left (covers x y leaf) false
        (covers_from leaf x y (in_block size leaf.block.log2 leaf.block.x leaf.block.y x y side at.x_even at.y_even at.column (inside_column size x y inside) later lower))))
        (cases_lt (coding_order size x y) (coding_order size leaf.block.x leaf.block.y));
  };
}

none_covers : (size : Size) (before : List Leaf) (log2 x y : ℕ) → IsSide log2 → IsAligned size log2 x y → is_inside size x y ≡ false
    → Covers size before (coding_order size x y) → CoversBlock size before [] (coding_order size x y) (4 ^ log2)
none_covers size before log2 x y side at outside behind = record {
  placed = tt;
  covers = record {
    each = λ px py inside lower. ⊎_elim
        (λ earlier. covered_before before [] px py (behind.each px py inside earlier))
        (λ later.
        let w : IsWithin x y (2 ^ log2) px py = in_block size log2 x y px py side at.x_even at.y_even at.column (inside_column size px py inside) later lower in
        let p : (px < coded size.w) × (py < coded size.h) = inside_parts size px py inside in
        let left : x ≤ px = w.left in
        let top : y ≤ py = w.top in
        let px_in : px < coded size.w = p.0 in
        let py_in : py < coded size.h = p.1 in
        let within : is_inside size x y ≡ true = inside_from size x y (under x px (coded size.w) left px_in) (under y py (coded size.h) top py_in) in
        absurd (cc))
        (cases_lt (coding_order size px py) (coding_order size x y));
  };
}
  where
    under : (a b c : ℕ) → a ≤ b → b < c → a < c
    under a b c h k = omega arith

-- ---- blocks

block_side : (depth : ℕ) → depth < 3 → IsSide (3 + depth)
block_side zero h = eight
block_side (suc zero) h = sixteen
block_side (suc (suc zero)) h = thirty_two
block_side (suc (suc (suc depth))) h = absurd (omega arith)

unit_covers : (size : Size) (log2 x y : ℕ) (before leaves : List Leaf) → IsSide log2 → IsAligned size log2 x y → x + 2 ^ log2 ≤ coded size.w → y + 2 ^ log2 ≤ coded size.h
    → IsCodingUnit (block_at x y log2) leaves → Covers size before (coding_order size x y) → CoversBlock size before leaves (coding_order size x y) (4 ^ log2)
unit_covers size log2 x y before leaves side at right bottom u behind =
    subst (λ (l : List Leaf). CoversBlock size before l (coding_order size x y) (4 ^ log2)) (sym u.one)
    (one_covers size before (leaf_with (block_at x y log2) u.kind) side at right bottom behind)

empty_covers : (size : Size) (log2 x y : ℕ) (before leaves : List Leaf) → IsSide log2 → IsAligned size log2 x y → is_inside size x y ≡ false → leaves ≡ []
    → Covers size before (coding_order size x y) → CoversBlock size before leaves (coding_order size x y) (4 ^ log2)
empty_covers size log2 x y before leaves side at outside none behind =
    subst (λ (l : List Leaf). CoversBlock size before l (coding_order size x y) (4 ^ log2)) (sym none) (none_covers size before log2 x y side at outside behind)

covers_to : (size : Size) (leaves : List Leaf) (m n : ℕ) → m ≡ n → Covers size leaves m → Covers size leaves n
covers_to size leaves m n e c = subst (λ (k : ℕ). Covers size leaves k) e c

four_times : (depth : ℕ) → 4 ^ (3 + suc depth) ≡ 4 * 4 ^ (3 + depth)
four_times depth = let e : 3 + suc depth ≡ suc (3 + depth) = omega arith in ap (λ (n : ℕ). 4 ^ n) e ∙ (pow-suc 4 (3 + depth) ∙ omega arith)

twice : (depth : ℕ) → 2 * 2 ^ (3 + depth) ≡ 2 ^ (4 + depth)
twice depth = let e : 4 + depth ≡ suc (3 + depth) = omega arith in sym (ap (λ (n : ℕ). 2 ^ n) e ∙ (pow-suc 2 (3 + depth) ∙ omega arith))

larger_side : (depth : ℕ) → depth < 2 → IsSide (4 + depth)
larger_side zero h = sixteen
larger_side (suc zero) h = thirty_two
larger_side (suc (suc depth)) h = absurd (omega arith)

eight_fit : (x w : ℕ) → x % 8 ≡ 0 → x < coded w → x + 8 ≤ coded w
eight_fit x w e h = omega arith

-- the leaves of a block cover it, each after leaves that cover all that comes before it
pub tree_covers : (size : Size) (depth x y : ℕ) (before leaves : List Leaf) → depth < 3 → IsAligned size (3 + depth) x y → IsTree size depth x y leaves
    → Covers size before (coding_order size x y) → CoversBlock size before leaves (coding_order size x y) (4 ^ (3 + depth))
tree_covers size zero x y before leaves small at t behind = go (is_inside size x y) refl t
  where
    go : (b : Bool) → is_inside size x y ≡ b → MatchBool b (IsCodingUnit (block_at x y 3) leaves) (leaves ≡ []) → CoversBlock size before leaves (coding_order size x y) (4 ^ 3)
    go true e u =
        let p : (x < coded size.w) × (y < coded size.h) = inside_parts size x y e in
        unit_covers size 3 x y before leaves eight at (eight_fit x size.w at.x_even p.0) (eight_fit y size.h at.y_even p.1) u behind
    go false e none = empty_covers size 3 x y before leaves eight at e none behind
tree_covers size (suc depth) x y before leaves small at t behind =
    go (is_inside size x y) refl (is_whole size (2 * half) x y) refl t (λ px py b ls. tree_covers size depth px py b ls (omega arith))
  where
    half : ℕ
    half = 2 ^ (3 + depth)

    count : ℕ
    count = 4 ^ (3 + depth)

    number : ℕ
    number = coding_order size x y

    level : 3 + suc depth ≡ 4 + depth
    level = omega arith

    low : depth < 2
    low = omega arith

    here : IsAligned size (4 + depth) x y
    here = subst (λ (n : ℕ). IsAligned size n x y) level at

    Lower : Type 0
    Lower = (px py : ℕ) (b ls : List Leaf) → IsAligned size (3 + depth) px py → IsTree size depth px py ls → Covers size b (coding_order size px py) → CoversBlock size b ls (coding_order size px py) count

    four : AreQuarters (IsTree size depth) half x y leaves → Lower → CoversBlock size before leaves number (4 ^ (3 + suc depth))
    four q lower =
        let follow : QuartersFollow size half count x y = quarters_follow size depth x y low here.x_even here.y_even in
        let are : AreAligned size (3 + depth) half x y = quarters_aligned size depth x y low here in
        let b1 : List Leaf = before ++ q.first in
        let b2 : List Leaf = b1 ++ q.second in
        let b3 : List Leaf = b2 ++ q.third in
        let c1 : CoversBlock size before q.first number count = lower x y before q.first are.first q.top_left behind in
        let c2 : CoversBlock size b1 q.second (coding_order size (x + half) y) count =
        lower (x + half) y b1 q.second are.second q.top_right (covers_to size b1 _ _ (sym follow.right) c1.covers) in
        let c3 : CoversBlock size b2 q.third (coding_order size x (y + half)) count =
        lower x (y + half) b2 q.third are.third q.bottom_left (covers_to size b2 _ _ (let r : coding_order size (x + half) y ≡ number + count = follow.right in let d : coding_order size x (y + half) ≡ number + 2 * count = follow.down in omega arith) c2.covers) in
        let c4 : CoversBlock size b3 q.fourth (coding_order size (x + half) (y + half)) count =
        lower (x + half) (y + half) b3 q.fourth are.fourth q.bottom_right (covers_to size b3 _ _ (let d : coding_order size x (y + half) ≡ number + 2 * count = follow.down in let a : coding_order size (x + half) (y + half) ≡ number + 3 * count = follow.across in omega arith) c3.covers) in
        let e2 : b2 ≡ before ++ (q.first ++ q.second) = append_assoc before q.first q.second in
        let e3 : b3 ≡ before ++ ((q.first ++ q.second) ++ q.third) = ap (λ (l : List Leaf). l ++ q.third) e2 ∙ append_assoc before (q.first ++ q.second) q.third in
        let e4 : b3 ++ q.fourth ≡ before ++ leaves = ap (λ (l : List Leaf). l ++ q.fourth) e3 ∙ (append_assoc before ((q.first ++ q.second) ++ q.third) q.fourth ∙ ap (λ (l : List Leaf). before ++ l) (sym q.together)) in
        let all : ArePlaced size before (((q.first ++ q.second) ++ q.third) ++ q.fourth) =
        placed-append size before ((q.first ++ q.second) ++ q.third) q.fourth
        (placed-append size before (q.first ++ q.second) q.third
        (placed-append size before q.first q.second c1.placed c2.placed)
        (subst (λ (l : List Leaf). ArePlaced size l q.third) e2 c3.placed))
        (subst (λ (l : List Leaf). ArePlaced size l q.fourth) e3 c4.placed) in
        record {
          placed = subst (λ (l : List Leaf). ArePlaced size before l) (sym q.together) all;
          covers = subst (λ (l : List Leaf). Covers size l (number + 4 ^ (3 + suc depth))) e4
              (covers_to size (b3 ++ q.fourth) _ _ (let a : coding_order size (x + half) (y + half) ≡ number + 3 * count = follow.across in let f : 4 ^ (3 + suc depth) ≡ 4 * count = four_times depth in omega arith) c4.covers);
        }

    whole : IsCodingUnit (block_at x y (4 + depth)) leaves → is_whole size (2 * half) x y ≡ true → CoversBlock size before leaves number (4 ^ (3 + suc depth))
    whole u f =
        let p = and_parts _ _ f in
        let right : x + 2 * half ≤ coded size.w = leb-true _ _ p.0 in
        let bottom : y + 2 * half ≤ coded size.h = leb-true _ _ p.1 in
        subst (λ (n : ℕ). CoversBlock size before leaves number (4 ^ n)) (sym level)
        (unit_covers size (4 + depth) x y before leaves (larger_side depth low) here
        (subst (λ (s : ℕ). x + s ≤ coded size.w) (twice depth) right) (subst (λ (s : ℕ). y + s ≤ coded size.h) (twice depth) bottom) u behind)

    go : (a : Bool) → is_inside size x y ≡ a → (b : Bool) → is_whole size (2 * half) x y ≡ b
        → MatchBool a (MatchBool b (IsCodingUnit (block_at x y (4 + depth)) leaves ⊎ AreQuarters (IsTree size depth) half x y leaves) (AreQuarters (IsTree size depth) half x y leaves)) (leaves ≡ [])
        → Lower → CoversBlock size before leaves number (4 ^ (3 + suc depth))
    go false e b f none lower = empty_covers size (3 + suc depth) x y before leaves (block_side (suc depth) small) at e none behind
    go true e false f q lower = four q lower
    go true e true f u lower = ⊎_elim (λ (v : IsCodingUnit (block_at x y (4 + depth)) leaves). whole v f) (λ q. four q lower) u

-- ---- coding tree units

ctu_aligned : (size : Size) (ctu : ℕ) → 0 < ctus size.w → IsAligned size 5 (ctu_x size ctu) (ctu_y size ctu)
ctu_aligned size ctu h = record {
  x_even = omega arith;
  y_even = omega arith;
  column = let e : ctu % ctus size.w * 32 / 32 ≡ ctu % ctus size.w = omega arith in subst (λ (k : ℕ). k < ctus size.w) (sym e) (mod-lt ctu h);
}

ctu_order : (size : Size) (ctu : ℕ) → coding_order size (ctu_x size ctu) (ctu_y size ctu) ≡ ctu * 1024
unfolding coding_order
ctu_order size ctu =
    let x1 : ctu % ctus size.w * 32 / 32 ≡ ctu % ctus size.w = omega arith in
    let x2 : ctu % ctus size.w * 32 % 32 ≡ 0 = omega arith in
    let y1 : ctu / ctus size.w * 32 / 32 ≡ ctu / ctus size.w = omega arith in
    let y2 : ctu / ctus size.w * 32 % 32 ≡ 0 = omega arith in
    rw (x1, x2, y1, y2) (ap (λ (n : ℕ). n * 1024 + 0) (div-add-mod' ctu (ctus size.w)) ∙ omega arith)

pub ctu_covers : (size : Size) (ctu : ℕ) (before leaves : List Leaf) → 0 < ctus size.w → IsLawfulTree size ctu leaves → Covers size before (ctu * 1024) → CoversBlock size before leaves (ctu * 1024) 1024
ctu_covers size ctu before leaves h t behind =
    subst (λ (n : ℕ). CoversBlock size before leaves n 1024) (ctu_order size ctu)
    (tree_covers size 2 (ctu_x size ctu) (ctu_y size ctu) before leaves (omega arith) (ctu_aligned size ctu h) t (covers_to size before _ _ (sym (ctu_order size ctu)) behind))
