-- What the tests' made-up trees and samples need.
use Rattle.std.proofs.Common.{◌≡◌, refl, sym, ◌∙◌, ap, subst, ℕ, zero, suc, ◌+◌, ◌-◌, ◌*◌, ◌^◌, ◌%◌, ◌<◌, ◌≤◌, List, [], ◌∷◌, ◌++◌, Bool, true, false, length, take, drop, replicate, set, map, inl, inr, arith}
use Rattle.std.specs.Prelude.{◌⊎◌, ℤ, pos, MatchBool}
use Rattle.std.specs.List.{AllByRecursion}
use Rattle.std.proofs.Math.Seq.{take-add}
use Rattle.std.proofs.Math.Pow.{pow_mono}
use Rattle.std.proofs.lemmas.List.{map-set, take_all, length-drop}
use Rattle.std.proofs.lemmas.Bool.{lt-ltb}
use Rattle.h265_model.specs.declared.leaf.Leaf.{Leaf}
use Rattle.h265_model.specs.Plain.{block_at, Size, coded}
use Rattle.h265_model.specs.Residual.{AreLevels}
use Rattle.h265_model.specs.Predict.{is_inside}
use Rattle.h265_model.specs.Tree.{Source, is_whole, IsCodingUnit, AreQuarters, IsTree}
use Rattle.bin_items.specs.Square.{Square, area, place}
use Rattle.coding_tree.specs.Filled.{HasLevels, HasSamples}
use Rattle.coding_tree.proofs.Trees.{HasHalf, has_half}

-- ---- blocks

-- the first columns and rows
low_place : (n log2 : ℕ) → 3 ≤ log2 → n % 8 < 2 ^ log2
low_place n log2 h = let few : 2 ^ 3 ≤ 2 ^ log2 = pow_mono h in omega arith

pub low_at : (zeros : Square) (n l log2 : ℕ) → zeros ≡ record { log2 = l; levels = replicate (area l) (pos 0) } → l ≡ log2 → 3 ≤ log2 → n % 8 < 2 ^ zeros.log2
low_at zeros n l log2 e f h = subst (λ k. n % 8 < 2 ^ k) (sym (ap (λ (b : Square). b.log2) e ∙ f)) (low_place n log2 h)

zero_levels : (n : ℕ) → AreLevels (replicate n (pos 0))
zero_levels zero = tt
zero_levels (suc n) = (omega arith, zero_levels n)

set_level : (levels : List ℤ) (i v : ℕ) → v ≤ 255 → AreLevels levels → AreLevels (set levels i (pos v))
set_level [] i v h all = tt
set_level (x ∷ levels) zero v h all = (h, all.1)
set_level (x ∷ levels) (suc i) v h all = (all.0, set_level levels i v h all.1)

zero_samples : (n : ℕ) → AllByRecursion (λ x. x < 256) (replicate n 0)
zero_samples zero = tt
zero_samples (suc n) = (omega arith, zero_samples n)

set_sample : (samples : List ℕ) (i v : ℕ) → v < 256 → AllByRecursion (λ x. x < 256) samples → AllByRecursion (λ x. x < 256) (set samples i v)
set_sample [] i v h all = tt
set_sample (x ∷ samples) zero v h all = (h, all.1)
set_sample (x ∷ samples) (suc i) v h all = (all.0, set_sample samples i v h all.1)

zeros_as_levels : (n : ℕ) → map pos (replicate n 0) ≡ replicate n (pos 0)
zeros_as_levels zero = refl
zeros_as_levels (suc n) = ap (λ (l : List ℤ). pos 0 ∷ l) (zeros_as_levels n)

sample_as_level : (n i v : ℕ) → set (replicate n (pos 0)) i (pos v) ≡ map pos (set (replicate n 0) i v)
sample_as_level n i v = sym (map-set pos (replicate n 0) i v ∙ ap (λ (l : List ℤ). set l i (pos v)) (zeros_as_levels n))

-- a block of zeros but for one
pub one_set : (zeros block : Square) (l log2 x y : ℕ) (value : ℤ) (v : ℕ) → zeros ≡ record { log2 = l; levels = replicate (area l) (pos 0) } → l ≡ log2 → value ≡ pos v
    → block ≡ record zeros { levels = set zeros.levels (place zeros.log2 x y) value }
    → block ≡ record { log2 = log2; levels = set (replicate (area log2) (pos 0)) (place log2 x y) (pos v) }
one_set zeros block l log2 x y value v e f g h =
    h ∙ (ap (λ (b : Square). record { log2 = b.log2; levels = set b.levels (place b.log2 x y) value }) e
    ∙ (ap (λ n. record { log2 = n; levels = set (replicate (area n) (pos 0)) (place n x y) value }) f
    ∙ ap (λ (w : ℤ). record { log2 = log2; levels = set (replicate (area log2) (pos 0)) (place log2 x y) w }) g))

pub one_level : (source : Source) (leaf : Leaf) (component i v : ℕ) (block : Square) → v ≤ 255
    → block ≡ record { log2 = leaf.block.log2; levels = set (replicate (area leaf.block.log2) (pos 0)) i (pos v) }
    → source.levels leaf component ≡ set (replicate (area leaf.block.log2) (pos 0)) i (pos v) → HasLevels source leaf component block
one_level source leaf component i v block h e f = record {
  side = ap (λ (b : Square). b.log2) e;
  levels = ap (λ (b : Square). b.levels) e ∙ sym f;
  fit = subst AreLevels (sym (ap (λ (b : Square). b.levels) e)) (set_level (replicate (area leaf.block.log2) (pos 0)) i v h (zero_levels (area leaf.block.log2)));
}

pub one_sample : (source : Source) (leaf : Leaf) (component i v : ℕ) (block : Square) → v < 256
    → block ≡ record { log2 = leaf.block.log2; levels = set (replicate (area leaf.block.log2) (pos 0)) i (pos v) }
    → source.samples leaf component ≡ set (replicate (area leaf.block.log2) 0) i v → HasSamples source leaf component block
one_sample source leaf component i v block h e f = record {
  side = ap (λ (b : Square). b.log2) e;
  samples = ap (λ (b : Square). b.levels) e ∙ (sample_as_level (area leaf.block.log2) i v ∙ ap (map pos) (sym f));
  fit = subst (AllByRecursion (λ x. x < 256)) (sym f) (set_sample (replicate (area leaf.block.log2) 0) i v h (zero_samples (area leaf.block.log2)));
}

-- ---- trees

take_four : (leaves : List Leaf) (a b c d : ℕ)
    → take (((a + b) + c) + d) leaves ≡ ((take a leaves ++ take b (drop a leaves)) ++ take c (drop (a + b) leaves)) ++ take d (drop ((a + b) + c) leaves)
take_four leaves a b c d =
    take-add ((a + b) + c) d leaves
    ∙ (ap (λ (l : List Leaf). l ++ take d (drop ((a + b) + c) leaves)) (take-add (a + b) c leaves)
    ∙ ap (λ (l : List Leaf). (l ++ take c (drop (a + b) leaves)) ++ take d (drop ((a + b) + c) leaves)) (take-add a b leaves))

pub half_side : (depth : ℕ) → depth ≤ 2 → 4 * 2 ^ depth % 2 ^ 32 ≡ 2 ^ (2 + depth)
half_side zero h = refl
half_side (suc zero) h = refl
half_side (suc (suc zero)) h = refl
half_side (suc (suc (suc depth))) h = absurd (omega arith)

inside : (size : Size) (x y : ℕ) → x < coded size.w → y < coded size.h → is_inside size x y ≡ true
inside size x y across down = rw (lt-ltb _ _ across, lt-ltb _ _ down) refl

-- a list from an index on, as a slice gives it
abbrev pub from_index : ℕ → List Leaf → List Leaf
from_index n leaves = take (length leaves - n) (drop n leaves)

from_index_is : (leaves : List Leaf) (n : ℕ) → from_index n leaves ≡ drop n leaves
from_index_is leaves n = take_all (length leaves - n) (drop n leaves) (subst (λ k. k ≤ length leaves - n) (sym (length-drop n leaves)) (omega arith))

pub quarters_tree : (size : Size) (depth x y half : ℕ) (leaves : List Leaf) (a b c d : ℕ) → 0 < depth → half ≡ 2 ^ (2 + depth) → x < coded size.w → y < coded size.h
    → IsTree size (depth - 1) x y (take a leaves) → IsTree size (depth - 1) (x + half) y (take b (from_index a leaves))
    → IsTree size (depth - 1) x (y + half) (take c (from_index (a + b) leaves)) → IsTree size (depth - 1) (x + half) (y + half) (take d (from_index ((a + b) + c) leaves))
    → IsTree size depth x y (take (((a + b) + c) + d) leaves)
quarters_tree size zero x y half leaves a b c d h e across down p q r s = absurd (omega arith)
quarters_tree size (suc depth) x y half leaves a b c d h e across down p q r s =
    go (is_inside size x y) (inside size x y across down) (is_whole size (2 * 2 ^ (3 + depth)) x y) (subst (λ n. AreQuarters (IsTree size depth) n x y list) side quarters)
  where
    list : List Leaf
    list = take (((a + b) + c) + d) leaves

    less : suc depth - 1 ≡ depth
    less = omega arith

    more : 2 + suc depth ≡ 3 + depth
    more = omega arith

    side : half ≡ 2 ^ (3 + depth)
    side = e ∙ ap (λ n. 2 ^ n) more

    at : (px py : ℕ) (ls : List Leaf) → IsTree size (suc depth - 1) px py ls → IsTree size depth px py ls
    at px py ls t = subst (λ n. IsTree size n px py ls) less t

    quarters : AreQuarters (IsTree size depth) half x y list
    quarters = record {
      first = take a leaves;
      second = take b (drop a leaves);
      third = take c (drop (a + b) leaves);
      fourth = take d (drop ((a + b) + c) leaves);
      together = take_four leaves a b c d;
      top_left = at _ _ _ p;
      top_right = at _ _ _ (subst (λ l. IsTree size (suc depth - 1) (x + half) y (take b l)) (from_index_is leaves a) q);
      bottom_left = at _ _ _ (subst (λ l. IsTree size (suc depth - 1) x (y + half) (take c l)) (from_index_is leaves (a + b)) r);
      bottom_right = at _ _ _ (subst (λ l. IsTree size (suc depth - 1) (x + half) (y + half) (take d l)) (from_index_is leaves ((a + b) + c)) s);
    }

    go : (i : Bool) → i ≡ true → (w : Bool) → AreQuarters (IsTree size depth) (2 ^ (3 + depth)) x y list
        → MatchBool i (MatchBool w (IsCodingUnit (block_at x y (4 + depth)) list ⊎ AreQuarters (IsTree size depth) (2 ^ (3 + depth)) x y list) (AreQuarters (IsTree size depth) (2 ^ (3 + depth)) x y list)) (list ≡ [])
    go true g true t = inr t
    go true g false t = t
    go false g w t = absurd (cc)

pub unit_tree : (size : Size) (depth x y : ℕ) (leaves : List Leaf) → depth ≤ 2 → x < coded size.w → y < coded size.h → is_whole size (2 ^ (3 + depth)) x y ≡ true
    → IsCodingUnit (block_at x y (3 + depth)) leaves → IsTree size depth x y leaves
unit_tree size zero x y leaves h across down whole unit = go (is_inside size x y) (inside size x y across down)
  where
    go : (i : Bool) → i ≡ true → MatchBool i (IsCodingUnit (block_at x y 3) leaves) (leaves ≡ [])
    go true g = unit
    go false g = absurd (cc)
unit_tree size (suc depth) x y leaves h across down whole unit =
    let k : HasHalf depth (2 ^ (4 + depth)) (2 ^ (3 + depth)) = has_half depth (omega arith) in
    go (is_inside size x y) (inside size x y across down) (is_whole size (2 * 2 ^ (3 + depth)) x y)
    (ap (λ s. is_whole size s x y) (k.double ∙ sym k.whole) ∙ whole) (subst (λ n. IsCodingUnit (block_at x y n) leaves) k.log2 unit)
  where
    go : (i : Bool) → i ≡ true → (w : Bool) → w ≡ true → IsCodingUnit (block_at x y (4 + depth)) leaves
        → MatchBool i (MatchBool w (IsCodingUnit (block_at x y (4 + depth)) leaves ⊎ AreQuarters (IsTree size depth) (2 ^ (3 + depth)) x y leaves) (AreQuarters (IsTree size depth) (2 ^ (3 + depth)) x y leaves)) (leaves ≡ [])
    go true g true e t = inl t
    go true g false e t = absurd (cc)
    go false g w e t = absurd (cc)
