-- What the tests' source of zeros gives.
use Rattle.std.proofs.Common.{◌≡◌, refl, sym, ◌∙◌, ap, subst, ℕ, zero, suc, ◌<◌, List, ◌∷◌, replicate, map, arith}
use Rattle.std.specs.Prelude.{ℤ, pos}
use Rattle.std.specs.List.{AllByRecursion}
use Rattle.h265_model.specs.declared.leaf.Leaf.{Leaf}
use Rattle.h265_model.specs.Residual.{AreLevels}
use Rattle.h265_model.specs.Tree.{Source}
use Rattle.bin_items.specs.Square.{Square, area}
use Rattle.coding_tree.specs.Filled.{HasLevels, HasSamples}

zero_levels : (n : ℕ) → AreLevels (replicate n (pos 0))
zero_levels zero = tt
zero_levels (suc n) = (omega arith, zero_levels n)

zero_samples : (n : ℕ) → AllByRecursion (λ x. x < 256) (replicate n 0)
zero_samples zero = tt
zero_samples (suc n) = (omega arith, zero_samples n)

zeros_as_levels : (n : ℕ) → map pos (replicate n 0) ≡ replicate n (pos 0)
zeros_as_levels zero = refl
zeros_as_levels (suc n) = ap (λ (l : List ℤ). pos 0 ∷ l) (zeros_as_levels n)

pub flat_levels : (source : Source) (leaf : Leaf) (component l : ℕ) (block : Square) → block ≡ record { log2 = l; levels = replicate (area l) (pos 0) } → l ≡ leaf.block.log2
    → source.levels leaf component ≡ replicate (area leaf.block.log2) (pos 0) → HasLevels source leaf component block
flat_levels source leaf component l block e f g = record {
  side = ap (λ (b : Square). b.log2) e ∙ f;
  levels = ap (λ (b : Square). b.levels) e ∙ (ap (λ (n : ℕ). replicate (area n) (pos 0)) f ∙ sym g);
  fit = subst AreLevels (sym (ap (λ (b : Square). b.levels) e)) (zero_levels (area l));
}

pub flat_samples : (source : Source) (leaf : Leaf) (component l : ℕ) (block : Square) → block ≡ record { log2 = l; levels = replicate (area l) (pos 0) } → l ≡ leaf.block.log2
    → source.samples leaf component ≡ replicate (area leaf.block.log2) 0 → HasSamples source leaf component block
flat_samples source leaf component l block e f g = record {
  side = ap (λ (b : Square). b.log2) e ∙ f;
  samples = ap (λ (b : Square). b.levels) e ∙ (ap (λ (n : ℕ). replicate (area n) (pos 0)) f ∙ (sym (zeros_as_levels (area leaf.block.log2)) ∙ ap (map pos) (sym g)));
  fit = subst (AllByRecursion (λ x. x < 256)) (sym g) (zero_samples (area leaf.block.log2));
}
