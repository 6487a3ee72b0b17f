-- Blocks with what a picture gives of a coding unit.
use Rattle.std.proofs.Common.{◌≡◌, refl, sym, ◌∙◌, ap, subst, ℕ, zero, suc, ◌&&◌, true, false, List, ◌∷◌, ℤ, replicate, map, pos, arith}
use Rattle.std.proofs.lemmas.Bool.{cond-true, cond-false}
use Rattle.h265_model.specs.declared.leaf.Kind.{Kind}
use Rattle.h265_model.specs.declared.leaf.Kind.TheVariants.{Intra}
use Rattle.h265_model.specs.declared.leaf.Leaf.{Leaf}
use Rattle.h265_model.specs.Plain.{Size, Picture, AreBytes}
use Rattle.h265_model.specs.Predict.{prediction}
use Rattle.h265_model.specs.Residual.{AreLevels}
use Rattle.h265_model.specs.Tree.{differences, samples_in, mode_of}
use Rattle.bin_items.specs.Square.{Square, area}
use Rattle.coding_tree.specs.Filled.{HasLevels, HasSamples}
use Rattle.row_coder.specs.Sources.{is_placed, is_predicted, picture_source}

zeros_are : (n : ℕ) → AreLevels (replicate n (pos 0))
zeros_are zero = tt
zeros_are (suc n) = (omega arith, zeros_are n)

zero_bytes : (n : ℕ) → AreBytes (replicate n 0)
zero_bytes zero = tt
zero_bytes (suc n) = (omega arith, zero_bytes n)

map_zeros : (n : ℕ) → replicate n (pos 0) ≡ map pos (replicate n 0)
map_zeros zero = refl
map_zeros (suc n) = ap (λ (l : List ℤ). pos 0 ∷ l) (map_zeros n)

pub levels_some : (size : Size) (picture : Picture) (leaf : Leaf) (component mode : ℕ) (block : Square) → leaf.kind ≡ Intra mode → (is_placed size leaf && is_predicted leaf.kind) ≡ true → block.log2 ≡ leaf.block.log2
    → block.levels ≡ differences (samples_in picture leaf component) (prediction size picture mode component leaf.block) → AreLevels block.levels
    → HasLevels (picture_source size picture) leaf component block
unfolding picture_source
levels_some size picture leaf component mode block kind h side e fit = record {
  side = side;
  levels = e ∙ (ap (λ (k : Kind). differences (samples_in picture leaf component) (prediction size picture (mode_of k) component leaf.block)) (sym kind)
      ∙ sym (cond-true (is_placed size leaf && is_predicted leaf.kind) _ _ h));
  fit = fit;
}

pub levels_none : (size : Size) (picture : Picture) (leaf : Leaf) (component log2 : ℕ) (block : Square) → (is_placed size leaf && is_predicted leaf.kind) ≡ false → log2 ≡ leaf.block.log2
    → block ≡ record { log2 = log2; levels = replicate (area log2) (pos 0) } → HasLevels (picture_source size picture) leaf component block
unfolding picture_source
levels_none size picture leaf component log2 block h side e = record {
  side = ap (λ (b : Square). b.log2) e ∙ side;
  levels = ap (λ (b : Square). b.levels) e ∙ (ap (λ (k : ℕ). replicate (area k) (pos 0)) side ∙ sym (cond-false (is_placed size leaf && is_predicted leaf.kind) _ _ h));
  fit = subst AreLevels (sym (ap (λ (b : Square). b.levels) e)) (zeros_are (area log2));
}

pub samples_some : (size : Size) (picture : Picture) (leaf : Leaf) (component : ℕ) (block : Square) → is_placed size leaf ≡ true → block.log2 ≡ leaf.block.log2
    → block.levels ≡ map pos (samples_in picture leaf component) → AreBytes (samples_in picture leaf component)
    → HasSamples (picture_source size picture) leaf component block
unfolding picture_source
samples_some size picture leaf component block h side e bytes = record {
  side = side;
  samples = e ∙ ap (λ (l : List ℕ). map pos l) (sym (cond-true (is_placed size leaf) _ _ h));
  fit = subst AreBytes (sym (cond-true (is_placed size leaf) _ _ h)) bytes;
}

pub samples_none : (size : Size) (picture : Picture) (leaf : Leaf) (component log2 : ℕ) (block : Square) → is_placed size leaf ≡ false → log2 ≡ leaf.block.log2
    → block ≡ record { log2 = log2; levels = replicate (area log2) (pos 0) } → HasSamples (picture_source size picture) leaf component block
unfolding picture_source
samples_none size picture leaf component log2 block h side e = record {
  side = ap (λ (b : Square). b.log2) e ∙ side;
  samples = ap (λ (b : Square). b.levels) e ∙ (map_zeros (area log2) ∙ (ap (λ (k : ℕ). map pos (replicate (area k) 0)) side ∙ ap (λ (l : List ℕ). map pos l) (sym (cond-false (is_placed size leaf) _ _ h))));
  fit = subst AreBytes (sym (cond-false (is_placed size leaf) _ _ h)) (zero_bytes (area leaf.block.log2));
}
