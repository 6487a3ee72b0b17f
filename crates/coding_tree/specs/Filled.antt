-- What a source fills a block with.
use Rattle.std.specs.Prelude.{◌≡◌, ◌<◌, ℕ, map, ℤ, pos, negsuc}
use Rattle.std.specs.List.{AllByRecursion}
use Rattle.h265_model.specs.Residual.{AreLevels}
use Rattle.h265_model.specs.Tree.{Source}
use Rattle.h265_model.specs.declared.leaf.Leaf.{Leaf}
use Rattle.bin_items.specs.Square.{Square}

-- the block has the levels of this leaf and component
pub record HasLevels (source : Source) (leaf : Leaf) (component : ℕ) (block : Square) : Type 0 where
  pub side : block.log2 ≡ leaf.block.log2
  pub levels : block.levels ≡ source.levels leaf component
  pub fit : AreLevels block.levels

-- the block has the samples of this leaf and component
pub record HasSamples (source : Source) (leaf : Leaf) (component : ℕ) (block : Square) : Type 0 where
  pub side : block.log2 ≡ leaf.block.log2
  pub samples : block.levels ≡ map pos (source.samples leaf component)
  pub fit : AllByRecursion (λ x. x < 256) (source.samples leaf component)

-- a sample as a level
abbrev pub IsSample : ℤ → Type 0
IsSample (pos n) = n < 256
IsSample (negsuc n) = ⊥
