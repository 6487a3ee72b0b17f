-- What a block costs under a mode, and the cheapest of some modes.
use Rattle.std.specs.Prelude.{◌≡◌, ◌<◌, ◌≤◌, ℕ, ◌+◌, ◌*◌, ◌^◌, List, length, take, slice_index, sum_by, Option, Some, None, if◌then◌else◌, ℤ}
use Rattle.h265_model.specs.declared.block.CodingBlock.{CodingBlock}
use Rattle.h265_model.specs.declared.leaf.Kind.TheVariants.{Intra}
use Rattle.h265_model.specs.Plain.{Size, Picture, side}
use Rattle.h265_model.specs.Predict.{square, neighbours, substituted, smoothed, is_filtered, predict}
use Rattle.h265_model.specs.Tree.{differences}
use Rattle.h265_model.specs.Choice.{level_cost}
use Rattle.leaf_cost.specs.declared.plane.PlaneBlock.{PlaneBlock}
use Rattle.leaf_cost.specs.declared.best.LeafBlock.{LeafBlock}
use Rattle.leaf_cost.specs.declared.best.Best.{Best}

-- ---- one component of a block

-- its reference samples are of this side
pub record IsSided (b : PlaneBlock) (log2 : ℕ) : Type 0 where
  pub plain : b.plain.log2 ≡ log2
  pub smoothed : b.smoothed.log2 ≡ log2

-- it is a component of a block of a picture
pub record IsPlaneBlock (b : PlaneBlock) (size : Size) (picture : Picture) (component : ℕ) (block : CodingBlock) : Type 0 where
  pub component_is : b.component ≡ component
  pub samples : take (side block * side block) b.samples ≡ square (side block) (λ i j. picture component (block.x + i) (block.y + j))
  pub plain : b.plain.samples ≡ substituted (neighbours size picture component block)
  pub smoothed_is : b.smoothed.samples ≡ smoothed (substituted (neighbours size picture component block))
  pub sided : IsSided b block.log2

-- its levels under a mode
abbrev pub block_levels : PlaneBlock → ℕ → ℕ → List ℤ
block_levels b mode log2 =
    differences (take (2 ^ log2 * 2 ^ log2) b.samples) (predict mode b.component log2 (if is_filtered mode log2 then b.smoothed.samples else b.plain.samples))

-- ---- the three components

pub record AreSided (b : LeafBlock) (log2 : ℕ) : Type 0 where
  pub g : IsSided b.g log2
  pub b_is : IsSided b.b log2
  pub r : IsSided b.r log2

abbrev pub block_cost : LeafBlock → ℕ → ℕ → ℕ
block_cost b mode log2 =
    8 + sum_by level_cost (block_levels b.g mode log2) + sum_by level_cost (block_levels b.b mode log2) + sum_by level_cost (block_levels b.r mode log2)

-- ---- answers under a limit

-- a cost, where it is below a limit
abbrev pub IsBelow : Option ℕ → ℕ → ℕ → Type 0
IsBelow None limit cost = limit ≤ cost
IsBelow (Some v) limit cost = (v ≡ cost) × (cost < limit)

-- the first n modes cost at least the limit
pub record AreDear (limit : ℕ) (f : ℕ → ℕ) (modes : List ℕ) (n : ℕ) : Type 0 where
  pub each : (i : ℕ) → i < n → limit ≤ f (slice_index modes i)

-- the cheapest of the first n modes, and the first of equal ones, costs less than the limit
pub record IsCheapest (b : Best) (limit : ℕ) (f : ℕ → ℕ) (modes : List ℕ) (n : ℕ) : Type 0 where
  pub at : ℕ
  pub within : at < n
  pub kind : b.kind ≡ Intra (slice_index modes at)
  pub cost : b.cost ≡ f (slice_index modes at)
  pub below : b.cost < limit
  pub before : (i : ℕ) → i < at → b.cost < f (slice_index modes i)
  pub least : (i : ℕ) → i < n → b.cost ≤ f (slice_index modes i)

-- the cheapest of some modes, where it costs less than the limit
abbrev pub IsBest : Option Best → ℕ → (ℕ → ℕ) → List ℕ → Type 0
IsBest None limit f modes = AreDear limit f modes (length modes)
IsBest (Some b) limit f modes = IsCheapest b limit f modes (length modes)

-- the same of the first n modes, where this is the cost to get below next
abbrev pub IsBestSoFar : Option Best → ℕ → ℕ → (ℕ → ℕ) → List ℕ → ℕ → Type 0
IsBestSoFar None bound limit f modes n = (bound ≡ limit) × AreDear limit f modes n
IsBestSoFar (Some b) bound limit f modes n = (bound ≡ b.cost) × IsCheapest b limit f modes n
