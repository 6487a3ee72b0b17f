-- The neighbours of a block in the order of search, and how missing ones are filled.
use Rattle.std.specs.Prelude.{◌≡◌, ◌<◌, ℕ, zero, suc, ◌+◌, ◌*◌, ◌-◌, Bool, true, false, List, slice_index, Option, Some, None}
use Rattle.h265_model.specs.declared.block.CodingBlock.{CodingBlock}
use Rattle.h265_model.specs.Plain.{Size, Picture, side}
use Rattle.h265_model.specs.Predict.{seen}

-- the reference samples of a block, from p[-1][2n - 1] up to p[-1][-1] and on to p[2n - 1][-1], where n is 2 ^ log2
pub record References : Type 0 where
  pub log2 : ℕ
  pub samples : List ℕ

-- neighbour number i of a block
abbrev pub neighbour : Size → Picture → ℕ → CodingBlock → ℕ → Option ℕ
neighbour size picture component block i =
    seen size picture component block.x block.y (block.x + (i - 2 * side block)) (block.y + (2 * side block - i))

-- those in the column on the left, and in the row above
abbrev pub left_of : Size → Picture → ℕ → ℕ → ℕ → ℕ → Option ℕ
left_of size picture component x y below = seen size picture component x y x below

abbrev pub above : Size → Picture → ℕ → ℕ → ℕ → ℕ → Option ℕ
above size picture component x y right = seen size picture component x y right y

abbrev pub value_or : ℕ → Option ℕ → ℕ
value_or before None = before
value_or before (Some v) = v

-- what is carried to place i: the sample of the last neighbour before it that isn't missing, or the first sample
abbrev pub carried : ℕ → (ℕ → Option ℕ) → ℕ → ℕ
carried first f zero = first
carried first f (suc i) = value_or (carried first f i) (f i)

-- n neighbours with the missing ones filled
pub record IsFilled (line : List ℕ) (first : ℕ) (f : ℕ → Option ℕ) (n : ℕ) : Type 0 where
  pub each : (i : ℕ) → i < n → slice_index line i ≡ carried first f (suc i)

-- eight neighbours that are all there with these samples, or all missing
abbrev pub AreAll : Bool → (ℕ → Option ℕ) → (ℕ → ℕ) → Type 0
AreAll true f samples = (j : ℕ) → j < 8 → f j ≡ Some (samples j)
AreAll false f samples = (j : ℕ) → j < 8 → f j ≡ None

-- n neighbours from number a on are missing
pub record AreMissing (f : ℕ → Option ℕ) (a n : ℕ) : Type 0 where
  pub each : (i : ℕ) → i < n → f (a + i) ≡ None

-- the first of n neighbours from number a on that isn't missing
pub record IsFirst (f : ℕ → Option ℕ) (a n v : ℕ) : Type 0 where
  pub at : ℕ
  pub within : at < n
  pub before : AreMissing f a at
  pub here : f (a + at) ≡ Some v

-- what a search among them finds
abbrev pub IsFound : Option ℕ → (ℕ → Option ℕ) → ℕ → ℕ → Type 0
IsFound None f a n = AreMissing f a n
IsFound (Some v) f a n = IsFirst f a n v
