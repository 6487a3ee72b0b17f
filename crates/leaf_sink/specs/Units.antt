-- Coding units as they are taken, and what they cover.
use Rattle.std.specs.Prelude.{◌≡◌, ℕ, ◌*◌, ◌^◌, Bool, true, List, [], ◌∷◌, map, length, Option, Some, None, ℤ, pos}
use Rattle.std.specs.List.{list_any}
use Rattle.std.specs.Option.{option_copied}
use Rattle.h265_model.specs.Plain.{block_at, Size, covers}
use Rattle.h265_model.specs.Predict.{is_available, square}
use Rattle.h265_model.specs.Tree.{ReadUnit, Content, leaf_of}
use Rattle.leaf_sink.specs.declared.residuals.Residuals.{Residuals}
use Rattle.h265_model.specs.declared.block.CodingBlock.{CodingBlock}

abbrev pub unit : CodingBlock → Content → ReadUnit
unit block content = record { block = block; content = content }

-- one of these units covers the place
abbrev pub is_covered : List ReadUnit → ℕ → ℕ → Bool
is_covered units x y = list_any (covers x y) (map leaf_of units)

-- these units cover all places that are available to the block at (x, y): those of the picture that come before it in the order of coding (6.4.1)
pub record HasAvailable (size : Size) (units : List ReadUnit) (x y : ℕ) : Type 0 where
  pub each : (px py : ℕ) → is_available size x y px py ≡ true → is_covered units px py ≡ true

-- ---- levels

-- the levels of a component: zeros where it has none
abbrev pub levels_or : ℕ → Option (List ℤ) → List ℤ
levels_or log2 None = square (2 ^ log2) (λ x y. pos 0)
levels_or log2 (Some levels) = levels

-- those of the three components
abbrev pub levels_of : ℕ → Residuals → List (List ℤ)
levels_of log2 r = levels_or log2 (option_copied r.luma) ∷ levels_or log2 (option_copied r.cb) ∷ levels_or log2 (option_copied r.cr) ∷ []

abbrev pub IsLong : ℕ → Option (List ℤ) → Type 0
IsLong log2 None = Unit {0}
IsLong log2 (Some levels) = length levels ≡ 2 ^ log2 * 2 ^ log2

-- a level for each sample of the block, in each component that has levels
pub record AreResiduals (log2 : ℕ) (r : Residuals) : Type 0 where
  pub luma : IsLong log2 (option_copied r.luma)
  pub cb : IsLong log2 (option_copied r.cb)
  pub cr : IsLong log2 (option_copied r.cr)
