-- Whole blocks.
use Rattle.std.specs.Prelude.{ℕ, ◌/◌, ◌%◌, ◌^◌, List, map}
use Rattle.h265_model.specs.Plain.{below}
use Rattle.h265_model.specs.Residual.{number_of, scan}

-- the numbers of a square's places in a scan, in rows
abbrev pub numbers_of : ℕ → ℕ → List ℕ
numbers_of kind log2 = map (λ i. number_of (i % 2 ^ log2) (i / 2 ^ log2) (scan kind log2)) (below (4 ^ log2))
