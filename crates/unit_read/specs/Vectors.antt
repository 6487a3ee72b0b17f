-- Vectors in whole samples.
use Rattle.std.specs.Prelude.{ℤ, Option, Some, None}
use Rattle.h265_model.specs.declared.moves.Vector.{Vector}
use Rattle.h265_model.specs.Motion.{vector, whole_part}

abbrev pub both_of : Option ℤ → Option ℤ → Option Vector
both_of None y = None
both_of (Some x) None = None
both_of (Some x) (Some y) = Some (vector x y)

-- the vector with this predictor and this difference, where it is in whole samples
abbrev pub whole_of : Vector → Vector → Option Vector
whole_of p d = both_of (whole_part p.x d.x) (whole_part p.y d.y)
