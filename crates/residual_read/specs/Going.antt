-- One sub-block before the last one.
use Rattle.std.specs.Prelude.{◌≡◌, ℕ, ◌+◌, Bool, List, ℤ, Option, Some, None}
use Rattle.h265_model.specs.Engine.{Engine}
use Rattle.h265_model.specs.Residual as residual
use Rattle.residual_read.specs.Parts.{subs_with}
use Rattle.scan_orders.specs.Marks.{AreMarks}

-- the reading of the sub-blocks before a number goes on as that before another one
pub record GoesOn (s : residual.Shape) (flags : List Bool) (ended : Bool) (from : ℕ) (levels : List ℤ) (e : Engine) (to : ℕ) (marks : List Bool) (ended' : Bool) (levels' : List ℤ) (d : Engine) : Type 0 where
  pub now : List Bool
  pub are : AreMarks s to now marks
  pub goes : subs_with s flags ended from levels e ≡ subs_with s now ended' to levels' d

abbrev pub Steps : residual.Shape → List Bool → Bool → ℕ → List ℤ → Engine → Option Bool → List Bool → List ℤ → Engine → Type 0
Steps s flags ended number levels e None marks levels' d = subs_with s flags ended (number + 1) levels e ≡ None
Steps s flags ended number levels e (Some ended') marks levels' d = GoesOn s flags ended (number + 1) levels e number marks ended' levels' d
