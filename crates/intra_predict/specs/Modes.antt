-- The numbers of the modes without a slant.
use Rattle.std.specs.Prelude.{ℕ}
use Rattle.intra_predict.specs.declared.rows.Plain.{Plain}
use Rattle.intra_predict.specs.declared.rows.Plain.TheVariants.{Planar, Dc, Level, Upright}

abbrev pub mode_of : Plain → ℕ
mode_of Planar = 0
mode_of Dc = 1
mode_of Level = 10
mode_of Upright = 26
