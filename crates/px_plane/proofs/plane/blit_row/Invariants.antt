use Rattle.std.proofs.Common.{◌≡◌, ℕ, ◌<◌, get_or}
use Rattle.h265_model.specs.Raster.{black}
use Rattle.h265_model.specs.Raster.{component}
use Rattle.px_plane.proofs.plane.blit_row.Given as goal

abbrev pub invariant-loop-i : goal.invariant-loop-i
invariant-loop-i l = (k : ℕ) → k < l.i → get_or l.row k 0 ≡ component l.number (get_or l.pixels k black)
