-- What a desktop shows, and what lines make of it.
use Rattle.std.specs.Prelude.{◌≡◌, ℕ, ◌+◌, ◌*◌, ◌&&◌, nat_le, nat_lt, if◌then◌else◌, List, ◌++◌, length, drop, fold, slice_index_or}
use Rattle.h265_model.specs.Plain.{Size, place_values}
use Rattle.h265_model.specs.Raster.{Raster, black, crop}
use Rattle.recorder_model.specs.declared.line.Line.{Line}
use Rattle.recorder_model.specs.Painting.{Shown, painted}
use Rattle.px_plane.specs.Planes.{Planes, picture_of}
use Rattle.paint_script.specs.Scripts.{Script}

-- a desktop of a size, and the raster that it shows
pub record Desktop : Type 0 where
  pub size : Size
  pub shown : Raster

-- the raster in a stored picture
abbrev pub raster_of : Planes → Raster
raster_of p = crop p.size (picture_of p)

-- the colour of each place of a raster
abbrev pub colours_in : Size → Raster → Shown
colours_in size raster x y = slice_index_or raster (y * size.w + x) black

-- what a desktop that showed a raster shows after these lines
abbrev pub painted_over : Size → Raster → List Line → Raster
painted_over size before lines = place_values size.w size.h (fold (painted size) (colours_in size before) lines)

-- a raster with the rows from top to before bottom of another one
abbrev pub with_rows : Size → Raster → ℕ → ℕ → Raster → Raster
with_rows size before top bottom other =
    place_values size.w size.h (λ x y. if nat_le top y && nat_lt y bottom then colours_in size other x y else colours_in size before x y)

-- the lines that a script got
abbrev pub added : Script → Script → List Line
added before after = drop (length before.lines) after.lines

-- a script has its version and its lines, and may have got some
pub record IsLonger (before after : Script) : Type 0 where
  pub version : after.version ≡ before.version
  pub lines : after.lines ≡ before.lines ++ added before after
