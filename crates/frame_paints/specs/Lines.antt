-- Lines that a script gets while they are painted.
use Rattle.std.specs.Prelude.{◌≡◌, List, ◌++◌, false, fold, if◌then◌else◌, ℕ}
use Rattle.std.specs.List.{AllByRecursion}
use Rattle.h265_model.specs.Plain.{Picture}
use Rattle.h265_model.specs.Raster.{paints}
use Rattle.h265_model.specs.declared.rect.Rect.{Rect}
use Rattle.recorder_model.specs.declared.line.Line.{Line}
use Rattle.recorder_model.specs.declared.line.Line.TheVariants.{Fill, Blit, Copy, Cut}
use Rattle.recorder_model.specs.Script.{is_cut}
use Rattle.recorder_model.specs.Painting.{Shown, painted}
use Rattle.px_plane.specs.Planes.{Planes, picture_of, ShowsColours, filled, blitted, copied}
use Rattle.paint_script.specs.Scripts.{Script}
use Rattle.frame_paints.specs.Parts.{KeptBeside}

-- the samples after a line is painted
abbrev pub drawn : Planes → Line → Picture
drawn p (Fill r colour) = filled p r colour
drawn p (Blit r pixels) = blitted p r pixels
drawn p (Copy r to_x to_y) = copied p r to_x to_y
drawn p Cut = picture_of p

-- a script got lines that paint, and a picture shows what they make of what it showed
pub record Went (shown : Planes) (script : Script) (shown_after : Planes) (script_after : Script) : Type 0 where
  pub size : shown_after.size ≡ shown.size
  pub version : script_after.version ≡ script.version
  pub lines : List Line
  pub added : script_after.lines ≡ script.lines ++ lines
  pub paint : AllByRecursion (λ line. is_cut line ≡ false) lines
  pub shows : (before : Shown) → ShowsColours shown before → ShowsColours shown_after (fold (painted shown.size) before lines)

-- these lines paint in the rows from top to before bottom alone
pub record PaintsIn (shown : Planes) (script : Script) (shown_after : Planes) (script_after : Script) (top bottom : ℕ) : Type 0 where
  pub went : Went shown script shown_after script_after
  pub beside : KeptBeside shown shown_after 0 shown.size.w top bottom

-- the samples after a rectangle is painted as a frame has it
abbrev pub patched : Planes → Planes → Rect → Picture
patched p frame r c x y = if paints r x y then picture_of frame c x y else picture_of p c x y
