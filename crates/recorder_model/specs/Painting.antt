-- What a desktop shows after some lines, and the pictures of a history.
use Rattle.std.specs.Prelude.{ℕ, ◌+◌, ◌-◌, ◌*◌, List, [], ◌∷◌, ◌++◌, fold, slice_index_or, if◌then◌else◌}
use Rattle.std.specs.List.{AllByRecursion}
use Rattle.recorder_model.specs.declared.entry.Entry.{Entry}
use Rattle.recorder_model.specs.declared.entry.Entry.TheVariants as entry
use Rattle.h265_model.specs.Plain.{Size, place_values}
use Rattle.h265_model.specs.declared.rgb.Rgb.{Rgb}
use Rattle.recorder_model.specs.declared.line.Line.{Line}
use Rattle.recorder_model.specs.declared.line.Line.TheVariants.{Fill, Blit, Copy, Cut}
use Rattle.h265_model.specs.Raster.{Raster, IsColour, black, paints, copies, source_x, source_y}

-- the colours that a desktop shows
abbrev pub Shown : Type 0
Shown = ℕ → ℕ → Rgb

-- what a desktop shows after one more line
abbrev pub painted : Size → Shown → Line → Shown
painted size shown (Fill r colour) x y = if paints r x y then colour else shown x y
painted size shown (Blit r pixels) x y = if paints r x y then slice_index_or pixels ((y - r.y) * r.w + (x - r.x)) black else shown x y
painted size shown (Copy r to_x to_y) x y = if copies size r to_x to_y x y then shown (source_x r to_x x) (source_y r to_y y) else shown x y
painted size shown Cut x y = shown x y

-- nothing is painted
abbrev pub unpainted : Shown
unpainted x y = black

-- what a desktop of this size shows after these lines: at first it is black
unfoldable pub colour : Size → List Line → Shown
colour size lines = fold (painted size) unpainted lines

-- the colours of all places of a desktop of this size
unfoldable pub raster : Size → List Line → Raster
raster size lines = place_values size.w size.h (colour size lines)

-- ---- the pictures of a history

-- the line that an entry accepts; of a history that begins a merge there always is one
abbrev pub accepted_line : List (List Line) → ℕ → ℕ → Line
accepted_line scripts client index = slice_index_or (slice_index_or scripts client []) index Cut

-- the lines that a history accepts, in order
unfoldable pub lines_of : List (List Line) → List Entry → List Line
lines_of scripts [] = []
lines_of scripts (entry.Line client index ∷ h) = accepted_line scripts client index ∷ lines_of scripts h
lines_of scripts (entry.Take number ∷ h) = lines_of scripts h

-- the desktop at each cut, after the lines so far
unfoldable pub rasters_after : Size → List Line → List Line → List Raster
rasters_after size before [] = []
rasters_after size before (Fill r c ∷ lines) = rasters_after size (before ++ Fill r c ∷ []) lines
rasters_after size before (Blit r pixels ∷ lines) = rasters_after size (before ++ Blit r pixels ∷ []) lines
rasters_after size before (Copy r to_x to_y ∷ lines) = rasters_after size (before ++ Copy r to_x to_y ∷ []) lines
rasters_after size before (Cut ∷ lines) = raster size before ∷ rasters_after size (before ++ Cut ∷ []) lines

-- one raster for each cut that the history accepts, in order
abbrev pub pictures : Size → List (List Line) → List Entry → List Raster
pictures size scripts h = rasters_after size [] (lines_of scripts h)

-- a line whose colours are of three bytes
abbrev pub HasColours : Line → Type 0
HasColours (Fill r c) = IsColour c
HasColours (Blit r pixels) = AllByRecursion IsColour pixels
HasColours (Copy r to_x to_y) = Unit {0}
HasColours Cut = Unit {0}
