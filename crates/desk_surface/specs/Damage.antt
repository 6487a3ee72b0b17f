-- A desktop with a flag for each of its tiles.
use Rattle.std.specs.Prelude.{◌≡◌, ℕ, zero, suc, ◌*◌, Bool, ◌&&◌, List, [], ◌∷◌, ◌++◌, length, map, nat_le, nat_lt, slice_index_or, false, if◌then◌else◌}
use Rattle.recorder_model.specs.declared.line.Line.{Line}
use Rattle.recorder_model.specs.declared.line.Line.TheVariants.{Fill, Blit, Copy, Cut}
use Rattle.h265_model.specs.declared.rect.Rect.{Rect}
use Rattle.h265_model.specs.Plain.{below}
use Rattle.h265_model.specs.Raster.{target}
use Rattle.recorder_model.specs.Desk.{is_touched}
use Rattle.h265_model.specs.Tiles.{tile_count}
use Rattle.px_plane.specs.Planes.{Planes}

pub record Painted : Type 0 where
  pub shown : Planes
  pub flags : List Bool

-- the raised flags are those of the tiles that these lines paint in
pub record IsFlagged (surface : Painted) (since : List Line) : Type 0 where
  pub flags : surface.flags ≡ map (is_touched surface.shown.size since) (below (tile_count surface.shown.size))

-- a blit has a pixel for each place of its rectangle
abbrev pub HasPixels : Line → Type 0
HasPixels (Blit r pixels) = length pixels ≡ r.w * r.h
HasPixels _ = Unit {0}

-- a line that paints in this rectangle
abbrev pub IsOfRect : Line → Rect → Type 0
IsOfRect (Fill r colour) rect = r ≡ rect
IsOfRect (Blit r pixels) rect = r ≡ rect
IsOfRect (Copy r to_x to_y) rect = target r to_x to_y ≡ rect
IsOfRect Cut rect = ⊥

-- a place in the columns from left to before right and the rows from top to before bottom
abbrev pub is_between : ℕ → ℕ → ℕ → ℕ → ℕ → ℕ → Bool
is_between left right top bottom column row = (nat_le left column && nat_lt column right) && (nat_le top row && nat_lt row bottom)

-- the tiles below n whose flag is raised
abbrev pub raised : List Bool → ℕ → List ℕ
raised flags zero = []
raised flags (suc n) = raised flags n ++ (if slice_index_or flags n false then n ∷ [] else [])
