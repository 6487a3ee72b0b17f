-- Rasters of colours, and the planes that H.265 codes of them.
use Rattle.std.specs.Prelude.{◌-◌, ℕ, zero, suc, ◌+◌, ◌*◌, Bool, ◌&&◌, List, [], ◌∷◌, nat_lt, nat_le, slice_index_or, slice_index, if◌then◌else◌, ◌≡◌, ◌<◌, length}
use Rattle.std.specs.List.{AllByRecursion}
use Rattle.h265_model.specs.Plain.{Size, Picture, coded, place_values}
use Rattle.h265_model.specs.declared.rect.Rect.{Rect}
use Rattle.h265_model.specs.declared.rgb.Rgb.{Rgb}

-- the colour black (plain)
abbrev pub black : Rgb
black = record { r = 0; g = 0; b = 0 }

-- what a source is, this project's own: a rectangle has a place
abbrev pub paints : Rect → ℕ → ℕ → Bool
paints r x y = nat_le r.x x && nat_lt x (r.x + r.w) && nat_le r.y y && nat_lt y (r.y + r.h)

-- what a source is, this project's own: the rectangle that a copy to a place paints
abbrev pub target : Rect → ℕ → ℕ → Rect
target r to_x to_y = record { x = to_x; y = to_y; w = r.w; h = r.h }

-- what a source is, this project's own: the column that a copy reads for a place of its target
abbrev pub source_x : Rect → ℕ → ℕ → ℕ
source_x r to_x x = r.x + (x - to_x)

-- what a source is, this project's own: the row that a copy reads for a place of its target
abbrev pub source_y : Rect → ℕ → ℕ → ℕ
source_y r to_y y = r.y + (y - to_y)

-- what a source is, this project's own: the place is in the target of a copy, and its source is in the desktop
abbrev pub copies : Size → Rect → ℕ → ℕ → ℕ → ℕ → Bool
copies size r to_x to_y x y = paints (target r to_x to_y) x y && nat_lt (source_x r to_x x) size.w && nat_lt (source_y r to_y y) size.h

-- what a source is, this project's own: the colours of all places of a picture, in rows from the top
abbrev pub Raster : Type 0
Raster = List Rgb

-- the raster of a picture that is black everywhere (plain)
abbrev pub black_raster : Size → Raster
black_raster size = place_values size.w size.h (λ x y. black)

-- ---- the coded picture (6.2: luma, Cb and Cr carry G, B and R, as matrix_coeffs 0 says, E.3.1)

-- the components of a colour: luma, Cb and Cr carry G, B and R, as matrix_coeffs 0 says (6.2, E.3.1)
abbrev pub component : ℕ → Rgb → ℕ
component zero c = c.g
component (suc zero) c = c.b
component (suc (suc n)) c = c.r

-- the samples of a raster in the coded picture, and 0 outside the conformance window (6.2, 7.4.3.2.1)
unfoldable pub coded_picture : Size → Raster → Picture
coded_picture size r c x y = if nat_lt x size.w && nat_lt y size.h then component c (slice_index_or r (y * size.w + x) black) else 0

-- a sample array of a picture's coded area, in rows from the top (6.2)
abbrev pub plane : Size → Picture → ℕ → List ℕ
plane size p c = place_values (coded size.w) (coded size.h) (p c)

-- the three sample arrays of a picture's coded area (6.2)
abbrev pub planes : Size → Picture → List (List ℕ)
planes size p = plane size p 0 ∷ plane size p 1 ∷ plane size p 2 ∷ []

-- the picture that three sample arrays store, at places inside its coded area (6.2)
unfoldable pub stored_picture : Size → List (List ℕ) → Picture
stored_picture size ps c x y = slice_index (slice_index_or ps c []) (y * coded size.w + x)

-- a picture of zeros (plain)
abbrev pub blank : Picture
blank c x y = 0

-- the raster in a picture: its conformance window, of G, B and R (7.4.3.2.1, E.3.1)
unfoldable pub crop : Size → Picture → Raster
crop size p = place_values size.w size.h (λ x y. record { r = p 2 x y; g = p 0 x y; b = p 1 x y })

-- a colour of three bytes (plain)
pub record IsColour (c : Rgb) : Type 0 where
  pub r : c.r < 256
  pub g : c.g < 256
  pub b : c.b < 256

-- what a source is, this project's own: a raster of this size
pub record IsRaster (size : Size) (raster : Raster) : Type 0 where
  pub places : length raster ≡ size.w * size.h
  pub colours : AllByRecursion IsColour raster
