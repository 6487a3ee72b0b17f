-- Pictures as one image after another in the binary PPM form.
use Rattle.std.specs.Prelude.{ℕ, List, [], ◌∷◌, ◌++◌, flat_map, codes, decimal}
use Rattle.h265_model.specs.declared.rgb.Rgb.{Rgb}
use Rattle.h265_model.specs.Plain.{Size}
use Rattle.h265_model.specs.Raster.{Raster}

-- `P6`, the two sides and the greatest value, a line each
abbrev pub frame_head : Size → List ℕ
frame_head size = codes "P6" ++ 10 ∷ decimal size.w ++ 32 ∷ decimal size.h ++ 10 ∷ codes "255" ++ 10 ∷ []

abbrev pub pixel_bytes : Rgb → List ℕ
pixel_bytes c = c.r ∷ c.g ∷ c.b ∷ []

-- a picture: its head, and its pixels in rows from the top
unfoldable pub frame : Size → Raster → List ℕ
frame size raster = frame_head size ++ flat_map pixel_bytes raster

unfoldable pub frames : Size → List Raster → List ℕ
frames size pictures = flat_map (frame size) pictures
