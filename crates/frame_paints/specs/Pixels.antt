-- Pixels of a picture.
use Rattle.std.specs.Prelude.{ℕ, List, [], ◌∷◌}
use Rattle.h265_model.specs.declared.rgb.Rgb.{Rgb}
use Rattle.px_plane.specs.Planes.{Planes, picture_of}

-- the colour of a place
abbrev pub colour_at : Planes → ℕ → ℕ → Rgb
colour_at p x y = record { r = picture_of p 2 x y; g = picture_of p 0 x y; b = picture_of p 1 x y }

-- pixels of these samples
abbrev pub mixed : List ℕ → List ℕ → List ℕ → List Rgb
mixed (r ∷ rs) (g ∷ gs) (b ∷ bs) = record { r = r; g = g; b = b } ∷ mixed rs gs bs
mixed _ _ _ = []
