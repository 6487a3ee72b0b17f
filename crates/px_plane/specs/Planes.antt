-- A picture as it is stored, and what painting makes of it.
use Rattle.std.specs.Prelude.{◌≡◌, ◌<◌, length, ℕ, zero, suc, ◌+◌, ◌*◌, ◌-◌, Bool, ◌&&◌, List, [], ◌∷◌, nat_lt, slice_index, slice_index_or, replicate, IsTrue, min, if◌then◌else◌}
use Rattle.h265_model.specs.Plain.{Size, Picture, coded, place_values}
use Rattle.h265_model.specs.Settings.{is_size}
use Rattle.h265_model.specs.Raster as rasters
use Rattle.h265_model.specs.Raster.{Raster, component, coded_picture, planes, paints, copies, source_x, source_y}
use Rattle.h265_model.specs.declared.rect.Rect.{Rect}
use Rattle.h265_model.specs.declared.rgb.Rgb.{Rgb}

-- the size of a picture and its planes G, B and R, each in rows of the coded width from the top
pub record Planes : Type 0 where
  pub size : Size
  pub g : List ℕ
  pub b : List ℕ
  pub r : List ℕ

abbrev pub plane_of : Planes → ℕ → List ℕ
plane_of p zero = p.g
plane_of p (suc zero) = p.b
plane_of p (suc (suc c)) = p.r

-- the planes as a list
abbrev pub planes_of : Planes → List (List ℕ)
planes_of p = p.g ∷ p.b ∷ p.r ∷ []

-- the sample of each place: 0 outside the coded size
unfoldable pub picture_of : Planes → Picture
picture_of p c x y = if nat_lt x (coded p.size.w) && nat_lt y (coded p.size.h) then slice_index (plane_of p c) (y * coded p.size.w + x) else 0

-- a size within the limits, and planes that cover the coded size
pub record IsPicture (p : Planes) : Type 0 where
  pub sized : IsTrue (is_size p.size)
  pub g_long : length p.g ≡ coded p.size.w * coded p.size.h
  pub b_long : length p.b ≡ coded p.size.w * coded p.size.h
  pub r_long : length p.r ≡ coded p.size.w * coded p.size.h

-- the picture stores these samples: it has them at each place of the coded size
pub record Stores (p : Planes) (picture : Picture) : Type 0 where
  pub each : (c x y : ℕ) → c < 3 → x < coded p.size.w → y < coded p.size.h → picture_of p c x y ≡ picture c x y

-- the picture shows this raster: its planes are those of the raster's coded picture
pub record Shows (p : Planes) (shown : Raster) : Type 0 where
  pub stored : planes_of p ≡ planes p.size (coded_picture p.size shown)

-- the picture shows these colours, one for each place
abbrev pub ShowsColours : Planes → (ℕ → ℕ → Rgb) → Type 0
ShowsColours p colours = Shows p (place_values p.size.w p.size.h colours)

-- a picture of zeros
abbrev pub black : Size → Planes
black size =
    let zeros : List ℕ = replicate (coded size.w * coded size.h) 0 in
    record { size = size; g = zeros; b = zeros; r = zeros }

-- the rectangle covers this place of the desktop
abbrev pub covers : Size → Rect → ℕ → ℕ → Bool
covers size r x y = nat_lt x size.w && nat_lt y size.h && paints r x y

-- the samples after a rectangle is painted with one colour
abbrev pub filled : Planes → Rect → Rgb → Picture
filled p r colour c x y = if covers p.size r x y then component c colour else picture_of p c x y

-- the pixel of a place in a rectangle, whose pixels stand in rows from the top
abbrev pub pixel_at : Rect → List Rgb → ℕ → ℕ → Rgb
pixel_at r pixels x y = slice_index_or pixels ((y - r.y) * r.w + (x - r.x)) rasters.black

-- the samples after a rectangle is painted with pixels
abbrev pub blitted : Planes → Rect → List Rgb → Picture
blitted p r pixels c x y = if covers p.size r x y then component c (pixel_at r pixels x y) else picture_of p c x y

-- the colour of each place after a rectangle is painted, in it by this function
abbrev pub repainted : Rect → (ℕ → ℕ → Rgb) → (ℕ → ℕ → Rgb) → ℕ → ℕ → Rgb
repainted r ink before x y = if paints r x y then ink x y else before x y

-- a copy of the rectangle to a place paints this place of the desktop
abbrev pub copies_to : Size → Rect → ℕ → ℕ → ℕ → ℕ → Bool
copies_to size r to_x to_y x y = nat_lt x size.w && nat_lt y size.h && copies size r to_x to_y x y

-- the samples after a rectangle is copied to a place
abbrev pub copied : Planes → Rect → ℕ → ℕ → Picture
copied p r to_x to_y c x y =
    if copies_to p.size r to_x to_y x y then picture_of p c (source_x r to_x x) (source_y r to_y y) else picture_of p c x y

-- the colour of each place after a rectangle is copied to a place
abbrev pub recopied : Size → Rect → ℕ → ℕ → (ℕ → ℕ → Rgb) → ℕ → ℕ → Rgb
recopied size r to_x to_y before x y = if copies size r to_x to_y x y then before (source_x r to_x x) (source_y r to_y y) else before x y

-- the part of a rectangle that lies in the desktop
abbrev pub clipped : Size → Rect → Rect
clipped size r = record { x = r.x; y = r.y; w = min (r.x + r.w) size.w - r.x; h = min (r.y + r.h) size.h - r.y }

-- a rectangle with a place in the desktop
abbrev pub IsInside : Size → Rect → Type 0
IsInside size r = (r.x < size.w) × (r.y < size.h) × (0 < r.w) × (0 < r.h)
