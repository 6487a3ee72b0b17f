-- Parts of planes, and what a write to one leaves.
use Rattle.std.specs.Prelude.{◌≡◌, ◌<◌, ◌≤◌, ℕ, ◌+◌, ◌*◌, ◌-◌, Bool, ◌&&◌, List, ◌==◌, nat_le, nat_lt, slice_index, if◌then◌else◌}
use Rattle.h265_model.specs.Plain.{Size, Picture, coded}
use Rattle.h265_model.specs.declared.rect.Rect.{Rect}
use Rattle.px_plane.specs.declared.plane.Sides.{Sides}
use Rattle.px_plane.specs.Planes.{Planes, IsPicture, picture_of, covers, copies_to}

-- the place is in the rectangle between these sides
abbrev pub is_between : ℕ → ℕ → ℕ → ℕ → ℕ → ℕ → Bool
is_between left right top bottom x y = nat_le left x && nat_lt x right && nat_le top y && nat_lt y bottom

abbrev pub is_in : Sides → ℕ → ℕ → Bool
is_in part x y = is_between part.left part.right part.top part.bottom x y

-- between the sides a plane has new values, and is else as before
abbrev pub IsPutBetween : List ℕ → List ℕ → ℕ → ℕ → ℕ → ℕ → ℕ → (ℕ → ℕ → ℕ) → Type 0
IsPutBetween before after stride left right top bottom f =
    (x y : ℕ) → x < stride → slice_index after (y * stride + x) ≡ (if is_between left right top bottom x y then f x y else slice_index before (y * stride + x))

abbrev pub IsPut : List ℕ → List ℕ → ℕ → Sides → (ℕ → ℕ → ℕ) → Type 0
IsPut before after stride part f = IsPutBetween before after stride part.left part.right part.top part.bottom f

-- the sample of a place in a part of a tile, whose samples are those of G, B and R, each in rows of 32
abbrev pub sample_at : Sides → List ℕ → Picture
sample_at part samples c x y = slice_index samples (c * 1024 + ((y - part.top) * 32 + (x - part.left)))

-- the sample of a place in a part, whose samples stand in rows
abbrev pub row_sample : Sides → List ℕ → ℕ → ℕ → ℕ
row_sample part samples x y = slice_index samples ((y - part.top) * (part.right - part.left) + (x - part.left))

-- the part lies in the coded picture
pub record IsWithin (size : Size) (part : Sides) : Type 0 where
  pub across : part.left ≤ part.right
  pub wide : part.right ≤ coded size.w
  pub down : part.top ≤ part.bottom
  pub tall : part.bottom ≤ coded size.h

-- the part begins where the rectangle does, and doesn't go beyond it
pub record IsPlaced (r : Rect) (part : Sides) : Type 0 where
  pub left : part.left ≡ r.x
  pub right : part.right ≤ r.x + r.w
  pub top : part.top ≡ r.y
  pub bottom : part.bottom ≤ r.y + r.h

-- the part is where the rectangle covers the desktop
pub record IsPartOf (size : Size) (r : Rect) (part : Sides) : Type 0 where
  pub within : IsWithin size part
  pub placed : IsPlaced r part
  pub covered : (x y : ℕ) → covers size r x y ≡ is_in part x y

-- the sample of a place as far from another one as this place is from the part's first one
abbrev pub sample_from : List ℕ → ℕ → Sides → ℕ → ℕ → ℕ → ℕ → ℕ
sample_from plane stride part from_x from_y x y = slice_index plane ((from_y + (y - part.top)) * stride + (from_x + (x - part.left)))

-- the part is where a copy of the rectangle to a place paints the desktop, and its sources lie in the coded picture
pub record IsCopyOf (size : Size) (r : Rect) (to_x to_y : ℕ) (part : Sides) : Type 0 where
  pub within : IsWithin size part
  pub left : part.left ≡ to_x
  pub top : part.top ≡ to_y
  pub source_wide : r.x + (part.right - part.left) ≤ coded size.w
  pub source_tall : r.y + (part.bottom - part.top) ≤ coded size.h
  pub covered : (x y : ℕ) → copies_to size r to_x to_y x y ≡ is_in part x y

-- a picture within its limits, after new samples were put into a part
pub record IsPutInto (old new : Planes) (part : Sides) (f : Picture) : Type 0 where
  pub size : new.size ≡ old.size
  pub whole : IsPicture new
  pub each : (c x y : ℕ) → c < 3 → x < coded old.size.w → y < coded old.size.h → picture_of new c x y ≡ (if is_in part x y then f c x y else picture_of old c x y)

-- ---- squares

-- the place is in the square of side n at (left, top)
abbrev pub is_in_square : ℕ → ℕ → ℕ → ℕ → ℕ → Bool
is_in_square left top n x y = nat_le left x && nat_lt x (left + n) && nat_le top y && nat_lt y (top + n)

-- a picture with the samples of one component in a square, in rows from the top
abbrev pub with_square : Picture → ℕ → ℕ → ℕ → ℕ → List ℕ → Picture
with_square before component left top n samples c x y =
    if c == component && is_in_square left top n x y then slice_index samples ((y - top) * n + (x - left)) else before c x y

-- a picture with a square of another one
abbrev pub with_copy : Picture → Picture → ℕ → ℕ → ℕ → ℕ → ℕ → Picture
with_copy before other from_x from_y left top n c x y =
    if is_in_square left top n x y then other c (from_x + (x - left)) (from_y + (y - top)) else before c x y
