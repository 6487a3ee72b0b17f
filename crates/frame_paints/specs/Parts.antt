-- Parts of two pictures of the same size.
use Rattle.std.specs.Prelude.{◌≡◌, ℕ, ◌+◌, ◌*◌, ◌<◌, ◌≤◌}
use Rattle.h265_model.specs.Plain.{Size}
use Rattle.h265_model.specs.Raster.{component}
use Rattle.h265_model.specs.declared.rect.Rect.{Rect}
use Rattle.h265_model.specs.declared.rgb.Rgb.{Rgb}
use Rattle.recorder_model.specs.Script.{most_pixels}
use Rattle.px_plane.specs.Planes.{Planes, picture_of}

-- at the places between these sides two pictures have the same samples
pub record SameBetween (p q : Planes) (left right top bottom : ℕ) : Type 0 where
  pub each : (c x y : ℕ) → c < 3 → left ≤ x → x < right → top ≤ y → y < bottom → picture_of p c x y ≡ picture_of q c x y

-- at the places of a rectangle
abbrev pub SameIn : Planes → Planes → Rect → Type 0
SameIn p q r = SameBetween p q r.x (r.x + r.w) r.y (r.y + r.h)

-- at the places of a rectangle that aren't in another one
pub record SameBeside (p q : Planes) (whole part : Rect) : Type 0 where
  pub each : (c x y : ℕ) → c < 3 → whole.x ≤ x → x < whole.x + whole.w → whole.y ≤ y → y < whole.y + whole.h
      → (part.x ≤ x → x < part.x + part.w → part.y ≤ y → y < part.y + part.h → ⊥) → picture_of p c x y ≡ picture_of q c x y

-- at all places of the desktop but those between these sides a picture is as before
pub record KeptBeside (before after : Planes) (left right top bottom : ℕ) : Type 0 where
  pub each : (c x y : ℕ) → c < 3 → x < before.size.w → y < before.size.h
      → (left ≤ x → x < right → top ≤ y → y < bottom → ⊥) → picture_of after c x y ≡ picture_of before c x y

-- a part of a desktop that one blit can paint
pub record IsPiece (size : Size) (r : Rect) : Type 0 where
  pub wide : 1 ≤ r.w
  pub high : 1 ≤ r.h
  pub across : r.x + r.w ≤ size.w
  pub down : r.y + r.h ≤ size.h
  pub few : r.w * r.h ≤ most_pixels

-- a rectangle in another one
pub record IsPartOf (whole part : Rect) : Type 0 where
  pub left : whole.x ≤ part.x
  pub right : part.x + part.w ≤ whole.x + whole.w
  pub top : whole.y ≤ part.y
  pub bottom : part.y + part.h ≤ whole.y + whole.h

-- a picture has one sample of a component at the places of a rectangle
pub record HasSample (p : Planes) (r : Rect) (c sample : ℕ) : Type 0 where
  pub each : (x y : ℕ) → r.x ≤ x → x < r.x + r.w → r.y ≤ y → y < r.y + r.h → picture_of p c x y ≡ sample

-- it has one colour there
pub record HasColour (p : Planes) (r : Rect) (colour : Rgb) : Type 0 where
  pub each : (c : ℕ) → c < 3 → HasSample p r c (component c colour)

-- a rectangle in a desktop
pub record IsPlaced (size : Size) (r : Rect) : Type 0 where
  pub wide : 1 ≤ r.w
  pub high : 1 ≤ r.h
  pub across : r.x + r.w ≤ size.w
  pub down : r.y + r.h ≤ size.h

-- a rectangle in the rows from top to before bottom of a desktop
pub record IsInRows (size : Size) (r : Rect) (top bottom : ℕ) : Type 0 where
  pub placed : IsPlaced size r
  pub high : top ≤ r.y
  pub low : r.y + r.h ≤ bottom
