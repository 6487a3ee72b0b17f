-- Blocks of two pictures, position by position.
use Rattle.std.specs.Prelude.{◌≡◌, ◌<◌, ◌≤◌, length, ℕ, ◌+◌, Bool, true, false, ◌&&◌, List, [], ◌∷◌, ◌==◌, slice_index, if◌then◌else◌}
use Rattle.h265_model.specs.Plain.{Picture, place_values}
use Rattle.h265_model.specs.declared.rect.Rect.{Rect}
use Rattle.px_plane.specs.declared.compare.RowPart.{RowPart}

-- two pictures have the same three samples at a place
abbrev pub same_at : Picture → Picture → ℕ → ℕ → Bool
same_at p q x y = p 0 x y == q 0 x y && (p 1 x y == q 1 x y && p 2 x y == q 2 x y)

-- whether they have, for each position of a rectangle in rows from the top
abbrev pub same_places : Picture → Picture → Rect → List Bool
same_places p q r = place_values r.w r.h (λ x y. same_at p q (r.x + x) (r.y + y))

-- how many positions are compared: those up to the first that differs, or all
abbrev pub compared : List Bool → ℕ
compared [] = 0
compared (same ∷ others) = if same then 1 + compared others else 1

-- two pictures have the same samples in a rectangle
pub record IsSameBlock (p q : Picture) (r : Rect) : Type 0 where
  pub each : (c x y : ℕ) → c < 3 → x < r.w → y < r.h → p c (r.x + x) (r.y + y) ≡ q c (r.x + x) (r.y + y)

-- n samples of each plane
pub record HasLength (row : RowPart) (n : ℕ) : Type 0 where
  pub g : length row.g.now ≡ n
  pub b : length row.b.now ≡ n
  pub r : length row.r.now ≡ n

-- the samples of n places of a row, from (x, y) on
pub record IsRowPart (p : Picture) (x y n : ℕ) (row : RowPart) : Type 0 where
  pub long : HasLength row n
  pub g : (i : ℕ) → i < n → slice_index row.g.now i ≡ p 0 (x + i) y
  pub b : (i : ℕ) → i < n → slice_index row.b.now i ≡ p 1 (x + i) y
  pub r : (i : ℕ) → i < n → slice_index row.r.now i ≡ p 2 (x + i) y

-- two rows have the same three samples at a position
abbrev pub row_same : RowPart → RowPart → ℕ → Bool
row_same a b i = slice_index a.g.now i == slice_index b.g.now i && (slice_index a.b.now i == slice_index b.b.now i && slice_index a.r.now i == slice_index b.r.now i)

-- the number of positions before the first that differs
pub record IsFront (a b : RowPart) (n front : ℕ) : Type 0 where
  pub within : front ≤ n
  pub same : (i : ℕ) → i < front → row_same a b i ≡ true
  pub differs : front < n → row_same a b front ≡ false
