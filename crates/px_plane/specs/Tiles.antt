-- Tiles of 32 by 32 samples, and what laying the tiles of a job makes of a picture.
use Rattle.std.specs.Prelude.{◌≡◌, ◌<◌, ◌≤◌, length, ℕ, zero, suc, ◌+◌, ◌*◌, ◌/◌, ◌%◌, ◌==◌, List, slice_index, if◌then◌else◌}
use Rattle.std.specs.List.{All, Contains}
use Rattle.h265_model.specs.declared.job.Job.{Job}
use Rattle.h265_model.specs.Plain.{Size, Picture, coded, ctus, ctu_x, ctu_y}
use Rattle.h265_model.specs.Tiles.{tile_count}
use Rattle.px_plane.specs.declared.plane.Sides.{Sides}
use Rattle.px_plane.specs.Planes.{Planes, IsPicture, picture_of}
use Rattle.px_plane.specs.Rows.{IsWithin, is_in}

-- the tile that has a place
abbrev pub tile_of : Size → ℕ → ℕ → ℕ
tile_of size x y = y / 32 * ctus size.w + x / 32

-- where the sample of a place stands among the 3072 of its tile: G, B and R, each in rows
abbrev pub in_tile : ℕ → ℕ → ℕ → ℕ
in_tile c x y = c * 1024 + (y % 32 * 32 + x % 32)

-- the samples after the first n tiles of a job are laid: those of the last of these tiles that has the place, or else as before
abbrev pub laid_first : Planes → Job → ℕ → Picture
laid_first p job zero c x y = picture_of p c x y
laid_first p job (suc n) c x y =
    if slice_index job.tiles n == tile_of p.size x y then slice_index job.samples (n * 3072 + in_tile c x y) else laid_first p job n c x y

-- the samples after a job is laid
abbrev pub laid : Planes → Job → Picture
laid p job = laid_first p job (length job.tiles)

-- a job whose tiles lie in a picture of this size, with all samples of each
pub record IsJobOf (size : Size) (job : Job) : Type 0 where
  pub tiles : All (λ t. t < tile_count size) job.tiles
  pub samples : length job.samples ≡ length job.tiles * 3072

-- outside the listed tiles the picture has these samples already
pub record DiffersOnlyIn (tiles : List ℕ) (p : Planes) (picture : Picture) : Type 0 where
  pub same : (c x y : ℕ) → c < 3 → x < coded p.size.w → y < coded p.size.h → (Contains tiles (tile_of p.size x y) → ⊥) → picture_of p c x y ≡ picture c x y

-- the part of the coded picture that lies in a tile
pub record IsTilePart (size : Size) (tile : ℕ) (part : Sides) : Type 0 where
  pub within : IsWithin size part
  pub left : part.left ≡ ctu_x size tile
  pub right : part.right ≤ part.left + 32
  pub top : part.top ≡ ctu_y size tile
  pub bottom : part.bottom ≤ part.top + 32
  pub has : (x y : ℕ) → x < coded size.w → y < coded size.h → is_in part x y ≡ (tile == tile_of size x y)

-- a picture after one tile was laid
pub record IsTileLaid (old new : Planes) (tile : ℕ) (samples : List ℕ) : Type 0 where
  pub size : new.size ≡ old.size
  pub whole : IsPicture new
  pub each : (c x y : ℕ) → c < 3 → x < coded old.size.w → y < coded old.size.h
      → picture_of new c x y ≡ (if tile == tile_of old.size x y then slice_index samples (in_tile c x y) else picture_of old c x y)
