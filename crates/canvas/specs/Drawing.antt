-- What is drawn of a picture.
use Rattle.std.specs.Prelude.{◌≡◌, ◌<◌, ◌≤◌, ℕ, suc, ◌+◌, ◌^◌, true, List, Option, None, ℤ, pos, negsuc}
use Rattle.std.specs.List.{AllByRecursion}
use Rattle.h265_model.specs.declared.moves.Vector.{Vector}
use Rattle.h265_model.specs.Plain.{Size, Picture}
use Rattle.h265_model.specs.Motion.{moved}
use Rattle.h265_model.specs.Predict.{is_inside, prediction}
use Rattle.h265_model.specs.Raster.{blank}
use Rattle.h265_model.specs.Rebuild.{sums, with_units}
use Rattle.h265_model.specs.Tree.{ReadUnit, vector_of}
use Rattle.px_plane.specs.Planes.{Planes, IsPicture, Stores, picture_of}
use Rattle.px_plane.specs.Rows.{with_copy}
use Rattle.leaf_sink.specs.Units.{is_covered, levels_or}
use Rattle.h265_model.specs.declared.block.CodingBlock.{CodingBlock}

-- the last picture, and the one that is being drawn
pub record Pictures : Type 0 where
  pub last : Planes
  pub drawn : Planes

-- two pictures of the same size
pub record ArePictures (p : Pictures) : Type 0 where
  pub same : p.drawn.size ≡ p.last.size
  pub last : IsPicture p.last
  pub drawn : IsPicture p.drawn

-- Wherever these units are, the picture that is drawn has the samples that rebuilding gives of them after the last picture (8.6). `before` is
-- any picture that the last one stores.
pub record Draws (p : Pictures) (units : List ReadUnit) : Type 0 where
  pub each : (before : Picture) → Stores p.last before → (c x y : ℕ) → c < 3 → is_inside p.last.size x y ≡ true → is_covered units x y ≡ true
      → picture_of p.drawn c x y ≡ with_units p.last.size before blank units c x y

-- these units cover the whole picture
pub record AreWhole (size : Size) (units : List ReadUnit) : Type 0 where
  pub each : (x y : ℕ) → is_inside size x y ≡ true → is_covered units x y ≡ true

-- none of these units is copied
abbrev pub AreStill : List ReadUnit → Type 0
AreStill units = AllByRecursion (λ (unit : ReadUnit). vector_of unit.content ≡ None) units

-- a coordinate that a vector moves to one from 0 to 4096
abbrev pub CanMove : ℕ → ℤ → Type 0
CanMove x (pos n) = x + n ≤ 4096
CanMove x (negsuc n) = suc n ≤ x

-- a component of a block as it is drawn: prediction from a picture, and levels
abbrev pub drawn_block : Size → Picture → ℕ → ℕ → CodingBlock → Option (List ℤ) → List ℕ
drawn_block size now mode component block levels = sums (prediction size now mode component block) (levels_or block.log2 levels)

-- ---- one unit

-- the last picture is as before, and the other one of its size, with new samples
pub record IsDrawn (old new : Pictures) (f : Picture) : Type 0 where
  pub last : new.last ≡ old.last
  pub samples : Stores new.drawn f

-- a block was copied from the last picture
abbrev pub IsCopied : Pictures → Pictures → ℕ → ℕ → ℕ → Vector → Type 0
IsCopied old new x y log2 v = IsDrawn old new (with_copy (picture_of old.drawn) (picture_of old.last) (moved x v.x) (moved y v.y) x y (2 ^ log2))
