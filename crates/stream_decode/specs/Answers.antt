-- What reading on answers.
use Rattle.std.specs.Prelude.{◌≡◌, Bool, true, false, ℕ, [], ◌∷◌, Some, None, Result, Ok, Err}
use Rattle.stream_decode.specs.Readings.{Reading, raster_of}
use Rattle.stream_decode.specs.declared.error.DecodeError.{DecodeError}
use Rattle.stream_decode.specs.declared.error.DecodeError.TheVariants.{BadStream, NoMemory}

-- a stream that was opened, or the NAL unit that fails before the first picture; nothing is said of want of memory
abbrev pub Opens : Result Reading ℕ → Result Reading DecodeError → Type 0
Opens told (Ok r) = told ≡ Ok r
Opens told (Err (BadStream at)) = told ≡ Err at
Opens told (Err NoMemory) = Unit {0}

-- the next picture was read: the stream has the others still to come
pub record IsReadOn (old new : Reading) : Type 0 where
  pub size : new.size ≡ old.size
  pub next : old.pictures ≡ raster_of new.picture ∷ new.pictures
  pub stop : new.stop ≡ old.stop
  pub same_size : new.picture.size ≡ new.size

-- true where a picture was read; false just where the stream is at its end; the NAL unit at which it fails; and in all these but the first
-- nothing has changed
abbrev pub ReadsOn : Result Bool DecodeError → Reading → Reading → Type 0
ReadsOn (Ok true) old new = IsReadOn old new
ReadsOn (Ok false) old new = (old.pictures ≡ []) × (old.stop ≡ None) × (new ≡ old)
ReadsOn (Err (BadStream at)) old new = (old.pictures ≡ []) × (old.stop ≡ Some at) × (new ≡ old)
ReadsOn (Err NoMemory) old new = new ≡ old
