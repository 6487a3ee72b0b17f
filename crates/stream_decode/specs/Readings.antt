-- What is still to be read of a stream, picture by picture.
use Rattle.std.specs.Prelude.{ℕ, ◌+◌, Bool, true, false, ◌&&◌, not, List, [], ◌∷◌, ◌++◌, drop, Option, Some, None, is_some, option_map, Result, Ok, Err, bytes_eq}
use Rattle.h265_model.specs.Plain.{Size}
use Rattle.h265_model.specs.Bits.{◌>>-◌}
use Rattle.h265_model.specs.Raster.{Raster, crop}
use Rattle.h265_model.specs.NalUnits.{NalUnit}
use Rattle.h265_model.specs.Hash.{hash_header}
use Rattle.h265_model.specs.Decode.{Stand, at_first, step, hash_step, shown, units_or_number, sets_or_number}
use Rattle.px_plane.specs.Planes.{Planes, black, picture_of}

-- the pictures that are still to be read, in the order of output, and the number of the NAL unit that fails after them, if one does
pub record Rest : Type 0 where
  pub pictures : List Raster
  pub stop : Option ℕ

-- the next NAL unit is a picture hash, and it isn't that of the picture that stands (7.4.2.4.4, D.3.19)
abbrev pub is_hash_refused : Stand → List NalUnit → Bool
is_hash_refused stand [] = false
is_hash_refused stand (unit ∷ units) = bytes_eq unit.header hash_header && not (is_some (hash_step stand unit.rbsp))

-- a picture goes out together with its hash, if one follows: not before a hash that is refused
abbrev pub with_shown : List Raster → Bool → Rest → Rest
with_shown pictures true rest = rest
with_shown pictures false rest = record { pictures = pictures ++ rest.pictures; stop = rest.stop }

-- a stream doesn't end within a picture (7.4.2.4.5)
abbrev pub stop_at_end : ℕ → Stand → Option ℕ
stop_at_end n stand = option_map (λ _. n) stand.begun

-- what these NAL units, of which the first has the number n, have still to give (8.1.1)
unfoldable pub rest_of : Size → Bool → ℕ → Stand → List NalUnit → Rest
rest_of size segments n stand [] = record { pictures = []; stop = stop_at_end n stand }
rest_of size segments n stand (unit ∷ units) = elim (step size segments stand unit) [
  | None ↦ record { pictures = []; stop = Some n }
  | Some after ↦ with_shown (shown size after) (is_hash_refused after units) (rest_of size segments (n + 1) after units)
]

-- a stream that is being read: the size of its pictures, those that are still to be read, the number of the NAL unit that fails after
-- them, if one does, and the last picture that was read, which is black before the first
pub record Reading : Type 0 where
  pub size : Size
  pub pictures : List Raster
  pub stop : Option ℕ
  pub picture : Planes

abbrev pub reading : Size → Rest → Planes → Reading
reading size rest picture = record { size = size; pictures = rest.pictures; stop = rest.stop; picture = picture }

-- a stream of these bytes before its first picture, or the number of the NAL unit that is none, or of the parameter set that fails (B.2.1, 7.4.2.4.2)
abbrev pub reading_of : List ℕ → Result Reading ℕ
reading_of bytes =
    units_or_number bytes >>- λ us.
    sets_or_number us >>- λ sets.
    Ok (reading sets.0 (rest_of sets.0 sets.1 3 at_first (drop 3 us)) (black sets.0))

-- the raster that a picture shows (7.4.3.2.1)
abbrev pub raster_of : Planes → Raster
raster_of p = crop p.size (picture_of p)

-- what decoding gives, by what is still to be read: the size and the pictures, or the NAL unit that fails
abbrev pub decoded : Reading → Result (Size × List Raster) ℕ
decoded r = elim r.stop [ None ↦ Ok (r.size, r.pictures) | Some n ↦ Err n ]
