-- A stream that is checked, and opened again.
use Rattle.std.proofs.Common.{◌≡◌, ℕ, List, Option, Some, None, Result, Ok, Err, refl, sym, subst, arith}
use Rattle.std.specs.Prelude.{IsOk}
use Rattle.h265_model.specs.Plain.{Size}
use Rattle.h265_model.specs.Raster.{Raster}
use Rattle.h265_model.specs.Decode.{decode}
use Rattle.stream_decode.specs.Readings.{Reading, reading_of}
use Rattle.stream_decode.specs.Answers.{Opens}
use Rattle.stream_decode.specs.declared.error.DecodeError.{DecodeError}
use Rattle.stream_decode.specs.declared.error.DecodeError.TheVariants as reading
use Rattle.screenrec.specs.Decoding.{IsServable}
use Rattle.screenrec.specs.Walks.{Walks, Checks, IsOpened}
use Rattle.screenrec.proofs.ReadingLaws.{few_pictures, decode_refused, decode_whole, decode_stopped}

-- a stream that is walked through
pub checked : (bytes : List ℕ) (r : Reading) (answer : Result (Unit {0}) DecodeError) → reading_of bytes ≡ Ok r → Walks r.stop answer → Checks bytes answer
checked bytes r (Ok done) e w = subst IsOk (sym (decode_whole bytes r e w)) refl
checked bytes r (Err (reading.BadStream at)) e w = decode_stopped bytes r at e w
checked bytes r (Err reading.NoMemory) e w = tt

-- one that isn't opened
pub unopened : (bytes : List ℕ) (error : DecodeError) → Opens (reading_of bytes) (Err error) → Checks bytes (Err error)
unopened bytes (reading.BadStream at) e = decode_refused bytes at e
unopened bytes reading.NoMemory e = tt

err_is_not : (d : Result (Size × List Raster) ℕ) (n : ℕ) → d ≡ Err n → IsOk d → ⊥
err_is_not (Ok x) n e k = absurd (cc)
err_is_not (Err m) n e k = absurd (cc)

-- one that was checked is opened again
pub opened : (bytes : List ℕ) (r : Reading) → IsServable bytes → reading_of bytes ≡ Ok r → IsOpened bytes r
opened bytes r s e = at r.stop refl
  where
    at : (stop : Option ℕ) → r.stop ≡ stop → IsOpened bytes r
    at None same = record {
      stream = record { within = s.within; decodes = decode_whole bytes r e same };
      stop = same;
      few = omega (arith, s.within, few_pictures bytes r e);
    }
    at (Some n) same = absurd (err_is_not (decode bytes) n (decode_stopped bytes r n e same) s.decodes)

pub not_refused : (bytes : List ℕ) (at : ℕ) → IsServable bytes → reading_of bytes ≡ Err at → ⊥
not_refused bytes at s e = err_is_not (decode bytes) at (decode_refused bytes at e) s.decodes
