-- Laws of streams of every kind.
use Rattle.std.specs.Prelude.{◌≡◌, ◌<◌, ℕ, suc, true, List, take, Ok, IsTrue}
use Rattle.std.specs.List.{AllByRecursion}
use Rattle.h265_model.specs.Plain.{coded, joined}
use Rattle.h265_model.specs.Raster.{Raster, IsRaster}
use Rattle.h265_model.specs.Settings.{Settings, has_segments, is_size}
use Rattle.h265_model.specs.Stream.{pieces, stream_of}
use Rattle.h265_model.specs.Decode.{decode}

-- the stream of a list of pictures, whatever it has besides them, is decoded to them; with a segment for each row, pictures have two coding tree blocks in a row at least
abbrev pub EachExtraStreamIsDecoded : Type 0
EachExtraStreamIsDecoded =
    (settings : Settings) (pictures : List Raster) → IsTrue (is_size settings.size) → (has_segments settings.extra ≡ true → 32 < coded settings.size.w) →
    AllByRecursion (IsRaster settings.size) pictures → decode (stream_of settings pictures) ≡ Ok (settings.size, pictures)

-- the stream's pieces so far are decoded to the pictures so far
abbrev pub EachBeginningIsDecoded : Type 0
EachBeginningIsDecoded =
    (settings : Settings) (pictures : List Raster) (n : ℕ) → IsTrue (is_size settings.size) → (has_segments settings.extra ≡ true → 32 < coded settings.size.w) →
    AllByRecursion (IsRaster settings.size) pictures → decode (joined (take (suc n) (pieces settings pictures))) ≡ Ok (settings.size, take n pictures)
