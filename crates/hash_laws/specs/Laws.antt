-- Laws over the definitions of streams with a hash after each picture.
use Rattle.std.specs.Prelude.{◌≡◌, List, Ok, IsTrue}
use Rattle.std.specs.List.{AllByRecursion}
use Rattle.h265_model.specs.declared.extra.Extra.TheVariants.{Hash}
use Rattle.h265_model.specs.Raster.{Raster, IsRaster}
use Rattle.h265_model.specs.Settings.{Settings, is_size}
use Rattle.h265_model.specs.Stream.{stream_of}
use Rattle.h265_model.specs.Decode.{decode}

-- the stream of a list of pictures, each with its hash, is decoded to them: each hash is that of its picture
abbrev pub EachHashedStreamIsDecoded : Type 0
EachHashedStreamIsDecoded =
    (settings : Settings) (pictures : List Raster) → settings.extra ≡ Hash → IsTrue (is_size settings.size) → AllByRecursion (IsRaster settings.size) pictures →
    decode (stream_of settings pictures) ≡ Ok (settings.size, pictures)
