-- Laws over the definitions of streams of pictures alone.
use Rattle.std.specs.Prelude.{◌≡◌, List, Ok, IsTrue}
use Rattle.std.specs.List.{AllByRecursion}
use Rattle.h265_model.specs.declared.extra.Extra.TheVariants.{Plain}
use Rattle.h265_model.specs.Raster.{Raster, IsRaster}
use Rattle.h265_model.specs.Settings.{Settings, is_size}
use Rattle.h265_model.specs.Stream.{stream_of}
use Rattle.h265_model.specs.Decode.{decode}

-- the stream of a list of pictures alone is decoded to them
abbrev pub EachPlainStreamIsDecoded : Type 0
EachPlainStreamIsDecoded =
    (settings : Settings) (pictures : List Raster) → settings.extra ≡ Plain → IsTrue (is_size settings.size) → AllByRecursion (IsRaster settings.size) pictures →
    decode (stream_of settings pictures) ≡ Ok (settings.size, pictures)
