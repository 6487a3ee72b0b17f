-- Laws over the definitions of streams with moved blocks.
use Rattle.std.specs.Prelude.{◌≡◌, ℕ, [], List, Ok, IsTrue, length}
use Rattle.std.specs.List.{AllByRecursion}
use Rattle.h265_model.specs.declared.extra.Extra.TheVariants.{Moves}
use Rattle.h265_model.specs.declared.leaf.SliceKind.TheVariants.{P}
use Rattle.h265_model.specs.Plain.{Size, Picture, joined}
use Rattle.h265_model.specs.Raster.{Raster, IsRaster}
use Rattle.h265_model.specs.Settings.{Settings, is_size}
use Rattle.h265_model.specs.MotionChoice.{moved_choices}
use Rattle.h265_model.specs.Stream.{stream_of}
use Rattle.h265_model.specs.Decode.{decode}
use Rattle.unit_laws.specs.Laws.{AreLawfulUnits, AreCopied}

-- the units that are chosen after a previous picture: a list for each coding tree unit, lawful, with sources in the coded picture and short vectors,
-- and each that is copied is so of an equal block of the previous picture
abbrev pub EachMovedChoiceIsLawful : Type 0
EachMovedChoiceIsLawful =
    (prev now : Picture) (size : Size) (effort total : ℕ) →
    (length (moved_choices prev now size effort total [] 0) ≡ total) × AreLawfulUnits P size (moved_choices prev now size effort total [] 0) total
    × AreCopied prev now [] (joined (moved_choices prev now size effort total [] 0))

-- the stream of a list of pictures with moved blocks is decoded to them
abbrev pub EachMovedStreamIsDecoded : Type 0
EachMovedStreamIsDecoded =
    (settings : Settings) (pictures : List Raster) → settings.extra ≡ Moves → IsTrue (is_size settings.size) → AllByRecursion (IsRaster settings.size) pictures →
    decode (stream_of settings pictures) ≡ Ok (settings.size, pictures)
