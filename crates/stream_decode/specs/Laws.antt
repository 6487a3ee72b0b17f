-- Reading picture by picture is decoding.
use Rattle.std.specs.Prelude.{◌≡◌, ℕ, List}
use Rattle.h265_model.specs.Bits.{◌>>-◌}
use Rattle.h265_model.specs.Decode.{decode}
use Rattle.stream_decode.specs.Readings.{reading_of, decoded}

-- whatever the bytes are: where all pictures are read up to the end, decoding gives these, and where a NAL unit fails, its number
abbrev pub EachReadingIsDecoding : Type 0
EachReadingIsDecoding = (bytes : List ℕ) → decode bytes ≡ (reading_of bytes >>- decoded)
