-- Laws over the definitions of streams with a slice segment for each row: what is written is read back, and nothing else is read.
use Rattle.std.specs.Prelude.{◌≡◌, ◌≤◌, ◌<◌, ℕ, zero, suc, ◌^◌, List, ◌++◌, Ok, Bool, IsTrue, length, take}
use Rattle.std.specs.List.{AllByRecursion}
use Rattle.h265_model.specs.declared.extra.Extra.TheVariants.{Segments}
use Rattle.h265_model.specs.Plain.{AreBytes, coded}
use Rattle.h265_model.specs.Raster.{Raster, IsRaster}
use Rattle.h265_model.specs.Settings.{Settings, is_size}
use Rattle.h265_model.specs.Stream.{stream_of}
use Rattle.h265_model.specs.Decode.{decode}
use Rattle.h265_model.specs.Bits.{bytes}
use Rattle.h265_model.specs.SliceHead.{segment_bits, read_segment_head}

-- the order count that a segment's header tells
abbrev pub order_told : ℕ → ℕ → ℕ
order_told zero poc = poc
order_told (suc address) poc = 0

-- a slice segment header, whatever follows it (7.3.6.1)
abbrev pub EachSegmentHeadIsRead : Type 0
EachSegmentHeadIsRead =
    (idr : Bool) (poc address ctus : ℕ) (rest : List ℕ) → poc < 256 → (IsTrue idr → poc ≡ 0) → address < ctus → ctus ≤ 2 ^ 32 →
    read_segment_head (bytes (segment_bits idr poc address ctus) ++ rest) idr address ctus ≡ Ok (order_told address poc, length (bytes (segment_bits idr poc address ctus)))

-- and nothing else is read as that header: bytes that are read as the header of a segment begin with its bytes, and it tells an order count only at address 0
abbrev pub EachSegmentHeadIsSpelled : Type 0
EachSegmentHeadIsSpelled =
    (rbsp : List ℕ) (idr : Bool) (poc address ctus n : ℕ) → AreBytes rbsp → read_segment_head rbsp idr address ctus ≡ Ok (poc, n) →
    (take n rbsp ≡ bytes (segment_bits idr poc address ctus)) × (order_told address poc ≡ poc)

-- ---- whole streams

-- the stream of a list of pictures, each in a slice segment for each row of coding tree blocks, is decoded to them. Pictures have two such blocks in a row at least
abbrev pub EachSegmentedStreamIsDecoded : Type 0
EachSegmentedStreamIsDecoded =
    (settings : Settings) (pictures : List Raster) → settings.extra ≡ Segments → IsTrue (is_size settings.size) → 32 < coded settings.size.w → AllByRecursion (IsRaster settings.size) pictures →
    decode (stream_of settings pictures) ≡ Ok (settings.size, pictures)
