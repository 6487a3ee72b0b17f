-- The NAL units of rows that are slice segments.
use Rattle.std.specs.Prelude.{ℕ, Bool, List, ◌++◌}
use Rattle.h265_model.specs.Bits.{bytes}
use Rattle.h265_model.specs.NalUnits.{escape, start_code}
use Rattle.h265_model.specs.SliceHead.{segment_bits}
use Rattle.h265_model.specs.Stream.{nal_header}

-- the segment at this address, of a picture of so many coding tree units (7.3.2.9)
abbrev pub segment_unit : Bool → ℕ → ℕ → ℕ → List ℕ → List ℕ
segment_unit idr poc address ctus data_bytes = start_code ++ nal_header idr ++ escape (bytes (segment_bits idr poc address ctus)) ++ escape data_bytes
