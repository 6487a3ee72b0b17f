-- What is appended is read back.
use Rattle.std.specs.Prelude.{◌≡◌, [], ◌∷◌, Ok}
use Rattle.h265_model.specs.NalUnits.{NalUnit, IsNalUnit, nal_unit_bytes, units}

-- the bytes of a NAL unit whose second byte and last byte aren't 0 are read as that one NAL unit
abbrev pub EachUnitIsReadBack : Type 0
EachUnitIsReadBack = (unit : NalUnit) → IsNalUnit unit → units (nal_unit_bytes unit) ≡ Ok (unit ∷ [])
