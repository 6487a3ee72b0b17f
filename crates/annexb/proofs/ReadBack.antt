-- One NAL unit is read back.
use Rattle.std.proofs.Common.{◌≡◌, List, ℕ, [], ◌∷◌, Ok, subst}
use Rattle.std.proofs.lemmas.List.{append-nil}
use Rattle.h265_model.specs.NalUnits.{NalUnit, IsNalUnit, nal_unit_bytes, stream_bytes, units}
use Rattle.h265_model.proofs.UnitLaws.{units-stream_bytes}

pub unit-read_back : (unit : NalUnit) → IsNalUnit unit → units (nal_unit_bytes unit) ≡ Ok (unit ∷ [])
unfolding stream_bytes
unit-read_back unit is =
    let P : List ℕ → Type 0 = λ l. units l ≡ Ok (unit ∷ []) in
    subst P (append-nil (nal_unit_bytes unit)) (units-stream_bytes (unit ∷ []) (is, tt))
