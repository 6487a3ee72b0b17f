-- What has to be known of a coded picture so that it is decoded after another one.
use Rattle.std.proofs.Common.{◌≡◌, ℕ, ◌*◌, ◌<◌, List, Bool, length}
use Rattle.std.specs.Prelude.{Option, Some, IsTrue, true}
use Rattle.h265_model.specs.declared.moves.MoveLeaf.{MoveLeaf}
use Rattle.h265_model.specs.Plain.{Size, Picture, ctus}
use Rattle.h265_model.specs.Raster.{planes}
use Rattle.h265_model.specs.Tree.{Source, IsSource}
use Rattle.h265_model.specs.Stream.{slice_kind}
use Rattle.h265_model.specs.Decode.{Decoded}
use Rattle.h265_model.specs.Rebuild.{rebuild}
use Rattle.h265_model.specs.Decode.{referred, is_next}
use Rattle.h265_laws.proofs.PictureLaw.{IsFit}
use Rattle.unit_laws.specs.Laws.{AreLawfulUnits}
use Rattle.unit_laws.proofs.UnitRows.{read_first}

-- the units of a picture that is coded after this one, and that they rebuild it
pub record IsCoded (size : Size) (idr : Bool) (poc : ℕ) (source : Source) (units : List (List MoveLeaf)) (last : Option Decoded) (now : Picture) : Type 0 where
  pub fit : IsFit size
  pub small : poc < 256
  pub zero_at : IsTrue idr → poc ≡ 0
  pub source_is : IsSource source
  pub many : length units ≡ ctus size.w * ctus size.h
  pub lawful : AreLawfulUnits (slice_kind idr) size units (ctus size.w * ctus size.h)
  pub prev : Picture
  pub is_referred : referred idr last size ≡ Some prev
  pub comes_next : is_next idr last poc ≡ true
  pub rebuilt : rebuild size prev (read_first source units (ctus size.w * ctus size.h)) ≡ planes size now
