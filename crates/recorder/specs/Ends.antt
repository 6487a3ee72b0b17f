-- How a recording ends, and what the sink got.
use Rattle.std.specs.Prelude.{◌≡◌, ℕ, ◌+◌, ◌≤◌, List, [], ◌∷◌, ◌++◌, length, take, Option, slice_index_or, true}
use Rattle.recorder_model.specs.Files.{WhereTold, Rose, IsPrefix}
use Rattle.h265_model.specs.Plain.{joined}
use Rattle.h265_model.specs.Settings.{Settings}
use Rattle.h265_model.specs.Raster.{Raster}
use Rattle.recorder_model.specs.Painting.{pictures}
use Rattle.recorder_model.specs.Histories.{IsLawful, takes}
use Rattle.h265_model.specs.Stream.{pieces}
use Rattle.turn_lock.specs.Turns.{Begins}
use Rattle.turn_lock.specs.Standing.{Standing}
use Rattle.turn_lock.specs.declared.knowledge.Knowledge.{Knowledge}
use Rattle.live_desk.specs.Turned.{IsKept}
use Rattle.picture_encoder.specs.Coded.{Coded, StandsFor}
use Rattle.recorder.specs.declared.record.RecordEnd.{RecordEnd}
use Rattle.recorder.specs.declared.record.RecordEnd.TheVariants as end

-- ---- the sink

-- the first pieces of the stream of these pictures, joined
abbrev pub first_pieces : Settings → List Raster → ℕ → List ℕ
first_pieces settings ps whole = joined (take whole (pieces settings ps))

-- the text grew by so many whole pieces
abbrev pub HasGrown : Settings → List Raster → ℕ → List ℕ → List ℕ → Type 0
HasGrown settings ps whole was now = now ≡ was ++ first_pieces settings ps whole

-- and then by a part of the next one
abbrev pub HasGrownInPart : Settings → List Raster → ℕ → List ℕ → List ℕ → Type 0
HasGrownInPart settings ps whole was now =
    (part : List ℕ) × IsPrefix part (slice_index_or (pieces settings ps) whole []) × (now ≡ was ++ first_pieces settings ps whole ++ part)

-- So many pieces were appended whole, of which `written` counts the bytes, and `Grown` is what the sink tells.
pub record IsAppended (settings : Settings) (ps : List Raster) (most written : ℕ) (was now : Option (List ℕ)) (Grown : Settings → List Raster → ℕ → List ℕ → List ℕ → Type 0) : Type 0 where
  pub whole : ℕ
  pub few : whole ≤ most
  pub counted : written ≡ length (first_pieces settings ps whole)
  pub told : WhereTold was now (Grown settings ps whole)

-- all jobs that were wanted were taken, and the parameter sets and the piece of each were appended
pub record IsWhole (settings : Settings) (ps : List Raster) (wanted taken written : ℕ) (was now : Option (List ℕ)) : Type 0 where
  pub all : taken ≡ wanted
  pub counted : written ≡ length (first_pieces settings ps (wanted + 1))
  pub told : WhereTold was now (HasGrown settings ps (wanted + 1))

-- What each end says, where so many jobs were wanted, and so many taken. The pictures are those that were cut.
abbrev pub Ends : Settings → List Raster → ℕ → ℕ → Option (List ℕ) → Option (List ℕ) → RecordEnd → Type 0
Ends settings ps wanted taken was now (end.Ok written) = IsWhole settings ps wanted taken written was now
Ends settings ps wanted taken was now (end.SinkFault written) = IsAppended settings ps taken written was now HasGrownInPart
Ends settings ps wanted taken was now (end.NoMemory written) = IsAppended settings ps taken written was now HasGrown
Ends settings ps wanted taken was now (end.Ended written) = IsAppended settings ps (taken + 1) written was now HasGrown

-- The sink's count never falls. A fault is answered only where it rose, and where all was appended it stands.
pub record HasEndCause (before now : ℕ) (answer : RecordEnd) : Type 0 where
  pub later : before ≤ now
  pub failed : (written : ℕ) → answer ≡ end.SinkFault written → Rose before now
  pub kept : (written : ℕ) → answer ≡ end.Ok written → now ≡ before

-- ---- the recorder's pass

-- the pictures that a pass has seen cut
abbrev pub seen_pictures : Knowledge → List Raster
seen_pictures v = pictures v.setting.size v.setting.scripts v.seen

-- jobs were taken in order from the first one on, each once, and nothing else was done with the pass
pub record HasRecorded (old new : Standing) : Type 0 where
  pub table : new.table ≡ old.table
  pub kept : IsKept old.knows new.knows
  pub begins : Begins old.knows.seen new.knows.seen
  pub lawful : IsLawful old.knows.setting.scripts new.knows.seen
  pub raised : new.knows.raised ≡ old.knows.raised
  pub made : new.knows.made ≡ (length old.knows.setting.scripts, takes new.knows.seen) ∷ []

-- a mark was seen where the desk was lost
abbrev pub SawMark : Knowledge → RecordEnd → Type 0
SawMark v answer = (written : ℕ) → answer ≡ end.Ended written → v.saw ≡ true

-- Where all was recorded, the encoder stands for the pictures whose jobs were taken.
abbrev pub HasCoded : Coded → Knowledge → RecordEnd → Type 0
HasCoded encoder v answer = (written : ℕ) → answer ≡ end.Ok written → StandsFor encoder (take (takes v.seen) (seen_pictures v))
