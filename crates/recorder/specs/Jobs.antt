-- The recorder's jobs, one after another, and the stream so far.
use Rattle.std.specs.Prelude.{◌≡◌, ℕ, ◌+◌, List, ◌∷◌, [], ◌++◌, length, take, Option, true}
use Rattle.h265_model.specs.declared.job.Job.{Job}
use Rattle.recorder_model.specs.Files.{WhereTold}
use Rattle.h265_model.specs.Plain.{joined}
use Rattle.h265_model.specs.Settings.{Settings}
use Rattle.h265_model.specs.Raster.{Raster}
use Rattle.recorder_model.specs.Histories.{takes}
use Rattle.h265_model.specs.Stream.{pieces}
use Rattle.px_plane.specs.Tiles.{IsJobOf}
use Rattle.turn_lock.specs.declared.knowledge.Knowledge.{Knowledge}
use Rattle.edges.specs.declared.sink.WriteError.{WriteError}
use Rattle.edges.specs.declared.sink.WriteError.TheVariants as write
use Rattle.picture_encoder.specs.Coded.{Coded, StandsFor, TurnsInto}
use Rattle.recorder.specs.declared.record.RecordEnd.{RecordEnd}
use Rattle.recorder.specs.declared.record.RecordEnd.TheVariants as end
use Rattle.recorder.specs.Ends.{seen_pictures}

-- the pictures whose jobs a pass has taken
abbrev pub taken_pictures : Knowledge → List Raster
taken_pictures v = take (takes v.seen) (seen_pictures v)

-- an encoder of the desk's size that has coded these pictures
pub record IsUpTo (v : Knowledge) (encoder : Coded) : Type 0 where
  pub size : encoder.settings.size ≡ v.setting.size
  pub sized : encoder.last.size ≡ encoder.settings.size
  pub stands : StandsFor encoder (taken_pictures v)

-- One more job was taken: that of this picture, into which it turns the picture before.
pub record IsNextJob (v w : Knowledge) (job : Job) : Type 0 where
  pub shown : Raster
  pub count : takes w.seen ≡ takes v.seen + 1
  pub more : taken_pictures w ≡ taken_pictures v ++ shown ∷ []
  pub whole : IsJobOf v.setting.size job
  pub number : job.number ≡ takes v.seen
  pub turns : (encoder : Coded) → IsUpTo v encoder → TurnsInto job encoder.last shown

-- the same jobs were taken
pub record IsAsFar (v w : Knowledge) : Type 0 where
  pub setting : w.setting ≡ v.setting
  pub count : takes w.seen ≡ takes v.seen
  pub same : taken_pictures w ≡ taken_pictures v

-- No job came, and none will: the desk was marked as lost.
pub record HasNoJob (v w : Knowledge) : Type 0 where
  pub far : IsAsFar v w
  pub saw : w.saw ≡ true

-- the stream of the pictures whose jobs were taken: so many bytes, by which the text grew
pub record HasStored (settings : Settings) (v : Knowledge) (encoder : Coded) (written : ℕ) (was now : Option (List ℕ)) : Type 0 where
  pub settings_are : encoder.settings ≡ settings
  pub coded : IsUpTo v encoder
  pub counted : written ≡ length (joined (pieces settings (taken_pictures v)))
  pub told : WhereTold was now (λ was now. now ≡ was ++ joined (pieces settings (taken_pictures v)))

-- what a refusal of the sink ends as
abbrev pub end_after : WriteError → ℕ → RecordEnd
end_after write.Failed written = end.SinkFault written
end_after write.NoMemory written = end.NoMemory written
