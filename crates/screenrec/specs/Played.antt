-- A stage, and the lines that were played on it.
use Rattle.std.specs.Prelude.{◌≡◌, List, [], count_by}
use Rattle.recorder_model.specs.declared.line.Line.{Line}
use Rattle.h265_model.specs.Settings.{Settings}
use Rattle.recorder_model.specs.Script.{is_cut}
use Rattle.recorder_model.specs.Painting.{rasters_after}
use Rattle.desk_surface.specs.Shown.{ShowsLines}
use Rattle.desk_surface.specs.Damage.{IsFlagged}
use Rattle.desk_state.specs.Replays.{part_of}
use Rattle.picture_encoder.specs.Coded.{StandsFor}
use Rattle.screenrec.specs.declared.stage.Stage.{Stage}

-- The desktop shows what the lines paint, its flags are those of the lines after the last cut, and the encoder has coded
-- the pictures that the lines cut, with these settings.
pub record HasPlayed (settings : Settings) (stage : Stage) (done : List Line) : Type 0 where
  pub same : stage.encoder.settings ≡ settings
  pub desktop : stage.surface.shown.size ≡ settings.size
  pub picture : stage.encoder.last.size ≡ settings.size
  pub shows : ShowsLines stage.surface.shown done
  pub flagged : IsFlagged stage.surface (part_of done (count_by is_cut done))
  pub coded : StandsFor stage.encoder (rasters_after settings.size [] done)
  pub counted : stage.cuts ≡ count_by is_cut done

-- some lines were played on it
pub record IsPlayed (stage : Stage) : Type 0 where
  pub settings : Settings
  pub done : List Line
  pub played : HasPlayed settings stage done
