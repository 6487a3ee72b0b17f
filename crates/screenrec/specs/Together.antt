-- Clients together: what stands once their files were accepted.
use Rattle.std.specs.Prelude.{◌≡◌, ℕ, ◌+◌, ◌<◌, ◌^◌, ◌++◌, List, length, Bool, true, false, Ok}
use Rattle.std.specs.FinMap.{insert}
use Rattle.recorder_model.specs.declared.entry.Entry.{Entry}
use Rattle.recorder_model.specs.declared.line.Line.{Line}
use Rattle.command_line.specs.Words.{RecordWords}
use Rattle.h265_model.specs.Settings.{Settings}
use Rattle.h265_model.specs.Raster.{Raster}
use Rattle.recorder_model.specs.Files.{Files, IsPrefix}
use Rattle.recorder_model.specs.Headline.{IsPlayed, IsCutShort, report_of}
use Rattle.recorder.specs.declared.record.RecordEnd.{RecordEnd}
use Rattle.recorder.specs.declared.record.RecordEnd.TheVariants as end
use Rattle.recorder.specs.Ends.{first_pieces}
use Rattle.screenrec.specs.declared.outcome.Status.{Status}
use Rattle.screenrec.specs.declared.outcome.Status.TheVariants as status
use Rattle.screenrec.specs.Alone.{IsOfReport}
use Rattle.screenrec.specs.Recording.{IsWholePieces, record_task, scripts_in, LeavesTask}

-- ---- the end of a recording

-- the bytes in whole pieces
abbrev pub written_of : RecordEnd → ℕ
written_of (end.Ok written) = written
written_of (end.SinkFault written) = written
written_of (end.NoMemory written) = written
written_of (end.Ended written) = written

-- the status before the report: the first of these that applies
abbrev pub recorded_status : Bool → RecordEnd → Status
recorded_status true answer = status.NoMemory
recorded_status false (end.Ok written) = status.Ok
recorded_status false (end.SinkFault written) = status.SinkFault
recorded_status false (end.NoMemory written) = status.NoMemory
recorded_status false (end.Ended written) = status.NoMemory

-- the file has the parameter sets and the piece of each cut that was wanted
pub record IsWholeFile (settings : Settings) (out : List ℕ) (ps : List Raster) (wanted taken written : ℕ) (before after : Files) : Type 0 where
  pub all : taken ≡ wanted
  pub counted : written ≡ length (first_pieces settings ps (wanted + 1))
  pub stored : after ≡ insert before out (first_pieces settings ps (wanted + 1))

-- what the file has after each end, where so many jobs were wanted, and so many taken
abbrev pub EndsInFile : Settings → List ℕ → List Raster → ℕ → ℕ → Files → Files → RecordEnd → Type 0
EndsInFile settings out ps wanted taken before after (end.Ok written) = IsWholeFile settings out ps wanted taken written before after
EndsInFile settings out ps wanted taken before after (end.SinkFault written) = IsCutShort settings out ps before after written
EndsInFile settings out ps wanted taken before after (end.NoMemory written) = IsCutShort settings out ps before after written × IsWholePieces out after written
EndsInFile settings out ps wanted taken before after (end.Ended written) = IsCutShort settings out ps before after written × IsWholePieces out after written

-- ---- its report

-- so short an order of some scripts that were played
pub record IsShortOrder (order : List Entry) : Type 0 where
  pub scripts : List (List Line)
  pub played : IsPlayed scripts order
  pub short : length order < 2 ^ 32

-- only after Ok a report is tried, and it may end otherwise
abbrev pub Reported : Status → Status → Type 0
Reported status.Ok answer = IsOfReport answer
Reported recorded answer = answer ≡ recorded

-- with Ok the report grew by its text, with ReportFault by a part of it, and else not at all
abbrev pub ReportsOrder : List (List Line) → List Entry → ℕ → List ℕ → List ℕ → Status → Type 0
ReportsOrder scripts order written was now status.Ok = now ≡ was ++ report_of scripts order written
ReportsOrder scripts order written was now status.ReportFault =
    (part : List ℕ) × IsPrefix part (report_of scripts order written) × (now ≡ was ++ part)
ReportsOrder scripts order written was now _ = now ≡ was

-- ---- the files

-- what stands, where the files have these scripts
abbrev pub LeavesScripts : RecordWords → List (List Line) → Files → Files → List Entry → ℕ → Status → Type 0
LeavesScripts words scripts before after order written answer =
    scripts_in (record_task words) before ≡ Ok scripts → LeavesTask (record_task words) before after order written answer
