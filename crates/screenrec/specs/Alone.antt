-- One script alone: what stands once its file was accepted.
use Rattle.std.specs.Prelude.{◌≡◌, ℕ, ◌++◌, List, [], ◌∷◌, Result, Ok, Err}
use Rattle.recorder_model.specs.declared.entry.Entry.{Entry}
use Rattle.recorder_model.specs.declared.line.Line.{Line}
use Rattle.command_line.specs.Words.{SerialWords}
use Rattle.recorder_model.specs.Histories.{own_order}
use Rattle.recorder_model.specs.Files.{Files, IsPrefix}
use Rattle.recorder_model.specs.Headline.{report_of}
use Rattle.edges.specs.declared.sink.WriteError.{WriteError}
use Rattle.edges.specs.declared.sink.WriteError.TheVariants as write
use Rattle.screenrec.specs.declared.outcome.Status.{Status}
use Rattle.screenrec.specs.declared.outcome.Status.TheVariants as status
use Rattle.screenrec.specs.Recording.{serial_task, scripts_in, LeavesTask}

-- the status of a failed write of the stream
abbrev pub sink_status : WriteError → Status
sink_status write.Failed = status.SinkFault
sink_status write.NoMemory = status.NoMemory

-- with Ok the report grew by the script's text, with ReportFault by a part of it, and else not at all
abbrev pub ReportsScript : List Line → ℕ → List ℕ → List ℕ → Status → Type 0
ReportsScript script written was now status.Ok = now ≡ was ++ report_of (script ∷ []) (own_order (script ∷ [])) written
ReportsScript script written was now status.ReportFault =
    (part : List ℕ) × IsPrefix part (report_of (script ∷ []) (own_order (script ∷ [])) written) × (now ≡ was ++ part)
ReportsScript script written was now _ = now ≡ was

-- the statuses once the file was accepted
abbrev pub IsAfterReading : Status → Type 0
IsAfterReading status.Ok = Unit {0}
IsAfterReading status.SinkFault = Unit {0}
IsAfterReading status.ReportFault = Unit {0}
IsAfterReading status.NoMemory = Unit {0}
IsAfterReading _ = ⊥

-- and those of the report
abbrev pub IsOfReport : Status → Type 0
IsOfReport status.Ok = Unit {0}
IsOfReport status.ReportFault = Unit {0}
IsOfReport status.NoMemory = Unit {0}
IsOfReport _ = ⊥

-- what stands, where the one file has this script
abbrev pub LeavesScript : SerialWords → List Line → Files → Files → List Entry → ℕ → Status → Type 0
LeavesScript words script before after order written answer =
    scripts_in (serial_task words) before ≡ Ok (script ∷ []) → LeavesTask (serial_task words) before after order written answer

-- what a status says of the writes of the stream
abbrev pub sink_result : Status → Result (Unit {0}) WriteError
sink_result status.Ok = Ok tt
sink_result status.ReportFault = Ok tt
sink_result status.SinkFault = Err write.Failed
sink_result _ = Err write.NoMemory

-- the statuses in which the report has something of the text
abbrev pub IsReported : Status → Type 0
IsReported status.Ok = Unit {0}
IsReported status.ReportFault = Unit {0}
IsReported _ = ⊥
