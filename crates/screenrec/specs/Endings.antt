-- How the writing of a stream ends.
use Rattle.std.specs.Prelude.{◌≡◌, List, ℕ, Result, Ok, Err}
use Rattle.recorder_model.specs.declared.line.Line.{Line}
use Rattle.h265_model.specs.Settings.{Settings}
use Rattle.recorder_model.specs.Files.{Files}
use Rattle.edges.specs.declared.sink.WriteError.{WriteError}
use Rattle.screenrec.specs.declared.stream_file.Ending.{Ending}
use Rattle.screenrec.specs.Stored.{EndsIn}

-- the first error, if any
abbrev pub ending_of : Result Ending WriteError → Result (Unit {0}) WriteError
ending_of (Ok ending) = ending.result
ending_of (Err error) = Err error

-- nothing was done, or the file was made, and the stream stands in it whole or in part
abbrev pub EndsAnew : Settings → List ℕ → List Line → Files → Files → Result Ending WriteError → Type 0
EndsAnew settings name lines before after (Ok ending) = EndsIn settings name lines before after ending.result ending.written
EndsAnew settings name lines before after (Err error) = after ≡ before
