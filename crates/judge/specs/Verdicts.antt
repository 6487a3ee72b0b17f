-- What is said of a script.
use Rattle.std.specs.Prelude.{◌≡◌, List, length, Result, Ok, Err}
use Rattle.recorder_model.specs.declared.line.Line.{Line}
use Rattle.recorder_model.specs.Script as script
use Rattle.judge.specs.declared.verdict.Verdict.{Verdict}
use Rattle.judge.specs.declared.verdict.Verdict.TheVariants.{Read, Bad}

-- the number of its lines, or its first bad line and the first cause
abbrev pub IsVerdict : Result (List Line) script.BadLine → Verdict → Type 0
IsVerdict defined (Read lines) = (read : List Line) × (defined ≡ Ok read) × (length read ≡ lines)
IsVerdict defined (Bad line cause) = defined ≡ Err (record { line = line; cause = cause })
IsVerdict defined _ = Unit {0}
