-- How a script is refused.
use Rattle.std.specs.Prelude.{◌≡◌, List, Result, Err}
use Rattle.recorder_model.specs.declared.line.Line.{Line}
use Rattle.recorder_model.specs.Script as script
use Rattle.paint_script.specs.declared.read.ScriptError.{ScriptError}
use Rattle.paint_script.specs.declared.read.ScriptError.TheVariants.{BadLine, NoMemory}

-- the first bad line and its first cause; want of memory says nothing
abbrev pub IsRefusal : Result (List Line) script.BadLine → ScriptError → Type 0
IsRefusal defined (BadLine line cause) = defined ≡ Err (record { line = line; cause = cause })
IsRefusal defined NoMemory = Unit {0}
