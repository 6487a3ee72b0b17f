-- How the reader's answers stand to the definitions.
use Rattle.std.specs.Prelude.{◌≡◌, Result, Ok, Err}
use Rattle.recorder_model.specs.declared.refusal.Cause.{Cause}
use Rattle.paint_script.specs.declared.line.LineError.{LineError}
use Rattle.paint_script.specs.declared.line.LineError.TheVariants.{Bad, NoMemory}

-- the answer is the definition's; want of memory says nothing
abbrev pub Answers : {A : Type 0} → Result A Cause → Result A LineError → Type 0
Answers defined (Ok value) = defined ≡ Ok value
Answers defined (Err (Bad cause)) = defined ≡ Err cause
Answers defined (Err NoMemory) = Unit {0}
