-- Why a script isn't added to others.
use Rattle.std.specs.Prelude.{Result, Ok, Err}
use Rattle.paint_script.specs.Scripts.{Script}
use Rattle.paint_script.specs.declared.scripts.AddError.{AddError}
use Rattle.paint_script.specs.declared.scripts.AddError.TheVariants.{Full, NoMemory}

-- the script that an error hands back
abbrev pub given_back : AddError → Script
given_back (Full script) = script
given_back (NoMemory script) = script

-- there was no room for one more
abbrev pub IsFull : Result (Unit {0}) AddError → Type 0
IsFull (Ok done) = ⊥
IsFull (Err (Full script)) = Unit {0}
IsFull (Err (NoMemory script)) = ⊥
