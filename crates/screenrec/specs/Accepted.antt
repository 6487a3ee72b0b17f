-- Which scripts are accepted, and by which status a call refuses them.
use Rattle.std.specs.Prelude.{◌≡◌, ◌≤◌, ℕ, ◌+◌, List, [], ◌∷◌, length, take, count_by, sum_by, slice_index_or, Result, Ok, Err, OnOk, IsOk}
use Rattle.std.specs.Borrow.{Bor}
use Rattle.recorder_model.specs.declared.line.Line.{Line}
use Rattle.recorder_model.specs.Script.{is_cut}
use Rattle.recorder_model.specs.Files.{Rose}
use Rattle.recorder_model.specs.Headline.{Refusal, TooLarge, BadPaint, Limit, scripts_of, scripts_after, most_lines, most_cuts}
use Rattle.paint_script.specs.Scripts.{Script}
use Rattle.command_line.specs.Views.{texts}
use Rattle.screenrec.specs.declared.outcome.Status.{Status}
use Rattle.screenrec.specs.declared.outcome.Status.TheVariants as status

-- the status is the refusal's; want of memory says nothing
abbrev pub RefusesScripts : Result (List (List Line)) Refusal → Status → Type 0
RefusesScripts defined (status.BadPaint file line cause) = defined ≡ Err (BadPaint file line cause)
RefusesScripts defined (status.Limit which) = defined ≡ Err (Limit which)
RefusesScripts defined status.NoMemory = Unit {0}
RefusesScripts defined _ = ⊥

-- ---- one file

-- the name of this number
abbrev pub name_at : List (Bor (List ℕ)) → ℕ → List ℕ
name_at names file = slice_index_or (texts names) file []

-- what reading a file of this number and of these bytes answers, after so many lines and cuts of the files before it
abbrev pub Accepts : ℕ → ℕ → ℕ → List ℕ → Result Script Status → Type 0
Accepts file lines cuts bytes (Ok script) = scripts_after file lines cuts (bytes ∷ []) ≡ Ok (script.lines ∷ [])
Accepts file lines cuts bytes (Err (status.TooLarge named)) = scripts_after file lines cuts (bytes ∷ []) ≡ Err (TooLarge named)
Accepts file lines cuts bytes (Err (status.InputFault named)) = named ≡ file
Accepts file lines cuts bytes (Err other) = RefusesScripts (scripts_after file lines cuts (bytes ∷ [])) other

-- the statuses by which a file of this number is refused: each that names a file names this one
abbrev pub IsOfTheFile : ℕ → Status → Type 0
IsOfTheFile file (status.BadPaint named line cause) = named ≡ file
IsOfTheFile file (status.Limit which) = Unit {0}
IsOfTheFile file (status.InputFault named) = named ≡ file
IsOfTheFile file (status.TooLarge named) = named ≡ file
IsOfTheFile file status.NoMemory = Unit {0}
IsOfTheFile file _ = ⊥

-- after so many lines and cuts there is room for those of the script
pub record HasRoomFor (lines cuts : ℕ) (script : List Line) : Type 0 where
  pub lines_within : lines + length script ≤ most_lines
  pub cuts_within : cuts + count_by is_cut script ≤ most_cuts

-- ---- all files

-- what reading files of these bytes answers
abbrev pub AcceptsAll : List (List ℕ) → Result (List (List Line)) Status → Type 0
AcceptsAll files (Ok scripts) = scripts_of files ≡ Ok scripts
AcceptsAll files (Err (status.TooLarge file)) = scripts_of files ≡ Err (TooLarge file)
AcceptsAll files (Err (status.InputFault file)) = IsOk (scripts_of (take file files))
AcceptsAll files (Err other) = RefusesScripts (scripts_of files) other

-- the statuses by which files are refused
abbrev pub IsOfReading : Status → Type 0
IsOfReading (status.BadPaint file line cause) = Unit {0}
IsOfReading (status.Limit which) = Unit {0}
IsOfReading (status.InputFault file) = Unit {0}
IsOfReading (status.TooLarge file) = Unit {0}
IsOfReading status.NoMemory = Unit {0}
IsOfReading _ = ⊥

-- the lines and cuts of all scripts together
abbrev pub all_lines : List (List Line) → ℕ
all_lines scripts = sum_by length scripts

abbrev pub all_cuts : List (List Line) → ℕ
all_cuts scripts = sum_by (count_by is_cut) scripts

pub record AreFew (scripts : List (List Line)) : Type 0 where
  pub lines : all_lines scripts ≤ most_lines
  pub cuts : all_cuts scripts ≤ most_cuts

-- ---- faults

-- the count of faults of reading never falls, and InputFault is answered only where it rose
pub record HasInputCause {T : Type 0} (before now : ℕ) (result : Result T Status) : Type 0 where
  pub later : before ≤ now
  pub failed : (file : ℕ) → result ≡ Err (status.InputFault file) → Rose before now
  pub kept : OnOk result (now ≡ before)
