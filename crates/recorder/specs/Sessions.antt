-- A session: what is recorded, and how.
use Rattle.std.specs.Prelude.{◌≡◌, ℕ, List, sum_by, count_by, Bool, true, false}
use Rattle.recorder_model.specs.declared.entry.Entry.{Entry}
use Rattle.recorder_model.specs.declared.line.Line.{Line}
use Rattle.recorder_model.specs.Script.{is_cut}
use Rattle.h265_model.specs.Settings.{Settings}
use Rattle.recorder_model.specs.Histories.{IsLawful, Merges}
use Rattle.recorder_model.specs.Headline.{IsPlayed}
use Rattle.recorder.specs.declared.record.RecordEnd.{RecordEnd}
use Rattle.recorder.specs.declared.record.RecordEnd.TheVariants as end

-- the settings of the stream, and a script for each client
pub record Scripted : Type 0 where
  pub settings : Settings
  pub scripts : List (List Line)

-- how many cuts the scripts ask for
abbrev pub all_cuts : List (List Line) → ℕ
all_cuts scripts = sum_by (count_by is_cut) scripts

-- The order is lawful. It has all lines exactly where no client gave up, and with Ok each cut picture was then taken.
pub record IsOrder (scripts : List (List Line)) (order : List Entry) (lost : Bool) (answer : RecordEnd) : Type 0 where
  pub lawful : IsLawful scripts order
  pub merges : lost ≡ false → Merges scripts order
  pub misses : lost ≡ true → ¬ Merges scripts order
  pub played : (written : ℕ) → lost ≡ false → answer ≡ end.Ok written → IsPlayed scripts order
