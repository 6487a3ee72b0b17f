-- Scripts in memory.
use Rattle.std.specs.Prelude.{◌≡◌, ◌+◌, ◌-◌, ◌<◌, ◌≤◌, ◌^◌, ℕ, List, length, map, count_by, slice_index_or, ◌==◌, Option, Some, None, if◌then◌else◌}
use Rattle.std.specs.List.{All}
use Rattle.std.specs.Borrow.{Bor}
use Rattle.recorder_model.specs.Script.{is_cut}
use Rattle.recorder_model.specs.declared.line.Line.{Line}
use Rattle.recorder_model.specs.declared.line.Line.TheVariants.{Cut}
use Rattle.paint_script.specs.Spellable.{IsVersion, AreSpellable, AreOfVersion}
use Rattle.paint_script.specs.declared.script.Script.TheInside.{Inside}

-- a script as contracts see it
pub record Script : Type 0 where
  pub version : ℕ
  pub lines : List Line

-- lines that the grammar of a version can spell, so few that a 32-bit number counts them
pub record IsScript (version : ℕ) (lines : List Line) : Type 0 where
  pub versioned : IsVersion version
  pub few : length lines < 2 ^ 32
  pub spellable : AreSpellable lines
  pub fits : AreOfVersion version lines

-- the line that stands at a place: a `cut` at 0, and from 1 on the lines that paint
abbrev pub line_at : List Line → ℕ → Line
line_at paints place = if place == 0 then Cut else slice_index_or paints (place - 1) Cut

abbrev pub lines_at : List Line → List ℕ → List Line
lines_at paints places = map (line_at paints) places

abbrev pub script_in : Inside → Script
script_in a = record { version = a.version; lines = lines_at a.paints.items a.places.items }

pub record IsStored (version : ℕ) (paints : List Line) (places : List ℕ) (cut : Line) : Type 0 where
  pub is : IsScript version (lines_at paints places)
  pub within : All (λ place. place ≤ length paints) places
  pub cuts : count_by is_cut (lines_at paints places) + length paints ≡ length places
  pub one_cut : cut ≡ Cut

abbrev pub IsInside : Inside → Type 0
IsInside a = IsStored a.version a.paints.items a.places.items a.cut

-- the lines of some scripts
abbrev pub lines_of_each : List Script → List (List Line)
lines_of_each scripts = map (λ script. script.lines) scripts

-- the lines of a script that is lent
abbrev pub lines_lent : Option (Bor Script) → Option (List Line)
lines_lent None = None
lines_lent (Some script) = Some script.now.lines
