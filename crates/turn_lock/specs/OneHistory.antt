-- The table of a turn as the definition of the turn speaks of it: one word, one state, and what the passes and notes know.
use Rattle.std.specs.Prelude.{ℕ, ◌==◌, List, [], ◌∷◌, map, slice_index, Bool, if◌then◌else◌, Option, Some, None}
use Rattle.atomic_table.specs.Table as table
use mathlib.Core.Option as maybe
use Rattle.recorder_model.specs.declared.entry.Entry.{Entry}
use Rattle.recorder_model.specs.Setting.{Setting}
use Rattle.recorder_model.specs.Turn.{State, Held, Own, View, Rule}
use Rattle.turn_lock.specs.declared.knowledge.Knowledge.{Knowledge}

abbrev pub own_of : ℕ × ℕ → Own
own_of x = record { number = x.0; made = x.1 }

abbrev pub held_of : Knowledge → Option Held
held_of v = if v.holds then Some (record { base = v.base; mark = v.base_mark }) else None

abbrev pub view_of : Knowledge → View
view_of v = record {
  owns = map own_of v.made;
  seen = v.seen;
  saw_mark = v.saw;
  raised_mark = v.raised;
  found = v.found;
  last = v.last;
  before_last = v.before;
  turns = v.turns;
  setting = v.setting;
  passes = v.passes;
  holds = held_of v;
  weight = v.weight;
}

-- what the passes and notes know that weren't joined into another
abbrev pub views_of : List Knowledge → List View
views_of [] = []
views_of (v ∷ vs) = if v.weight == 0 then views_of vs else view_of v ∷ views_of vs

module _ {S : Type 0} (setting_of : S → Setting) (history_of : S → List Entry) (mark_of : S → Bool) where
  -- what the slot has, where the state is at home
  abbrev pub home_of : List (maybe.Option (Option S)) → Option State
  home_of (maybe.some (Some x) ∷ slots) = Some (record { setting = setting_of x; history = history_of x; mark = mark_of x })
  home_of slots = None

  -- the rule of the turn holds of the table, with some history
  pub record IsOneHistory (s : table.State (Option S) Knowledge) : Type 0 where
    pub setting : Setting
    pub passes : ℕ
    pub history : List Entry
    pub mark : Bool
    pub rule : Rule (slice_index s.words 0) (home_of s.homes) (views_of s.views) setting passes history mark
