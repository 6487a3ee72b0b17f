-- A desk state's fields.
use Rattle.std.specs.Prelude.{◌≡◌, ◌<◌, ◌≤◌, ◌-◌, ◌^◌, vec_capacity}
use Rattle.recorder_model.specs.Setting.{Setting}
use Rattle.recorder_model.specs.Turn.{State}
use Rattle.recorder_model.specs.Histories.{cuts, takes}
use Rattle.desk_state.specs.Standing.{StandsFor, most_entries}
use Rattle.desk_state.specs.declared.state.DeskState.TheInside.{Inside}

abbrev pub setting_of : Inside → Setting
setting_of a = record { size = a.replay.surface.shown.size; scripts = a.scripts }

abbrev pub state_of : Inside → State
state_of a = record { setting = setting_of a; history = a.history.items; mark = a.lost }

-- the desk stands for its history, and has room for all entries that can come
pub record IsDesk (a : Inside) : Type 0 where
  pub stands : StandsFor (setting_of a) a.history.items a.replay.surface a.replay.jobs.items
  pub taken : takes a.history.items ≤ cuts a.scripts a.history.items
  pub counted : a.replay.cuts ≡ cuts a.scripts a.history.items
  pub few : most_entries a.scripts < 2 ^ 32 - 1
  pub room : most_entries a.scripts ≤ vec_capacity a.history
