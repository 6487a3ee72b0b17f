use Rattle.std.proofs.Common.{◌≡◌, take}
use Rattle.desk_state.specs.Standing.{most_entries}
use Rattle.desk_state.proofs.state.room_for.Given as goal

abbrev pub invariant-loop-client : goal.invariant-loop-client
invariant-loop-client l = l.entries ≡ most_entries (take l.client l.scripts)
