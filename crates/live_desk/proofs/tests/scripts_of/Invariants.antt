use Rattle.std.proofs.Common.{◌≡◌, ◌*◌, ◌≤◌, length}
use Rattle.desk_state.specs.Standing.{most_entries}
use Rattle.live_desk.proofs.tests.scripts_of.Given as goal

abbrev pub invariant-loop-client : goal.invariant-loop-client
invariant-loop-client l = record { few : most_entries l.scripts ≤ 400 * l.client; many : length l.scripts ≡ l.client }
