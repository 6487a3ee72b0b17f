use Rattle.std.proofs.Common.{◌*◌, ◌≤◌}
use Rattle.desk_state.specs.Standing.{most_entries}
use Rattle.recorder.proofs.tests.many.all_scripts.Given as goal

abbrev pub invariant-loop-client : goal.invariant-loop-client
invariant-loop-client l = most_entries l.scripts ≤ 400 * l.client
