use Rattle.std.proofs.Common.{◌≡◌, true}
use Rattle.row_core.proofs.tests.run_row.Given as goal

-- begun, with what it was given, as many units as turns
abbrev pub invariant-loop : goal.invariant-loop
invariant-loop g l =
    (g.J.RowJob.begun l.job ≡ true)
    × (g.J.RowJob.plan l.job ≡ g.J.RowJob.plan l.fn.job)
    × (g.J.RowJob.inherits l.job ≡ l.fn.inherited)
    × (g.J.RowJob.coded l.job ≡ l.counter)
