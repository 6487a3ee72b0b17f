use Rattle.std.proofs.Common.{◌≡◌, true}
use Rattle.row_coder.proofs.tests.run_row.Given as goal

-- begun, with as many units as turns
abbrev pub invariant-loop-i : goal.invariant-loop-i
invariant-loop-i g l =
    (g.J.RowJob.begun l.job ≡ true)
    × (g.J.RowJob.plan l.job ≡ g.J.RowJob.plan l.fn.job)
    × (g.J.RowJob.coded l.job ≡ l.i)
