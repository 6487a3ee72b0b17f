use Rattle.std.proofs.Common.{◌≡◌, ◌≤◌, ◌<◌, true, Some, None}
use Rattle.row_workers.proofs.alone.code_units.Given as goal

abbrev pub invariant-loop-unit : goal.invariant-loop-unit
invariant-loop-unit g l = record {
  begun : g.J.RowJob.begun l.job ≡ true;
  inherits : g.J.RowJob.inherits l.job ≡ g.J.RowJob.inherits l.initial.job;
  plan : g.J.RowJob.plan l.job ≡ g.J.RowJob.plan l.initial.job;
  coded : g.J.RowJob.coded l.job ≡ l.unit;
  some : 2 ≤ l.unit → l.second ≡ Some ((g.J.RowJob.plan l.initial.job).second (g.J.RowJob.inherits l.initial.job));
  none : l.unit < 2 → l.second ≡ None;
}
