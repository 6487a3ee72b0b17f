use Rattle.std.proofs.Common.{◌≡◌, ◌+◌, true}
use Rattle.row_workers.proofs.at_once.code_more.Given as goal

abbrev pub invariant-loop : goal.invariant-loop
invariant-loop g l = record {
  begun : g.J.RowJob.begun l.job ≡ true;
  inherits : g.J.RowJob.inherits l.job ≡ g.J.RowJob.inherits l.initial.job;
  plan : g.J.RowJob.plan l.job ≡ g.J.RowJob.plan l.initial.job;
  coded : g.J.RowJob.coded l.job ≡ g.J.RowJob.coded l.initial.job + l.counter;
}
