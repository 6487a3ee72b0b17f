use Rattle.std.proofs.Common.{◌≡◌, ◌≤◌, take}
use Rattle.recorder_model.specs.Histories.{takes}
use Rattle.screenrec.proofs.together.count_takes.Given as goal

abbrev pub invariant-loop-entry : goal.invariant-loop-entry
invariant-loop-entry l = record {
  counted : l.count ≡ takes (take l.entry-index l.order);
  few : l.count ≤ l.entry-index;
}
