use Rattle.std.proofs.Common.{◌≡◌, length}
use Rattle.recorder.proofs.tests.many.script_of.Given as goal

abbrev pub invariant-loop-index : goal.invariant-loop-index
invariant-loop-index l = record {
  count : length l.script.lines ≡ l.index;
  version : l.script.version ≡ 1;
}
