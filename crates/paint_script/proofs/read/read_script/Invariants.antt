use Rattle.std.proofs.Common.{◌≡◌, ◌+◌, ◌≤◌, length}
use Rattle.paint_script.proofs.Readings.{IsReadSoFar}
use Rattle.paint_script.proofs.read.read_script.Given as goal

abbrev pub invariant-loop-text : goal.invariant-loop-text
invariant-loop-text l = record {
  so_far : IsReadSoFar l.version l.bytes l.script.lines l.rest;
  same : l.script.version ≡ l.version;
  room : length l.script.lines + length l.rest + l.version ≤ length l.bytes + 1;
}

abbrev pub decreases-loop-text : goal.decreases-loop-text
decreases-loop-text l = length l.rest
