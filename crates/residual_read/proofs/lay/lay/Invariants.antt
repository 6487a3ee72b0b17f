use Rattle.std.proofs.Common.{◌≡◌, ◌≤◌, ◌+◌}
use Rattle.residual_read.specs.Parts.{laid}
use Rattle.residual_read.proofs.lay.lay.Given as goal

abbrev pub invariant-loop-left : goal.invariant-loop-left
invariant-loop-left l = record {
  few : l.left + l.next ≤ 16;
  log2 : l.out.log2 ≡ l.initial.out.log2;
  goes : laid l.scan l.initial.out.log2 (l.sub.x, l.sub.y) l.mask l.values 0 16 l.initial.out.levels ≡ laid l.scan l.out.log2 (l.sub.x, l.sub.y) l.mask l.values l.next l.left l.out.levels;
}

abbrev pub decreases-loop-left : goal.decreases-loop-left
decreases-loop-left l = l.left
