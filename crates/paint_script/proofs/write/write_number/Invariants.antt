use Rattle.std.proofs.Common.{◌≡◌, ◌+◌, ◌<◌, ◌≤◌, ◌^◌, ◌++◌, length, drop}
use Rattle.std.specs.Prelude.{decimal}
use Rattle.paint_script.proofs.write.write_number.Given as goal

abbrev pub invariant-loop-left : goal.invariant-loop-left
invariant-loop-left l = record {
  digits : length l.digits ≡ 5;
  first : l.first ≤ 4;
  small : l.left < 10 ^ (l.first + 1);
  value : decimal l.number ≡ decimal l.left ++ drop (l.first + 1) l.digits;
}

abbrev pub decreases-loop-left : goal.decreases-loop-left
decreases-loop-left l = l.left
