use Rattle.std.proofs.Common.{◌≤◌}
use Rattle.frame_paints.specs.Parts.{SameBetween}
use Rattle.frame_paints.proofs.compare.columns.Given as goal

abbrev pub invariant-loop-y : goal.invariant-loop-y
invariant-loop-y l = record {
  first_left : l.left ≤ l.first;
  first_right : l.first ≤ l.right;
  last_left : l.left ≤ l.last;
  last_right : l.last ≤ l.right;
  before : SameBetween l.a l.b l.left l.first l.top l.y;
  behind : SameBetween l.a l.b l.last l.right l.top l.y;
}
