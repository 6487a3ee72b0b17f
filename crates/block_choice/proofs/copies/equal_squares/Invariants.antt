use Rattle.std.proofs.Common.{◌≡◌, ◌+◌, ◌*◌, ◌≤◌, length}
use Rattle.px_plane.specs.Planes.{picture_of}
use Rattle.block_choice.specs.Plans.{TellsFirst}
use Rattle.block_choice.proofs.copies.equal_squares.Given as goal

abbrev pub invariant-loop-k : goal.invariant-loop-k
invariant-loop-k g l = record {
  long : length l.copies ≡ 16;
  copies : TellsFirst l.copies (picture_of l.prev) (picture_of l.now) l.now.size l.x l.y l.k;
  low : l.initial.steps ≤ l.steps;
  high : l.steps ≤ l.initial.steps + 64 * l.k;
}
