use Rattle.std.proofs.Common.{◌-◌}
use Rattle.px_plane.specs.Planes.{picture_of}
use Rattle.px_plane.proofs.Blocks.{AreRowsSame}
use Rattle.px_plane.proofs.picture.Picture.block_equal.Given as goal

abbrev pub invariant-loop-y : goal.invariant-loop-y
invariant-loop-y g l = AreRowsSame (picture_of l.self) (picture_of l.other) l.fn.rect (l.y - l.top) l.fn.steps l.steps
