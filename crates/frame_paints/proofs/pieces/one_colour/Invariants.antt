use Rattle.std.proofs.Common.{ℕ, ◌<◌}
use Rattle.px_plane.specs.Planes.{picture_of}
use Rattle.frame_paints.specs.Parts.{HasSample}
use Rattle.frame_paints.proofs.pieces.one_colour.Given as goal

abbrev pub invariant-loop-component : goal.invariant-loop-component
invariant-loop-component l = (c : ℕ) → c < l.component → HasSample l.frame l.piece c (picture_of l.frame c l.piece.x l.piece.y)
