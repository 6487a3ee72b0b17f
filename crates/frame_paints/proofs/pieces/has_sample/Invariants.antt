use Rattle.std.proofs.Common.{◌≡◌, ℕ, ◌+◌, ◌<◌, ◌≤◌}
use Rattle.px_plane.specs.Planes.{picture_of}
use Rattle.frame_paints.proofs.pieces.has_sample.Given as goal

abbrev pub invariant-loop-y : goal.invariant-loop-y
invariant-loop-y l = (y : ℕ) → y < l.y → l.piece.y ≤ y → (x : ℕ) → l.piece.x ≤ x → x < l.piece.x + l.piece.w → picture_of l.frame l.component x y ≡ l.sample
