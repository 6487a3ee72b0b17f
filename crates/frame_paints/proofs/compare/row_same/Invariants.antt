use Rattle.std.proofs.Common.{◌≡◌, ℕ, ◌+◌, ◌<◌, ◌≤◌}
use Rattle.px_plane.specs.Planes.{picture_of}
use Rattle.frame_paints.proofs.compare.row_same.Given as goal

abbrev pub invariant-loop-component : goal.invariant-loop-component
invariant-loop-component l = (c : ℕ) → c < l.component → (x : ℕ) → l.x ≤ x → x < l.x + l.n → picture_of l.a c x l.y ≡ picture_of l.b c x l.y
