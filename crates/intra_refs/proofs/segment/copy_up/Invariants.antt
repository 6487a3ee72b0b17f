use Rattle.std.proofs.Common.{◌≡◌, ℕ, ◌+◌, ◌-◌, ◌<◌, get_or}
use Rattle.px_plane.specs.Planes.{picture_of}
use Rattle.intra_refs.proofs.segment.copy_up.Given as goal

abbrev pub invariant-loop-j : goal.invariant-loop-j
invariant-loop-j l = (k : ℕ) → k < l.j → get_or l.out k 0 ≡ picture_of l.picture l.component l.x (l.row + (7 - k))
