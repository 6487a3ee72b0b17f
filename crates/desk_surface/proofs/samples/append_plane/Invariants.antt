use Rattle.std.proofs.Common.{◌≡◌, ◌+◌, ◌++◌}
use Rattle.h265_model.specs.Plain.{place_values}
use Rattle.px_plane.specs.Planes.{picture_of}
use Rattle.desk_surface.proofs.samples.append_plane.Given as goal

abbrev pub invariant-loop-row : goal.invariant-loop-row
invariant-loop-row l = l.out.items ≡ l.fn.out.items ++ place_values 32 l.row (λ i j. picture_of l.picture l.component (l.x + i) (l.y + j))
