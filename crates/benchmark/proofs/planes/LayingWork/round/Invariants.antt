use Rattle.px_plane.specs.Tiles.{IsJobOf}
use Rattle.benchmark.proofs.planes.LayingWork.round.Given as goal

abbrev pub invariant-loop : goal.invariant-loop
invariant-loop l = IsJobOf l.picture.size l.job
