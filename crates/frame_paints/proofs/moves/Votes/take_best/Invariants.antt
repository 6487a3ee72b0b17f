use Rattle.std.proofs.Common.{◌<◌}
use Rattle.frame_paints.proofs.moves.Votes.take_best.Given as goal

abbrev pub invariant-loop-k : goal.invariant-loop-k
invariant-loop-k l = l.best < 4096
