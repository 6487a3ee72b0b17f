use Rattle.std.proofs.Common.{◌≡◌}
use Rattle.cabac_dec.specs.State.{IsOpen}
use Rattle.benchmark.proofs.levels.LevelsWork.round.Given as goal

abbrev pub invariant-loop : goal.invariant-loop
invariant-loop l = record { opened : IsOpen l.decoder; side : l.block.log2 ≡ 5 }
