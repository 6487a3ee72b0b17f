use Rattle.std.proofs.Common.{take}
use Rattle.h265_model.specs.Residual.{AreLevels}
use Rattle.benchmark.proofs.levels.are_levels.Given as goal

abbrev pub invariant-loop-level : goal.invariant-loop-level
invariant-loop-level l = AreLevels (take l.level-index l.levels)
