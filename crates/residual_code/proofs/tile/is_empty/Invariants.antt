use Rattle.std.proofs.Common.{◌≡◌, take}
use Rattle.residual_code.proofs.Zeros.{any_level}
use Rattle.residual_code.proofs.tile.is_empty.Given as goal

abbrev pub invariant-loop-level : goal.invariant-loop-level
invariant-loop-level l = l.some ≡ any_level (take l.level-index l.tile)
