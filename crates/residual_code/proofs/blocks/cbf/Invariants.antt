use Rattle.std.proofs.Common.{◌≡◌, ◌*◌, take, false}
use Rattle.residual_code.proofs.Zeros.{any_level}
use Rattle.residual_code.proofs.blocks.cbf.Given as goal

abbrev pub invariant-loop-part : goal.invariant-loop-part
invariant-loop-part l = any_level (take (64 * l.part) l.levels) ≡ false
