use Rattle.std.proofs.Common.{◌∙◌, ap, arith}
use Rattle.std.proofs.lemmas.List.{take_all}
use Rattle.h265_model.specs.Residual.{cbf}
use Rattle.residual_code.proofs.Zeros.{any_level}
use Rattle.residual_code.proofs.blocks.any_level.Goals as goal

pub returns : goal.returns
unfolding cbf
returns c = c.loop-level.invariant ∙ ap any_level (take_all c.loop-level.level-index c.args.levels.now (omega arith))
