use Rattle.std.proofs.Common.{subst}
use Rattle.std.specs.Prelude.{Option, ℕ}
use Rattle.h265_model.specs.Engine.{Engine}
use Rattle.cabac_dec.specs.State.{Answers}
use Rattle.residual_read.proofs.Steps.{escape_eg}
use Rattle.residual_read.proofs.golomb.read_exp_golomb.Goals as goal

pub returns-clause-value : goal.returns-clause-value
returns-clause-value c = subst (λ (read : Option (ℕ × Engine)). Answers c.read_escape.result read c.read_escape.new.decoder) (escape_eg c.args.k c.args.decoder.now) c.read_escape.ensures.value
