use Rattle.std.proofs.Common.{arith}
use Rattle.h265_model.proofs.Doublings.{doubled}
use Rattle.cabac_bytes.proofs.coder.doublings.Goals as goal

pub overflow_sub-result : goal.overflow_sub-result
overflow_sub-result c = let h = c.requires.less in (doubled c.args.range c.requires.some (omega arith)).enough

pub returns : goal.returns
returns c = let h = c.requires.less in (doubled c.args.range c.requires.some (omega arith)).is
