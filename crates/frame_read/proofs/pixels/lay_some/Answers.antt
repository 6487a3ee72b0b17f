use Rattle.std.proofs.Common.{arith}
use Rattle.frame_read.proofs.Colours.{colour_laid, all_laid}
use Rattle.frame_read.proofs.pixels.lay_some.Goals as goal

pub loop-i-preserved : goal.loop-i-preserved
loop-i-preserved c = colour_laid c.args.bytes.now c.loop-i.pixels c.loop-i.i (omega arith) (omega arith) c.loop-i.invariant

pub returns : goal.returns
returns c = all_laid c.args.bytes.now c.loop-i.pixels c.loop-i.i (omega arith) (omega arith) c.loop-i.invariant
