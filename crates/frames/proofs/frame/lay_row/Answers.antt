use Rattle.std.proofs.Common.{take, arith}
use Rattle.std.proofs.lemmas.List.{length-take-le}
use Rattle.frames.proofs.Mixes.{none-laid, pixel-laid}
use Rattle.frames.proofs.frame.lay_row.Goals as goal

pub loop-x-init : goal.loop-x-init
loop-x-init c = none-laid c.args.out.now c.args.r.now c.args.g.now c.args.b.now c.args.at c.requires.room

pub loop-x-preserved : goal.loop-x-preserved
loop-x-preserved c = pixel-laid (take c.args.at c.args.out.now) c.loop-x.out c.args.r.now c.args.g.now c.args.b.now c.args.at c.loop-x.x (length-take-le c.args.at c.args.out.now (omega arith)) c.loop-x-test.true c.requires.green c.requires.blue c.loop-x.invariant
