use Rattle.std.proofs.Common.{refl}
use Rattle.residual_read.specs.Parts.{shape_of, sub_of}
use Rattle.residual_read.proofs.Laying.{inner_none, inner_is}
use Rattle.residual_read.proofs.subs.read_inner.Goals as goal

pub returns-then-not-coded-clause-value : goal.returns-then-not-coded-clause-value
returns-then-not-coded-clause-value c = inner_none (shape_of c.args.shape) (sub_of c.args.sub) (c.args.sub.x, c.args.sub.y) c.args.coded c.args.ended c.args.out.now.levels c.args.decoder.now c.if-not-coded.true

pub returns-clause-value : goal.returns-clause-value
returns-clause-value c = rw (inner_is (shape_of c.args.shape) (sub_of c.args.sub) (c.args.sub.x, c.args.sub.y) c.args.coded c.args.ended _ c.args.out.now.levels c.args.decoder.now c.if-not-coded.false refl) c.read_levels_of.ensures.value
