use Rattle.scan_orders.proofs.Bounds.{sub_block_low}
use Rattle.residual_read.specs.Parts.{shape_of, sub_of}
use Rattle.residual_read.proofs.Laying.{coded_first, coded_is}
use Rattle.residual_read.proofs.subs.read_coded.Goals as goal

pub bin-requires-clause-in_range : goal.bin-requires-clause-in_range
bin-requires-clause-in_range c = rw c.sub_block_context.ensures (sub_block_low c.args.shape.component c.args.sub.right c.args.sub.below)

pub returns-then-sub-eq0-clause-value : goal.returns-then-sub-eq0-clause-value
returns-then-sub-eq0-clause-value c = coded_first (shape_of c.args.shape) (sub_of c.args.sub) c.args.decoder.now c.if-sub-eq0.true

pub returns-clause-value : goal.returns-clause-value
returns-clause-value c = rw (coded_is (shape_of c.args.shape) (sub_of c.args.sub) c.sub_block_context.result c.args.decoder.now c.if-sub-eq0.false c.sub_block_context.ensures) c.bin.ensures.value
