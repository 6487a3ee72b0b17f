use Rattle.bin_items.proofs.Growing.{writes_as, writes_took}
use Rattle.scan_orders.proofs.Bounds.{sub_block_low}
use Rattle.residual_code.proofs.MarkLaws.{flag_written, not_zero}
use Rattle.residual_code.proofs.subs.write_coded.Goals as goal

pub bin-requires-clause-in_range : goal.bin-requires-clause-in_range
bin-requires-clause-in_range g c = rw c.sub_block_context.ensures (sub_block_low c.args.shape.component c.args.sub.right c.args.sub.below)

pub returns-clause-taken : goal.returns-clause-taken
returns-clause-taken g c = writes_as _ _ _ _ _ (flag_written c.args.shape c.args.sub c.args.coded c.sub_block_context.result (not_zero c.args.sub.number c.if-sub-eq0.false) c.sub_block_context.ensures) (writes_took _ _ _ _ c.bin.ensures.taken)
