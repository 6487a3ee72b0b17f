use Rattle.bin_items.proofs.Growing.{writes_as, writes_took}
use Rattle.residual_code.proofs.Sizes.{greater2_is}
use Rattle.scan_orders.proofs.Bounds.{greater2_low}
use Rattle.residual_code.proofs.values.write_greater2.Goals as goal

pub bin-requires-clause-in_range : goal.bin-requires-clause-in_range
bin-requires-clause-in_range g c = rw c.greater2_context.ensures (greater2_low c.args.component c.args.set c.requires.set)

pub returns-in-Some-clause-taken : goal.returns-in-Some-clause-taken
returns-in-Some-clause-taken g c =
    writes_as _ _ _ _ _ (greater2_is c.args.component c.args.set c.greater2_context.result c.in-Some.size c.args.values.now (rw c.in-Some.is at c.requires.flag) (rw c.in-Some.is at c.requires.size) c.greater2_context.ensures)
    (writes_took _ _ _ _ c.bin.ensures.taken)
