use Rattle.std.proofs.Common.{sym, ap}
use Rattle.h265_model.specs.SliceHead.{head_middle}
use Rattle.slice_head.proofs.tables.middle.Goals as goal

pub returns-then-idr-clause-fields : goal.returns-then-idr-clause-fields
unfolding head_middle
returns-then-idr-clause-fields c = ap head_middle (sym c.if-idr.true)

pub returns-else-idr-clause-fields : goal.returns-else-idr-clause-fields
unfolding head_middle
returns-else-idr-clause-fields c = ap head_middle (sym c.if-idr.false)
