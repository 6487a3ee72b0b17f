use Rattle.std.proofs.Common.{sym, ap}
use Rattle.h265_model.specs.SliceHead.{head_front}
use Rattle.slice_head.proofs.tables.front.Goals as goal

pub returns-then-idr-clause-fields : goal.returns-then-idr-clause-fields
unfolding head_front
returns-then-idr-clause-fields c = ap head_front (sym c.if-idr.true)

pub returns-else-idr-clause-fields : goal.returns-else-idr-clause-fields
unfolding head_front
returns-else-idr-clause-fields c = ap head_front (sym c.if-idr.false)
