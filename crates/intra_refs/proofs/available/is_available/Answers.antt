use Rattle.intra_refs.proofs.Order.{available_is}
use Rattle.intra_refs.proofs.available.is_available.Goals as goal

pub returns-then-y-h : goal.returns-then-y-h
returns-then-y-h c =
    available_is c.args.size c.args.at_x c.args.at_y c.args.x c.args.y c.square_order.result c.square_order-then-y-h.result c.requires.whole_x c.requires.whole_y
    (rw (← c.w.ensures.value) c.if-x-w.true) (rw (← c.h.ensures.value) c.if-y-h.true) (rw (← c.w-then-y-h.ensures.value) c.square_order.ensures) (rw (← c.w-then-y-h.ensures.value) c.square_order-then-y-h.ensures)
