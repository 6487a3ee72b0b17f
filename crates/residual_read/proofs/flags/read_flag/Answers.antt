use Rattle.std.proofs.Common.{ap, get_or}
use Rattle.scan_orders.proofs.Bounds.{sig_low}
use Rattle.residual_read.proofs.Shapes.{sub_low}
use Rattle.scan_orders.proofs.ScanPlaces.{place_low}
use Rattle.residual_read.proofs.flags.read_flag.Goals as goal

pub sig_context-context-requires-clause-sub_x : goal.sig_context-context-requires-clause-sub_x
sig_context-context-requires-clause-sub_x c = (sub_low c.args.shape c.args.sub c.requires.shape c.requires.sub).0

pub sig_context-context-requires-clause-sub_y : goal.sig_context-context-requires-clause-sub_y
sig_context-context-requires-clause-sub_y c = (sub_low c.args.shape c.args.sub c.requires.shape c.requires.sub).1

pub sig_context-context-requires-clause-x : goal.sig_context-context-requires-clause-x
sig_context-context-requires-clause-x c = rw c.from.ensures (place_low c.args.shape.scan c.args.number _ c.requires.number (ap (λ l. get_or l c.args.number (0, 0)) c.places.ensures.value)).0

pub sig_context-context-requires-clause-y : goal.sig_context-context-requires-clause-y
sig_context-context-requires-clause-y c = rw c.from-2.ensures (place_low c.args.shape.scan c.args.number _ c.requires.number (ap (λ l. get_or l c.args.number (0, 0)) c.places.ensures.value)).1

pub bin-requires-clause-in_range : goal.bin-requires-clause-in_range
bin-requires-clause-in_range c =
    rw c.sig_context-context.ensures (sig_low c.args.shape.component c.args.shape.log2 c.args.shape.scan c.args.sub.x c.args.sub.y c.from.result c.from-2.result c.args.sub.right c.args.sub.below)
