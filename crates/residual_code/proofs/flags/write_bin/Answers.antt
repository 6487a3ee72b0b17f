use Rattle.scan_orders.proofs.Bounds.{sig_low}
use Rattle.residual_code.proofs.FlagLaws.{sub_low}
use Rattle.residual_code.proofs.flags.write_bin.Goals as goal

pub sig_context-context-requires-clause-sub_x : goal.sig_context-context-requires-clause-sub_x
sig_context-context-requires-clause-sub_x g c = (sub_low c.args.shape c.args.sub c.requires.shape c.requires.sub).0

pub sig_context-context-requires-clause-sub_y : goal.sig_context-context-requires-clause-sub_y
sig_context-context-requires-clause-sub_y g c = (sub_low c.args.shape c.args.sub c.requires.shape c.requires.sub).1

pub bin-requires-clause-in_range : goal.bin-requires-clause-in_range
bin-requires-clause-in_range g c =
    rw c.sig_context-context.ensures (sig_low c.args.shape.component c.args.shape.log2 c.args.shape.scan c.args.sub.x c.args.sub.y c.from.result c.from-2.result c.args.sub.right c.args.sub.below)
