use Rattle.scan_orders.proofs.Within.{within_at}
use Rattle.scan_orders.proofs.contexts.sig_within.Goals as goal

pub returns : goal.returns
returns c = rw (c.from-3.ensures, c.from.ensures, c.from-2.ensures) (within_at c.args.right c.args.below c.args.x c.args.y c.requires.x c.requires.y)
