use Rattle.std.proofs.Common.{arith}
use Rattle.scan_orders.proofs.MarkLaws.{is_sub}
use Rattle.residual_read.specs.Parts.{shape_of}
use Rattle.residual_read.proofs.flags.sig_start.Goals as goal

pub overflow_add-first : goal.overflow_add-first
overflow_add-first c =
    let s = is_sub (shape_of c.args.shape) c.args.sub.number c.args.sub.x c.args.sub.y c.requires.shape.low c.requires.shape.high c.requires.sub.number c.requires.sub.x c.requires.sub.y in
    let w = s.wide in let t = s.tall in omega arith
