use Rattle.std.proofs.Common.{rules, arith}
use Rattle.screenrec.proofs.FrameLaws.{read_true, is_next_frame}
use Rattle.screenrec.proofs.decode.write_next.Goals as goal

pub returns-clause-read : goal.returns-clause-read
returns-clause-read g c =
    is_next_frame c.args.reader.now c.next.new.self c.picture.result.now c.len.result c.clear.new.self.items c.append_frame.new.out.items
    (read_true c.in-Ok-true.field-0 c.args.reader.now c.next.new.self (search rules) c.in-Ok-true.ensures)
    c.picture.ensures.picture (rw c.size.ensures at c.w-width.ensures.within) c.clear.ensures.items c.in_ok-append_frame.ensures.ok
    (omega (arith, c.len.ensures, c.append_frame.new.out.ok))
