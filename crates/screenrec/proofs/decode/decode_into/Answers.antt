use Rattle.screenrec.proofs.FrameEnds.{all_written}
use Rattle.screenrec.proofs.decode.decode_into.Goals as goal

pub returns-clause-files : goal.returns-clause-files
returns-clause-files g c =
    rw (c.without_order-2.ensures.status, c.without_order-2.ensures.written)
    (all_written c.args.bytes.now c.args.out.now c.in-Ok.reader c.without_order-2.result.order c.write_frames-written.result.bytes c.in-Ok.ensures c.without_order-2.ensures.order
    (g.F.Shelf.files c.args.shelf.now) (g.F.Shelf.files c.create.new.self) (g.F.Shelf.files c.write_frames-written.new.shelf) c.report_pictures-status.result
    c.report_pictures-status.ensures.status c.in_default-create.ensures.files (rw c.in_default-result.is at c.write_frames-written.ensures.files))
