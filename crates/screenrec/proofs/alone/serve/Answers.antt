use Rattle.screenrec.specs.Served.{serial_view}
use Rattle.screenrec.proofs.RunLaws.{files_refused}
use Rattle.screenrec.proofs.alone.serve.Goals as goal

pub returns-in-Err-clause-files : goal.returns-in-Err-clause-files
returns-in-Err-clause-files g c =
    rw c.refused.ensures.status
    (files_refused (g.F.Shelf.files c.args.shelf.now) (g.F.Shelf.files c.read_paint.new.shelf) (serial_view c.args.words.now) c.in-Err.status
    c.refused.result.order c.refused.result.written c.in-Err.ensures.status c.refused.ensures.order c.refused.ensures.written c.in-Err.ensures.files)
