use Rattle.screenrec.proofs.AcceptedLaws.{told_too_large}
use Rattle.screenrec.proofs.paint_file.read_named.Goals as goal

pub returns-in-Err-TooLarge-clause-files : goal.returns-in-Err-TooLarge-clause-files
returns-in-Err-TooLarge-clause-files g c =
    told_too_large (g.F.Shelf.files c.args.shelf.now) (g.F.Shelf.files c.read_whole.new.self) c.args.file c.args.so_far.lines c.args.so_far.cuts c.args.name.now (rw c.in-Err-TooLarge.field-0-is at c.in-Err-TooLarge.ensures.files)
