use Rattle.screenrec.proofs.AcceptedLaws.{told_named}
use Rattle.screenrec.proofs.paint_file.read_next.Goals as goal

pub returns-clause-files : goal.returns-clause-files
returns-clause-files g c =
    told_named (g.F.Shelf.files c.args.shelf.now) (g.F.Shelf.files c.read_named.new.shelf) c.args.names.now c.args.file c.args.so_far.lines c.args.so_far.cuts c.in-Some.name.now
    c.read_named.result c.requires.there c.in-Some.ensures.lookup.1 c.read_named.ensures.files
