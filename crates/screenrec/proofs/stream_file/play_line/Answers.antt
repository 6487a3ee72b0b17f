use Rattle.screenrec.proofs.StoredLaws.{paints, paint_adds, paint_continues, paint_counts, told_cut, cut_counts}
use Rattle.screenrec.proofs.stream_file.play_line.Goals as goal

pub returns-in-Cut-clause-counted : goal.returns-in-Cut-clause-counted
returns-in-Cut-clause-counted g c = λ settings done is.
    rw c.in-Cut.is (cut_counts settings done c.append_picture.result (c.append_picture.ensures.counted settings done is))

pub returns-in-Cut-clause-files : goal.returns-in-Cut-clause-files
returns-in-Cut-clause-files g c = λ settings done is.
    rw c.in-Cut.is
    (told_cut settings (g.F.Shelf.files c.args.shelf.now) (g.F.Shelf.files c.append_picture.new.shelf) c.args.name.now done c.append_picture.result
    (c.append_picture.ensures.files settings done is))

pub returns-clause-counted : goal.returns-clause-counted
returns-clause-counted g c = λ settings done is.
    paint_counts settings done c.args.line.now (paint_adds settings done c.args.line.now (paints c.args.line.now c.in_default.not-Cut))

pub returns-clause-files : goal.returns-clause-files
returns-clause-files g c = λ settings done is.
    paint_continues settings (g.F.Shelf.files c.args.shelf.now) c.args.name.now done c.args.line.now
    (paint_adds settings done c.args.line.now (paints c.args.line.now c.in_default.not-Cut))
