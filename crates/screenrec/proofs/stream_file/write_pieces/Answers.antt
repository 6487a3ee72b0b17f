use Rattle.std.proofs.Common.{◌∙◌}
use Rattle.screenrec.proofs.StoredLaws.{first_told, first_stands, pieces_told}
use Rattle.screenrec.proofs.stream_file.write_pieces.Goals as goal

pub returns-in-Err-clause-files : goal.returns-in-Err-clause-files
returns-in-Err-clause-files g c =
    first_told c.args.start.stage.encoder.settings (g.F.Shelf.files c.args.shelf.now) (g.F.Shelf.files c.append.new.self) c.args.name.now c.deref.result.now c.args.script.now.lines c.in-Err.error
    (c.deref.ensures.value ∙ c.requires.first) c.in-Err.ensures.files

pub returns-clause-files : goal.returns-clause-files
returns-clause-files g c =
    pieces_told c.args.start.stage.encoder.settings (g.F.Shelf.files c.args.shelf.now) (g.F.Shelf.files c.append.new.self) (g.F.Shelf.files c.write_pictures.new.shelf)
    c.args.name.now c.args.script.now.lines c.write_pictures.result.result c.write_pictures.result.written
    (first_stands c.args.start.stage.encoder.settings (g.F.Shelf.files c.args.shelf.now) (g.F.Shelf.files c.append.new.self) c.args.name.now c.deref.result.now
    (c.deref.ensures.value ∙ c.requires.first) c.in_default.ensures.files)
    c.write_pictures.ensures.files
