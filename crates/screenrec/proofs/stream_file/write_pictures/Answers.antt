use Rattle.std.proofs.Common.{◌≡◌, ◌+◌, ◌++◌, ◌∷◌, [], take, sym, ◌∙◌, ap}
use Rattle.std.proofs.lemmas.List.{take_more, take_all}
use Rattle.recorder_model.specs.declared.line.Line.{Line}
use Rattle.screenrec.proofs.StoredLaws.{told_all, told_stopped}
use Rattle.screenrec.proofs.stream_file.write_pictures.Goals as goal

pub returns-in-Err-clause-files : goal.returns-in-Err-clause-files
returns-in-Err-clause-files g c =
    let k = c.loop-index.index in
    let lines = c.args.script.now.lines in
    let settings = c.args.stage.encoder.settings in
    let more : take (k + 1) lines ≡ take k lines ++ c.line_at.result.now ∷ [] =
    take_more lines k c.line_at.result.now (rw c.lines-index-end.ensures.value at c.loop-index-test.true) ∙ ap (λ (line : Line). take k lines ++ line ∷ []) (sym c.line_at.ensures.line) in
    told_stopped settings (g.F.Shelf.files c.args.shelf.now) (g.F.Shelf.files c.loop-index.shelf) (g.F.Shelf.files c.play_line.new.shelf)
    c.args.name.now lines k c.loop-index.written c.line_at.result.now c.in-Err.error more c.loop-index.invariant.counted c.loop-index.invariant.told
    (c.in-Err.ensures.files settings (take k lines) c.loop-index.invariant.played)

pub returns-clause-files : goal.returns-clause-files
returns-clause-files g c =
    told_all c.args.stage.encoder.settings (g.F.Shelf.files c.args.shelf.now) (g.F.Shelf.files c.loop-index.shelf) c.args.name.now c.args.script.now.lines c.loop-index.index c.loop-index.written
    (take_all c.loop-index.index c.args.script.now.lines (rw c.lines-index-end.ensures.value at c.loop-index-test.false)) c.loop-index.invariant.counted c.loop-index.invariant.told
