use Rattle.std.proofs.Common.{refl, ◌≡◌, ◌∙◌, ◌∷◌, [], ℕ, ap, map}
use Rattle.std.specs.List.{range_with_len}
use Rattle.recorder_model.specs.declared.entry.Entry.TheVariants as entry
use Rattle.recorder_model.specs.Histories.{own_order}
use Rattle.screenrec.specs.Served.{serial_view}
use Rattle.screenrec.proofs.AloneLaws.{wide_enough, whole_files, stopped_files}
use Rattle.screenrec.proofs.alone.record_script.Goals as goal

pub returns-in-Err-result-clause-files : goal.returns-in-Err-result-clause-files
returns-in-Err-result-clause-files g c =
    let own : c.in-Ok.order ≡ own_order (c.args.script.now.lines ∷ []) =
    c.in-Ok.ensures ∙ ap (λ (n : ℕ). map (λ (index : ℕ). entry.Line 0 index) (range_with_len 0 n)) c.lines.ensures.value in
    rw c.status_of-in-Err-result.ensures
    (stopped_files (serial_view c.args.words.now) (g.F.Shelf.files c.args.shelf.now) (g.F.Shelf.files c.write_stream.new.shelf) c.args.script.now.lines c.in-Ok.order
    c.in-Ok-write_stream.ending.written c.in-Err-result.error own
    (rw c.in-Err-result.is at c.in-Ok-write_stream.ensures.files))

pub returns-clause-files : goal.returns-clause-files
returns-clause-files g c =
    let own : c.in-Ok.order ≡ own_order (c.args.script.now.lines ∷ []) =
    c.in-Ok.ensures ∙ ap (λ (n : ℕ). map (λ (index : ℕ). entry.Line 0 index) (range_with_len 0 n)) c.lines.ensures.value in
    whole_files (serial_view c.args.words.now) (g.F.Shelf.files c.args.shelf.now) (g.F.Shelf.files c.write_stream.new.shelf) c.args.script.now.lines c.in-Ok.order
    c.in-Ok-write_stream.ending.written c.report_script-status.result c.report_script-status.ensures.status (c.w-width.ensures.within, wide_enough c.args.words.now.settings.extra c.args.words.now.settings.size.w c.requires.within.extra) c.lines.ensures.spellable own
    (rw c.in_default-result.is at c.in-Ok-write_stream.ensures.files)
