use Rattle.std.proofs.Common.{refl, ℕ, List, sym, subst}
use Rattle.recorder_model.specs.declared.entry.Entry.{Entry}
use Rattle.recorder_model.specs.declared.line.Line.{Line}
use Rattle.recorder_model.specs.Files.{WhereTold}
use Rattle.edges.specs.Sunk.{is_made}
use Rattle.recorder.specs.Sessions.{IsOrder}
use Rattle.screenrec.specs.Served.{record_view}
use Rattle.screenrec.specs.Together.{ReportsOrder}
use Rattle.screenrec.proofs.AloneLaws.{wide_enough}
use Rattle.screenrec.proofs.TogetherLaws.{few_in_all, short_order, played_if_ok, recorded_files}
use Rattle.screenrec.proofs.together.record_scripts.Goals as goal

pub open_session-requires-clause-few : goal.open_session-requires-clause-few
open_session-requires-clause-few g c = few_in_all c.args.scripts c.requires.few

pub record_into-recording-requires-clause-there : goal.record_into-recording-requires-clause-there
record_into-recording-requires-clause-there g c κs within =
    is_made (g.F.Shelf.files c.args.shelf.now) (g.F.Shelf.files c.create.new.self) c.args.words.now.out.now c.in_default-create.ensures.files

pub finish-requires : goal.finish-requires
finish-requires g c = record {
  short = short_order c.args.scripts c.record_into-recording.result.order.items c.record_into-recording.result.lost c.record_into-recording.result.end c.requires.few
      (subst (λ (l : List (List Line)). IsOrder l c.record_into-recording.result.order.items c.record_into-recording.result.lost c.record_into-recording.result.end)
      c.in-Ok.ensures.scripts c.record_into-recording.ensures.order);
}

pub returns-clause-text : goal.returns-clause-text
returns-clause-text g c =
    let recording = c.record_into-recording.result in
    let is = subst (λ (l : List (List Line)). IsOrder l recording.order.items recording.lost recording.end) c.in-Ok.ensures.scripts c.record_into-recording.ensures.order in
    subst (λ (x : List Entry × ℕ). WhereTold (g.K.Sink.text c.args.report.now) (g.K.Sink.text c.finish.new.report) (λ was now. ReportsOrder c.args.scripts x.0 x.1 was now c.finish.result.status))
    (λ i. (sym c.finish.ensures.order i, sym c.finish.ensures.written i))
    (c.finish.ensures.text c.args.scripts (played_if_ok c.args.scripts recording.order.items recording.lost recording.end is))

pub returns-clause-files : goal.returns-clause-files
returns-clause-files g c =
    recorded_files (record_view c.args.words.now) c.args.scripts c.record_into-recording.result.order.items c.finish.result.order c.finish.result.written
    c.in-Ok.session.settings c.in-Ok.session.scripts (g.F.Shelf.files c.args.shelf.now) (g.F.Shelf.files c.create.new.self) (g.F.Shelf.files c.record_into-recording.new.shelf)
    c.record_into-recording.result.lost c.record_into-recording.result.end c.finish.result.status
    c.in-Ok.ensures.settings c.in-Ok.ensures.scripts (c.w-width.ensures.within, wide_enough c.args.words.now.settings.extra c.args.words.now.settings.size.w c.requires.within.0.extra) c.requires.spellable
    c.finish.ensures.order c.finish.ensures.written c.record_into-recording.ensures.order c.finish.ensures.status
    c.in_default-create.ensures.files c.record_into-recording.ensures.files
