use Rattle.std.proofs.Common.{◌≡◌, ◌∙◌, subst, List, true, false}
use Rattle.std.specs.List.{All, Any}
use Rattle.live_desk.specs.Passes.{Client}
use Rattle.recorder.proofs.Seen.{lawful_now}
use Rattle.recorder_model.specs.Painting.{pictures}
use Rattle.recorder_model.specs.Histories.{takes}
use Rattle.recorder.specs.Ends.{Ends}
use Rattle.recorder.specs.Sessions.{IsOrder, Scripted, all_cuts}
use Rattle.recorder.proofs.Orders.{finished, all_takes, is_order, all_taken, now_ended}
use Rattle.recorder.proofs.session.Session.run.Goals as goal

pub close-requires-clause-whole : goal.close-requires-clause-whole
close-requires-clause-whole g c =
    (finished c.self.inside.desk c.self.inside.clients.items c.play_and_record-end.new.clients.items c.self.inside.recorder c.play_and_record-end.new.recorder c.fold_all-recorder.result
    c.self.invariant.0 c.play_and_record-end.ensures.clients c.play_and_record-end.ensures.recorder c.fold_all-recorder.ensures).weight

pub returns-clause-order : goal.returns-clause-order
returns-clause-order g c =
    let setting = c.self.inside.recorder.knows.setting in
    let clients = c.play_and_record-end.new.clients.items in
    let recorder = c.play_and_record-end.new.recorder in
    let whole = c.fold_all-recorder.result in
    let is = finished c.self.inside.desk c.self.inside.clients.items clients c.self.inside.recorder recorder whole c.self.invariant.0 c.play_and_record-end.ensures.clients c.play_and_record-end.ensures.recorder c.fold_all-recorder.ensures in
    let answer = c.play_and_record-end.result in
    subst (λ (s : Scripted). IsOrder s.scripts c.close.result.items c.any_stopped-lost.result answer) c.self.view_is
    (is_order setting clients recorder whole c.close.result.items is c.close.ensures c.any_stopped-lost.result answer
    (λ none. subst (λ (l : List Client). All (λ p. p.stopped ≡ false) l) c.deref.ensures.value (c.any_stopped-lost.ensures.none none))
    (λ some. subst (λ (l : List Client). Any (λ p. p.stopped ≡ true) l) c.deref.ensures.value (c.any_stopped-lost.ensures.some some))
    (λ written ok. all_takes setting clients recorder whole c.close.result.items is c.close.ensures
    ∙ all_taken _ _ _ _ written _ _ answer ok c.play_and_record-end.ensures.ended ∙ c.self.invariant.4))

pub returns-clause-ended : goal.returns-clause-ended
returns-clause-ended g c =
    let setting = c.self.inside.recorder.knows.setting in
    let clients = c.play_and_record-end.new.clients.items in
    let recorder = c.play_and_record-end.new.recorder in
    let whole = c.fold_all-recorder.result in
    let is = finished c.self.inside.desk c.self.inside.clients.items clients c.self.inside.recorder recorder whole c.self.invariant.0 c.play_and_record-end.ensures.clients c.play_and_record-end.ensures.recorder c.fold_all-recorder.ensures in
    let was = g.K.Sink.text c.args.sink.now in
    let now = g.K.Sink.text c.play_and_record-end.new.sink in
    let answer = c.play_and_record-end.result in
    let h = c.close.result.items in
    subst (λ (s : Scripted). Ends s.settings (pictures s.settings.size s.scripts h) (all_cuts s.scripts) (takes h) was now answer) c.self.view_is
    (now_ended setting clients recorder whole h is c.close.ensures c.self.inside.encoder.settings c.self.inside.cuts was now answer c.self.invariant.1 c.self.invariant.4
    (lawful_now c.self.inside.recorder recorder c.play_and_record-end.ensures.recorder) c.play_and_record-end.ensures.ended)
