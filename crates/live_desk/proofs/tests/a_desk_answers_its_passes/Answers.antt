use Rattle.std.proofs.Common.{ap, ◌∙◌, arith}
use Rattle.recorder_model.specs.Setting.{Setting}
use Rattle.turn_lock.specs.Standing.{Standing}
use Rattle.live_desk.specs.Passes.{Client}
use Rattle.live_desk.proofs.Trial.{ready_last, ready_before, ready_play, ready_try, same_take}
use Rattle.live_desk.proofs.tests.a_desk_answers_its_passes.Goals as goal

pub play-requires : goal.play-requires
play-requires g c =
    let setting : Setting = record { size = c.in_ok-size.size; scripts = c.in_ok-scripts.scripts } in
    let second = ready_last setting c.in_ok-desk.desk c.in_ok-desk.clients.items c.pop.new.self.items c.in_ok-desk.recorder c.pop.result c.expect-second.result c.in_ok-desk.ensures c.pop.ensures.items c.expect-second.ensures in
    record { desk = second.table }

pub try_play-requires : goal.try_play-requires
try_play-requires g c =
    let setting : Setting = record { size = c.in_ok-size.size; scripts = c.in_ok-scripts.scripts } in
    let first = ready_before setting c.in_ok-desk.desk c.in_ok-desk.clients.items c.pop.new.self.items c.pop-2.new.self.items c.in_ok-desk.recorder c.pop.result c.pop-2.result c.expect-second.result c.expect-first.result c.in_ok-desk.ensures c.pop.ensures.items c.expect-second.ensures c.pop-2.ensures.items c.expect-first.ensures in
    record { desk = first.table }

pub play-requires-2 : goal.play-requires-2
play-requires-2 g c =
    let setting : Setting = record { size = c.in_ok-size.size; scripts = c.in_ok-scripts.scripts } in
    let first = ready_before setting c.in_ok-desk.desk c.in_ok-desk.clients.items c.pop.new.self.items c.pop-2.new.self.items c.in_ok-desk.recorder c.pop.result c.pop-2.result c.expect-second.result c.expect-first.result c.in_ok-desk.ensures c.pop.ensures.items c.expect-second.ensures c.pop-2.ensures.items c.expect-first.ensures in
    let tried = ready_try c.in_ok-desk.desk c.expect-first.result c.try_play.new.pass c.try_play.result c.try_play.ensures.played c.try_play.ensures.refused first in
    record { desk = tried.table }

pub note-note-requires-clause-desk : goal.note-note-requires-clause-desk
note-note-requires-clause-desk g c =
    let setting : Setting = record { size = c.in_ok-size.size; scripts = c.in_ok-scripts.scripts } in
    let first = ready_before setting c.in_ok-desk.desk c.in_ok-desk.clients.items c.pop.new.self.items c.pop-2.new.self.items c.in_ok-desk.recorder c.pop.result c.pop-2.result c.expect-second.result c.expect-first.result c.in_ok-desk.ensures c.pop.ensures.items c.expect-second.ensures c.pop-2.ensures.items c.expect-first.ensures in
    let tried = ready_try c.in_ok-desk.desk c.expect-first.result c.try_play.new.pass c.try_play.result c.try_play.ensures.played c.try_play.ensures.refused first in
    (ready_play c.in_ok-desk.desk c.try_play.new.pass c.play-2.new.pass c.play-2.result c.play-2.ensures.played c.play-2.ensures.refused tried).table

pub note-note-requires-clause-weight : goal.note-note-requires-clause-weight
note-note-requires-clause-weight g c =
    let setting : Setting = record { size = c.in_ok-size.size; scripts = c.in_ok-scripts.scripts } in
    let first = ready_before setting c.in_ok-desk.desk c.in_ok-desk.clients.items c.pop.new.self.items c.pop-2.new.self.items c.in_ok-desk.recorder c.pop.result c.pop-2.result c.expect-second.result c.expect-first.result c.in_ok-desk.ensures c.pop.ensures.items c.expect-second.ensures c.pop-2.ensures.items c.expect-first.ensures in
    let tried = ready_try c.in_ok-desk.desk c.expect-first.result c.try_play.new.pass c.try_play.result c.try_play.ensures.played c.try_play.ensures.refused first in
    omega (arith, (ready_play c.in_ok-desk.desk c.try_play.new.pass c.play-2.new.pass c.play-2.result c.play-2.ensures.played c.play-2.ensures.refused tried).weight)

pub hear-requires-clause-desk : goal.hear-requires-clause-desk
hear-requires-clause-desk g c =
    let setting : Setting = record { size = c.in_ok-size.size; scripts = c.in_ok-scripts.scripts } in
    let second = ready_last setting c.in_ok-desk.desk c.in_ok-desk.clients.items c.pop.new.self.items c.in_ok-desk.recorder c.pop.result c.expect-second.result c.in_ok-desk.ensures c.pop.ensures.items c.expect-second.ensures in
    (ready_play c.in_ok-desk.desk c.expect-second.result c.play.new.pass c.play.result c.play.ensures.played c.play.ensures.refused second).table

pub fold-recorder-requires : goal.fold-recorder-requires
fold-recorder-requires g c =
    let setting : Setting = record { size = c.in_ok-size.size; scripts = c.in_ok-scripts.scripts } in
    let first = ready_before setting c.in_ok-desk.desk c.in_ok-desk.clients.items c.pop.new.self.items c.pop-2.new.self.items c.in_ok-desk.recorder c.pop.result c.pop-2.result c.expect-second.result c.expect-first.result c.in_ok-desk.ensures c.pop.ensures.items c.expect-second.ensures c.pop-2.ensures.items c.expect-first.ensures in
    let tried = ready_try c.in_ok-desk.desk c.expect-first.result c.try_play.new.pass c.try_play.result c.try_play.ensures.played c.try_play.ensures.refused first in
    let done = ready_play c.in_ok-desk.desk c.try_play.new.pass c.play-2.new.pass c.play-2.result c.play-2.ensures.played c.play-2.ensures.refused tried in
    record {
      desk = (
        (same_take c.in_ok-desk.recorder c.take.new.pass c.take.result c.take.ensures).table ∙ ap (λ (p : Standing). p.table) c.in_ok-desk.ensures.last,
        ap (λ (p : Client). p.table) c.note-note.ensures.pass ∙ done.table,
      );
    }

pub fold-recorder-requires-2 : goal.fold-recorder-requires-2
fold-recorder-requires-2 g c =
    let setting : Setting = record { size = c.in_ok-size.size; scripts = c.in_ok-scripts.scripts } in
    let second = ready_last setting c.in_ok-desk.desk c.in_ok-desk.clients.items c.pop.new.self.items c.in_ok-desk.recorder c.pop.result c.expect-second.result c.in_ok-desk.ensures c.pop.ensures.items c.expect-second.ensures in
    let played = ready_play c.in_ok-desk.desk c.expect-second.result c.play.new.pass c.play.result c.play.ensures.played c.play.ensures.refused second in
    record {
      desk = (
        c.fold-recorder.ensures.table ∙ (same_take c.in_ok-desk.recorder c.take.new.pass c.take.result c.take.ensures).table ∙ ap (λ (p : Standing). p.table) c.in_ok-desk.ensures.last,
        c.hear.ensures.same.table ∙ played.table,
      );
    }

pub close-history-requires-clause-whole : goal.close-history-requires-clause-whole
close-history-requires-clause-whole g c =
    let setting : Setting = record { size = c.in_ok-size.size; scripts = c.in_ok-scripts.scripts } in
    let first = ready_before setting c.in_ok-desk.desk c.in_ok-desk.clients.items c.pop.new.self.items c.pop-2.new.self.items c.in_ok-desk.recorder c.pop.result c.pop-2.result c.expect-second.result c.expect-first.result c.in_ok-desk.ensures c.pop.ensures.items c.expect-second.ensures c.pop-2.ensures.items c.expect-first.ensures in
    let tried = ready_try c.in_ok-desk.desk c.expect-first.result c.try_play.new.pass c.try_play.result c.try_play.ensures.played c.try_play.ensures.refused first in
    let done = ready_play c.in_ok-desk.desk c.try_play.new.pass c.play-2.new.pass c.play-2.result c.play-2.ensures.played c.play-2.ensures.refused tried in
    let second = ready_last setting c.in_ok-desk.desk c.in_ok-desk.clients.items c.pop.new.self.items c.in_ok-desk.recorder c.pop.result c.expect-second.result c.in_ok-desk.ensures c.pop.ensures.items c.expect-second.ensures in
    let played = ready_play c.in_ok-desk.desk c.expect-second.result c.play.new.pass c.play.result c.play.ensures.played c.play.ensures.refused second in
    let took = same_take c.in_ok-desk.recorder c.take.new.pass c.take.result c.take.ensures in
    let start = c.in_ok-desk.ensures.last in
    omega (
      arith,
      done.weight,
      played.weight,
      took.weight,
      took.passes,
      ap (λ (p : Standing). p.knows.weight) start,
      ap (λ (p : Standing). p.knows.passes) start,
      c.in_ok-scripts.ensures.many,
      ap (λ (p : Client). p.knows.weight) c.note-note.ensures.pass,
      ap (λ k. k.weight) c.note-note.ensures.note,
      c.fold-recorder.ensures.weight,
      c.fold-recorder.ensures.passes,
      c.fold-recorder-2.ensures.weight,
      c.fold-recorder-2.ensures.passes,
      c.hear.ensures.weight,
    )
