use Rattle.recorder_model.specs.Setting.{Setting}
use Rattle.live_desk.proofs.Trial.{ready_last, ready_play}
use Rattle.live_desk.proofs.tests.a_cut_without_memory_ends_the_desk.Goals as goal

pub mark_lost-requires-clause-desk : goal.mark_lost-requires-clause-desk
mark_lost-requires-clause-desk g c =
    let setting : Setting = record { size = c.in_ok-size.size; scripts = c.in_ok-scripts.scripts } in
    let fresh = ready_last setting c.in_ok-desk.desk c.in_ok-desk.clients.items c.pop.new.self.items c.in_ok-desk.recorder c.pop.result c.expect-client.result c.in_ok-desk.ensures c.pop.ensures.items c.expect-client.ensures in
    let cut = ready_play c.in_ok-desk.desk c.expect-client.result c.play.new.pass c.play.result c.play.ensures.played c.play.ensures.refused fresh in
    let painted = ready_play c.in_ok-desk.desk c.play.new.pass c.play-2.new.pass c.play-2.result c.play-2.ensures.played c.play-2.ensures.refused cut in
    (ready_play c.in_ok-desk.desk c.play-2.new.pass c.play-3.new.pass c.play-3.result c.play-3.ensures.played c.play-3.ensures.refused painted).table
