use Rattle.recorder_model.specs.Setting.{Setting}
use Rattle.live_desk.proofs.Trial.{ready_last, ready_before}
use Rattle.recorder.proofs.tests.one_thread_plays_and_then_records.Goals as goal

pub play_all-requires : goal.play_all-requires
play_all-requires g c =
    let setting : Setting = record { size = c.in_ok-size.size; scripts = c.in_ok-scripts.scripts } in
    let second = ready_last setting c.in_ok-desk.desk c.in_ok-desk.clients.items c.pop.new.self.items c.in_ok-desk.recorder c.pop.result c.expect-second.result c.in_ok-desk.ensures c.pop.ensures.items c.expect-second.ensures in
    record { desk = second.table }

pub play_all-requires-2 : goal.play_all-requires-2
play_all-requires-2 g c =
    let setting : Setting = record { size = c.in_ok-size.size; scripts = c.in_ok-scripts.scripts } in
    let first = ready_before setting c.in_ok-desk.desk c.in_ok-desk.clients.items c.pop.new.self.items c.pop-2.new.self.items c.in_ok-desk.recorder c.pop.result c.pop-2.result c.expect-second.result c.expect-first.result c.in_ok-desk.ensures c.pop.ensures.items c.expect-second.ensures c.pop-2.ensures.items c.expect-first.ensures in
    record { desk = first.table }
