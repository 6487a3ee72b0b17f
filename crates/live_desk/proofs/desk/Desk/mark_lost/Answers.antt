use Rattle.std.proofs.Common.{◌∙◌, subst}
use Rattle.live_desk.specs.Passes.{Client}
use Rattle.live_desk.specs.Desks.{HasMarked}
use Rattle.live_desk.proofs.Calls.{client_with, has_marked}
use Rattle.live_desk.proofs.Turning.{waited}
use Rattle.live_desk.proofs.desk.Desk.mark_lost.Goals as goal

pub returns : goal.returns
returns g c =
    let old : Client = record { table = c.pass.inside.pass.table; knows = c.pass.inside.pass.knows; client = c.pass.inside.client; next = c.pass.inside.next; lines = c.pass.inside.lines; stopped = c.pass.inside.stopped } in
    let turn = waited old.knows c.enter-state.new.pass.knows c.enter-state.result c.enter-state.ensures.entered in
    subst (λ (o : Client). HasMarked o (client_with old c.mark_one.new.pass.table c.mark_one.new.pass.knows old.next old.stopped)) c.pass.view_is
    (has_marked old c.enter-state.new.pass.knows c.mark_one.new.pass.knows c.enter-state.result c.mark_one.new.pass.table turn (c.mark_one.ensures.turn ∙ c.enter-state.ensures.turn) c.mark_one.ensures.marked)
