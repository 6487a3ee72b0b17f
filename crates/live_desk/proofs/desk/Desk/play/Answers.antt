use Rattle.std.proofs.Common.{◌+◌, ◌∙◌, false, true, subst}
use Rattle.live_desk.specs.Passes.{Client}
use Rattle.live_desk.specs.Desks.{HasPlayed, HasStopped}
use Rattle.live_desk.proofs.Calls.{client_with, has_played, has_stopped}
use Rattle.live_desk.proofs.Turning.{waited, held_owns, next_is}
use Rattle.live_desk.proofs.desk.Desk.play.Goals as goal

pub accept_line-requires-clause-next : goal.accept_line-requires-clause-next
accept_line-requires-clause-next g c =
    let old : Client = record { table = c.pass.inside.pass.table; knows = c.pass.inside.pass.knows; client = c.pass.inside.client; next = c.pass.inside.next; lines = c.pass.inside.lines; stopped = c.pass.inside.stopped } in
    next_is old c.enter-state.new.pass.knows c.enter-state.result c.pass.invariant (waited old.knows c.enter-state.new.pass.knows c.enter-state.result c.enter-state.ensures.entered) c.if-pass.false

pub accept_line-requires-clause-author : goal.accept_line-requires-clause-author
accept_line-requires-clause-author g c =
    let old : Client = record { table = c.pass.inside.pass.table; knows = c.pass.inside.pass.knows; client = c.pass.inside.client; next = c.pass.inside.next; lines = c.pass.inside.lines; stopped = c.pass.inside.stopped } in
    held_owns old c.enter-state.new.pass.knows c.enter-state.result c.pass.invariant (waited old.knows c.enter-state.new.pass.knows c.enter-state.result c.enter-state.ensures.entered)

pub returns-in-Ok-clause-played : goal.returns-in-Ok-clause-played
returns-in-Ok-clause-played g c =
    let old : Client = record { table = c.pass.inside.pass.table; knows = c.pass.inside.pass.knows; client = c.pass.inside.client; next = c.pass.inside.next; lines = c.pass.inside.lines; stopped = c.pass.inside.stopped } in
    let turn = waited old.knows c.enter-state.new.pass.knows c.enter-state.result c.enter-state.ensures.entered in
    subst (λ (o : Client). HasPlayed o (client_with old c.accept_line.new.pass.table c.accept_line.new.pass.knows (old.next + 1) false) c.in-Ok.at) c.pass.view_is
    (has_played old c.enter-state.new.pass.knows c.accept_line.new.pass.knows c.enter-state.result c.accept_line.new.pass.table c.in-Ok.at c.pass.invariant turn c.if-pass.false
    (c.in-Ok.ensures.turn ∙ c.enter-state.ensures.turn) c.in-Ok.ensures.ok c.in-Ok.ensures.place c.in-Ok.ensures.lawful)

pub returns-in-Err-clause-refused : goal.returns-in-Err-clause-refused
returns-in-Err-clause-refused g c =
    let old : Client = record { table = c.pass.inside.pass.table; knows = c.pass.inside.pass.knows; client = c.pass.inside.client; next = c.pass.inside.next; lines = c.pass.inside.lines; stopped = c.pass.inside.stopped } in
    let turn = waited old.knows c.enter-state.new.pass.knows c.enter-state.result c.enter-state.ensures.entered in
    subst (λ (o : Client). HasStopped o (client_with old c.accept_line.new.pass.table c.accept_line.new.pass.knows old.next true)) c.pass.view_is
    (has_stopped old c.enter-state.new.pass.knows c.accept_line.new.pass.knows c.enter-state.result c.accept_line.new.pass.table turn c.if-pass.false (c.in-Err.ensures.turn ∙ c.enter-state.ensures.turn) c.in-Err.ensures.err c.in-Err.ensures.cut)
