use Rattle.std.proofs.Common.{◌+◌, ◌∙◌, false, true, subst}
use Rattle.live_desk.specs.Passes.{Client}
use Rattle.live_desk.specs.Desks.{HasPlayed, HasStopped}
use Rattle.live_desk.proofs.Calls.{client_with, has_played, has_stopped}
use Rattle.live_desk.proofs.Turning.{entered, held_owns, next_is}
use Rattle.live_desk.proofs.desk.Desk.try_play.Goals as goal

pub accept_line-requires-clause-next : goal.accept_line-requires-clause-next
accept_line-requires-clause-next c =
    let old : Client = record { table = c.pass.inside.pass.table; knows = c.pass.inside.pass.knows; client = c.pass.inside.client; next = c.pass.inside.next; lines = c.pass.inside.lines; stopped = c.pass.inside.stopped } in
    next_is old c.try_enter.new.pass.knows c.in-Ok.state c.pass.invariant (entered old.knows c.try_enter.new.pass.knows c.in-Ok.state c.in-Ok.ensures.ok) c.if-pass.false

pub accept_line-requires-clause-author : goal.accept_line-requires-clause-author
accept_line-requires-clause-author c =
    let old : Client = record { table = c.pass.inside.pass.table; knows = c.pass.inside.pass.knows; client = c.pass.inside.client; next = c.pass.inside.next; lines = c.pass.inside.lines; stopped = c.pass.inside.stopped } in
    held_owns old c.try_enter.new.pass.knows c.in-Ok.state c.pass.invariant (entered old.knows c.try_enter.new.pass.knows c.in-Ok.state c.in-Ok.ensures.ok)

pub returns-in-Ok-accept_line-clause-played : goal.returns-in-Ok-accept_line-clause-played
returns-in-Ok-accept_line-clause-played c =
    let old : Client = record { table = c.pass.inside.pass.table; knows = c.pass.inside.pass.knows; client = c.pass.inside.client; next = c.pass.inside.next; lines = c.pass.inside.lines; stopped = c.pass.inside.stopped } in
    let turn = entered old.knows c.try_enter.new.pass.knows c.in-Ok.state c.in-Ok.ensures.ok in
    subst (λ (o : Client). HasPlayed o (client_with old c.accept_line.new.pass.table c.accept_line.new.pass.knows (old.next + 1) false) c.in-Ok-accept_line.at) c.pass.view_is
    (has_played old c.try_enter.new.pass.knows c.accept_line.new.pass.knows c.in-Ok.state c.accept_line.new.pass.table c.in-Ok-accept_line.at c.pass.invariant turn c.if-pass.false
    (c.in-Ok-accept_line.ensures.turn ∙ c.in-Ok.ensures.turn) c.in-Ok-accept_line.ensures.ok c.in-Ok-accept_line.ensures.place c.in-Ok-accept_line.ensures.lawful)

pub returns-in-Err-accept_line-clause-refused : goal.returns-in-Err-accept_line-clause-refused
returns-in-Err-accept_line-clause-refused c =
    let old : Client = record { table = c.pass.inside.pass.table; knows = c.pass.inside.pass.knows; client = c.pass.inside.client; next = c.pass.inside.next; lines = c.pass.inside.lines; stopped = c.pass.inside.stopped } in
    let turn = entered old.knows c.try_enter.new.pass.knows c.in-Ok.state c.in-Ok.ensures.ok in
    subst (λ (o : Client). HasStopped o (client_with old c.accept_line.new.pass.table c.accept_line.new.pass.knows old.next true)) c.pass.view_is
    (has_stopped old c.try_enter.new.pass.knows c.accept_line.new.pass.knows c.in-Ok.state c.accept_line.new.pass.table turn c.if-pass.false (c.in-Err-accept_line.ensures.turn ∙ c.in-Ok.ensures.turn) c.in-Err-accept_line.ensures.err c.in-Err-accept_line.ensures.cut)
