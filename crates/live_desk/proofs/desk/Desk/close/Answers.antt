use Rattle.std.proofs.Common.{subst}
use Rattle.turn_lock.specs.Standing.{Standing}
use Rattle.live_desk.specs.Desks.{HasClosed}
use Rattle.live_desk.proofs.Calls.{has_closed}
use Rattle.live_desk.proofs.desk.Desk.close.Goals as goal

pub returns : goal.returns
returns c =
    subst (λ (p : Standing). HasClosed p c.into_history.result.items) c.recorder.view_is
    (has_closed c.recorder.inside.pass c.close.result c.into_history.result.items c.recorder.invariant c.close.ensures c.into_history.ensures.history c.into_history.ensures.lawful)
