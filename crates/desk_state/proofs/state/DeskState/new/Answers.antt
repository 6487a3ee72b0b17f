use Rattle.std.proofs.Common.{arith}
use Rattle.desk_state.proofs.Accepted.{desk_at_first}
use Rattle.desk_state.proofs.state.DeskState.new.Goals as goal

pub invariant_of-result : goal.invariant_of-result
invariant_of-result c =
    desk_at_first _ c.in_ok-history.ensures.items c.requires.few (omega (arith, c.in_ok-history.ensures.capacity, c.room_for.ensures)) c.in_ok-replay.ensures.nothing
