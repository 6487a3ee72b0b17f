use Rattle.std.proofs.Common.{arith}
use Rattle.desk_state.proofs.Accepted.{few_now}
use Rattle.desk_state.proofs.state.DeskState.entries.Goals as goal

pub overflow_cast-result : goal.overflow_cast-result
overflow_cast-result c = omega (arith, c.len.ensures, c.self.inside.history.ok, few_now c.self.inside c.self.invariant)
