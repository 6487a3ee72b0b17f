use Rattle.std.proofs.Common.{arith}
use Rattle.bin_items.proofs.Growing.{writes_at_err}
use Rattle.residual_code.proofs.SubSteps.{done_more, done_stopped, done_all}
use Rattle.residual_code.proofs.subs.write_subs.Goals as goal

pub loop-left-preserved : goal.loop-left-preserved
loop-left-preserved g c = record {
  opened = c.in_ok-write_sub.ensures.not_ended;
  few = let f = c.loop-left.invariant.few in omega arith;
  done = λ flags are. done_more _ _ _ c.loop-left.left _ _ _ _ _ _ _ _ _ (omega arith) c.in_ok-write_sub.ensures.ended c.in_ok-write_sub.ensures.marks c.in_ok-write_sub.ensures.taken (c.loop-left.invariant.done flags are);
}

pub returns-in_err-write_sub-clause-taken : goal.returns-in_err-write_sub-clause-taken
returns-in_err-write_sub-clause-taken g c = λ flags are. writes_at_err _ _ _ _ _ c.from_residual.ensures.1 (done_stopped _ _ _ c.loop-left.left _ _ _ _ _ _ _ (omega arith) c.in_err-write_sub.ensures.taken (c.loop-left.invariant.done flags are))

pub returns-clause-taken : goal.returns-clause-taken
returns-clause-taken g c = λ flags are. done_all _ _ _ c.loop-left.left _ _ _ _ _ _ (omega arith) (c.loop-left.invariant.done flags are)
