use Rattle.bin_items.proofs.Growing.{front_as, front_kept, front_first, front_next, writes_as, writes_at_err, writes_next, writes_then}
use Rattle.motion_code.proofs.PartLaws.{vector_is}
use Rattle.motion_code.proofs.moved.write_vector.Goals as goal

pub returns-in_err-write_flag-clause-taken : goal.returns-in_err-write_flag-clause-taken
returns-in_err-write_flag-clause-taken g c = writes_at_err _ _ _ _ _ c.from_residual.ensures.1 (front_kept _ _ _ c.in_err-write_flag.ensures.taken)

pub returns-in_err-write_difference-clause-taken : goal.returns-in_err-write_difference-clause-taken
returns-in_err-write_difference-clause-taken g c = writes_at_err _ _ _ _ _ c.from_residual-in_err-write_difference.ensures.1
    (front_as _ _ _ _ (vector_is c.args.vector _ _ c.args.predictors _ c.second_is_nearer-second.ensures c.named.ensures.value c.difference_of.ensures.value)
    (front_next _ _ _ _ _ c.in_ok-write_flag.ensures.taken (front_first _ _ _ _ c.in_err-write_difference.ensures.taken)))

pub returns-clause-taken : goal.returns-clause-taken
returns-clause-taken g c = writes_as _ _ _ _ _ (vector_is c.args.vector _ _ c.args.predictors _ c.second_is_nearer-second.ensures c.named.ensures.value c.difference_of.ensures.value)
    (writes_next _ _ _ _ _ _ c.in_ok-write_flag.ensures.taken (writes_then _ _ _ _ _ _ c.in_ok-write_difference.ensures.taken c.write_end.ensures.taken))
