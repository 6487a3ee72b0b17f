use Rattle.bin_items.proofs.Growing.{front_kept, writes_at_err, writes_next, writes_took}
use Rattle.motion_code.proofs.moved.write_end.Goals as goal

pub returns-in_err-write_flag-clause-taken : goal.returns-in_err-write_flag-clause-taken
returns-in_err-write_flag-clause-taken g c = writes_at_err _ _ _ _ _ c.from_residual.ensures.1 (front_kept _ _ _ c.in_err-write_flag.ensures.taken)

pub returns-clause-taken : goal.returns-clause-taken
returns-clause-taken g c = writes_next _ _ _ _ _ _ c.in_ok-write_flag.ensures.taken (writes_took _ _ _ _ c.write_flag-2.ensures.taken)
