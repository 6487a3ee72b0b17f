use Rattle.bin_items.proofs.Growing.{writes_at_err, front_kept, writes_next}
use Rattle.pu_code.proofs.mode.write_remainder.Goals as goal

pub returns-in_err-bin-clause-taken : goal.returns-in_err-bin-clause-taken
returns-in_err-bin-clause-taken g c = writes_at_err _ _ _ _ _ c.from_residual.ensures.1 (front_kept _ _ _ c.in_err-bin.ensures.taken)

pub returns-clause-taken : goal.returns-clause-taken
returns-clause-taken g c = writes_next _ _ _ _ _ _ c.in_ok-bin.ensures.taken c.write_fl.ensures.taken
