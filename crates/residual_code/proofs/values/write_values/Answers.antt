use Rattle.bin_items.proofs.Growing.{writes_at_err, front_first, front_then, writes_then}
use Rattle.residual_code.proofs.values.write_values.Goals as goal

pub returns-in_err-write_greater1-clause-taken : goal.returns-in_err-write_greater1-clause-taken
returns-in_err-write_greater1-clause-taken g c = writes_at_err _ _ _ _ _ c.from_residual.ensures.1 (front_first _ _ _ _ c.in_err-write_greater1.ensures.taken)

pub returns-in_err-write_greater2-clause-taken : goal.returns-in_err-write_greater2-clause-taken
returns-in_err-write_greater2-clause-taken g c =
    writes_at_err _ _ _ _ _ c.from_residual-in_err-write_greater2.ensures.1
    (front_then _ _ _ _ _ c.in_ok-write_greater1.ensures.taken (front_first _ _ _ _ c.in_err-write_greater2.ensures.taken))

pub returns-in_err-write_signs-clause-taken : goal.returns-in_err-write_signs-clause-taken
returns-in_err-write_signs-clause-taken g c =
    writes_at_err _ _ _ _ _ c.from_residual-in_err-write_signs.ensures.1
    (front_then _ _ _ _ _ c.in_ok-write_greater1.ensures.taken
    (front_then _ _ _ _ _ c.in_ok-write_greater2.ensures.taken (front_first _ _ _ _ c.in_err-write_signs.ensures.taken)))

pub returns-clause-taken : goal.returns-clause-taken
returns-clause-taken g c =
    writes_then _ _ _ _ _ _ c.in_ok-write_greater1.ensures.taken
    (writes_then _ _ _ _ _ _ c.in_ok-write_greater2.ensures.taken
    (writes_then _ _ _ _ _ _ c.in_ok-write_signs.ensures.taken c.write_rests.ensures.taken))
