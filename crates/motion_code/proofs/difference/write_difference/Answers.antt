use Rattle.bin_items.proofs.Growing.{front_as, front_first, front_then, writes_as, writes_at_err, writes_then}
use Rattle.motion_code.proofs.PartLaws.{difference_is}
use Rattle.motion_code.proofs.difference.write_difference.Goals as goal

pub returns-in_err-write_greater0-clause-taken : goal.returns-in_err-write_greater0-clause-taken
returns-in_err-write_greater0-clause-taken g c =
    writes_at_err _ _ _ _ _ c.from_residual.ensures.1 (front_as _ _ _ _ (difference_is c.args.difference) (front_first _ _ _ _ c.in_err-write_greater0.ensures.taken))

pub returns-in_err-write_part_flags-clause-taken : goal.returns-in_err-write_part_flags-clause-taken
returns-in_err-write_part_flags-clause-taken g c = writes_at_err _ _ _ _ _ c.from_residual-in_err-write_part_flags.ensures.1
    (front_as _ _ _ _ (difference_is c.args.difference) (front_then _ _ _ _ _ c.in_ok-write_greater0.ensures.taken (front_first _ _ _ _ c.in_err-write_part_flags.ensures.taken)))

pub returns-clause-taken : goal.returns-clause-taken
returns-clause-taken g c = writes_as _ _ _ _ _ (difference_is c.args.difference)
    (writes_then _ _ _ _ _ _ c.in_ok-write_greater0.ensures.taken (writes_then _ _ _ _ _ _ c.in_ok-write_part_flags.ensures.taken c.write_parts.ensures.taken))
