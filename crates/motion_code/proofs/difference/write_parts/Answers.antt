use Rattle.std.proofs.Common.{ap, w32, rules}
use Rattle.std.proofs.lemmas.Int.{to_z-of_z}
use Rattle.h265_model.specs.Motion.{part_items}
use Rattle.bin_items.proofs.Growing.{front_as, front_first, grew_as, writes_as, writes_at_err, writes_then}
use Rattle.motion_code.proofs.difference.write_parts.Goals as goal

pub returns-in_err-write_part-clause-taken : goal.returns-in_err-write_part-clause-taken
returns-in_err-write_part-clause-taken g c = writes_at_err _ _ _ _ _ c.from_residual.ensures.1
    (front_first _ _ _ _ (front_as _ _ _ _ (ap part_items (to_z-of_z w32 c.args.difference.x (search rules))) c.in_err-write_part.ensures.taken))

pub returns-clause-taken : goal.returns-clause-taken
returns-clause-taken g c =
    writes_then _ _ _ _ _ _ (grew_as _ _ _ _ (ap part_items (to_z-of_z w32 c.args.difference.x (search rules))) c.in_ok-write_part.ensures.taken)
    (writes_as _ _ _ _ _ (ap part_items (to_z-of_z w32 c.args.difference.y (search rules))) c.write_part-2.ensures.taken)
