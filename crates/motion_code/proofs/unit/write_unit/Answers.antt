use Rattle.std.proofs.Common.{ap}
use Rattle.h265_model.specs.Motion.{leaves}
use Rattle.coding_tree.specs.UnitFlags.{flags_items}
use Rattle.bin_items.proofs.Growing.{front_as, front_first, grew_as, writes_at_err, writes_then}
use Rattle.motion_code.specs.Moves.{flagged_items}
use Rattle.motion_code.proofs.unit.write_unit.Goals as goal

pub returns-in_err-write_split_flags-clause-taken : goal.returns-in_err-write_split_flags-clause-taken
unfolding flagged_items
returns-in_err-write_split_flags-clause-taken g c = λ before at. writes_at_err _ _ _ _ _ c.from_residual.ensures.1
    (front_first _ _ _ _ (front_as _ _ _ _ (ap (flags_items c.args.size (leaves before)) c.leaf_of.ensures) (c.in_err-write_split_flags.ensures.taken (leaves before) at.modes)))

pub returns-clause-taken : goal.returns-clause-taken
unfolding flagged_items
returns-clause-taken g c = λ before at.
    writes_then _ _ _ _ _ _ (grew_as _ _ _ _ (ap (flags_items c.args.size (leaves before)) c.leaf_of.ensures) (c.in_ok-write_split_flags.ensures.taken (leaves before) at.modes))
    (c.write_bare.ensures.taken before at)
