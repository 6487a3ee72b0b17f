use Rattle.coding_tree.specs.UnitFlags.{unit_items}
use Rattle.bin_items.proofs.Growing.{writes_at_err, front_first, writes_then}
use Rattle.coding_tree.proofs.tree.write_unit.Goals as goal

pub returns-in_err-write_split_flags-clause-taken : goal.returns-in_err-write_split_flags-clause-taken
unfolding unit_items
returns-in_err-write_split_flags-clause-taken g c = λ before at. writes_at_err _ _ _ _ _ c.from_residual.ensures.1 (front_first _ _ _ _ (c.in_err-write_split_flags.ensures.taken before at))

pub returns-clause-taken : goal.returns-clause-taken
unfolding unit_items
returns-clause-taken g c = λ before at. writes_then _ _ _ _ _ _ (c.in_ok-write_split_flags.ensures.taken before at) (c.write_leaf.ensures.taken before at)
