use Rattle.bin_items.proofs.Growing.{writes_as, writes_took}
use Rattle.coding_tree.proofs.UnitLaws.{part_some}
use Rattle.coding_tree.proofs.leaf.write_part_mode.Goals as goal

pub returns-then-log2-eq3-clause-taken : goal.returns-then-log2-eq3-clause-taken
returns-then-log2-eq3-clause-taken g c = writes_as _ _ _ _ _ (part_some c.args.log2 c.if-log2-eq3.true) (writes_took _ _ _ _ c.write_flag.ensures.taken)
