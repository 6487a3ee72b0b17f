use Rattle.std.proofs.Common.{sym, ◌∙◌, []}
use Rattle.std.proofs.lemmas.Bool.{cond-true}
use Rattle.coding_tree.specs.UnitFlags.{flag_items, begins}
use Rattle.coding_tree.proofs.UnitWalks.{no_flag}
use Rattle.bin_items.proofs.Growing.{grew_as, grew_same, writes_as}
use Rattle.coding_tree.proofs.tree.write_split_flag.Goals as goal

pub returns-then-not-is_first-clause-taken : goal.returns-then-not-is_first-clause-taken
returns-then-not-is_first-clause-taken g c = λ before at. grew_as [] _ _ _ (sym (no_flag _ before c.args.leaf c.args.log2 (sym c.is_first.ensures ∙ c.if-not-is_first.true))) (grew_same _)

pub returns-clause-taken : goal.returns-clause-taken
unfolding flag_items
returns-clause-taken g c = λ before at. writes_as _ _ _ _ _ (sym (cond-true (begins c.args.leaf c.args.log2) _ _ (sym c.is_first.ensures ∙ c.if-not-is_first.false))) (c.write_split.ensures.taken before at)
