use Rattle.std.proofs.Common.{◌∙◌, refl, w16, rules, arith}
use Rattle.std.proofs.lemmas.Int.{to_z-of_z}
use Rattle.coding_tree.proofs.MadeUp.{low_at, one_set, one_sample}
use Rattle.coding_tree.proofs.tests.units.SpotsLevelSource.samples.Goals as goal

pub set-requires-clause-column : goal.set-requires-clause-column
set-requires-clause-column c = low_at _ _ _ _ c.zero.ensures c.log2.ensures.value c.log2.ensures.from

pub set-requires-clause-row : goal.set-requires-clause-row
set-requires-clause-row c = low_at _ _ _ _ c.zero.ensures c.log2.ensures.value c.log2.ensures.from

pub returns-clause-samples : goal.returns-clause-samples
returns-clause-samples c = one_sample _ c.args.leaf c.args.component _ _ _ (omega arith)
    (one_set _ _ _ _ _ _ _ _ c.zero.ensures (c.log2.ensures.value ∙ c.requires.side) (to_z-of_z w16 c.from.result (search rules) ∙ c.from.ensures) c.set.ensures) refl
