use Rattle.std.proofs.Common.{◌∙◌, ap}
use Rattle.unit_choice.specs.Units.{Trial}
use Rattle.unit_choice.proofs.tests.units_of.Goals as goal

pub best_unit-best-requires : goal.best_unit-best-requires
best_unit-best-requires c = record {
  block = c.block_of.ensures c.loop-n.choice.search (ap (λ (t : Trial). t.search.current.size) (c.loop-n.invariant ∙ c.new-choice.ensures) ∙ c.requires.now)
      (ap (λ (t : Trial). t.search.x) (c.loop-n.invariant ∙ c.new-choice.ensures)) (ap (λ (t : Trial). t.search.y) (c.loop-n.invariant ∙ c.new-choice.ensures));
}
