use Rattle.std.proofs.Common.{refl, ◌∙◌}
use Rattle.motion_code.proofs.Flat.{flat_levels}
use Rattle.motion_code.proofs.tests.FlatLevelSource.levels.Goals as goal

pub returns-clause-levels : goal.returns-clause-levels
returns-clause-levels c = flat_levels _ c.args._leaf c.args._component _ _ c.zero.ensures (c.log2.ensures.value ∙ c.requires.side) refl
