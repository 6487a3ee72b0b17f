use Rattle.std.proofs.Common.{refl, ◌∙◌}
use Rattle.motion_code.proofs.Flat.{flat_samples}
use Rattle.motion_code.proofs.tests.FlatLevelSource.samples.Goals as goal

pub returns-clause-samples : goal.returns-clause-samples
returns-clause-samples c = flat_samples _ c.args._leaf c.args._component _ _ c.zero.ensures (c.log2.ensures.value ∙ c.requires.side) refl
