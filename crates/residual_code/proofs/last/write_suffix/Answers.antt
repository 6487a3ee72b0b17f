use Rattle.std.proofs.Common.{◌-◌, sym}
use Rattle.h265_model.specs.Residual.{suffix_base}
use Rattle.bin_items.proofs.Growing.{grew_as, grew_same}
use Rattle.residual_code.proofs.LastLaws.{no_suffix}
use Rattle.residual_code.proofs.last.write_suffix.Goals as goal

pub returns-then-prefix-lt4-clause-taken : goal.returns-then-prefix-lt4-clause-taken
returns-then-prefix-lt4-clause-taken g c = grew_as _ _ _ _ (sym (no_suffix c.args.prefix (c.args.value - suffix_base c.args.prefix) c.if-prefix-lt4.true)) (grew_same _)
