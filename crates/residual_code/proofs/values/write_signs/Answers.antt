use Rattle.std.proofs.Common.{refl}
use Rattle.bin_items.proofs.Growing.{writes_as}
use Rattle.residual_code.proofs.Signs.{signs_written}
use Rattle.residual_code.proofs.values.write_signs.Goals as goal

pub returns-clause-taken : goal.returns-clause-taken
returns-clause-taken g c = writes_as _ _ _ _ _ (signs_written c.args.values.now _ c.sign_bits.result refl c.sign_bits.ensures) c.bypass.ensures.taken
