use Rattle.std.proofs.Common.{arith}
use Rattle.h265_model.proofs.ByteLaws.{length-bits}
use Rattle.bit_string.proofs.reader.BitReader.new.Goals as goal

pub returns-clause-total : goal.returns-clause-total
returns-clause-total c = omega (arith, length-bits c.args.bytes.now)
