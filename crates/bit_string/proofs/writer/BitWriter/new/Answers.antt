use Rattle.std.proofs.Common.{refl}
use Rattle.h265_model.specs.Bits.{u}
use Rattle.bit_string.proofs.writer.BitWriter.new.Goals as goal

pub returns : goal.returns
unfolding u
returns c = rw c.new.ensures.items refl
