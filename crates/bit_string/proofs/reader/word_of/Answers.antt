use Rattle.std.proofs.Common.{refl, arith}
use Rattle.h265_model.specs.Bits.{value_after}
use Rattle.bit_string.proofs.Windows.{word_more}
use Rattle.bit_string.proofs.reader.word_of.Goals as goal

pub loop-byte-init : goal.loop-byte-init
unfolding value_after
loop-byte-init c = refl

pub loop-byte-preserved : goal.loop-byte-preserved
loop-byte-preserved c =
    word_more c.args.bytes.now c.loop-byte.byte-index c.loop-byte.word c.from.result (omega arith) (omega arith) (omega arith) c.from.ensures c.loop-byte.invariant
