use Rattle.std.proofs.Common.{refl, arith}
use Rattle.h265_model.specs.Bits.{value_after}
use Rattle.cabac_dec.proofs.Words.{word_more, word_whole}
use Rattle.cabac_dec.proofs.window.short_word.Goals as goal

pub loop-byte-init : goal.loop-byte-init
unfolding value_after
loop-byte-init c = refl

pub loop-byte-preserved : goal.loop-byte-preserved
loop-byte-preserved c =
    word_more c.args.bytes.now c.loop-byte.byte-index c.loop-byte.word c.from.result (omega arith) (omega arith) (omega arith) c.from.ensures c.loop-byte.invariant

pub returns : goal.returns
returns c = word_whole c.args.bytes.now c.loop-byte.byte-index c.loop-byte.word (omega arith) (omega arith) c.loop-byte.invariant
