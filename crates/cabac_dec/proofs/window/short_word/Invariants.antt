use Rattle.std.proofs.Common.{◌≡◌, take}
use Rattle.h265_model.specs.Bits.{bits, value}
use Rattle.cabac_dec.proofs.window.short_word.Given as goal

abbrev pub invariant-loop-byte : goal.invariant-loop-byte
invariant-loop-byte l = l.word ≡ value (bits (take l.byte-index l.bytes))
