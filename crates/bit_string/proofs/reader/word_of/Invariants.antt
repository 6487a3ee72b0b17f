use Rattle.std.proofs.Common.{◌≡◌, take}
use Rattle.h265_model.specs.Bits.{bits, value}
use Rattle.bit_string.proofs.reader.word_of.Given as goal

abbrev pub invariant-loop-byte : goal.invariant-loop-byte
invariant-loop-byte l = l.word ≡ value (bits (take l.byte-index l.bytes))
