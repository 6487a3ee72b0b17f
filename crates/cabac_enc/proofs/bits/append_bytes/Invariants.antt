use Rattle.std.proofs.Common.{◌≡◌, ◌++◌, take}
use Rattle.h265_model.specs.Bits.{bits}
use Rattle.cabac_enc.proofs.bits.append_bytes.Given as goal

abbrev pub invariant-loop-byte : goal.invariant-loop-byte
invariant-loop-byte l = l.list.items ≡ l.fn.list.items ++ bits (take l.byte-index l.some)
