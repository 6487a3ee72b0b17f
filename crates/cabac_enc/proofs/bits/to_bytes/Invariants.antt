use Rattle.std.proofs.Common.{◌≡◌, ◌++◌, ◌<◌, ◌^◌, drop}
use Rattle.h265_model.specs.Bits.{u, bytes}
use Rattle.cabac_enc.proofs.bits.to_bytes.Given as goal

abbrev pub invariant-loop-bit : goal.invariant-loop-bit
invariant-loop-bit l = record {
  few : l.count < 8;
  below : l.number < 2 ^ l.count;
  same : l.found.items ++ bytes (u l.count l.number ++ drop l.bit-index l.list) ≡ bytes l.list;
}
