use Rattle.std.proofs.Common.{◌≡◌, ◌^◌, ◌<◌, take, map}
use Rattle.h265_model.specs.Residual.{is_negative}
use Rattle.h265_model.specs.Bits.{value_after}
use Rattle.residual_code.proofs.values.sign_bits.Given as goal

abbrev pub invariant-loop-value : goal.invariant-loop-value
invariant-loop-value l = record {
  bits : l.bits ≡ value_after 0 (map is_negative (take l.value-index l.values));
  low : l.bits < 2 ^ l.value-index;
}
