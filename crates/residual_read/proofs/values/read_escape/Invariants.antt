use Rattle.std.proofs.Common.{◌-◌, ◌≡◌, ◌<◌, ◌+◌, ◌^◌}
use Rattle.cabac_dec.specs.State.{IsOpen}
use Rattle.residual_read.specs.Parts.{escape_read}
use Rattle.residual_read.proofs.values.read_escape.Given as goal

abbrev pub invariant-loop-ones : goal.invariant-loop-ones
invariant-loop-ones l = record {
  opened : IsOpen l.decoder;
  below : l.sum < 2 ^ (l.k + l.ones);
  goes : escape_read 0 15 l.k l.initial.decoder ≡ escape_read l.sum (15 - l.ones) (l.k + l.ones) l.decoder;
}
