use Rattle.std.proofs.Common.{◌-◌, ◌≡◌, ◌≤◌, ◌<◌, ◌+◌, ◌^◌}
use Rattle.cabac_dec.specs.State.{IsOpen}
use Rattle.residual_read.specs.Parts.{ones_read}
use Rattle.residual_read.proofs.values.read_ones.Given as goal

abbrev pub invariant-loop-i : goal.invariant-loop-i
invariant-loop-i l = record {
  opened : IsOpen l.decoder;
  high : l.counter ≤ l.i + 1;
  below : l.ones < 2 ^ l.i;
  goes : ones_read l.component l.set 1 0 l.many l.initial.decoder ≡ ones_read l.component l.set l.counter l.ones (l.many - l.i) l.decoder;
}
