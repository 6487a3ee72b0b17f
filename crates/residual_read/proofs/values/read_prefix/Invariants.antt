use Rattle.std.proofs.Common.{◌-◌, ◌≡◌, ◌≤◌}
use Rattle.residual_read.specs.Parts.{four_from}
use Rattle.cabac_dec.specs.State.{IsOpen}
use Rattle.residual_read.proofs.values.read_prefix.Given as goal

abbrev pub invariant-loop-ones : goal.invariant-loop-ones
invariant-loop-ones l = record {
  opened : IsOpen l.decoder;
  most : l.ones ≤ 4;
  goes : four_from 0 4 l.initial.decoder ≡ four_from l.ones (4 - l.ones) l.decoder;
}

abbrev pub decreases-loop-ones : goal.decreases-loop-ones
decreases-loop-ones l = 4 - l.ones
