use Rattle.std.proofs.Common.{◌-◌, ◌≡◌, ◌≤◌, ◌*◌}
use Rattle.cabac_dec.specs.State.{IsOpen}
use Rattle.residual_read.specs.Parts.{shape_of, prefix_from}
use Rattle.residual_read.proofs.last.read_prefix.Given as goal

abbrev pub invariant-loop-ones : goal.invariant-loop-ones
invariant-loop-ones l = record {
  opened : IsOpen l.decoder;
  most : l.ones ≤ 2 * l.shape.log2 - 1;
  goes : prefix_from (shape_of l.shape) l.vertical 0 (2 * l.shape.log2 - 1) l.initial.decoder
      ≡ prefix_from (shape_of l.shape) l.vertical l.ones (2 * l.shape.log2 - 1 - l.ones) l.decoder;
}

abbrev pub decreases-loop-ones : goal.decreases-loop-ones
decreases-loop-ones l = l.limit - l.ones
