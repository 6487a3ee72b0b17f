use Rattle.std.proofs.Common.{◌≡◌, ◌≤◌, ◌+◌, ◌*◌, ◌^◌}
use Rattle.cabac_dec.specs.State.{IsOpen}
use Rattle.residual_read.specs.Parts.{shape_of, sub_of, mask_read}
use Rattle.residual_read.proofs.flags.read_flags.Given as goal

abbrev pub invariant-loop-left : goal.invariant-loop-left
invariant-loop-left l = record {
  opened : IsOpen l.decoder;
  few : l.left ≤ 16;
  room : (l.flags + 1) * 2 ^ l.left ≤ 65536;
  goes : mask_read (shape_of l.shape) (sub_of l.sub) l.inner l.mask l.top l.initial.decoder ≡ mask_read (shape_of l.shape) (sub_of l.sub) l.inner l.flags l.left l.decoder;
}

abbrev pub decreases-loop-left : goal.decreases-loop-left
decreases-loop-left l = l.left
