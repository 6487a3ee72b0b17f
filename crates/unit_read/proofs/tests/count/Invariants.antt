use Rattle.std.proofs.Common.{◌≡◌}
use Rattle.cabac_dec.specs.State.{IsOpen}
use Rattle.unit_read.proofs.tests.count.Given as goal

abbrev pub invariant-loop-i : goal.invariant-loop-i
invariant-loop-i g l = record {
  opened : IsOpen l.decoder;
  grid : l.grid.size ≡ record { w = 64; h = 32 };
  motion : l.motion.size ≡ record { w = 64; h = 32 };
  notes : l.notes.size ≡ record { w = 64; h = 32 };
}
