use Rattle.std.proofs.Common.{◌-◌, ◌≡◌, ◌≤◌, ◌+◌, length, false, min}
use Rattle.cabac_dec.specs.State.{IsOpen}
use Rattle.residual_read.specs.Parts.{levels_at}
use Rattle.residual_read.proofs.values.read_levels.Given as goal

abbrev pub invariant-loop-i : goal.invariant-loop-i
invariant-loop-i l = record {
  opened : IsOpen l.decoder;
  few : l.left ≤ 8;
  within : l.left ≤ l.many - l.i;
  rice : l.rice ≤ 4;
  room : length l.values.items + (l.many - l.i) ≤ 16;
  goes : levels_at 0 false l.greater2 l.ones (min l.many 8) l.many l.signs l.initial.values.items l.initial.decoder
      ≡ levels_at l.rice l.seen l.greater2 l.ones l.left (l.many - l.i) l.signs l.values.items l.decoder;
}
