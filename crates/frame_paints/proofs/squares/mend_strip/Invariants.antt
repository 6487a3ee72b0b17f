use Rattle.std.proofs.Common.{◌*◌, min}
use Rattle.frame_paints.specs.Lines.{Went}
use Rattle.frame_paints.specs.Parts.{SameBetween, KeptBeside}
use Rattle.frame_paints.proofs.squares.mend_strip.Given as goal

abbrev pub invariant-loop-column : goal.invariant-loop-column
invariant-loop-column l = record {
  went : Went l.fn.shown l.fn.script l.shown l.script;
  mended : SameBetween l.shown l.frame 0 (min (64 * l.column) l.w) l.top l.bottom;
  beside : KeptBeside l.fn.shown l.shown 0 l.w l.top l.bottom;
}
