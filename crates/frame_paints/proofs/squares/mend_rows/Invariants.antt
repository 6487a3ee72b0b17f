use Rattle.std.proofs.Common.{◌*◌, ◌+◌, min}
use Rattle.frame_paints.specs.Lines.{Went}
use Rattle.frame_paints.specs.Parts.{SameBetween, KeptBeside}
use Rattle.frame_paints.proofs.squares.mend_rows.Given as goal

abbrev pub invariant-loop-strip : goal.invariant-loop-strip
invariant-loop-strip l = record {
  went : Went l.fn.shown l.fn.script l.shown l.script;
  mended : SameBetween l.shown l.frame 0 l.frame.size.w l.top (min (l.top + 64 * l.strip) l.bottom);
  beside : KeptBeside l.fn.shown l.shown 0 l.frame.size.w l.top l.bottom;
}
