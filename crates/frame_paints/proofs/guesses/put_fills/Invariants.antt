use Rattle.frame_paints.specs.Lines.{PaintsIn}
use Rattle.frame_paints.proofs.guesses.put_fills.Given as goal

abbrev pub invariant-loop-fill : goal.invariant-loop-fill
invariant-loop-fill l = PaintsIn l.fn.shown l.fn.script l.shown l.script l.top l.bottom
