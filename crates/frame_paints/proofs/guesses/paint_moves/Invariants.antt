use Rattle.frame_paints.specs.Lines.{PaintsIn}
use Rattle.frame_paints.proofs.guesses.paint_moves.Given as goal

abbrev pub invariant-loop : goal.invariant-loop
invariant-loop l = PaintsIn l.fn.shown l.fn.script l.shown l.script l.top l.bottom
