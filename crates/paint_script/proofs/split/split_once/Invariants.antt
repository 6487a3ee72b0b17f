use Rattle.paint_script.proofs.Splits.{IsFreeBelow}
use Rattle.paint_script.proofs.split.split_once.Given as goal

abbrev pub invariant-loop-i : goal.invariant-loop-i
invariant-loop-i l = IsFreeBelow l.separator l.text l.i
