use Rattle.frame_read.proofs.NumberSteps.{IsUnderWay}
use Rattle.frame_read.specs.Numbers.{before_number}
use Rattle.frame_read.proofs.number.read_number.Given as goal

abbrev pub invariant-loop : goal.invariant-loop
invariant-loop g l = IsUnderWay l.which (before_number l.in_comment) l.stand (g.S.Source.left l.initial.source) (g.S.Source.left l.source) (g.S.Source.faults l.initial.source) (g.S.Source.faults l.source)
