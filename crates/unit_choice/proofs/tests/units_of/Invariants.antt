use Rattle.std.proofs.Common.{◌≡◌}
use Rattle.unit_choice.proofs.tests.units_of.Given as goal

abbrev pub invariant-loop-n : goal.invariant-loop-n
invariant-loop-n l = l.choice ≡ l.initial.choice
