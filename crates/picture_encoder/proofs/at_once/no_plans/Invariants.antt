use Rattle.std.proofs.Common.{◌≡◌, length}
use Rattle.picture_encoder.proofs.at_once.no_plans.Given as goal

abbrev pub invariant-loop : goal.invariant-loop
invariant-loop l = length l.plans.items ≡ l.counter
