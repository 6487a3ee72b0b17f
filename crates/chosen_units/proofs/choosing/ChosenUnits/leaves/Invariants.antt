use Rattle.std.proofs.Common.{◌≡◌, take}
use Rattle.chosen_units.specs.Chosen.{units_of}
use Rattle.chosen_units.proofs.choosing.ChosenUnits.leaves.Given as goal

abbrev pub invariant-loop-one : goal.invariant-loop-one
invariant-loop-one l = l.leaves ≡ units_of (take l.one-index l.one-items)
