use Rattle.std.proofs.Common.{◌≡◌, ◌+◌, ◌-◌, ◌^◌, ◌≤◌, ◌++◌}
use Rattle.h265_model.specs.Binarise.{tr, eg, eg_within}
use Rattle.bin_items.proofs.binarise.write_eg.Given as goal

abbrev pub invariant-loop-ones : goal.invariant-loop-ones
invariant-loop-ones g l = record {
  few : l.ones ≤ 15;
  less : l.rest + 2 ^ (l.parameter + l.ones) ≡ l.value + 2 ^ l.parameter;
  code : eg l.parameter l.value ≡ tr l.ones l.ones ++ eg_within (15 - l.ones) (l.parameter + l.ones) l.rest;
}

abbrev pub decreases-loop-ones : goal.decreases-loop-ones
decreases-loop-ones g l = l.rest
