use Rattle.bin_items.specs.Growth.{IsOpen}
use Rattle.cabac_enc.specs.State.{phase_of}
use Rattle.cabac_enc.proofs.tests.many_runs.Given as goal

abbrev pub invariant-loop : goal.invariant-loop
invariant-loop g l = IsOpen (phase_of l.coder)
