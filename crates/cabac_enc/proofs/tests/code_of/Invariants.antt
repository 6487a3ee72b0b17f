use Rattle.bin_items.specs.Growth.{IsOpen}
use Rattle.cabac_enc.specs.State.{phase_of}
use Rattle.cabac_enc.proofs.tests.code_of.Given as goal

abbrev pub invariant-loop-k : goal.invariant-loop-k
invariant-loop-k l = IsOpen (phase_of l.coder)
