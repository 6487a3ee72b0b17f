use Rattle.bin_items.specs.Growth.{IsOpen}
use Rattle.cabac_bytes.specs.State.{phase_of}
use Rattle.cabac_bytes.proofs.tests.contexts_follow_bins.Given as goal

abbrev pub invariant-loop-n : goal.invariant-loop-n
invariant-loop-n g l = IsOpen (phase_of l.coder)
