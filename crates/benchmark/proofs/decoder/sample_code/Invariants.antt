use Rattle.bin_items.specs.Growth.{IsOpen}
use Rattle.cabac_bytes.specs.State.{phase_of}
use Rattle.benchmark.proofs.decoder.sample_code.Given as goal

abbrev pub invariant-loop-samples : goal.invariant-loop-samples
invariant-loop-samples l = IsOpen (phase_of l.coder)
