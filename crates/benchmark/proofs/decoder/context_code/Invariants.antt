use Rattle.bin_items.specs.Growth.{IsOpen}
use Rattle.cabac_bytes.specs.State.{phase_of}
use Rattle.benchmark.proofs.decoder.context_code.Given as goal

abbrev pub invariant-loop-pair : goal.invariant-loop-pair
invariant-loop-pair l = IsOpen (phase_of l.coder)
