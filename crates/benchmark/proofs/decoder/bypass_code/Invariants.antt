use Rattle.bin_items.specs.Growth.{IsOpen}
use Rattle.cabac_bytes.specs.State.{phase_of}
use Rattle.benchmark.proofs.decoder.bypass_code.Given as goal

abbrev pub invariant-loop-byte : goal.invariant-loop-byte
invariant-loop-byte l = IsOpen (phase_of l.coder)
