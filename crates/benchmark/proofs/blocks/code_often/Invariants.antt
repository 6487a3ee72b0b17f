use Rattle.bin_items.specs.Growth.{IsOpen}
use Rattle.cabac_bytes.specs.State.{phase_of}
use Rattle.benchmark.proofs.blocks.code_often.Given as goal

abbrev pub invariant-loop : goal.invariant-loop
invariant-loop l = IsOpen (phase_of l.coder)
