use Rattle.std.proofs.Common.{◌≡◌}
use Rattle.bin_items.specs.Growth.{IsOpen}
use Rattle.cabac_bytes.specs.State.{phase_of}
use Rattle.benchmark.proofs.blocks.ResidualsWork.round.Given as goal

abbrev pub invariant-loop-number : goal.invariant-loop-number
invariant-loop-number l = IsOpen (phase_of l.coder) × (l.block.log2 ≡ l.log2)
