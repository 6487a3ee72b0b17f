use Rattle.cabac_dec.specs.State.{IsOpen}
use Rattle.benchmark.proofs.decoder.ContextBinsWork.round.Given as goal

abbrev pub invariant-loop-pair : goal.invariant-loop-pair
invariant-loop-pair l = IsOpen l.decoder
