use Rattle.cabac_dec.specs.State.{IsOpen}
use Rattle.benchmark.proofs.decoder.SamplesWork.round.Given as goal

abbrev pub invariant-loop : goal.invariant-loop
invariant-loop l = IsOpen l.decoder
