use Rattle.std.proofs.Common.{◌<◌}
use Rattle.cabac_dec.specs.State.{IsOpen}
use Rattle.cabac_dec.proofs.tests.bins.Given as goal

abbrev pub invariant-loop : goal.invariant-loop
invariant-loop l = record { inside : l.context < 130; begun : IsOpen l.decoder }
