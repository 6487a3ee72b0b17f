use Rattle.std.proofs.Common.{arith}
use Rattle.cabac_enc.specs.State.{State}
use Rattle.cabac_enc.proofs.Steps.{went_on}
use Rattle.cabac_enc.proofs.coder.Coder.go_on.Goals as goal

pub returns-clause-ok : goal.returns-clause-ok
returns-clause-ok c =
    let s = c.renormalise.inside in
    let old : State = record { bits = s.bits.items; low = s.low; range = s.range; after_samples = s.after_samples; contexts = s.contexts } in
    let least = c.renormalise.invariant.least (rw (← c.renormalise.view_is) at c.requires.not_ended) in
    rw (← c.renormalise.view_is) (went_on c.renormalise-2.result old c.renormalise-2.new.self (omega arith) (rw (← c.renormalise.view_is) at c.renormalise-2.ensures.ok))
