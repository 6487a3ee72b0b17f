use Rattle.cabac_enc.specs.State.{State}
use Rattle.cabac_enc.proofs.Steps.{bypassed}
use Rattle.cabac_enc.proofs.coder.Coder.bypass_bin.Goals as goal

pub returns-clause-ok : goal.returns-clause-ok
returns-clause-ok c =
    let s = c.shift.inside in
    let old : State = record { bits = s.bits.items; low = s.low; range = s.range; after_samples = s.after_samples; contexts = s.contexts } in
    let least = c.shift.invariant.least (rw (← c.shift.view_is) at c.requires.not_ended) in
    rw (← c.shift.view_is) (bypassed c.shift-2.result old c.shift-2.new.self c.args.value least (rw (← c.shift.view_is) at c.shift-2.ensures.ok))
