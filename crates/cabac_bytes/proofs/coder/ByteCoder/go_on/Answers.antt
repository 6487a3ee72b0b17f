use Rattle.std.proofs.Common.{◌≡◌, ap}
use Rattle.cabac_bytes.specs.State.{State}
use Rattle.cabac_bytes.proofs.Steps.{ok_went_on}
use Rattle.cabac_bytes.proofs.coder.ByteCoder.go_on.Goals as goal

pub returns-clause-ok : goal.returns-clause-ok
returns-clause-ok c =
    let s = c.self.inside in
    let old : State = record { pending = s.pending; low = s.low; range = s.range; width = s.width; contexts = s.contexts } in
    let low : c.renormalise.inside.low ≡ c.args.self.now.low = ap (λ (s : State). s.low) c.renormalise.view_is in
    rw (← c.self.view_is) (ok_went_on c.renormalise-2.result old c.renormalise-2.new.self (rw (low, ← c.self.view_is) at c.renormalise-2.ensures.ok))
