use Rattle.std.proofs.Common.{◌≡◌, ap, sym, ◌∙◌, arith}
use Rattle.cabac_enc.specs.State.{State}
use Rattle.cabac_enc.proofs.Steps.{likely, unlikely}
use Rattle.cabac_enc.proofs.coder.Coder.context_bin.Goals.{then-value-state+in_ok-renormalise, else-value-state+in_ok-renormalise-2}
use Rattle.cabac_enc.proofs.coder.Coder.context_bin.Goals as goal

pub returns-clause-ok : goal.returns-clause-ok
returns-clause-ok c =
    let s = c.self.inside in
    let old : State = record { bits = s.bits.items; low = s.low; range = s.range; after_samples = s.after_samples; contexts = s.contexts } in
    let i = c.self-2.inside in
    let t : State = record { bits = i.bits.items; low = i.low; range = i.range; after_samples = i.after_samples; contexts = i.contexts } in
    let byte = c.get-state.ensures.value in
    let small = c.lps-small.result in
    let share = rw byte at c.lps-small.ensures.value in
    let most = c.lps-small.ensures.to in
    let least = c.self.invariant.least (rw (← c.self.view_is) at c.requires.not_ended) in
    elim c.if-value-state.branch [
      | then-value-state+in_ok-renormalise w ↦ (
          let low : w.renormalise.inside.low ≡ s.low = ap (λ (x : State). x.low) (w.renormalise.view_is ∙ sym c.self.view_is) in
          let e = c.self-2.view_is ∙ w.self-is in
          rw (← c.self.view_is) (likely old t c.args.n c.args.value small c.step.new.self share (rw byte at w.if-value-state.true) (rw (low, ← e, ← c.self.view_is) at w.in_ok-renormalise.ensures.ok) c.step.ensures))
      | else-value-state+in_ok-renormalise-2 w ↦ (
          let low : w.renormalise-else-value-state.inside.low ≡ s.low = ap (λ (x : State). x.low) (w.renormalise-else-value-state.view_is ∙ sym c.self.view_is) in
          let e = c.self-2.view_is ∙ w.self-is in
          rw (← c.self.view_is) (unlikely old t c.args.n c.args.value small c.step.new.self (omega arith) share (rw byte at w.if-value-state.false) (rw (low, ← e, ← c.self.view_is) at w.in_ok-renormalise-2.ensures.ok) c.step.ensures))
    ]
