use Rattle.std.proofs.Common.{◌∙◌, ◌-◌, arith}
use Rattle.h265_model.specs.Bits.{value_after}
use Rattle.cabac_dec.proofs.Steps.{not_below}
use Rattle.cabac_dec.proofs.Bins.{likely, unlikely, lessened_only, with_none, with_some}
use Rattle.cabac_dec.proofs.decoder.Decoder.context_bin.Goals as goal

pub returns-in_err-renormalise-clause-value : goal.returns-in_err-renormalise-clause-value
returns-in_err-renormalise-clause-value c =
    let i = c.self.inside in
    let below = c.is_below.ensures.0 c.if-is_below.true in
    rw (c.from_residual.ensures, ← c.self.view_is)
    (likely c.args.n c.get-state.result c.lps-small.result i.range i.contexts c.step.new.self i.window c.get-state.ensures.value c.lps-small.ensures.value below c.step.ensures
    ∙ with_none _ _ c.in_err-renormalise.ensures.value)

pub returns-then-is_below-clause-value : goal.returns-then-is_below-clause-value
returns-then-is_below-clause-value c =
    let i = c.self.inside in
    let below = c.is_below.ensures.0 c.if-is_below.true in
    rw (← c.self.view_is)
    (likely c.args.n c.get-state.result c.lps-small.result i.range i.contexts c.step.new.self i.window c.get-state.ensures.value c.lps-small.ensures.value below c.step.ensures
    ∙ with_some _ _ _ c.in_ok-renormalise.ensures.value)

pub advance-requires-clause-least : goal.advance-requires-clause-least
unfolding value_after
advance-requires-clause-least c = not_below c.is_below.result _ _ c.if-is_below.false c.is_below.ensures.1

pub advance-requires-clause-most : goal.advance-requires-clause-most
unfolding value_after
advance-requires-clause-most c = let below = c.self.invariant.below in omega arith

pub invariant_of-self-2 : goal.invariant_of-self-2
invariant_of-self-2 c =
    let i = c.self.inside in
    let most = c.self.invariant.most in
    let below = c.self.invariant.below in
    let least = c.self.invariant.least (rw (← c.self.view_is) at c.requires.«open») in
    rw (lessened_only (i.range - c.lps-small.result) i.window c.advance.new.self c.advance.ensures)
    record { most = most; least = λ _. least; below = omega arith; begun = c.self.invariant.begun }

pub renormalise-requires-2-clause-below : goal.renormalise-requires-2-clause-below
renormalise-requires-2-clause-below c =
    let i = c.self.inside in
    let inside = (rw (← c.self.view_is) at c.requires.«open») in
    let enough = not_below c.is_below.result _ _ c.if-is_below.false c.is_below.ensures.1 in
    rw (lessened_only (i.range - c.lps-small.result) i.window c.advance.new.self c.advance.ensures) (omega arith)

pub returns-in_err-renormalise-2-clause-value : goal.returns-in_err-renormalise-2-clause-value
returns-in_err-renormalise-2-clause-value c =
    let i = c.self.inside in
    let enough = not_below c.is_below.result _ _ c.if-is_below.false c.is_below.ensures.1 in
    rw (c.from_residual-in_err-renormalise-2.ensures, ← c.self.view_is)
    (unlikely c.args.n c.get-state.result c.lps-small.result i.range i.contexts c.step-2.new.self i.window c.advance.new.self c.get-state.ensures.value c.lps-small.ensures.value enough
    c.step-2.ensures c.advance.ensures
    ∙ with_none _ _ c.in_err-renormalise-2.ensures.value)

pub returns-clause-value : goal.returns-clause-value
returns-clause-value c =
    let i = c.self.inside in
    let enough = not_below c.is_below.result _ _ c.if-is_below.false c.is_below.ensures.1 in
    rw (← c.self.view_is)
    (unlikely c.args.n c.get-state.result c.lps-small.result i.range i.contexts c.step-2.new.self i.window c.advance.new.self c.get-state.ensures.value c.lps-small.ensures.value enough
    c.step-2.ensures c.advance.ensures
    ∙ with_some _ _ _ c.in_ok-renormalise-2.ensures.value)
