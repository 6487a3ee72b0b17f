use Rattle.std.proofs.Common.{◌∙◌}
use Rattle.cabac_dec.proofs.Steps.{not_below}
use Rattle.cabac_dec.proofs.Bins.{goes_on, ends, with_none, with_some}
use Rattle.cabac_dec.proofs.decoder.Decoder.terminating_bin.Goals as goal

pub returns-in_err-renormalise-clause-value : goal.returns-in_err-renormalise-clause-value
returns-in_err-renormalise-clause-value c =
    let i = c.self.inside in
    rw (c.from_residual.ensures, ← c.self.view_is)
    (goes_on i.range i.contexts i.window (c.is_below.ensures.0 c.if-is_below.true)
    ∙ with_none _ _ (rw (← c.self.view_is) at c.in_err-renormalise.ensures.value))

pub returns-then-is_below-clause-value : goal.returns-then-is_below-clause-value
returns-then-is_below-clause-value c =
    let i = c.self.inside in
    rw (← c.self.view_is)
    (goes_on i.range i.contexts i.window (c.is_below.ensures.0 c.if-is_below.true)
    ∙ with_some _ _ _ (rw (← c.self.view_is) at c.in_ok-renormalise.ensures.value))

pub returns-clause-value : goal.returns-clause-value
returns-clause-value c =
    let i = c.self.inside in
    rw (← c.self.view_is) (ends i.range i.contexts i.window (not_below c.is_below.result _ _ c.if-is_below.false c.is_below.ensures.1))
