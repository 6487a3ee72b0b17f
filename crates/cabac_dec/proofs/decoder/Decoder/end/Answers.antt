use Rattle.cabac_dec.proofs.Bins.{not_aligned, bytes_behind, nothing_behind}
use Rattle.cabac_dec.proofs.decoder.Decoder.end.Goals as goal

pub returns-in_err-at-clause-done : goal.returns-in_err-at-clause-done
returns-in_err-at-clause-done c =
    let i = c.self.inside in
    rw (c.from_residual.ensures, ← c.self.view_is, not_aligned i.range i.contexts i.window c.in_err-at.ensures) (λ h. h, λ h. h)

pub returns-then-at-len-clause-done : goal.returns-then-at-len-clause-done
returns-then-at-len-clause-done c =
    let i = c.self.inside in
    rw (← c.self.view_is, bytes_behind i.range c.in_ok-at.at i.contexts i.window c.in_ok-at.ensures (rw c.len.ensures at c.if-at-len.true)) (λ h. h, λ h. h)

pub returns-clause-done : goal.returns-clause-done
returns-clause-done c =
    let i = c.self.inside in
    rw (← c.self.view_is, nothing_behind i.range c.in_ok-at.at i.contexts i.window c.in_ok-at.ensures (rw c.len.ensures at c.if-at-len.false)) (λ h. h, λ h. h)
