use Rattle.std.proofs.Common.{◌∙◌, arith}
use Rattle.std.proofs.lemmas.Bool.{cond-true, cond-false, ne_eqb, eq-eqb}
use Rattle.cabac_dec.proofs.Stops.{aligned_at}
use Rattle.cabac_dec.proofs.window.Window.aligned.Goals as goal

pub returns : goal.returns
returns c =
    let i = c.self.inside in
    let within = c.self.invariant.within in
    rw (← c.self.view_is) (
      omega arith,
      aligned_at i.bytes.now i.next i.value i.ahead c.from.result c.self.invariant (rw (← c.self.view_is) at c.requires) c.from.ensures
          ∙ cond-true _ _ _ (eq-eqb _ _ c.if-from-spare.false),
    )

pub returns-then-from-spare : goal.returns-then-from-spare
returns-then-from-spare c =
    let i = c.self.inside in
    rw (← c.self.view_is)
    (aligned_at i.bytes.now i.next i.value i.ahead c.from.result c.self.invariant (rw (← c.self.view_is) at c.requires) c.from.ensures
    ∙ cond-false _ _ _ (ne_eqb _ _ c.if-from-spare.true))
