use Rattle.cabac_dec.proofs.Steps.{enough, missing, bypassed_short, peeked}
use Rattle.cabac_dec.proofs.decoder.Decoder.peek.Goals as goal

pub returns-then-not-has-clause-value : goal.returns-then-not-has-clause-value
returns-then-not-has-clause-value c =
    rw (← c.self.view_is) (bypassed_short c.args.count c.self.inside.range c.self.inside.contexts c.self.inside.window (rw (← c.self.view_is) at c.requires.«open»)
    (missing c.has.result _ _ c.if-not-has.true c.has.ensures.there))

pub returns-clause-value : goal.returns-clause-value
returns-clause-value c =
    rw (← c.self.view_is) (peeked c.args.count c.self.inside.range c.head.result c.self.inside.contexts c.self.inside.window c.has.new.self
    (rw (← c.self.view_is) at c.requires.«open») (enough c.has.result _ _ c.if-not-has.false c.has.ensures.there) c.has.ensures.same c.head.ensures)
