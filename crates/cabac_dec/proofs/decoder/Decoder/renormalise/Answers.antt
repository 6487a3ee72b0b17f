use Rattle.std.proofs.Common.{arith}
use Rattle.h265_model.proofs.Doublings.{doubled}
use Rattle.cabac_dec.proofs.Steps.{enough, missing, renewal, renewal_room, no_renewal, wide_enough}
use Rattle.cabac_dec.proofs.decoder.Decoder.renormalise.Goals as goal

pub overflow_sub-doublings : goal.overflow_sub-doublings
overflow_sub-doublings c = (doubled c.args.range c.requires.least (omega arith)).enough

pub returns-then-not-has-clause-value : goal.returns-then-not-has-clause-value
returns-then-not-has-clause-value c =
    rw (← c.self.view_is) (no_renewal c.args.range c.self.inside.contexts c.self.inside.window c.requires.least c.requires.most
    (missing c.has.result _ _ c.if-not-has.true c.has.ensures.there))

pub advance-requires-clause-most : goal.advance-requires-clause-most
advance-requires-clause-most c =
    renewal_room c.args.range c.self.inside.window c.has.new.self c.requires.least c.requires.most (rw (← c.self.view_is) at c.requires.below)
    (enough c.has.result _ _ c.if-not-has.false c.has.ensures.there) c.has.ensures.same

pub invariant_of-self-2 : goal.invariant_of-self-2
invariant_of-self-2 c =
    (renewal c.args.range c.self.inside.contexts c.self.inside.window c.has.new.self c.advance.new.self c.requires.least c.requires.most (rw (← c.self.view_is) at c.requires.below)
    c.self.invariant.begun (enough c.has.result _ _ c.if-not-has.false c.has.ensures.there) c.has.ensures.same c.advance.ensures).invariant

pub returns-clause-value : goal.returns-clause-value
returns-clause-value c =
    rw (← c.self.view_is) (renewal c.args.range c.self.inside.contexts c.self.inside.window c.has.new.self c.advance.new.self c.requires.least c.requires.most (rw (← c.self.view_is) at c.requires.below)
    c.self.invariant.begun (enough c.has.result _ _ c.if-not-has.false c.has.ensures.there) c.has.ensures.same c.advance.ensures).is

pub returns-clause-open : goal.returns-clause-open
returns-clause-open c =
    (renewal c.args.range c.self.inside.contexts c.self.inside.window c.has.new.self c.advance.new.self c.requires.least c.requires.most (rw (← c.self.view_is) at c.requires.below)
    c.self.invariant.begun (enough c.has.result _ _ c.if-not-has.false c.has.ensures.there) c.has.ensures.same c.advance.ensures).inside

pub returns-then-range-ge256-clause-value : goal.returns-then-range-ge256-clause-value
returns-then-range-ge256-clause-value c =
    rw (← c.self.view_is) (wide_enough c.args.range c.self.inside.contexts c.self.inside.window c.if-range-ge256.true)
