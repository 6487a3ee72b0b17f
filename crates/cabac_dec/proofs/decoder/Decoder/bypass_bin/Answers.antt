use Rattle.std.proofs.Common.{arith}
use Rattle.cabac_dec.proofs.Steps.{enough, missing}
use Rattle.cabac_dec.proofs.Bins.{no_bit, bit_below, zero_bin, one_bin}
use Rattle.cabac_dec.proofs.decoder.Decoder.bypass_bin.Goals as goal

pub returns-then-not-has-clause-value : goal.returns-then-not-has-clause-value
returns-then-not-has-clause-value c =
    rw (← c.self.view_is) (no_bit c.self.inside.range c.self.inside.contexts c.self.inside.window (missing c.has.result _ _ c.if-not-has.true c.has.ensures.there))

pub returns-then-head-self-clause-value : goal.returns-then-head-self-clause-value
returns-then-head-self-clause-value c =
    let i = c.self.inside in
    rw (← c.self.view_is) (zero_bin i.range c.head.result i.contexts i.window c.has.new.self c.advance.new.self c.self.invariant (rw (← c.self.view_is) at c.requires.«open»)
    (enough c.has.result _ _ c.if-not-has.false c.has.ensures.there) c.has.ensures.same c.head.ensures c.if-head-self.true c.advance.ensures).is

pub advance-requires-2-clause-most : goal.advance-requires-2-clause-most
advance-requires-2-clause-most c =
    let i = c.self.inside in
    let most = c.self.invariant.most in
    let twice = bit_below i.range i.window c.has.new.self (rw (← c.self.view_is) at c.requires.«open») (enough c.has.result _ _ c.if-not-has.false c.has.ensures.there) c.has.ensures.same in
    omega arith

pub invariant_of-self-2 : goal.invariant_of-self-2
invariant_of-self-2 c =
    let i = c.self.inside in
    (one_bin i.range c.head.result i.contexts i.window c.has.new.self c.advance-2.new.self c.self.invariant (rw (← c.self.view_is) at c.requires.«open»)
    (enough c.has.result _ _ c.if-not-has.false c.has.ensures.there) c.has.ensures.same c.head.ensures c.if-head-self.false c.advance-2.ensures).invariant

pub returns-clause-value : goal.returns-clause-value
returns-clause-value c =
    let i = c.self.inside in
    rw (← c.self.view_is) (one_bin i.range c.head.result i.contexts i.window c.has.new.self c.advance-2.new.self c.self.invariant (rw (← c.self.view_is) at c.requires.«open»)
    (enough c.has.result _ _ c.if-not-has.false c.has.ensures.there) c.has.ensures.same c.head.ensures c.if-head-self.false c.advance-2.ensures).is

pub returns-clause-open : goal.returns-clause-open
returns-clause-open c =
    let i = c.self.inside in
    (one_bin i.range c.head.result i.contexts i.window c.has.new.self c.advance-2.new.self c.self.invariant (rw (← c.self.view_is) at c.requires.«open»)
    (enough c.has.result _ _ c.if-not-has.false c.has.ensures.there) c.has.ensures.same c.head.ensures c.if-head-self.false c.advance-2.ensures).inside
