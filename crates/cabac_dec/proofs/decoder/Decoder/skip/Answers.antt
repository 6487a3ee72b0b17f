use Rattle.std.proofs.Common.{◌∙◌, ◌-◌, ◌/◌, ◌^◌, le-leb, arith}
use Rattle.cabac_dec.specs.State.{engine}
use Rattle.cabac_dec.proofs.Fronts.{first_of}
use Rattle.cabac_dec.proofs.Steps.{skipped, skipped_to, after_skip, skip_keeps}
use Rattle.cabac_dec.proofs.decoder.Decoder.skip.Goals as goal

pub overflow_mul-less : goal.overflow_mul-less
overflow_mul-less c =
    let i = c.self.inside in
    let below = (rw (← c.self.view_is) at c.requires.«open») in
    let known = (rw (← c.self.view_is) at c.requires.known) in
    let f = first_of c.args.count c.args.peeked c.args.digits (engine i.range i.contexts i.window) known.0 c.requires.first known.1 in
    let s = skipped c.args.count i.range (c.args.digits / 2 ^ (c.args.peeked - c.args.count)) i.contexts i.window c.has-there.new.self f.between below c.self.invariant.most (omega arith) c.has-there.ensures.same f.first in
    let fits = s.fits in
    omega arith

pub advance-requires-clause-ready : goal.advance-requires-clause-ready
advance-requires-clause-ready c =
    let i = c.self.inside in
    let below = (rw (← c.self.view_is) at c.requires.«open») in
    let known = (rw (← c.self.view_is) at c.requires.known) in
    let f = first_of c.args.count c.args.peeked c.args.digits (engine i.range i.contexts i.window) known.0 c.requires.first known.1 in
    let s = skipped c.args.count i.range (c.args.digits / 2 ^ (c.args.peeked - c.args.count)) i.contexts i.window c.has-there.new.self f.between below c.self.invariant.most (omega arith) c.has-there.ensures.same f.first in
    c.has-there.ensures.ready (c.has-there.ensures.there ∙ le-leb _ _ s.there)

pub advance-requires-clause-least : goal.advance-requires-clause-least
advance-requires-clause-least c =
    let i = c.self.inside in
    let below = (rw (← c.self.view_is) at c.requires.«open») in
    let known = (rw (← c.self.view_is) at c.requires.known) in
    let f = first_of c.args.count c.args.peeked c.args.digits (engine i.range i.contexts i.window) known.0 c.requires.first known.1 in
    let s = skipped c.args.count i.range (c.args.digits / 2 ^ (c.args.peeked - c.args.count)) i.contexts i.window c.has-there.new.self f.between below c.self.invariant.most (omega arith) c.has-there.ensures.same f.first in
    s.least

pub advance-requires-clause-most : goal.advance-requires-clause-most
advance-requires-clause-most c =
    let i = c.self.inside in
    let below = (rw (← c.self.view_is) at c.requires.«open») in
    let known = (rw (← c.self.view_is) at c.requires.known) in
    let f = first_of c.args.count c.args.peeked c.args.digits (engine i.range i.contexts i.window) known.0 c.requires.first known.1 in
    let s = skipped c.args.count i.range (c.args.digits / 2 ^ (c.args.peeked - c.args.count)) i.contexts i.window c.has-there.new.self f.between below c.self.invariant.most (omega arith) c.has-there.ensures.same f.first in
    let most = s.most in
    let few = c.self.invariant.most in
    omega arith

pub invariant_of-self : goal.invariant_of-self
invariant_of-self c =
    let i = c.self.inside in
    let below = (rw (← c.self.view_is) at c.requires.«open») in
    let known = (rw (← c.self.view_is) at c.requires.known) in
    let f = first_of c.args.count c.args.peeked c.args.digits (engine i.range i.contexts i.window) known.0 c.requires.first known.1 in
    let s = skipped c.args.count i.range (c.args.digits / 2 ^ (c.args.peeked - c.args.count)) i.contexts i.window c.has-there.new.self f.between below c.self.invariant.most (omega arith) c.has-there.ensures.same f.first in
    skip_keeps c.args.count i.range (c.args.digits / 2 ^ (c.args.peeked - c.args.count)) i.contexts i.window c.has-there.new.self c.advance.new.self s c.self.invariant below c.has-there.ensures.same c.advance.ensures

pub returns-clause-value : goal.returns-clause-value
returns-clause-value c =
    let i = c.self.inside in
    let below = (rw (← c.self.view_is) at c.requires.«open») in
    let known = (rw (← c.self.view_is) at c.requires.known) in
    let f = first_of c.args.count c.args.peeked c.args.digits (engine i.range i.contexts i.window) known.0 c.requires.first known.1 in
    let s = skipped c.args.count i.range (c.args.digits / 2 ^ (c.args.peeked - c.args.count)) i.contexts i.window c.has-there.new.self f.between below c.self.invariant.most (omega arith) c.has-there.ensures.same f.first in
    rw (← c.self.view_is) (skipped_to c.args.count i.range (c.args.digits / 2 ^ (c.args.peeked - c.args.count)) i.contexts i.window c.has-there.new.self c.advance.new.self s below c.has-there.ensures.same c.advance.ensures)

pub returns-clause-open : goal.returns-clause-open
returns-clause-open c =
    let i = c.self.inside in
    let below = (rw (← c.self.view_is) at c.requires.«open») in
    let known = (rw (← c.self.view_is) at c.requires.known) in
    let f = first_of c.args.count c.args.peeked c.args.digits (engine i.range i.contexts i.window) known.0 c.requires.first known.1 in
    let s = skipped c.args.count i.range (c.args.digits / 2 ^ (c.args.peeked - c.args.count)) i.contexts i.window c.has-there.new.self f.between below c.self.invariant.most (omega arith) c.has-there.ensures.same f.first in
    after_skip c.args.count i.range (c.args.digits / 2 ^ (c.args.peeked - c.args.count)) i.contexts i.window c.has-there.new.self c.advance.new.self s c.advance.ensures
