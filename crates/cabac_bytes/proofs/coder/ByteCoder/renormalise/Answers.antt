use Rattle.std.proofs.Common.{arith}
use Rattle.cabac_bytes.specs.State.{State}
use Rattle.h265_model.proofs.Doublings.{doubled}
use Rattle.cabac_bytes.proofs.Steps.{renormal, renormalised}
use Rattle.cabac_bytes.proofs.coder.ByteCoder.renormalise.Goals as goal

pub overflow_shl-low : goal.overflow_shl-low
overflow_shl-low c =
    let less = c.requires.less in
    let few = (doubled c.args.range c.requires.least (omega arith)).few in
    let is = c.requires.doublings in
    omega arith

pub overflow_shl-range : goal.overflow_shl-range
overflow_shl-range c =
    let less = c.requires.less in
    let few = (doubled c.args.range c.requires.least (omega arith)).few in
    let is = c.requires.doublings in
    omega arith

pub overflow_add-self : goal.overflow_add-self
overflow_add-self c =
    let less = c.requires.less in
    let few = (doubled c.args.range c.requires.least (omega arith)).few in
    let is = c.requires.doublings in
    let to = c.advance.invariant.to in
    omega arith

pub advance-requires-clause-to : goal.advance-requires-clause-to
advance-requires-clause-to c =
    let less = c.requires.less in
    let few = (doubled c.args.range c.requires.least (omega arith)).few in
    let is = c.requires.doublings in
    let to = c.advance.invariant.to in
    omega arith

pub advance-requires-clause-least : goal.advance-requires-clause-least
advance-requires-clause-least c =
    let s = c.advance.inside in
    (renormal s.pending.held s.width c.args.low c.args.range c.args.doublings c.advance.invariant.to c.requires.least c.requires.less c.requires.doublings (rw (← c.advance.view_is) at c.requires.room)).least

pub advance-requires-clause-most : goal.advance-requires-clause-most
advance-requires-clause-most c =
    let s = c.advance.inside in
    (renormal s.pending.held s.width c.args.low c.args.range c.args.doublings c.advance.invariant.to c.requires.least c.requires.less c.requires.doublings (rw (← c.advance.view_is) at c.requires.room)).most

pub advance-requires-clause-room : goal.advance-requires-clause-room
advance-requires-clause-room c =
    let s = c.advance.inside in
    rw (← c.advance.view_is) (renormal s.pending.held s.width c.args.low c.args.range c.args.doublings c.advance.invariant.to c.requires.least c.requires.less c.requires.doublings (rw (← c.advance.view_is) at c.requires.room)).room

pub returns-clause-ok : goal.returns-clause-ok
returns-clause-ok c =
    let s = c.advance.inside in
    let n = (renormal s.pending.held s.width c.args.low c.args.range c.args.doublings c.advance.invariant.to c.requires.least c.requires.less c.requires.doublings (rw (← c.advance.view_is) at c.requires.room)) in
    let old : State = record { pending = s.pending; low = c.args.low; range = c.args.range; width = s.width; contexts = s.contexts } in
    rw (← c.advance.view_is) (renormalised c.advance-2.result old c.advance-2.new.self c.args.doublings n c.requires.less c.advance.invariant.from (rw (← c.advance.view_is) at c.advance-2.ensures.ok))
