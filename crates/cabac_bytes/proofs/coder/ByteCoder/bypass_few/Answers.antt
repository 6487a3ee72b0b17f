use Rattle.std.proofs.Common.{arith}
use Rattle.cabac_bytes.specs.State.{State}
use Rattle.cabac_bytes.proofs.Steps.{few, followed}
use Rattle.cabac_bytes.proofs.coder.ByteCoder.bypass_few.Goals as goal

pub overflow_add-self : goal.overflow_add-self
overflow_add-self c =
    let s = c.advance.inside in
    let i = c.advance.invariant in
    let f = few s.pending.held s.width s.low s.range c.args.value c.args.count i.to i.most c.requires.few c.requires.below i.room in
    let e = f.fits in
    omega arith

pub advance-requires-clause-room : goal.advance-requires-clause-room
advance-requires-clause-room c =
    let s = c.advance.inside in
    let i = c.advance.invariant in
    rw (← c.advance.view_is) (few s.pending.held s.width s.low s.range c.args.value c.args.count i.to i.most c.requires.few c.requires.below i.room).room

pub returns-clause-ok : goal.returns-clause-ok
returns-clause-ok c =
    let s = c.advance.inside in
    let i = c.advance.invariant in
    let old : State = record { pending = s.pending; low = s.low; range = s.range; width = s.width; contexts = s.contexts } in
    let f = few s.pending.held s.width s.low s.range c.args.value c.args.count i.to i.most c.requires.few c.requires.below i.room in
    rw (← c.advance.view_is) (followed c.advance-2.result old c.advance-2.new.self c.args.value c.args.count f c.requires.some c.requires.below (rw (← c.advance.view_is) at c.requires.not_ended) i.from (rw (← c.advance.view_is) at c.advance-2.ensures.ok))
