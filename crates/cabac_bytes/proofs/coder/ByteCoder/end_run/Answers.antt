use Rattle.cabac_bytes.specs.State.{State}
use Rattle.cabac_bytes.proofs.Ending.{last, ended}
use Rattle.cabac_bytes.proofs.coder.ByteCoder.end_run.Goals as goal

pub close-requires-clause-fits : goal.close-requires-clause-fits
close-requires-clause-fits c =
    let s = c.self.inside in
    let i = c.self.invariant in
    (last s.pending.held s.width s.low s.range i.from i.to (i.least (rw (← c.self.view_is) at c.requires.not_ended)) i.room).fits

pub returns-clause-ok : goal.returns-clause-ok
returns-clause-ok c =
    let s = c.self.inside in
    let i = c.self.invariant in
    let old : State = record { pending = s.pending; low = s.low; range = s.range; width = s.width; contexts = s.contexts } in
    let l = last s.pending.held s.width s.low s.range i.from i.to (i.least (rw (← c.self.view_is) at c.requires.not_ended)) i.room in
    rw (← c.self.view_is) (ended old c.close.new.self _ i (rw (← c.self.view_is) at c.requires.not_ended) l.shifted c.in_ok-close.ensures.ok)
