use Rattle.cabac_enc.specs.State.{State}
use Rattle.cabac_enc.proofs.Steps.{shifted}
use Rattle.cabac_enc.proofs.coder.Coder.shift.Goals as goal

pub returns-clause-ok : goal.returns-clause-ok
returns-clause-ok c =
    let s = c.self.inside in
    let old : State = record { bits = s.bits.items; low = s.low; range = s.range; after_samples = s.after_samples; contexts = s.contexts } in
    rw (← c.self.view_is) (shifted old c.append.new.list.items c.args.number c.args.range c.args.count c.requires.least c.in_ok-append.ensures.ok)
