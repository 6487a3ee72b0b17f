use Rattle.cabac_bytes.specs.State.{State}
use Rattle.cabac_bytes.proofs.Grown.{filled}
use Rattle.cabac_bytes.proofs.coder.ByteCoder.fill.Goals as goal

pub returns-clause-ok : goal.returns-clause-ok
returns-clause-ok c =
    let s = c.self.inside in
    let old : State = record { pending = s.pending; low = s.low; range = s.range; width = s.width; contexts = s.contexts } in
    rw (← c.self.view_is) (filled old c.append.new.self c.args.samples.now c.requires.some c.in_ok-append.ensures.ok)
