use Rattle.cabac_dec.proofs.Windows.{ready}
use Rattle.cabac_dec.proofs.window.Window.has.Goals as goal

pub returns-then-count-self-clause-there : goal.returns-then-count-self-clause-there
returns-then-count-self-clause-there c =
    let i = c.self.inside in
    rw (← c.self.view_is) (ready i.bytes.now i.next i.value i.ahead c.args.count c.self.invariant c.if-count-self.true)
