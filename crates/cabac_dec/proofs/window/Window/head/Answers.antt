use Rattle.std.proofs.Common.{arith}
use Rattle.cabac_dec.proofs.Windows.{head_at, head_fits}
use Rattle.cabac_dec.proofs.window.Window.head.Goals as goal

pub overflow_cast-result-2 : goal.overflow_cast-result-2
overflow_cast-result-2 c = let h = head_fits c.self.inside.value c.args.count (omega arith) c.requires.few in omega arith

pub returns : goal.returns
returns c =
    let i = c.self.inside in
    rw (← c.self.view_is) (head_at i.bytes.now i.next i.value i.ahead c.args.count c.self.invariant (rw (← c.self.view_is) at c.requires.ready))
