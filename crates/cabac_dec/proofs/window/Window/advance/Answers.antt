use Rattle.std.proofs.Common.{arith}
use Rattle.cabac_dec.proofs.Windows.{advanced}
use Rattle.cabac_dec.proofs.window.Window.advance.Goals as goal

pub overflow_sub-self-2 : goal.overflow_sub-self-2
overflow_sub-self-2 c =
    let i = c.self.inside in
    (advanced i.bytes.now i.next i.value i.ahead c.args.count c.args.less c.self.invariant (omega arith) c.requires.few
    (rw (← c.self.view_is) at c.requires.ready) (rw (← c.self.view_is) at c.requires.least) (rw (← c.self.view_is) at c.requires.most)).least

pub invariant_of-self : goal.invariant_of-self
invariant_of-self c =
    let i = c.self.inside in
    (advanced i.bytes.now i.next i.value i.ahead c.args.count c.args.less c.self.invariant (omega arith) c.requires.few
    (rw (← c.self.view_is) at c.requires.ready) (rw (← c.self.view_is) at c.requires.least) (rw (← c.self.view_is) at c.requires.most)).window

pub returns : goal.returns
returns c =
    let i = c.self.inside in
    rw (← c.self.view_is) (advanced i.bytes.now i.next i.value i.ahead c.args.count c.args.less c.self.invariant (omega arith) c.requires.few
    (rw (← c.self.view_is) at c.requires.ready) (rw (← c.self.view_is) at c.requires.least) (rw (← c.self.view_is) at c.requires.most)).is
