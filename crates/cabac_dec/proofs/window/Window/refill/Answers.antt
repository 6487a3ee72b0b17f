use Rattle.std.proofs.Common.{◌≡◌, ◌∙◌, ap, ◌-◌, length, arith}
use Rattle.std.proofs.lemmas.List.{take_rest, length-drop}
use Rattle.std.specs.Prelude.{min}
use Rattle.cabac_dec.specs.State.{Reading}
use Rattle.cabac_dec.proofs.Windows.{refilled, counted}
use Rattle.cabac_dec.proofs.window.Window.refill.Goals as goal

pub overflow_add-self : goal.overflow_add-self
overflow_add-self c =
    let i = c.self.inside in
    let some : c.min-some.result ≡ min (length i.bytes.now - i.next) 4 = (rw take_rest at c.min-some.ensures) ∙ ap (λ n. min n 4) (length-drop i.next i.bytes.now) in
    let r = refilled i.bytes.now i.next i.value i.ahead c.min-some.result c.word_of-word.result c.self.invariant (omega arith) (omega (arith, ap (λ (r : Reading). r.ahead) c.self.view_is)) some (rw take_rest at c.word_of-word.ensures) in
    let fits = r.fits in
    rw r.amount (omega arith)

pub invariant_of-self : goal.invariant_of-self
invariant_of-self c =
    let i = c.self.inside in
    let some : c.min-some.result ≡ min (length i.bytes.now - i.next) 4 = (rw take_rest at c.min-some.ensures) ∙ ap (λ n. min n 4) (length-drop i.next i.bytes.now) in
    let r = refilled i.bytes.now i.next i.value i.ahead c.min-some.result c.word_of-word.result c.self.invariant (omega arith) (omega (arith, ap (λ (r : Reading). r.ahead) c.self.view_is)) some (rw take_rest at c.word_of-word.ensures) in
    rw r.amount r.window

pub returns-clause-same : goal.returns-clause-same
returns-clause-same c =
    let i = c.self.inside in
    let some : c.min-some.result ≡ min (length i.bytes.now - i.next) 4 = (rw take_rest at c.min-some.ensures) ∙ ap (λ n. min n 4) (length-drop i.next i.bytes.now) in
    let r = refilled i.bytes.now i.next i.value i.ahead c.min-some.result c.word_of-word.result c.self.invariant (omega arith) (omega (arith, ap (λ (r : Reading). r.ahead) c.self.view_is)) some (rw take_rest at c.word_of-word.ensures) in
    rw (← c.self.view_is, r.amount) r.is

pub returns-clause-there : goal.returns-clause-there
returns-clause-there c =
    let i = c.self.inside in
    let some : c.min-some.result ≡ min (length i.bytes.now - i.next) 4 = (rw take_rest at c.min-some.ensures) ∙ ap (λ n. min n 4) (length-drop i.next i.bytes.now) in
    rw (← c.self.view_is) (counted i.bytes.now i.next i.value i.ahead c.min-some.result c.args.count c.self.invariant c.requires.few some)
