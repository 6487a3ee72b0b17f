use Rattle.std.proofs.Common.{ℕ, ◌<◌, get_or, length, arith}
use Rattle.cabac_enc.specs.State.{State}
use Rattle.cabac_enc.proofs.Grown.{filled, are_bytes}
use Rattle.cabac_enc.proofs.coder.Coder.fill.Goals as goal

pub returns-clause-ok : goal.returns-clause-ok
returns-clause-ok c =
    let s = c.self.inside in
    let samples = c.args.samples.now in
    let old : State = record { bits = s.bits.items; low = s.low; range = s.range; after_samples = s.after_samples; contexts = s.contexts } in
    let each = λ (k : ℕ) (h : k < length samples). let known = c.type_inv.samples k in let fits : get_or samples k 0 < 256 = omega arith in fits in
    rw (← c.self.view_is) (filled old c.append_bytes.new.list.items samples (are_bytes samples each) c.in_ok-append_bytes.ensures.ok)
