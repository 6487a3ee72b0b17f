use Rattle.std.proofs.Common.{ℕ, ◌≡◌, ◌+◌, ◌-◌, ◌*◌, ◌/◌, ◌%◌, refl, length, arith}
use Rattle.cabac_enc.specs.State.{State}
use Rattle.cabac_enc.proofs.Ending.{last, ended}
use Rattle.cabac_enc.proofs.coder.Coder.end_run.Goals as goal

pub append-requires-clause-fits : goal.append-requires-clause-fits
append-requires-clause-fits c =
    let s = c.self.inside in
    let low = c.self.invariant.low in
    let most = c.self.invariant.most in
    (last ((s.low + (s.range - 2)) / 2 * 2 + 1) (7 - c.len.result % 8) (omega arith) (omega arith)).fits

pub returns-clause-ok : goal.returns-clause-ok
returns-clause-ok c =
    let s = c.self.inside in
    let old : State = record { bits = s.bits.items; low = s.low; range = s.range; after_samples = s.after_samples; contexts = s.contexts } in
    let low = c.self.invariant.low in
    let most = c.self.invariant.most in
    let number : ℕ = (s.low + (s.range - 2)) / 2 * 2 + 1 in
    let zeros : ℕ = 7 - c.len.result % 8 in
    let e : c.len.result ≡ length s.bits.items = omega arith in
    let l = last number zeros (omega arith) (omega arith) in
    rw (← c.self.view_is) (ended old c.append.new.list.items zeros number c.self.invariant (rw (← c.self.view_is) at c.requires.not_ended) (omega arith) refl (rw l.shifted at c.in_ok-append.ensures.ok))
