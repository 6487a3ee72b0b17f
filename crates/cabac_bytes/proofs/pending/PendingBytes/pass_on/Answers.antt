use Rattle.std.proofs.Common.{◌≡◌, ap, sym, ◌∙◌, Some, arith, rules}
use Rattle.cabac_bytes.specs.Pending.{limit}
use Rattle.cabac_bytes.proofs.Numbers.{counted, released, raised, can_raise}
use Rattle.cabac_bytes.proofs.pending.PendingBytes.pass_on.Goals as goal

pub returns-then-lead-eq255-clause-ok : goal.returns-then-lead-eq255-clause-ok
returns-then-lead-eq255-clause-ok c =
    rw (← c.self.view_is, c.in-Some.is, c.if-lead-eq255.true) (counted c.self.inside.out.items c.in-Some.held c.self.inside.run (search rules))

pub returns-then-lead-lt255-clause-ok : goal.returns-then-lead-lt255-clause-ok
returns-then-lead-lt255-clause-ok c =
    rw (← c.self.view_is, c.in-Some.is) (released c.self.inside.out.items c.append_run.new.out.items c.in-Some.held c.self.inside.run c.args.lead (search rules) c.if-lead-lt255.true c.in_ok-append_run-in-Some.ensures.ok)

pub overflow_add-held : goal.overflow_add-held
overflow_add-held c =
    let e : limit c.args.self.now.held ≡ limit (Some c.in-Some.held) = ap (λ p. limit p.held) (sym c.self.view_is) ∙ ap limit c.in-Some.is in
    let r = can_raise c.in-Some.held c.args.lead (search rules) (omega arith) (rw e at c.requires) in
    omega arith

pub returns-in_ok-append_run-in-Some-2-clause-ok : goal.returns-in_ok-append_run-in-Some-2-clause-ok
returns-in_ok-append_run-in-Some-2-clause-ok c =
    let e : limit c.args.self.now.held ≡ limit (Some c.in-Some.held) = ap (λ p. limit p.held) (sym c.self.view_is) ∙ ap limit c.in-Some.is in
    rw (← c.self.view_is, c.in-Some.is) (raised c.self.inside.out.items c.append_run-in-Some.new.out.items c.in-Some.held c.self.inside.run c.args.lead (search rules) (omega arith) (rw e at c.requires) c.in_ok-append_run-in-Some-2.ensures.ok)
