use Rattle.std.proofs.Common.{rules, w32, ◌≡◌, sym, ◌∙◌, ap, ◌-◌, ◌%◌, ℤ, pos, arith}
use Rattle.std.proofs.lemmas.Int.{to_z-of_z}
use Rattle.h265_model.specs.Motion.{vector}
use Rattle.vector_search.proofs.Tried.{tried_first, tried_turned}
use Rattle.vector_search.proofs.vectors.vector_at.Goals as goal

pub returns-then-number-eq0-clause-tried : goal.returns-then-number-eq0-clause-tried
returns-then-number-eq0-clause-tried c = sym (tried_first c.args.number c.if-number-eq0.true)

pub returns-in-0-clause-tried : goal.returns-in-0-clause-tried
returns-in-0-clause-tried c = ap (λ (v : ℤ). vector (pos 0) v) (to_z-of_z w32 c.back.result (search rules) ∙ c.back.ensures.value) ∙ sym (tried_turned c.args.number 0 (omega arith) (omega arith) c.in-0.is)

pub returns-in-1-clause-tried : goal.returns-in-1-clause-tried
returns-in-1-clause-tried c = ap (λ (v : ℤ). vector (pos 0) v) (to_z-of_z w32 c.ahead.result (search rules) ∙ c.ahead.ensures.value) ∙ sym (tried_turned c.args.number 1 (omega arith) (omega arith) c.in-1.is)

pub returns-in-2-clause-tried : goal.returns-in-2-clause-tried
returns-in-2-clause-tried c = ap (λ (v : ℤ). vector v (pos 0)) (to_z-of_z w32 c.back-in-2.result (search rules) ∙ c.back-in-2.ensures.value) ∙ sym (tried_turned c.args.number 2 (omega arith) (omega arith) c.in-2.is)

pub returns-in_default-clause-tried : goal.returns-in_default-clause-tried
returns-in_default-clause-tried c =
    let three : (c.args.number - 1) % 4 ≡ 3 = omega arith in
    ap (λ (v : ℤ). vector v (pos 0)) (to_z-of_z w32 c.ahead-in_default.result (search rules) ∙ c.ahead-in_default.ensures.value) ∙ sym (tried_turned c.args.number 3 (omega arith) (omega arith) three)
