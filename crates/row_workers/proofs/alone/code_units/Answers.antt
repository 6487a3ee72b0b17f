use Rattle.std.proofs.Common.{refl, ◌∙◌, ap, Option, Some, List, ℕ, arith}
use Rattle.row_core.specs.Plan.{Plan}
use Rattle.row_workers.proofs.alone.code_units.Goals as goal
use Rattle.row_workers.proofs.alone.code_units.Goals.{then-unit-eq-SHOWN, else-unit-eq-SHOWN}

pub loop-unit-init : goal.loop-unit-init
loop-unit-init g c = record {
  begun = c.requires.begun;
  inherits = refl;
  plan = refl;
  coded = c.requires.none;
  some = λ two. absurd (omega arith);
  none = λ few. refl;
}

pub code_next-requires-clause-begun : goal.code_next-requires-clause-begun
code_next-requires-clause-begun g c = c.loop-unit.invariant.begun

pub code_next-requires-clause-left : goal.code_next-requires-clause-left
code_next-requires-clause-left g c =
    let width = ap (λ (p : Plan). p.width) c.loop-unit.invariant.plan in
    let coded = c.loop-unit.invariant.coded in
    let all = c.width-unit-end.ensures.value in
    omega arith

pub loop-unit-preserved : goal.loop-unit-preserved
loop-unit-preserved g c = record {
  begun = c.in_ok-code_next.ensures.begun;
  inherits = c.in_ok-code_next.ensures.inherited ∙ c.loop-unit.invariant.inherits;
  plan = c.in_ok-code_next.ensures.plan ∙ c.loop-unit.invariant.plan;
  coded = (let before = c.loop-unit.invariant.coded in let after = c.in_ok-code_next.ensures.coded in omega arith);
  some = elim c.if-unit-eq-SHOWN.branch [
    | then-unit-eq-SHOWN w ↦ λ two. w.second-is ∙ ap (λ (l : List ℕ). Some l)
        (w.contexts.ensures (let before = c.loop-unit.invariant.coded in let after = c.in_ok-code_next.ensures.coded in let one = w.if-unit-eq-SHOWN in omega arith)
        ∙ ap (λ (p : Plan). p.second (g.J.RowJob.inherits c.code_next.new.self)) (c.in_ok-code_next.ensures.plan ∙ c.loop-unit.invariant.plan)
        ∙ ap (λ (i : Option (List ℕ)). (g.J.RowJob.plan c.args.job.now).second i) (c.in_ok-code_next.ensures.inherited ∙ c.loop-unit.invariant.inherits))
    | else-unit-eq-SHOWN w ↦ λ two. w.second-is ∙ c.loop-unit.invariant.some (let other = w.if-unit-eq-SHOWN in omega arith)
  ];
  none = elim c.if-unit-eq-SHOWN.branch [
    | then-unit-eq-SHOWN w ↦ λ few. absurd (let one = w.if-unit-eq-SHOWN in omega arith)
    | else-unit-eq-SHOWN w ↦ λ few. w.second-is ∙ c.loop-unit.invariant.none (omega arith)
  ];
}

pub returns-clause-begun : goal.returns-clause-begun
returns-clause-begun g c = c.loop-unit.invariant.begun

pub returns-clause-inherited : goal.returns-clause-inherited
returns-clause-inherited g c = c.loop-unit.invariant.inherits

pub returns-clause-plan : goal.returns-clause-plan
returns-clause-plan g c = c.loop-unit.invariant.plan

pub returns-clause-coded : goal.returns-clause-coded
returns-clause-coded g c = c.loop-unit.invariant.coded ∙ (let all = c.width-unit-end.ensures.value in let at = c.loop-unit.auto.unit-end in let past = c.loop-unit-test.false in omega arith)

pub returns-clause-second : goal.returns-clause-second
returns-clause-second g c = λ wide. c.loop-unit.invariant.some (let all = c.width-unit-end.ensures.value in omega arith)

pub returns-clause-narrow : goal.returns-clause-narrow
returns-clause-narrow g c = λ one. c.loop-unit.invariant.none (let all = c.width-unit-end.ensures.value in omega arith)
