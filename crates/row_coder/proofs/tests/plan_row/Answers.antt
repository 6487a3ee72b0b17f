use Rattle.std.proofs.Common.{◌≡◌, ℕ, ◌+◌, ◌*◌, ◌/◌, List, [], ◌∷◌, length, ap, ◌∙◌, subst, arith, length-append, Bor}
use Rattle.arrayvec.specs.ArrayVec.{ArrayVec}
use Rattle.h265_model.specs.declared.leaf.Leaf.{Leaf}
use Rattle.h265_model.specs.Plain.{Size, ctus}
use Rattle.h265_model.specs.Tree.{IsLawfulTree, AreAllowed}
use Rattle.px_plane.specs.Planes.{Planes, picture_of}
use Rattle.row_coder.proofs.RowSteps.{length_leaves}
use Rattle.row_coder.proofs.Planned.{each_more, lawful, allowed}
use Rattle.row_coder.proofs.tests.plan_row.Goals as goal

pub loop-i-init : goal.loop-i-init
loop-i-init g c = record {
  many = ap (λ (l : List (ArrayVec Leaf)). length l) c.new-plans.ensures.items;
  tree = λ k h. absurd (omega arith);
  allowed = λ k h. absurd (omega arith);
}

pub loop-i-preserved : goal.loop-i-preserved
loop-i-preserved g c =
    let p : Planes = c.args.now.now in
    let i : ℕ = c.loop-i.i in
    let w : (c.w.result + 31) / 32 ≡ ctus p.size.w = ap (λ (k : ℕ). ctus k) (c.w.ensures.value ∙ ap (λ (z : Size). z.w) c.size.ensures.value) in
    let place : c.args.row * ((c.w.result + 31) / 32) + i ≡ c.args.row * ctus p.size.w + i = ap (λ (k : ℕ). c.args.row * k + i) w in
    let tree = lawful (λ (b : Bor Planes). picture_of b.now) (picture_of p) p.size c.args.effort (c.args.row * ((c.w.result + 31) / 32) + i) c.plan_ctu.result.items c.args.prev c.plan_ctu.ensures.choice in
    let kind = allowed (λ (b : Bor Planes). picture_of b.now) (picture_of p) p.size c.args.effort (c.args.row * ((c.w.result + 31) / 32) + i) c.plan_ctu.result.items c.args.kind c.args.prev c.requires.kind c.plan_ctu.ensures.choice in
    record {
      many = ap (λ (l : List (ArrayVec Leaf)). length l) c.in_ok-push.ensures.items ∙ (length-append c.loop-i.plans.items (c.plan_ctu.result ∷ []) ∙ ap (λ (n : ℕ). n + 1) c.loop-i.invariant.many);
      tree = each_more (λ k l. IsLawfulTree p.size (c.args.row * ctus p.size.w + k) l) c.loop-i.plans.items c.push.new.self.items c.plan_ctu.result i c.in_ok-push.ensures.items c.loop-i.invariant.many c.loop-i.invariant.tree
          (subst (λ (k : ℕ). IsLawfulTree p.size k c.plan_ctu.result.items) place tree);
      allowed = each_more (λ k l. AreAllowed c.args.kind l) c.loop-i.plans.items c.push.new.self.items c.plan_ctu.result i c.in_ok-push.ensures.items c.loop-i.invariant.many c.loop-i.invariant.allowed kind;
    }

pub returns-clause-trees : goal.returns-clause-trees
returns-clause-trees g c =
    let p : Planes = c.args.now.now in
    let w : (c.w.result + 31) / 32 ≡ ctus p.size.w = ap (λ (k : ℕ). ctus k) (c.w.ensures.value ∙ ap (λ (z : Size). z.w) c.size.ensures.value) in
    let all : c.loop-i.i ≡ ctus p.size.w = (let done = c.loop-i-test.false in omega arith) in
    record {
      many = length_leaves c.loop-i.plans.items ∙ (c.loop-i.invariant.many ∙ all);
      tree = λ k h. c.loop-i.invariant.tree k (omega arith);
      allowed = λ k h. c.loop-i.invariant.allowed k (omega arith);
    }

pub returns-clause-above : goal.returns-clause-above
returns-clause-above g c =
    let p : Planes = c.args.now.now in
    let w : (c.w.result + 31) / 32 ≡ ctus p.size.w = ap (λ (k : ℕ). ctus k) (c.w.ensures.value ∙ ap (λ (z : Size). z.w) c.size.ensures.value) in
    let all : c.loop-i.i ≡ ctus p.size.w = (let done = c.loop-i-test.false in omega arith) in
    record {
      many = length_leaves c.loop-i.plans.items ∙ (c.loop-i.invariant.many ∙ all);
      tree = λ k h. c.loop-i.invariant.tree k (omega arith);
    }
