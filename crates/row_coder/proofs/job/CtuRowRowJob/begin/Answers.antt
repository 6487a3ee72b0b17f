use Rattle.std.proofs.Common.{◌≡◌, ℕ, false, ap, sym, ◌∙◌, subst, refl}
use Rattle.std.specs.Prelude.{Option}
use Rattle.std.specs.Arc.{arc_value}
use Rattle.std.proofs.lemmas.Bool.{false≢true}
use Rattle.row_coder.specs.Rows.{plan_of, leaves_of, first_contexts, IsUnderWay}
use Rattle.row_coder.proofs.RowSteps.{begun_with}
use Rattle.row_coder.proofs.job.CtuRowRowJob.begin.Goals as goal

pub invariant_of-self : goal.invariant_of-self
unfolding plan_of
invariant_of-self c =
    let s = c.self.inside in
    let fresh : s.begun ≡ false = rw (← c.self.view_is) at c.requires.fresh in
    let width = rw (← c.self.view_is) at c.width.ensures.value in
    let none = c.self.invariant.fresh fresh in
    record {
      wide = c.self.invariant.wide;
      narrow = c.self.invariant.narrow;
      few = c.self.invariant.few;
      number = c.self.invariant.number;
      trees = c.self.invariant.trees;
      fresh = λ not_begun. absurd (false≢true (sym not_begun));
      bare = λ not_begun. absurd (false≢true (sym not_begun));
      under_way = subst (λ (o : Option ℕ). IsUnderWay (arc_value s.picture) s.kind s.number s.above.items (leaves_of s.plans.items) c.args.inherited s.grid c.new.result o) (sym none)
          (begun_with (arc_value s.picture) s.kind s.number s.above.items (leaves_of s.plans.items) s.inherited c.args.inherited s.grid s.coder c.new.result c.self.invariant.wide c.self.invariant.number
          (subst (λ (o : Option ℕ). IsUnderWay (arc_value s.picture) s.kind s.number s.above.items (leaves_of s.plans.items) s.inherited s.grid s.coder o) none c.self.invariant.under_way)
          c.first_of-first.result (c.first_of-first.ensures ∙ ap (λ (k : ℕ). first_contexts s.kind k s.number c.args.inherited) (width ∙ c.self.invariant.trees.many)) c.new.ensures.stands_for c.new.ensures.phase);
    }

pub returns-clause-plan : goal.returns-clause-plan
unfolding plan_of
returns-clause-plan c = rw (← c.self.view_is) refl
