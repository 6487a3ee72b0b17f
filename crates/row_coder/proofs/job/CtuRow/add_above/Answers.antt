use Rattle.std.proofs.Common.{◌≡◌, ℕ, false, sym, subst}
use Rattle.std.specs.Prelude.{Option}
use Rattle.std.specs.Arc.{arc_value}
use Rattle.std.specs.Result.{is_ok}
use Rattle.row_coder.specs.Rows.{leaves_of, IsUnderWay}
use Rattle.row_coder.proofs.RowSteps.{above_added}
use Rattle.row_coder.proofs.job.CtuRow.add_above.Goals as goal

pub invariant_of-self-2 : goal.invariant_of-self-2
invariant_of-self-2 c =
    let s = c.self.inside in
    let fresh : s.begun ≡ false = rw (← c.self.view_is) at c.requires.fresh in
    let units = rw (← c.self.view_is) at c.requires.units in
    let none = c.self.invariant.fresh fresh in
    record {
      wide = c.self.invariant.wide;
      narrow = c.self.invariant.narrow;
      few = c.self.invariant.few;
      number = c.self.invariant.number;
      trees = c.self.invariant.trees;
      fresh = c.self.invariant.fresh;
      bare = c.self.invariant.bare;
      under_way = subst (λ (o : Option ℕ). IsUnderWay (arc_value s.picture) s.kind s.number c.extend_from_slice.new.self.items (leaves_of s.plans.items) s.inherited s.grid s.coder o) (sym none)
          (above_added (arc_value s.picture) s.kind s.number s.above.items c.args.leaves.now c.extend_from_slice.new.self.items (is_ok c.extend_from_slice.result) (leaves_of s.plans.items) s.inherited s.grid s.coder c.self.invariant.wide c.self.invariant.number
          (subst (λ (o : Option ℕ). IsUnderWay (arc_value s.picture) s.kind s.number s.above.items (leaves_of s.plans.items) s.inherited s.grid s.coder o) none c.self.invariant.under_way)
          (c.self.invariant.bare fresh) c.extend_from_slice.ensures.items units);
    }
