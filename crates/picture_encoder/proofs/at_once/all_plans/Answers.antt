use Rattle.std.proofs.Common.{◌≡◌, ◌∷◌, [], ◌++◌, ◌+◌, ◌<◌, length, sym, refl, ap, ◌∙◌, append_assoc, length-append, subst, List, ℕ, map, arith}
use Rattle.std.specs.Prelude.{Option, None, Some, IfSome, slice_index_or}
use Rattle.std.specs.Vec.Iter.{into_iter_items}
use Rattle.std.proofs.Math.Seq.{get_or-append_seam}
use Rattle.h265_model.specs.Plain.{below}
use Rattle.row_coder.specs.Rows.{leaves_of}
use Rattle.picture_encoder.specs.Planning.{row_chosen}
use Rattle.picture_encoder.proofs.RowJobs.{one_more_of}
use Rattle.picture_encoder.proofs.at_once.all_plans.Goals as goal

pub loop-plan-preserved : goal.loop-plan-preserved
loop-plan-preserved c =
    let at = c.loop-plan in
    let plan = c.in-Some.plan in
    let t = c.args.task.now in
    let steps : into_iter_items at.plan-iterator ≡ plan ∷ into_iter_items c.next.new.self = c.in-Some.ensures.steps.0 in
    let split : at.yielded ++ plan ∷ into_iter_items c.next.new.self ≡ c.args.plans.items = rw (← steps) at.invariant.whole in
    let here : slice_index_or c.args.plans.items (length at.yielded) None ≡ plan =
    ap (λ l. slice_index_or l (length at.yielded) None) (sym split) ∙ get_or-append_seam at.yielded plan (into_iter_items c.next.new.self) None in
    let few : length at.yielded < length c.args.plans.items = let long = ap length split in omega (arith, length-append at.yielded (plan ∷ into_iter_items c.next.new.self)) in
    let known = c.requires (length at.yielded) few in
    let made : IfSome plan (λ p. leaves_of p.items ≡ row_chosen t (length at.yielded)) = subst (λ o. IfSome o (λ p. leaves_of p.items ≡ row_chosen t (length at.yielded))) here known in
    record {
      whole = append_assoc at.yielded (plan ∷ []) _ ∙ split;
      counted = (let was = at.invariant.counted in let gone = c.in-Some.ensures.steps.1 in let short = ap length steps in omega arith);
      rows = one_more_of (λ row. leaves_of row.items) (row_chosen t) at.rows.items c.push.new.self.items c.in_ok-ok_or.field-0 0 (length at.yielded) (length at.yielded) c.in_ok-push.ensures.items at.invariant.rows
          (subst (λ o. IfSome o (λ p. leaves_of p.items ≡ row_chosen t (length at.yielded))) c.in_ok-ok_or.ensures.ok_part made) (omega arith)
          ∙ ap (λ (n : ℕ). map (row_chosen t) (below n)) (sym (length-append at.yielded (plan ∷ [])));
    }
