use Rattle.std.proofs.Common.{◌≡◌, map, length, ◌++◌}
use Rattle.std.specs.Vec.Iter.{into_iter_items, into_iter_len}
use Rattle.h265_model.specs.Plain.{below}
use Rattle.row_coder.specs.Rows.{leaves_of}
use Rattle.picture_encoder.specs.Planning.{row_chosen}
use Rattle.picture_encoder.proofs.at_once.all_plans.Given as goal

abbrev pub invariant-loop-plan : goal.invariant-loop-plan
invariant-loop-plan l = record {
  whole : l.yielded ++ into_iter_items l.plan-iterator ≡ l.fn.plans.items;
  counted : into_iter_len l.plan-iterator ≡ length (into_iter_items l.plan-iterator);
  rows : map (λ row. leaves_of row.items) l.rows.items ≡ map (row_chosen l.fn.task) (below (length l.yielded));
}
