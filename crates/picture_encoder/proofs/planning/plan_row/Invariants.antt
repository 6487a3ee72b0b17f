use Rattle.std.proofs.Common.{◌≡◌, ◌≤◌, ◌+◌, ◌*◌, map, take}
use Rattle.std.specs.List.{range_with_len}
use Rattle.h265_model.specs.Plain.{ctus}
use Rattle.row_coder.specs.Rows.{leaves_of}
use Rattle.picture_encoder.specs.Planning.{chosen, size_of_task, raised}
use Rattle.picture_encoder.proofs.planning.plan_row.Given as goal

abbrev pub invariant-loop-unit : goal.invariant-loop-unit
invariant-loop-unit g l = record {
  plans : leaves_of l.plans.items ≡ map (chosen l.fn.task) (range_with_len (l.fn.row * ctus (size_of_task l.fn.task).w) l.unit);
  steps : l.steps + 1024 * raised (take (l.fn.row * ctus (size_of_task l.fn.task).w) l.fn.task.touched.now)
      ≤ l.initial.steps + 1024 * raised (take (l.fn.row * ctus (size_of_task l.fn.task).w + l.unit) l.fn.task.touched.now);
}
