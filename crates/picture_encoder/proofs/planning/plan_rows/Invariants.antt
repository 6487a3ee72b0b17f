use Rattle.std.proofs.Common.{◌≡◌, ◌≤◌, ◌+◌, ◌*◌, map, take}
use Rattle.h265_model.specs.Plain.{ctus, below}
use Rattle.row_coder.specs.Rows.{leaves_of}
use Rattle.picture_encoder.specs.Planning.{row_chosen, size_of_task, raised}
use Rattle.picture_encoder.proofs.planning.plan_rows.Given as goal

abbrev pub invariant-loop-row : goal.invariant-loop-row
invariant-loop-row g l = record {
  plans : map (λ row. leaves_of row.items) l.rows.items ≡ map (row_chosen l.fn.task) (below l.row);
  steps : l.steps ≤ l.initial.steps + 1024 * raised (take (l.row * ctus (size_of_task l.fn.task).w) l.fn.task.touched.now);
}
