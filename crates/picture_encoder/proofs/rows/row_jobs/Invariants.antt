use Rattle.std.proofs.Common.{◌≡◌, ◌≤◌, ◌-◌, map, length, reverse}
use Rattle.std.specs.List.{range_with_len}
use Rattle.h265_model.specs.Plain.{ctus, below}
use Rattle.row_coder.specs.Rows.{leaves_of}
use Rattle.picture_encoder.specs.Planning.{row_chosen, row_of_task, size_of_task}
use Rattle.picture_encoder.proofs.rows.row_jobs.Given as goal

abbrev pub invariant-loop-own : goal.invariant-loop-own
invariant-loop-own l = record {
  count : length l.plans.items ≡ l.row;
  few : l.row ≤ ctus (size_of_task l.fn.task).h;
  plans : map (λ row. leaves_of row.items) l.plans.items ≡ map (row_chosen l.fn.task) (below l.row);
  jobs : l.jobs.items ≡ reverse (map (row_of_task l.fn.task) (range_with_len l.row (ctus (size_of_task l.fn.task).h - l.row)));
}

abbrev pub decreases-loop-own : goal.decreases-loop-own
decreases-loop-own l = l.plans.len
