use Rattle.std.proofs.Common.{◌≡◌, ℕ, map, length, ◌++◌}
use Rattle.std.specs.Vec.Iter.{into_iter_items, into_iter_len}
use Rattle.row_core.specs.Plans.{HaveWidth}
use Rattle.row_workers.proofs.InOrder.{AreDone}
use Rattle.row_workers.proofs.alone.rows_alone.Given as goal

abbrev pub invariant-loop-job : goal.invariant-loop-job
invariant-loop-job g l = record {
  whole : l.yielded ++ into_iter_items l.job-iterator ≡ l.fn.jobs.items;
  counted : into_iter_len l.job-iterator ≡ length (into_iter_items l.job-iterator);
  done : (width : ℕ) → HaveWidth width (map g.J.RowJob.plan l.fn.jobs.items) → AreDone g.J.RowJob.plan width l.fn.jobs.items l.yielded (map (λ row. row.items) l.rows.items) l.inherited;
}
