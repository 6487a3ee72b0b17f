use Rattle.std.proofs.Common.{◌+◌, ℕ, ap}
use Rattle.row_workers.proofs.tests.three_rows.Goals as goal

pub rows_alone-requires-clause-widths : goal.rows_alone-requires-clause-widths
rows_alone-requires-clause-widths c κs =
    let one : ℕ → ℕ = λ n. n + 1 in
    (c.args.more + 1, rw (c.in_ok-push-3.ensures.items, c.in_ok-push-2.ensures.items, c.in_ok-push.ensures.items, c.new-jobs.ensures.items) (ap one c.job.ensures.more, (ap one c.job-2.ensures.more, (ap one c.job-3.ensures.more, tt))))
