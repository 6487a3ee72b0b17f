use Rattle.std.proofs.Common.{◌+◌, ℕ, ap}
use Rattle.row_workers.proofs.tests.three_rows_at_once.Goals as goal

pub run_rows-requires-clause-widths : goal.run_rows-requires-clause-widths
run_rows-requires-clause-widths g c κs within =
    let one : ℕ → ℕ = λ n. n + 1 in
    (c.args.more + 1, rw (c.in_ok-push-3.ensures.items, c.in_ok-push-2.ensures.items, c.in_ok-push.ensures.items, c.new-jobs.ensures.items) (ap one c.job.ensures.more, (ap one c.job-2.ensures.more, (ap one c.job-3.ensures.more, tt))))
