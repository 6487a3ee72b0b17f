use Rattle.std.proofs.Common.{◌≡◌, ◌+◌, ◌*◌, ap, take, ℕ, arith}
use Rattle.h265_model.specs.Plain.{ctus}
use Rattle.row_coder.specs.Rows.{leaves_of}
use Rattle.picture_encoder.specs.Planning.{row_chosen, size_of_task, raised}
use Rattle.picture_encoder.proofs.Counts.{raised_front}
use Rattle.picture_encoder.proofs.RowJobs.{one_more_of}
use Rattle.picture_encoder.proofs.planning.plan_rows.Goals as goal

pub loop-row-preserved : goal.loop-row-preserved
loop-row-preserved g c =
    let t = c.args.task.now in
    let w : ℕ = ctus (size_of_task t).w in
    let row : ℕ = c.loop-row.row in
    let next : row * w + w ≡ (row + 1) * w = omega arith in
    let more : 1024 * raised (take (row * w + w) t.touched.now) ≡ 1024 * raised (take ((row + 1) * w) t.touched.now) = ap (λ (k : ℕ). 1024 * raised (take k t.touched.now)) next in
    let before = c.loop-row.invariant.steps in
    let step = c.in_ok-plan_row.ensures.steps in
    record {
      plans = one_more_of (λ r. leaves_of r.items) (row_chosen t) c.loop-row.rows.items c.push.new.self.items c.in_ok-plan_row.field-0 0 row row
          c.in_ok-push.ensures.items c.loop-row.invariant.plans c.in_ok-plan_row.ensures.plans (omega arith);
      steps = omega arith;
    }

pub returns-clause-steps : goal.returns-clause-steps
returns-clause-steps g c =
    let known = c.loop-row.invariant.steps in
    omega (arith, raised_front c.args.task.now.touched.now (c.loop-row.row * ctus (size_of_task c.args.task.now).w))
