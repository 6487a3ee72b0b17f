use Rattle.std.proofs.Common.{◌≡◌, ◌<◌, ◌-◌, ◌∙◌, ap, List, arith}
use Rattle.std.specs.Arc.{arc_value}
use Rattle.row_coder.specs.Rows.{leaves_of}
use Rattle.picture_encoder.specs.Planning.{row_chosen}
use Rattle.picture_encoder.proofs.RowJobs.{job_trees, job_above, first_job, next_job, row_above}
use Rattle.picture_encoder.proofs.rows.row_job.Goals as goal

pub new-requires-clause-plans : goal.new-requires-clause-plans
new-requires-clause-plans c =
    job_trees c.args.task.now (arc_value c.in_ok-clone.field-0) c.kind.result c.args.row (leaves_of c.args.plans.items) c.in_ok-clone.ensures.cases c.kind.ensures c.requires.plans

pub returns-then-row-eq0 : goal.returns-then-row-eq0
returns-then-row-eq0 c =
    first_job c.args.task.now c.in_ok-job.job (arc_value c.in_ok-clone.field-0) c.kind.result c.args.row (leaves_of c.args.plans.items) c.in_ok-job.ensures c.requires.row c.if-row-eq0.true
    c.in_ok-clone.ensures.cases c.kind.ensures c.requires.plans

pub with_above-requires-clause-above : goal.with_above-requires-clause-above
with_above-requires-clause-above c =
    let some : 0 < c.args.row = let other = c.if-row-eq0.false in omega arith in
    let above : leaves_of c.deref.result.now ≡ row_chosen c.args.task.now (c.args.row - 1) =
    ap (λ (l : List _). leaves_of l) c.deref.ensures.value ∙ (ap (λ v. leaves_of v.items) c.index-above-row.is
    ∙ row_above (λ v. leaves_of v.items) (row_chosen c.args.task.now) c.args.above.now c.args.row _ c.requires.count c.requires.above some) in
    job_above c.args.task.now c.in_ok-job.job (arc_value c.in_ok-clone.field-0) c.kind.result c.args.row (leaves_of c.args.plans.items) (leaves_of c.deref.result.now) c.in_ok-job.ensures
    c.in_ok-clone.ensures.cases above

pub returns : goal.returns
returns c =
    let some : 0 < c.args.row = let other = c.if-row-eq0.false in omega arith in
    let above : leaves_of c.deref.result.now ≡ row_chosen c.args.task.now (c.args.row - 1) =
    ap (λ (l : List _). leaves_of l) c.deref.ensures.value ∙ (ap (λ v. leaves_of v.items) c.index-above-row.is
    ∙ row_above (λ v. leaves_of v.items) (row_chosen c.args.task.now) c.args.above.now c.args.row _ c.requires.count c.requires.above some) in
    next_job c.args.task.now c.in_ok-job.job c.in_ok-job-2.job (arc_value c.in_ok-clone.field-0) c.kind.result c.args.row (leaves_of c.args.plans.items) (leaves_of c.deref.result.now)
    c.in_ok-job.ensures c.requires.row some c.in_ok-clone.ensures.cases c.kind.ensures c.requires.plans above c.in_ok-job-2.ensures
