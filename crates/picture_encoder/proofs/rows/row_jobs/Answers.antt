use Rattle.std.proofs.Common.{◌≡◌, ◌+◌, ◌/◌, sym, ◌∙◌, ap, ℕ, map, arith}
use Rattle.h265_model.specs.Plain.{Size, ctus, below}
use Rattle.px_plane.specs.Planes.{Planes}
use Rattle.row_coder.specs.Rows.{leaves_of}
use Rattle.picture_encoder.specs.Planning.{row_chosen, row_of_task, size_of_task}
use Rattle.picture_encoder.proofs.RowJobs.{popped, none_left, next_before, rows_long}
use Rattle.picture_encoder.proofs.rows.row_jobs.Goals as goal

pub loop-own-init : goal.loop-own-init
loop-own-init c =
    let t = c.args.task.now in
    let h : c.h.result ≡ (size_of_task t).h = c.h.ensures.value ∙ (ap (λ (s : Size). s.h) c.size.ensures.value ∙ ap (λ (p : Planes). p.size.h) c.deref.ensures) in
    let down : (c.h.result + 31) / 32 ≡ ctus (size_of_task t).h = ap (λ (n : ℕ). (n + 31) / 32) h in
    record {
      count = rows_long (λ row. leaves_of row.items) c.args.plans.items (row_chosen t) (ctus (size_of_task t).h) c.requires ∙ sym down;
      few = omega arith;
      plans = c.requires ∙ ap (λ (n : ℕ). map (row_chosen t) (below n)) (sym down);
      jobs = c.in_ok-jobs.ensures.items ∙ none_left (row_of_task t) ((c.h.result + 31) / 32) (ctus (size_of_task t).h) down;
    }

pub row_job-requires-clause-plans : goal.row_job-requires-clause-plans
row_job-requires-clause-plans c =
    (popped (λ row. leaves_of row.items) (row_chosen c.args.task.now) c.loop-own.plans.items c.pop.new.self.items c.in-Some.own c.loop-own.row c.in-Some.ensures.items c.loop-own.invariant.count c.loop-own.invariant.plans).last_is

pub row_job-requires-clause-above : goal.row_job-requires-clause-above
row_job-requires-clause-above c =
    ap (λ l. map (λ row. leaves_of row.items) l) c.deref-in-Some.ensures.value
    ∙ (popped (λ row. leaves_of row.items) (row_chosen c.args.task.now) c.loop-own.plans.items c.pop.new.self.items c.in-Some.own c.loop-own.row c.in-Some.ensures.items c.loop-own.invariant.count c.loop-own.invariant.plans).others

pub loop-own-preserved : goal.loop-own-preserved
loop-own-preserved c =
    let t = c.args.task.now in
    let less = popped (λ row. leaves_of row.items) (row_chosen t) c.loop-own.plans.items c.pop.new.self.items c.in-Some.own c.loop-own.row c.in-Some.ensures.items c.loop-own.invariant.count c.loop-own.invariant.plans in
    record {
      count = less.count;
      few = (let known = c.loop-own.invariant.few in omega arith);
      plans = less.others;
      jobs = next_before (row_of_task t) c.loop-own.row (ctus (size_of_task t).h) c.loop-own.jobs.items c.push.new.self.items c.in_ok-row_job.field-0 less.some c.loop-own.invariant.few c.loop-own.invariant.jobs
          c.in_ok-row_job.ensures c.in_ok-push.ensures.items;
    }
