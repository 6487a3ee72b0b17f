use Rattle.std.proofs.Common.{subst, arith}
use Rattle.h265_laws.proofs.PictureLaw.{IsFit, size_fits}
use Rattle.px_plane.specs.Planes.{Planes}
use Rattle.picture_encoder.specs.Planning.{size_of_task}
use Rattle.picture_encoder.proofs.RowJobs.{jobs_long, jobs_fresh, jobs_width, jobs_give}
use Rattle.picture_encoder.proofs.rows.picture_jobs.Goals as goal

pub returns-clause-some : goal.returns-clause-some
returns-clause-some c =
    let fit : IsFit (size_of_task c.args.task.now) = subst (λ (p : Planes). IsFit p.size) c.deref.ensures (size_fits c.deref.result.now.size c.picture_fits.ensures.size) in
    let high = fit.high in
    let long = jobs_long c.args.task.now c.in_ok-jobs.jobs.items c.in_ok-jobs.ensures in
    omega arith

pub returns-clause-few : goal.returns-clause-few
returns-clause-few c =
    let fit : IsFit (size_of_task c.args.task.now) = subst (λ (p : Planes). IsFit p.size) c.deref.ensures (size_fits c.deref.result.now.size c.picture_fits.ensures.size) in
    let low = fit.low in
    let long = jobs_long c.args.task.now c.in_ok-jobs.jobs.items c.in_ok-jobs.ensures in
    omega arith

pub returns-clause-fresh : goal.returns-clause-fresh
returns-clause-fresh c = jobs_fresh c.args.task.now c.in_ok-jobs.jobs.items c.in_ok-jobs.ensures

pub returns-clause-width : goal.returns-clause-width
returns-clause-width c = jobs_width c.args.task.now c.in_ok-jobs.jobs.items c.in_ok-jobs.ensures

pub returns-clause-give : goal.returns-clause-give
returns-clause-give c =
    let fit : IsFit (size_of_task c.args.task.now) = subst (λ (p : Planes). IsFit p.size) c.deref.ensures (size_fits c.deref.result.now.size c.picture_fits.ensures.size) in
    jobs_give c.args.task.now c.in_ok-jobs.jobs.items c.in_ok-jobs.ensures fit.wide
