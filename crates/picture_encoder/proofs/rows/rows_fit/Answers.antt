use Rattle.std.proofs.Common.{subst, arith}
use Rattle.h265_model.specs.Plain.{IsPicture, ctus}
use Rattle.h265_laws.proofs.PictureLaw.{IsFit, size_fits}
use Rattle.px_plane.specs.Planes.{Planes, picture_of}
use Rattle.picture_encoder.specs.Planning.{planes_of_task, size_of_task, kind_of_task, reference_of_task, all_chosen, code_of_task}
use Rattle.picture_encoder.proofs.Choices.{slice_is}
use Rattle.picture_encoder.proofs.RowJobs.{rows_long, are_substreams}
use Rattle.picture_encoder.proofs.rows.rows_fit.Goals as goal

pub returns-clause-substreams : goal.returns-clause-substreams
returns-clause-substreams c =
    let t = c.args.task.now in
    let fit : IsFit (size_of_task t) = subst (λ (p : Planes). IsFit p.size) c.deref.ensures (size_fits c.deref.result.now.size c.picture_fits.ensures.size) in
    let bytes : IsPicture (picture_of (planes_of_task t)) = subst (λ (p : Planes). IsPicture (picture_of p)) c.deref.ensures c.picture_fits.ensures.samples in
    are_substreams (λ row. row.items) c.args.rows.now (kind_of_task t) (planes_of_task t) (all_chosen t)
    (slice_is (picture_of (planes_of_task t)) (size_of_task t) t.effort (reference_of_task t) fit.wide bytes) fit.narrow c.requires

pub returns-clause-some : goal.returns-clause-some
returns-clause-some c =
    let fit : IsFit (size_of_task c.args.task.now) = subst (λ (p : Planes). IsFit p.size) c.deref.ensures (size_fits c.deref.result.now.size c.picture_fits.ensures.size) in
    let high = fit.high in
    let long = rows_long (λ row. row.items) c.args.rows.now (code_of_task c.args.task.now) (ctus (size_of_task c.args.task.now).h) c.requires in
    omega arith

pub returns-clause-few : goal.returns-clause-few
returns-clause-few c =
    let fit : IsFit (size_of_task c.args.task.now) = subst (λ (p : Planes). IsFit p.size) c.deref.ensures (size_fits c.deref.result.now.size c.picture_fits.ensures.size) in
    let low = fit.low in
    let long = rows_long (λ row. row.items) c.args.rows.now (code_of_task c.args.task.now) (ctus (size_of_task c.args.task.now).h) c.requires in
    omega arith
