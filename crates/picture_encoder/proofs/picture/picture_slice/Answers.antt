use Rattle.std.proofs.Common.{Bool, ◌<◌, ◌+◌, ◌^◌, sym, ◌∙◌, ap, subst, List, ℕ, length}
use Rattle.h265_model.specs.Plain.{ctus}
use Rattle.h265_model.specs.Stream.{slice_piece}
use Rattle.picture_encoder.specs.Planning.{size_of_task, code_of_task, rows_of_task}
use Rattle.picture_encoder.proofs.Lengths.{slice_short}
use Rattle.picture_encoder.proofs.RowJobs.{escaped_are}
use Rattle.picture_encoder.proofs.picture.picture_slice.Goals as goal

pub returns-clause-slice : goal.returns-clause-slice
returns-clause-slice c =
    let t = c.args.task.now in
    c.in_ok-slice.ensures ∙ ap (λ l. slice_piece c.is_idr.result c.args.order l) (escaped_are (λ row. row.items) c.args.rows.now (code_of_task t) (ctus (size_of_task t).h) c.requires.rows)
    ∙ ap (λ (idr : Bool). slice_piece idr c.args.order (rows_of_task t)) c.is_idr.ensures

pub returns-clause-short : goal.returns-clause-short
returns-clause-short c =
    subst (λ (l : List ℕ). length l + 1024 < 2 ^ 40) (sym c.in_ok-slice.ensures) (slice_short c.is_idr.result c.args.order (λ row. row.items) c.args.rows.now c.rows_fit.ensures.few c.rows_fit.ensures.substreams)
