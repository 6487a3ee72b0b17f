use Rattle.std.proofs.Common.{◌≡◌, ℕ, ◌^◌, ◌<◌, ◌≤◌, List, length, map, sym, ◌∙◌, ap, subst, arith}
use Rattle.std.specs.Arc.{arc_value}
use Rattle.std.specs.List.{All}
use Rattle.h265_model.specs.Plain.{IsPicture, ctus, below}
use Rattle.h265_model.specs.Stream.{slice_piece}
use Rattle.h265_laws.proofs.PictureLaw.{IsFit, size_fits}
use Rattle.px_plane.specs.Planes.{Planes, picture_of}
use Rattle.slice_assembly.specs.Substreams.{IsSubstream}
use Rattle.picture_encoder.specs.declared.planning.Task.{Task}
use Rattle.picture_encoder.specs.Coded.{Coded}
use Rattle.picture_encoder.specs.Planning.{planes_of_task, size_of_task, units_of}
use Rattle.picture_encoder.proofs.Lengths.{slice_short}
use Rattle.picture_encoder.proofs.RowJobs.{rows_long, escaped_are}
use Rattle.row_moves.specs.Moves.{code_of_task}
use Rattle.row_moves.proofs.Pieces.{task_units, rows_fit}
use Rattle.row_moves.proofs.encoder.MoveEncoder.piece.Goals as goal

pub assemble-requires-clause-fewer : goal.assemble-requires-clause-fewer
assemble-requires-clause-fewer c =
    let t : Task = c.task-task.result in
    let of = c.task-task.ensures.of in
    let same : c.deref.result.now ≡ planes_of_task t = c.deref.ensures ∙ sym of.current in
    let fit : IsFit (size_of_task t) = subst (λ (p : Planes). IsFit p.size) same (size_fits c.deref.result.now.size c.picture_fits.ensures.size) in
    let rows : map (λ row. row.items) c.deref-2.result.now ≡ map (code_of_task t) (below (ctus (size_of_task t).h)) = ap (map (λ row. row.items)) c.deref-2.ensures.value ∙ c.in_ok-rows.ensures in
    let long : length c.deref-2.result.now ≡ ctus (size_of_task t).h = rows_long (λ row. row.items) c.deref-2.result.now (code_of_task t) (ctus (size_of_task t).h) rows in
    let low = fit.low in
    omega arith

pub assemble-requires-clause-substreams : goal.assemble-requires-clause-substreams
assemble-requires-clause-substreams c =
    let t : Task = c.task-task.result in
    let of = c.task-task.ensures.of in
    let same : c.deref.result.now ≡ planes_of_task t = c.deref.ensures ∙ sym of.current in
    let fit : IsFit (size_of_task t) = subst (λ (p : Planes). IsFit p.size) same (size_fits c.deref.result.now.size c.picture_fits.ensures.size) in
    let rows : map (λ row. row.items) c.deref-2.result.now ≡ map (code_of_task t) (below (ctus (size_of_task t).h)) = ap (map (λ row. row.items)) c.deref-2.ensures.value ∙ c.in_ok-rows.ensures in
    let samples : IsPicture (picture_of (planes_of_task t)) = subst (λ (p : Planes). IsPicture (picture_of p)) same c.picture_fits.ensures.samples in
    rows_fit (λ row. row.items) c.deref-2.result.now t fit samples rows

pub returns-clause-piece : goal.returns-clause-piece
returns-clause-piece c =
    let t : Task = c.task-task.result in
    let e : Coded = c.self.inside.history in
    let now : Planes = arc_value c.args.now.now in
    let rows : map (λ row. row.items) c.deref-2.result.now ≡ map (code_of_task t) (below (ctus (size_of_task t).h)) = ap (map (λ row. row.items)) c.deref-2.ensures.value ∙ c.in_ok-rows.ensures in
    c.in_ok-piece.ensures
    ∙ (ap (λ (l : List (List ℕ)). slice_piece c.is_idr-idr.result c.order_bits-order.result l) (escaped_are (λ row. row.items) c.deref-2.result.now (code_of_task t) (ctus (size_of_task t).h) rows)
    ∙ (task_units e now t c.is_idr-idr.result c.order_bits-order.result c.self.invariant c.task-task.ensures.of (c.requires.size ∙ sym (ap (λ (d : Coded). d.settings.size) c.self.view_is)) c.is_idr-idr.ensures c.order_bits-order.ensures.value
    ∙ ap (λ (d : Coded). units_of d now) c.self.view_is))

pub returns-clause-short : goal.returns-clause-short
returns-clause-short c =
    let t : Task = c.task-task.result in
    let of = c.task-task.ensures.of in
    let same : c.deref.result.now ≡ planes_of_task t = c.deref.ensures ∙ sym of.current in
    let fit : IsFit (size_of_task t) = subst (λ (p : Planes). IsFit p.size) same (size_fits c.deref.result.now.size c.picture_fits.ensures.size) in
    let rows : map (λ row. row.items) c.deref-2.result.now ≡ map (code_of_task t) (below (ctus (size_of_task t).h)) = ap (map (λ row. row.items)) c.deref-2.ensures.value ∙ c.in_ok-rows.ensures in
    let long : length c.deref-2.result.now ≡ ctus (size_of_task t).h = rows_long (λ row. row.items) c.deref-2.result.now (code_of_task t) (ctus (size_of_task t).h) rows in
    let samples : IsPicture (picture_of (planes_of_task t)) = subst (λ (p : Planes). IsPicture (picture_of p)) same c.picture_fits.ensures.samples in
    let each : All (λ row. IsSubstream row.items) c.deref-2.result.now = rows_fit (λ row. row.items) c.deref-2.result.now t fit samples rows in
    let low = fit.low in
    let few : length c.deref-2.result.now ≤ 128 = omega arith in
    let short = slice_short c.is_idr-idr.result c.order_bits-order.result (λ row. row.items) c.deref-2.result.now few each in
    subst (λ (l : List ℕ). length l < 2 ^ 40) (sym c.in_ok-piece.ensures) (omega arith)
