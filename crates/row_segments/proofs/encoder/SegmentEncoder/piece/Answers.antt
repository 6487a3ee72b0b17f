use Rattle.std.proofs.Common.{◌≡◌, ℕ, ◌+◌, ◌/◌, ◌^◌, ◌<◌, List, length, map, sym, ◌∙◌, ap, subst, arith}
use Rattle.std.specs.Arc.{arc_value}
use Rattle.h265_model.specs.Plain.{Size, IsPicture, ctus}
use Rattle.h265_laws.proofs.PictureLaw.{IsFit, size_fits}
use Rattle.px_plane.specs.Planes.{Planes, picture_of}
use Rattle.picture_encoder.specs.declared.planning.Task.{Task}
use Rattle.picture_encoder.specs.Coded.{Coded}
use Rattle.picture_encoder.specs.Planning.{planes_of_task, size_of_task, units_of}
use Rattle.picture_encoder.proofs.RowJobs.{rows_long}
use Rattle.row_segments.specs.Segments.{segment_of_task}
use Rattle.row_segments.proofs.Pieces.{pieces_of_task, task_units, segments_short, few_units}
use Rattle.row_segments.proofs.encoder.SegmentEncoder.piece.Goals as goal

pub assemble_segments-requires-clause-fewer : goal.assemble_segments-requires-clause-fewer
assemble_segments-requires-clause-fewer c =
    let t : Task = c.task-task.result in
    let of = c.task-task.ensures.of in
    let sizes : c.size.result ≡ size_of_task t = c.size.ensures.value ∙ ap (λ (p : Planes). p.size) (c.deref-2.ensures ∙ sym of.current) in
    let fit : IsFit (size_of_task t) = subst IsFit sizes (size_fits c.size.result c.size.ensures.within) in
    let long : length c.deref-3.result.now ≡ ctus (size_of_task t).h =
    ap length c.deref-3.ensures.value ∙ rows_long (λ row. row.items) c.in_ok-rows.rows.items (segment_of_task t) (ctus (size_of_task t).h) c.in_ok-rows.ensures in
    let low = fit.low in
    omega arith

pub assemble_segments-requires-clause-units : goal.assemble_segments-requires-clause-units
assemble_segments-requires-clause-units c =
    let t : Task = c.task-task.result in
    let of = c.task-task.ensures.of in
    let sizes : c.size.result ≡ size_of_task t = c.size.ensures.value ∙ ap (λ (p : Planes). p.size) (c.deref-2.ensures ∙ sym of.current) in
    let fit : IsFit (size_of_task t) = subst IsFit sizes (size_fits c.size.result c.size.ensures.within) in
    let across : (c.w.result + 31) / 32 ≡ ctus (size_of_task t).w = ap (λ (k : ℕ). (k + 31) / 32) (c.w.ensures.value ∙ ap (λ (s : Size). s.w) sizes) in
    let long : length c.deref-3.result.now ≡ ctus (size_of_task t).h =
    ap length c.deref-3.ensures.value ∙ rows_long (λ row. row.items) c.in_ok-rows.rows.items (segment_of_task t) (ctus (size_of_task t).h) c.in_ok-rows.ensures in
    few_units ((c.w.result + 31) / 32) (length c.deref-3.result.now) (ctus (size_of_task t).w) (ctus (size_of_task t).h) across long fit.narrow fit.low

pub returns-clause-piece : goal.returns-clause-piece
returns-clause-piece c =
    let t : Task = c.task-task.result in
    let of = c.task-task.ensures.of in
    let sizes : c.size.result ≡ size_of_task t = c.size.ensures.value ∙ ap (λ (p : Planes). p.size) (c.deref-2.ensures ∙ sym of.current) in
    let across : (c.w.result + 31) / 32 ≡ ctus (size_of_task t).w = ap (λ (k : ℕ). (k + 31) / 32) (c.w.ensures.value ∙ ap (λ (s : Size). s.w) sizes) in
    let e : Coded = c.self.inside.history in
    let now : Planes = arc_value c.args.now.now in
    let pieces : c.in_ok-piece.piece.items ≡ pieces_of_task t c.is_idr-idr.result c.order_bits-order.result =
    c.in_ok-piece.ensures (size_of_task t) (segment_of_task t) (sym across) (ap (map (λ row. row.items)) c.deref-3.ensures.value ∙ c.in_ok-rows.ensures) in
    pieces
    ∙ (task_units e now t c.is_idr-idr.result c.order_bits-order.result c.self.invariant of (c.requires.size ∙ sym (ap (λ (d : Coded). d.settings.size) c.self.view_is)) c.is_idr-idr.ensures c.order_bits-order.ensures.value
    ∙ ap (λ (d : Coded). units_of d now) c.self.view_is)

pub returns-clause-short : goal.returns-clause-short
returns-clause-short c =
    let t : Task = c.task-task.result in
    let of = c.task-task.ensures.of in
    let sizes : c.size.result ≡ size_of_task t = c.size.ensures.value ∙ ap (λ (p : Planes). p.size) (c.deref-2.ensures ∙ sym of.current) in
    let fit : IsFit (size_of_task t) = subst IsFit sizes (size_fits c.size.result c.size.ensures.within) in
    let across : (c.w.result + 31) / 32 ≡ ctus (size_of_task t).w = ap (λ (k : ℕ). (k + 31) / 32) (c.w.ensures.value ∙ ap (λ (s : Size). s.w) sizes) in
    let pieces : c.in_ok-piece.piece.items ≡ pieces_of_task t c.is_idr-idr.result c.order_bits-order.result =
    c.in_ok-piece.ensures (size_of_task t) (segment_of_task t) (sym across) (ap (map (λ row. row.items)) c.deref-3.ensures.value ∙ c.in_ok-rows.ensures) in
    subst (λ (l : List ℕ). length l < 2 ^ 40) (sym pieces)
    (segments_short t c.is_idr-idr.result c.order_bits-order.result fit.wide fit.narrow fit.low (subst (λ (p : Planes). IsPicture (picture_of p)) (c.deref.ensures ∙ sym of.current) c.picture_fits.ensures.samples))
