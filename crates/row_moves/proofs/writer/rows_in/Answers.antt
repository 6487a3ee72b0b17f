use Rattle.std.proofs.Common.{◌∙◌, ap, map}
use Rattle.px_plane.specs.Planes.{Planes}
use Rattle.row_moves.proofs.Writing.{rows_are}
use Rattle.row_moves.proofs.writer.rows_in.Goals as goal

pub returns : goal.returns
returns g c =
    rows_are c.in_ok-writer.writer.task c.args.task c.kind-kind.result c.size-size.result (map (λ row. row.items) c.in_ok-rows.rows.items) c.in_ok-writer.ensures.task c.kind-kind.ensures
    (c.size-size.ensures.value ∙ ap (λ (p : Planes). p.size) c.deref.ensures) c.in_ok-rows.ensures
