use Rattle.std.proofs.Common.{◌<◌, ◌^◌, sym, ◌∙◌, ap, subst, arith}
use Rattle.h265_model.specs.Wave.{Wave, RowState}
use Rattle.row_core.specs.Events.{event_of}
use Rattle.row_core.proofs.Lawful.{fits}
use Rattle.row_core.proofs.wave.Wave.apply.Goals as goal

pub overflow_add-row : goal.overflow_add-row
overflow_add-row c =
    let narrow = subst (λ (w : Wave). w.width < 2 ^ 32) c.self.view_is c.self.invariant in
    let small = fits c.args.self.now (event_of c.args.event) c.in-Code.field-0 c.row.result c.row-2.inside.coded
    (sym c.allows.ensures ∙ c.if-not-allows.false) (ap event_of c.in-Code.is) c.row.ensures
    (ap (λ (r : RowState). r.coded) (c.row-2.view_is ∙ c.row-row.ensures)) narrow in
    omega (arith, small)
