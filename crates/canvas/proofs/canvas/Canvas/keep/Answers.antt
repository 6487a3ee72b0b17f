use Rattle.std.proofs.Common.{refl, ap, sym, subst, ◌∙◌}
use Rattle.h265_model.specs.Rebuild.{rebuild}
use Rattle.px_plane.specs.Planes.{Stores, picture_of, planes_of}
use Rattle.canvas.specs.Drawing.{Pictures, Draws, AreWhole}
use Rattle.canvas.proofs.Units.{whole_rebuilt, still_rebuilt}
use Rattle.canvas.proofs.canvas.Canvas.keep.Goals as goal

pub returns-clause-rebuilt : goal.returns-clause-rebuilt
returns-clause-rebuilt c = λ units draws whole before stores.
    let old : Pictures = record { last = c.self.inside.last; drawn = c.self.inside.drawn } in
    ap planes_of c.swap.ensures.x_after
    ∙ (whole_rebuilt old units before c.self.invariant.0.same c.self.invariant.0.drawn (subst (λ (p : Pictures). Draws p units) (sym c.self.view_is) draws)
    (subst (λ (p : Pictures). AreWhole p.last.size units) (sym c.self.view_is) whole) (subst (λ (p : Pictures). Stores p.last before) (sym c.self.view_is) stores)
    ∙ ap (λ (p : Pictures). rebuild p.last.size before units) c.self.view_is)

pub returns-clause-still : goal.returns-clause-still
returns-clause-still c = λ units draws whole still before.
    let old : Pictures = record { last = c.self.inside.last; drawn = c.self.inside.drawn } in
    let own : Stores old.last (picture_of old.last) = record { each = λ component x y small hx hy. refl } in
    ap planes_of c.swap.ensures.x_after
    ∙ (whole_rebuilt old units (picture_of old.last) c.self.invariant.0.same c.self.invariant.0.drawn (subst (λ (p : Pictures). Draws p units) (sym c.self.view_is) draws)
    (subst (λ (p : Pictures). AreWhole p.last.size units) (sym c.self.view_is) whole) own
    ∙ (still_rebuilt old.last.size (picture_of old.last) before units still
    ∙ ap (λ (p : Pictures). rebuild p.last.size before units) c.self.view_is))
