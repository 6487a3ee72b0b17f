use Rattle.std.proofs.Common.{◌≡◌, ◌+◌, sym, ap, subst}
use Rattle.std.specs.Prelude.{Option, Some, option_map, IfSome}
use Rattle.std.specs.Arc.{arc_value}
use Rattle.h265_model.specs.Plain.{Size}
use Rattle.px_plane.specs.Planes.{Planes}
use Rattle.px_plane.specs.Tiles.{IsJobOf}
use Rattle.picture_encoder.specs.Coded.{Coded, IsLaid, IsWhole}
use Rattle.picture_encoder.proofs.Again.{one_kept}
use Rattle.picture_encoder.proofs.history.History.keep.Goals as goal

pub invariant_of-self : goal.invariant_of-self
invariant_of-self c =
    let size = ap (λ (e : Coded). e.settings.size) c.self.view_is in
    let last = ap (λ (e : Coded). e.last) c.self.view_is in
    subst (λ (o : Option _). IsWhole c.self.inside.size c.self.inside.effort (c.self.inside.count + 1) (option_map (λ p. arc_value p) o) c.of.result) (sym c.replace-last.ensures.after)
    (one_kept c.self.inside.size c.self.inside.effort c.self.inside.count (option_map (λ p. arc_value p) c.self.inside.last) c.of.result c.args.job.now (arc_value c.args.now)
    c.self.invariant.low c.self.invariant.sized (subst (λ (s : Size). IsJobOf s c.args.job.now) (sym size) c.requires.job)
    (subst (λ (p : Planes). IsLaid p c.args.job.now (arc_value c.args.now)) (sym last) c.requires.laid)
    (subst (λ (o : Option _). IfSome c.of.result (λ b. option_map (λ p. arc_value p) o ≡ Some (arc_value b.picture))) c.replace-last.ensures.value c.of.ensures.picture) c.of.ensures.job)
