use Rattle.std.proofs.Common.{◌≡◌, sym, ◌∙◌, ap, subst}
use Rattle.std.specs.Prelude.{Option, option_map, IfSome}
use Rattle.px_plane.specs.Planes.{Planes, IsPicture}
use Rattle.picture_encoder.specs.Coded.{Coded, IsLaid, after_slice}
use Rattle.picture_encoder.proofs.Again.{after_same}
use Rattle.picture_encoder.proofs.encoder.Encoder.after_again.Goals as goal

pub returns-then-lists_none : goal.returns-then-lists_none
returns-then-lists_none c = λ now made.
    let e : Coded = c.self.inside.history in
    let last : c.in-Some-Some.last.now ≡ e.last = subst (λ (o : Option _). IfSome o (λ p. p.now ≡ e.last)) c.in-Some-Some.is-0 c.last.ensures in
    after_same e.settings.extra e.last (option_map (λ v. v.items) c.self.inside.after) c.in-Some-Some.after.items c.args.job.now now
    (ap (option_map (λ v. v.items)) c.in-Some-Some.is-1) c.self.invariant.follows
    (subst IsPicture last c.whole.ensures) (c.lists_none.ensures c.if-lists_none.true)
    (subst (λ (e : Coded). IsLaid e.last c.args.job.now now) (sym c.self.view_is) made)
    ∙ ap (λ (e : Coded). after_slice e.settings.extra now) c.self.view_is
