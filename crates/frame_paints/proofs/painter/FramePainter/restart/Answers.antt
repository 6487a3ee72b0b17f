use Rattle.std.proofs.Common.{◌≡◌, ◌∙◌, ap, subst}
use Rattle.h265_model.specs.Plain.{Size}
use Rattle.h265_model.specs.Raster.{black, black_raster}
use Rattle.h265_model.specs.declared.rect.Rect.{Rect}
use Rattle.px_plane.specs.Planes.{ShowsColours, repainted}
use Rattle.frame_paints.specs.Desktop.{Desktop}
use Rattle.frame_paints.proofs.Shown.{all_black, shows_itself, own_colours, own_shown, desktop_is}
use Rattle.frame_paints.proofs.painter.FramePainter.restart.Goals as goal

shows : (c : goal.After-fill) → ShowsColours c.fill.new.self (repainted (record { x = 0; y = 0; w = c.w.result; h = c.h.result }) (λ x y. black) (own_colours c.self.inside.shown))
shows c = c.fill.ensures.shows (own_colours c.self.inside.shown) (own_shown c.self.inside.shown c.self.invariant)

pub invariant_of-self : goal.invariant_of-self
invariant_of-self c = shows_itself c.fill.new.self _ (shows c)

pub returns : goal.returns
returns c =
    let size : c.size-size.result ≡ c.args.self.now.size = c.size-size.ensures.value ∙ ap (λ (d : Desktop). d.size) c.self.view_is in
    let w : c.w.result ≡ c.args.self.now.size.w = c.w.ensures.value ∙ ap (λ (s : Size). s.w) size in
    let h : c.h.result ≡ c.args.self.now.size.h = c.h.ensures.value ∙ ap (λ (s : Size). s.h) size in
    let whole : (let r : Rect = record { x = 0; y = 0; w = c.w.result; h = c.h.result } in r) ≡ record { x = 0; y = 0; w = c.args.self.now.size.w; h = c.args.self.now.size.h } = cc in
    let same : c.fill.new.self.size ≡ c.args.self.now.size = c.fill.ensures.size ∙ ap (λ (d : Desktop). d.size) c.self.view_is in
    desktop_is c.fill.new.self c.args.self.now.size (black_raster c.args.self.now.size) same
    (all_black c.fill.new.self c.args.self.now.size (own_colours c.self.inside.shown) same
    (subst (λ (r : Rect). ShowsColours c.fill.new.self (repainted r (λ x y. black) (own_colours c.self.inside.shown))) whole (shows c)))
