use Rattle.std.proofs.Common.{◌++◌, ◌∷◌, [], sym, subst}
use Rattle.recorder_model.specs.declared.line.Line.{Line}
use Rattle.recorder_model.specs.declared.line.Line.TheVariants.{Fill, Blit, Copy}
use Rattle.px_plane.specs.Planes.{Planes}
use Rattle.desk_surface.specs.Shown.{ShowsLines}
use Rattle.desk_surface.specs.Damage.{Painted}
use Rattle.desk_surface.proofs.Painted.{fill_shows, blit_shows, copy_shows}
use Rattle.desk_surface.proofs.surface.Surface.apply.Goals as goal

pub returns-in-Fill-clause-shows : goal.returns-in-Fill-clause-shows
returns-in-Fill-clause-shows c = λ lines shows.
    let was : ShowsLines c.self.inside.picture lines = subst (λ (s : Painted). ShowsLines s.shown lines) (sym c.self.view_is) shows in
    let painted : ShowsLines c.fill.new.self (lines ++ Fill c.in-Fill.rect c.in-Fill.colour ∷ []) =
    fill_shows c.self.inside.picture c.fill.new.self c.in-Fill.rect c.in-Fill.colour lines c.fill.ensures.size c.fill.ensures.shows was in
    subst (λ (l : Line). ShowsLines c.touch.new.self.shown (lines ++ l ∷ [])) (sym c.in-Fill.is)
    (subst (λ (p : Planes). ShowsLines p (lines ++ Fill c.in-Fill.rect c.in-Fill.colour ∷ [])) (sym c.touch.ensures.shown) painted)

pub returns-in-Blit-clause-shows : goal.returns-in-Blit-clause-shows
returns-in-Blit-clause-shows c = λ lines shows.
    let was : ShowsLines c.self-in-Blit.inside.picture lines = subst (λ (s : Painted). ShowsLines s.shown lines) (sym c.self-in-Blit.view_is) shows in
    let painted : ShowsLines c.blit.new.self (lines ++ Blit c.in-Blit.rect c.as_slice.result.now ∷ []) =
    blit_shows c.self-in-Blit.inside.picture c.blit.new.self c.in-Blit.rect c.as_slice.result.now lines c.blit.ensures.size c.blit.ensures.shows was in
    let pixels : ShowsLines c.blit.new.self (lines ++ Blit c.in-Blit.rect c.in-Blit.pixels ∷ []) =
    subst (λ ps. ShowsLines c.blit.new.self (lines ++ Blit c.in-Blit.rect ps ∷ [])) c.as_slice.ensures painted in
    subst (λ (l : Line). ShowsLines c.touch-in-Blit.new.self.shown (lines ++ l ∷ [])) (sym c.in-Blit.is)
    (subst (λ (p : Planes). ShowsLines p (lines ++ Blit c.in-Blit.rect c.in-Blit.pixels ∷ [])) (sym c.touch-in-Blit.ensures.shown) pixels)

pub returns-in-Copy-clause-shows : goal.returns-in-Copy-clause-shows
returns-in-Copy-clause-shows c = λ lines shows.
    let was : ShowsLines c.self-in-Copy.inside.picture lines = subst (λ (s : Painted). ShowsLines s.shown lines) (sym c.self-in-Copy.view_is) shows in
    let painted : ShowsLines c.copy.new.self (lines ++ Copy c.in-Copy.rect c.in-Copy.to_x c.in-Copy.to_y ∷ []) =
    copy_shows c.self-in-Copy.inside.picture c.copy.new.self c.in-Copy.rect c.in-Copy.to_x c.in-Copy.to_y lines c.copy.ensures.size c.copy.ensures.shows was in
    subst (λ (l : Line). ShowsLines c.touch-in-Copy.new.self.shown (lines ++ l ∷ [])) (sym c.in-Copy.is)
    (subst (λ (p : Planes). ShowsLines p (lines ++ Copy c.in-Copy.rect c.in-Copy.to_x c.in-Copy.to_y ∷ [])) (sym c.touch-in-Copy.ensures.shown) painted)
