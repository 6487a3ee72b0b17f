use Rattle.std.proofs.Common.{◌≡◌, ℕ, List, ap, subst, ◌∙◌}
use Rattle.h265_model.specs.Plain.{Size}
use Rattle.h265_model.specs.declared.rgb.Rgb.{Rgb}
use Rattle.frame_read.specs.Pixels.{colours, strip, PaintsStrip}
use Rattle.frame_read.proofs.pixels.read_strip.Goals as goal

pub returns-clause-shows : goal.returns-clause-shows
returns-clause-shows g c =
    let wide : c.w-w.result ≡ c.args.picture.now.size.w = c.w-w.ensures.value ∙ ap (λ (s : Size). s.w) c.size.ensures.value in
    subst (λ (w : ℕ). PaintsStrip c.args.picture.now c.blit.new.self (strip w c.args.y c.args.n) (colours c.fill.new.out)) wide
    (subst (λ (p : List Rgb). PaintsStrip c.args.picture.now c.blit.new.self (strip c.w-w.result c.args.y c.args.n) p) c.lay_colours.ensures c.blit.ensures.shows)
