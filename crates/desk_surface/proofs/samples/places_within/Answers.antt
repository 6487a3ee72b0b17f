use Rattle.std.proofs.Common.{◌≡◌, ◌+◌, ap, ◌∙◌, inl, inr, arith}
use Rattle.h265_model.specs.Plain.{Size, coded}
use Rattle.desk_surface.proofs.Outside.{outside}
use Rattle.desk_surface.proofs.samples.places_within.Goals as goal

pub returns-then-y-h-clause-outside : goal.returns-then-y-h-clause-outside
returns-then-y-h-clause-outside c = λ component i low less.
    let w : coded c.w.result ≡ coded c.args.picture.now.size.w = ap coded (c.w.ensures.value ∙ ap (λ (s : Size). s.w) c.size-size.ensures.value) in
    let m = c.min.ensures in
    outside c.args.picture.now component (c.args.x + i) c.args.y (inl (omega arith))

pub returns-else-y-h-clause-outside : goal.returns-else-y-h-clause-outside
returns-else-y-h-clause-outside c = λ component i low less.
    let h : coded c.h.result ≡ coded c.args.picture.now.size.h = ap coded (c.h.ensures.value ∙ ap (λ (s : Size). s.h) c.size-size.ensures.value) in
    let m = c.if-y-h.false in
    outside c.args.picture.now component (c.args.x + i) c.args.y (inr (omega arith))
