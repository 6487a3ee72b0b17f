use Rattle.std.proofs.Common.{◌≡◌, ℕ, ◌+◌, ◌*◌, List, get_or, ap, sym, ◌∙◌}
use Rattle.h265_model.specs.Plain.{coded}
use Rattle.px_plane.specs.Planes.{Planes}
use Rattle.px_plane.proofs.Shown.{picture_at}
use Rattle.px_plane.proofs.picture.Picture.sample.Goals as goal

pub returns : goal.returns
returns c =
    let stride : c.coded_side-stride.result ≡ coded c.args.self.now.size.w = c.coded_side-stride.ensures.value ∙ ap (λ (p : Planes). coded p.size.w) c.self.view_is in
    ap (λ (w : ℕ). get_or c.plane-plane.result.now (c.args.y * w + c.args.x) 0) stride
    ∙ (ap (λ (l : List ℕ). get_or l (c.args.y * coded c.args.self.now.size.w + c.args.x) 0) c.plane-plane.ensures.plane
    ∙ sym (picture_at c.args.self.now c.args.component c.args.x c.args.y c.requires.across c.requires.down))
