use Rattle.std.proofs.Common.{◌≡◌, ◌+◌, ◌*◌, ◌/◌, ◌%◌, ap, ◌∙◌, min, ℕ}
use Rattle.h265_model.specs.Plain.{coded}
use Rattle.px_plane.specs.Planes.{Planes}
use Rattle.px_plane.proofs.Tiles.{tile_part_is}
use Rattle.px_plane.proofs.picture.Picture.tile_part.Goals as goal

pub returns : goal.returns
returns c =
    let w : c.coded_side.result ≡ coded c.args.self.now.size.w = c.coded_side.ensures.value ∙ ap (λ (p : Planes). coded p.size.w) c.self.view_is in
    let h : c.coded_side-2.result ≡ coded c.args.self.now.size.h = c.coded_side-2.ensures.value ∙ ap (λ (p : Planes). coded p.size.h) c.self.view_is in
    tile_part_is c.args.self.now.size c.args.tile _ c.requires.tile
    (ap (λ (n : ℕ). c.args.tile % n * 32) c.requires.across) (ap (λ (n : ℕ). c.args.tile / n * 32) c.requires.across)
    (c.min.ensures ∙ ap (min (c.args.tile % c.args.across * 32 + 32)) w) (c.min-2.ensures ∙ ap (min (c.args.tile / c.args.across * 32 + 32)) h)
