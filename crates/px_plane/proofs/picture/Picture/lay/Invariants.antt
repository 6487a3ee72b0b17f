use Rattle.std.proofs.Common.{◌≡◌, ℕ, ◌<◌}
use Rattle.h265_model.specs.Plain.{coded}
use Rattle.px_plane.specs.Planes.{IsPicture, picture_of}
use Rattle.px_plane.specs.Tiles.{laid_first}
use Rattle.px_plane.proofs.picture.Picture.lay.Given as goal

abbrev pub invariant-loop-k : goal.invariant-loop-k
invariant-loop-k l = record {
  size : l.self.size ≡ l.fn.self.size;
  whole : IsPicture l.self;
  each : (c x y : ℕ) → c < 3 → x < coded l.fn.self.size.w → y < coded l.fn.self.size.h → picture_of l.self c x y ≡ laid_first l.fn.self l.fn.job l.k c x y;
}
