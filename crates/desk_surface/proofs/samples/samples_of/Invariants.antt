use Rattle.std.proofs.Common.{◌≡◌, take, flat_map}
use Rattle.h265_model.specs.Tiles.{tile_samples}
use Rattle.px_plane.specs.Planes.{picture_of}
use Rattle.desk_surface.proofs.samples.samples_of.Given as goal

abbrev pub invariant-loop-place : goal.invariant-loop-place
invariant-loop-place l = l.samples.items ≡ flat_map (tile_samples l.picture.size (picture_of l.picture)) (take l.place l.tiles)
