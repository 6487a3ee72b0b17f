use Rattle.px_plane.proofs.Tiles.{tile_laid}
use Rattle.px_plane.proofs.picture.Picture.lay_tile.Goals as goal

pub returns : goal.returns
returns c = tile_laid c.args.self.now c.lay_part.new.self c.args.tile c.tile_part-part.result c.args.samples.now c.tile_part-part.ensures c.lay_part.ensures
