use Rattle.h265_model.specs.Residual.{shape}
use Rattle.residual_code.proofs.LevelLaws.{tile_high}
use Rattle.residual_code.proofs.blocks.write_residual.Goals as goal

pub write_from-requires-clause-tile_bounds : goal.write_from-requires-clause-tile_bounds
write_from-requires-clause-tile_bounds g c = rw (c.last_sub.ensures.tile, c.as_slice-levels.ensures) (tile_high (shape c.args.component c.log2.result c.args.scan) _ _ c.requires.bounds)
