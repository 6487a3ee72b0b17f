use Rattle.recorder_laws.proofs.each_picture_is_raster.Goals as goal
use Rattle.recorder_laws.proofs.PlayLaws.{each_picture_is_raster}

pub returns : goal.returns
returns c = each_picture_is_raster
