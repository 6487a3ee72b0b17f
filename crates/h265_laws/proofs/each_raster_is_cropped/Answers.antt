use Rattle.h265_laws.proofs.each_raster_is_cropped.Goals as goal
use Rattle.h265_laws.proofs.PictureLaw.{each_raster_is_cropped}

pub returns : goal.returns
returns c = each_raster_is_cropped
