use Rattle.h265_laws.proofs.each_row_is_well_formed.Goals as goal
use Rattle.h265_laws.proofs.PictureLaw.{each_row_is_well_formed}

pub returns : goal.returns
returns c = each_row_is_well_formed
