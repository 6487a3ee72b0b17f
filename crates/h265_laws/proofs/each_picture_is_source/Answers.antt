use Rattle.h265_laws.proofs.each_picture_is_source.Goals as goal
use Rattle.h265_laws.proofs.PredictionLaw.{source_is}

pub returns : goal.returns
returns c = source_is
