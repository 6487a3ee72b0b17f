use Rattle.h265_laws.proofs.each_row_is_substream.Goals as goal
use Rattle.h265_laws.proofs.SubstreamLaw.{each_row_is_substream}

pub returns : goal.returns
returns c = each_row_is_substream
