use Rattle.h265_laws.proofs.each_substream_is_cut.Goals as goal
use Rattle.h265_model.proofs.SyntaxLaws.{substreams-escape}

pub returns : goal.returns
returns c = substreams-escape
