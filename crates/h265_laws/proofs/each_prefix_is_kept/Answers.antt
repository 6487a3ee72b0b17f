use Rattle.h265_laws.proofs.each_prefix_is_kept.Goals as goal
use Rattle.h265_laws.proofs.Prefixes.{prefixes}

pub returns : goal.returns
returns c = prefixes
