use Rattle.h265_laws.proofs.each_head_is_spelled.Goals as goal
use Rattle.h265_laws.proofs.HeadSpellingLaws.{read_head-is}

pub returns : goal.returns
returns c = read_head-is
