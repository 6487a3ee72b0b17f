use Rattle.extra_laws.proofs.each_beginning_is_decoded.Goals as goal
use Rattle.extra_laws.proofs.Beginnings.{beginnings_are_decoded}

pub returns : goal.returns
returns c = beginnings_are_decoded
