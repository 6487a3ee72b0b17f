use Rattle.read_laws.proofs.each_still_copy_is_left_out.Goals as goal
use Rattle.read_laws.proofs.LeftOut.{still_copies_are_left_out}

pub returns : goal.returns
returns c = still_copies_are_left_out
