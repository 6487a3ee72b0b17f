use Rattle.frame_read.proofs.Written.{all_read_back}
use Rattle.frame_read.proofs.laws.each_list_is_read.Goals as goal

pub returns : goal.returns
returns c = all_read_back
