use Rattle.frame_read.proofs.Written.{frame_read}
use Rattle.frame_read.proofs.laws.each_frame_is_read.Goals as goal

pub returns : goal.returns
returns c = frame_read
