use Rattle.unit_laws.proofs.each_vector_is_read.Goals as goal
use Rattle.unit_laws.proofs.MotionLaw.{reads_move}

pub returns : goal.returns
returns c = reads_move
