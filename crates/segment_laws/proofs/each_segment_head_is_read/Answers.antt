use Rattle.segment_laws.proofs.each_segment_head_is_read.Goals as goal
use Rattle.segment_laws.proofs.SegmentLaw.{segment_heads_are_read}

pub returns : goal.returns
returns c = segment_heads_are_read
