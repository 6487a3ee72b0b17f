use Rattle.segment_laws.proofs.each_segment_head_is_spelled.Goals as goal
use Rattle.segment_laws.proofs.SegmentSpelling.{segment_heads_are_spelled}

pub returns : goal.returns
returns c = segment_heads_are_spelled
