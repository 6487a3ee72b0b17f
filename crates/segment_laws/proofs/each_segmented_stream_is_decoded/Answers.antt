use Rattle.segment_laws.proofs.each_segmented_stream_is_decoded.Goals as goal
use Rattle.segment_laws.proofs.SegmentStreams.{segmented_streams_are_decoded}

pub returns : goal.returns
returns c = segmented_streams_are_decoded
