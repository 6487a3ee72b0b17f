use Rattle.motion_laws.proofs.each_moved_stream_is_decoded.Goals as goal
use Rattle.motion_laws.proofs.MovedStreams.{moved_streams_are_decoded}

pub returns : goal.returns
returns c = moved_streams_are_decoded
