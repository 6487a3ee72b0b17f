use Rattle.extra_laws.proofs.each_extra_stream_is_decoded.Goals as goal
use Rattle.extra_laws.proofs.ExtraStreams.{extra_streams_are_decoded}

pub returns : goal.returns
returns c = extra_streams_are_decoded
