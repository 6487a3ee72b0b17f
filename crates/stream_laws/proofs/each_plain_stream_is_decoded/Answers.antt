use Rattle.stream_laws.proofs.each_plain_stream_is_decoded.Goals as goal
use Rattle.stream_laws.proofs.PlainStreams.{plain_streams_are_decoded}

pub returns : goal.returns
returns c = plain_streams_are_decoded
