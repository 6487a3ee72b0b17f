use Rattle.hash_laws.proofs.each_hashed_stream_is_decoded.Goals as goal
use Rattle.hash_laws.proofs.HashLaw.{hashed_streams_are_decoded}

pub returns : goal.returns
returns c = hashed_streams_are_decoded
