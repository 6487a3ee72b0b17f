use Rattle.stream_decode.proofs.Decoding.{reading_is_decoding}
use Rattle.stream_decode.proofs.laws.each_reading_is_decoding.Goals as goal

pub returns : goal.returns
returns c = reading_is_decoding
