use Rattle.stream_examples.proofs.the_black_stream_is_read.Goals as goal
use Rattle.stream_examples.proofs.BlackExamples.{black_back}

pub returns : goal.returns
returns c = black_back
