use Rattle.unit_read.proofs.VectorReads.{vector_none, second_none, vector_all}
use Rattle.unit_read.proofs.vector.read_vector.Goals as goal

pub returns-in_err-difference-clause-value : goal.returns-in_err-difference-clause-value
returns-in_err-difference-clause-value c = rw c.from_residual.ensures (vector_none c.args.predictors c.args.decoder.now c.in_err-difference.ensures.value)

pub returns-in_err-second-clause-value : goal.returns-in_err-second-clause-value
returns-in_err-second-clause-value c = rw c.from_residual-in_err-second.ensures (second_none c.args.predictors c.in_ok-difference.difference c.args.decoder.now c.read_difference.new.decoder c.in_ok-difference.ensures.value c.in_err-second.ensures.value)

pub returns-clause-value : goal.returns-clause-value
returns-clause-value c = vector_all c.args.predictors c.in_ok-difference.difference c.named.result c.in_ok-second.second c.whole_vector.result c.args.decoder.now c.read_difference.new.decoder c.bin.new.self
    c.in_ok-difference.ensures.value c.in_ok-second.ensures.value c.named.ensures c.whole_vector.ensures
