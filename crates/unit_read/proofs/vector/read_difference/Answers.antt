use Rattle.std.proofs.Common.{w32, rules}
use Rattle.std.proofs.lemmas.Int.{to_z-of_z}
use Rattle.unit_read.proofs.VectorReads.{as_read, x0_none, y0_none, x1_none, y1_none, x_none, y_none, difference_all}
use Rattle.unit_read.proofs.vector.read_difference.Goals as goal

pub returns-in_err-x_greater0-clause-value : goal.returns-in_err-x_greater0-clause-value
returns-in_err-x_greater0-clause-value c = rw c.from_residual.ensures (x0_none c.args.decoder.now c.in_err-x_greater0.ensures.value)

pub returns-in_err-y_greater0-clause-value : goal.returns-in_err-y_greater0-clause-value
returns-in_err-y_greater0-clause-value c = rw c.from_residual-in_err-y_greater0.ensures (y0_none c.in_ok-x_greater0.x_greater0 c.args.decoder.now c.bin.new.self c.in_ok-x_greater0.ensures.value c.in_err-y_greater0.ensures.value)

pub returns-in_err-x_greater1-clause-value : goal.returns-in_err-x_greater1-clause-value
returns-in_err-x_greater1-clause-value c = rw c.from_residual-in_err-x_greater1.ensures (x1_none c.in_ok-x_greater0.x_greater0 c.in_ok-y_greater0.y_greater0 c.args.decoder.now c.bin.new.self c.bin-2.new.self
    c.in_ok-x_greater0.ensures.value c.in_ok-y_greater0.ensures.value c.in_err-x_greater1.ensures.value)

pub returns-in_err-y_greater1-clause-value : goal.returns-in_err-y_greater1-clause-value
returns-in_err-y_greater1-clause-value c = rw c.from_residual-in_err-y_greater1.ensures (y1_none c.in_ok-x_greater0.x_greater0 c.in_ok-y_greater0.y_greater0 c.in_ok-x_greater1.x_greater1 c.args.decoder.now c.bin.new.self c.bin-2.new.self c.read_greater1.new.decoder
    c.in_ok-x_greater0.ensures.value c.in_ok-y_greater0.ensures.value c.in_ok-x_greater1.ensures.value c.in_err-y_greater1.ensures.value)

pub returns-in_err-x-clause-value : goal.returns-in_err-x-clause-value
returns-in_err-x-clause-value c = rw c.from_residual-in_err-x.ensures (x_none c.in_ok-x_greater0.x_greater0 c.in_ok-y_greater0.y_greater0 c.in_ok-x_greater1.x_greater1 c.in_ok-y_greater1.y_greater1 c.args.decoder.now c.bin.new.self c.bin-2.new.self c.read_greater1.new.decoder c.read_greater1-2.new.decoder
    c.in_ok-x_greater0.ensures.value c.in_ok-y_greater0.ensures.value c.in_ok-x_greater1.ensures.value c.in_ok-y_greater1.ensures.value c.in_err-x.ensures.value)

pub returns-in_err-y-clause-value : goal.returns-in_err-y-clause-value
returns-in_err-y-clause-value c = rw c.from_residual-in_err-y.ensures (y_none c.in_ok-x_greater0.x_greater0 c.in_ok-y_greater0.y_greater0 c.in_ok-x_greater1.x_greater1 c.in_ok-y_greater1.y_greater1 c.in_ok-x.x c.args.decoder.now c.bin.new.self c.bin-2.new.self c.read_greater1.new.decoder c.read_greater1-2.new.decoder c.read_part.new.decoder
    c.in_ok-x_greater0.ensures.value c.in_ok-y_greater0.ensures.value c.in_ok-x_greater1.ensures.value c.in_ok-y_greater1.ensures.value c.in_ok-x.ensures.value c.in_err-y.ensures.value)

pub returns-clause-value : goal.returns-clause-value
returns-clause-value c = as_read c.in_ok-x.x c.in_ok-y.y _ _ _ _ (to_z-of_z w32 c.in_ok-x.x (search rules)) (to_z-of_z w32 c.in_ok-y.y (search rules)) (difference_all c.in_ok-x_greater0.x_greater0 c.in_ok-y_greater0.y_greater0 c.in_ok-x_greater1.x_greater1 c.in_ok-y_greater1.y_greater1 c.in_ok-x.x c.in_ok-y.y c.args.decoder.now c.bin.new.self c.bin-2.new.self c.read_greater1.new.decoder c.read_greater1-2.new.decoder c.read_part.new.decoder c.read_part-2.new.decoder
    c.in_ok-x_greater0.ensures.value c.in_ok-y_greater0.ensures.value c.in_ok-x_greater1.ensures.value c.in_ok-y_greater1.ensures.value c.in_ok-x.ensures.value c.in_ok-y.ensures.value)
