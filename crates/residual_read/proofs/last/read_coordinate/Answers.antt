use Rattle.std.proofs.Common.{◌-◌, ◌/◌, arith}
use Rattle.residual_read.proofs.Steps.{fl_below}
use Rattle.residual_read.proofs.Coordinates.{coordinate_fits, coordinate_short, coordinate_low}
use Rattle.residual_read.proofs.last.read_coordinate.Goals as goal

pub overflow_add-result-2 : goal.overflow_add-result-2
overflow_add-result-2 c = let k = coordinate_fits c.args.prefix c.in_ok-suffix.suffix c.requires.most (fl_below (c.args.prefix / 2 - 1) c.in_ok-suffix.suffix c.args.decoder.now c.bypass.new.self c.in_ok-suffix.ensures.value) in omega arith

pub returns-then-prefix-lt4-clause-low : goal.returns-then-prefix-lt4-clause-low
returns-then-prefix-lt4-clause-low c = coordinate_short c.args.prefix (omega arith)

pub returns-clause-low : goal.returns-clause-low
returns-clause-low c = coordinate_low c.args.prefix c.in_ok-suffix.suffix (omega arith) (fl_below (c.args.prefix / 2 - 1) c.in_ok-suffix.suffix c.args.decoder.now c.bypass.new.self c.in_ok-suffix.ensures.value)
