use Rattle.std.proofs.Common.{sym, ◌∙◌, ◌^◌, Some, ap}
use Rattle.residual_read.specs.Parts.{shape_of}
use Rattle.residual_read.proofs.Steps.{last_none1, last_none2, last_none3, last_none4, last_all}
use Rattle.residual_read.proofs.Coordinates.{coordinate_in, swapped_low}
use Rattle.residual_read.proofs.last.read_last.Goals as goal

pub returns-in_err-x_prefix-clause-value : goal.returns-in_err-x_prefix-clause-value
returns-in_err-x_prefix-clause-value c = rw c.from_residual.ensures (last_none1 (shape_of c.args.shape) c.args.decoder.now c.in_err-x_prefix.ensures.value)

pub returns-in_err-y_prefix-clause-value : goal.returns-in_err-y_prefix-clause-value
returns-in_err-y_prefix-clause-value c = rw c.from_residual-in_err-y_prefix.ensures (last_none2 (shape_of c.args.shape) c.in_ok-x_prefix.x_prefix c.args.decoder.now c.read_prefix.new.decoder c.in_ok-x_prefix.ensures.value c.in_err-y_prefix.ensures.value)

pub returns-in_err-x-clause-value : goal.returns-in_err-x-clause-value
returns-in_err-x-clause-value c = rw c.from_residual-in_err-x.ensures (last_none3 (shape_of c.args.shape) c.in_ok-x_prefix.x_prefix c.in_ok-y_prefix.y_prefix c.args.decoder.now c.read_prefix.new.decoder c.read_prefix-2.new.decoder c.in_ok-x_prefix.ensures.value c.in_ok-y_prefix.ensures.value c.in_err-x.ensures.value)

pub returns-in_err-y-clause-value : goal.returns-in_err-y-clause-value
returns-in_err-y-clause-value c = rw c.from_residual-in_err-y.ensures (last_none4 (shape_of c.args.shape) c.in_ok-x_prefix.x_prefix c.in_ok-y_prefix.y_prefix c.in_ok-x.x c.args.decoder.now c.read_prefix.new.decoder c.read_prefix-2.new.decoder c.read_coordinate.new.decoder c.in_ok-x_prefix.ensures.value c.in_ok-y_prefix.ensures.value c.in_ok-x.ensures.value c.in_err-y.ensures.value)

pub returns-clause-value : goal.returns-clause-value
returns-clause-value c = last_all (shape_of c.args.shape) c.in_ok-x_prefix.x_prefix c.in_ok-y_prefix.y_prefix c.in_ok-x.x c.in_ok-y.y c.args.decoder.now c.read_prefix.new.decoder c.read_prefix-2.new.decoder c.read_coordinate.new.decoder c.read_coordinate-2.new.decoder c.in_ok-x_prefix.ensures.value c.in_ok-y_prefix.ensures.value c.in_ok-x.ensures.value c.in_ok-y.ensures.value
    ∙ ap (λ p. Some (p, c.read_coordinate-2.new.decoder)) (sym c.swapped.ensures)

pub returns-clause-x : goal.returns-clause-x
returns-clause-x c = rw c.swapped.ensures (swapped_low c.args.shape.scan (2 ^ c.args.shape.log2) (c.in_ok-x.x, c.in_ok-y.y)
    (coordinate_in c.in_ok-x_prefix.x_prefix c.args.shape.log2 c.in_ok-x.x c.in_ok-x_prefix.ensures.most c.requires.shape.low c.in_ok-x.ensures.low)
    (coordinate_in c.in_ok-y_prefix.y_prefix c.args.shape.log2 c.in_ok-y.y c.in_ok-y_prefix.ensures.most c.requires.shape.low c.in_ok-y.ensures.low)).0

pub returns-clause-y : goal.returns-clause-y
returns-clause-y c = rw c.swapped.ensures (swapped_low c.args.shape.scan (2 ^ c.args.shape.log2) (c.in_ok-x.x, c.in_ok-y.y)
    (coordinate_in c.in_ok-x_prefix.x_prefix c.args.shape.log2 c.in_ok-x.x c.in_ok-x_prefix.ensures.most c.requires.shape.low c.in_ok-x.ensures.low)
    (coordinate_in c.in_ok-y_prefix.y_prefix c.args.shape.log2 c.in_ok-y.y c.in_ok-y_prefix.ensures.most c.requires.shape.low c.in_ok-y.ensures.low)).1
