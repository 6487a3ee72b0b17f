use Rattle.std.proofs.Common.{◌+◌, get_or, length, arith, refl}
use Rattle.h265_model.specs.Predict as model
use Rattle.intra_predict.proofs.Squares.{row_is}
use Rattle.intra_predict.proofs.slanted.blend_row.Goals as goal

pub returns : goal.returns
returns c =
    row_is c.loop-x.row (λ x. model.between c.args.part (get_or c.args.line.now (c.args.at + x) 0) (get_or c.args.line.now (c.args.at + x + 1) 0)) (length c.loop-x.row) c.loop-x.x (omega arith) refl c.loop-x.invariant
