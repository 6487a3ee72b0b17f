use Rattle.std.proofs.Common.{◌^◌, arith}
use Rattle.h265_model.specs.Predict as model
use Rattle.intra_predict.proofs.Squares.{row_is}
use Rattle.intra_predict.proofs.plain.planar_row.Goals as goal

pub returns : goal.returns
returns c =
    row_is c.loop-x.row (λ x. model.planar c.args.log2 c.args.refs.now x c.args.y) (2 ^ c.args.log2) c.loop-x.x (omega arith) (omega arith) c.loop-x.invariant
