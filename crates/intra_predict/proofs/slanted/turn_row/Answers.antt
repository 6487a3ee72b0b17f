use Rattle.std.proofs.Common.{◌+◌, ◌*◌, get_or, arith}
use Rattle.intra_predict.proofs.Squares.{row_is}
use Rattle.intra_predict.proofs.slanted.turn_row.Goals as goal

pub returns : goal.returns
returns c = row_is c.loop-x.row (λ x. get_or c.args.block.now (x * c.args.n + c.args.y) 0) c.args.n c.loop-x.x (omega arith) (omega arith) c.loop-x.invariant
