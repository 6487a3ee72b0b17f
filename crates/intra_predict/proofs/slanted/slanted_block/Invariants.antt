use Rattle.std.proofs.Common.{◌≡◌, ◌*◌, take, not}
use Rattle.h265_model.specs.Predict.{directed}
use Rattle.intra_predict.specs.Sides.{side_of}
use Rattle.intra_predict.proofs.Squares.{first_rows}
use Rattle.intra_predict.proofs.slanted.slanted_block.Given as goal

abbrev pub invariant-loop-away : goal.invariant-loop-away
invariant-loop-away l = take (l.away * l.n) l.out ≡ first_rows l.n (directed (side_of l.above l.refs l.n) (side_of (not l.above) l.refs l.n) l.mode) l.away
