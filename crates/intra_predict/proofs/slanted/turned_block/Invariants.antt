use Rattle.std.proofs.Common.{◌≡◌, ◌*◌, take, true, false}
use Rattle.h265_model.specs.Predict.{directed}
use Rattle.intra_predict.specs.Sides.{side_of}
use Rattle.intra_predict.proofs.Squares.{first_rows}
use Rattle.intra_predict.proofs.slanted.turned_block.Given as goal

abbrev pub invariant-loop-y : goal.invariant-loop-y
invariant-loop-y l = take (l.y * l.n) l.out ≡ first_rows l.n (λ x y. directed (side_of false l.refs l.n) (side_of true l.refs l.n) l.mode y x) l.y
