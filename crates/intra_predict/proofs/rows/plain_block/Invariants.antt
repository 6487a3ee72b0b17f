use Rattle.std.proofs.Common.{◌≡◌, ◌*◌, take}
use Rattle.h265_model.specs.Predict as model
use Rattle.intra_predict.specs.Modes.{mode_of}
use Rattle.intra_predict.proofs.Squares.{first_rows}
use Rattle.intra_predict.proofs.rows.plain_block.Given as goal

abbrev pub invariant-loop-y : goal.invariant-loop-y
invariant-loop-y l = take (l.y * l.n) l.out ≡ first_rows l.n (model.predicted (mode_of l.mode) l.component l.log2 l.refs) l.y
