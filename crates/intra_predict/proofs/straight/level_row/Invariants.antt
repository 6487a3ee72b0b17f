use Rattle.std.proofs.Common.{◌≡◌, ℕ, ◌<◌, get_or}
use Rattle.h265_model.specs.Predict as model
use Rattle.intra_predict.proofs.straight.level_row.Given as goal

abbrev pub invariant-loop-x : goal.invariant-loop-x
invariant-loop-x l = (k : ℕ) → k < l.x → get_or l.row k 0 ≡ model.straight_edge (model.down l.refs l.n) (model.across l.refs l.n) k
