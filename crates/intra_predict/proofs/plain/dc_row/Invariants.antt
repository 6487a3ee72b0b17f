use Rattle.std.proofs.Common.{◌≡◌, ◌≤◌, ℕ, ◌<◌, get_or}
use Rattle.h265_model.specs.Predict as model
use Rattle.intra_predict.proofs.plain.dc_row.Given as goal

abbrev pub invariant-loop-x : goal.invariant-loop-x
invariant-loop-x l = (k : ℕ) → 1 ≤ k → k < l.x → get_or l.row k 0 ≡ model.dc_edge l.mean l.n l.refs k 0
