use Rattle.std.proofs.Common.{◌≡◌, ℕ, ◌<◌, ◌+◌, get_or}
use Rattle.h265_model.specs.Predict as model
use Rattle.intra_predict.proofs.slanted.blend_row.Given as goal

abbrev pub invariant-loop-x : goal.invariant-loop-x
invariant-loop-x l = (k : ℕ) → k < l.x → get_or l.row k 0 ≡ model.between l.part (get_or l.line (l.at + k) 0) (get_or l.line (l.at + k + 1) 0)
