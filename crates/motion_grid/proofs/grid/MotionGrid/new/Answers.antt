use Rattle.std.proofs.Common.{⊎_elim}
use Rattle.motion_grid.proofs.Placing.{none_set, all_empty}
use Rattle.motion_grid.proofs.grid.MotionGrid.new.Goals as goal

pub returns-clause-empty : goal.returns-clause-empty
returns-clause-empty c = none_set _ (λ i less. all_empty _ _ i c.in_ok-cells.ensures.items (λ v h. ⊎_elim (λ e. absurd (cc)) (λ r. r) h))
