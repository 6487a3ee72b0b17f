use Rattle.std.proofs.Common.{◌≡◌, ◌<◌, ◌+◌, ◌*◌, ◌^◌}
use Rattle.motion_search.specs.Planned.{Grows}
use Rattle.motion_search.proofs.Planned.{IsSoFar}
use Rattle.motion_search.proofs.tree.+tree.Given as goal

abbrev pub decreases-plan_split : goal.decreases-plan_split
decreases-plan_split l = 2 * l.depth + 1

abbrev pub decreases-plan_block : goal.decreases-plan_block
decreases-plan_block l = 2 * l.depth

abbrev pub invariant-plan_split-loop-quarter : goal.invariant-plan_split-loop-quarter
invariant-plan_split-loop-quarter l = record {
  choice : l.choice ≡ l.fn.choice;
  planned : IsSoFar l.fn.choice l.depth l.x l.y l.quarter l.cost l.fn.chosen l.chosen;
  below : 0 < l.quarter → l.cost < l.limit;
  grows : Grows l.fn.chosen l.chosen (l.quarter * 4 ^ l.depth);
}
