use Rattle.std.proofs.Common.{◌≡◌, ◌≤◌, ◌<◌, ◌+◌, ◌*◌, ◌^◌, ◌++◌, length}
use Rattle.px_plane.specs.Planes.{picture_of}
use Rattle.block_choice.specs.Plans.{before_of}
use Rattle.block_choice.proofs.Planned.{parts}
use Rattle.block_choice.proofs.split.+tree.Given as goal

abbrev pub decreases-plan_split : goal.decreases-plan_split
decreases-plan_split l = 2 * l.depth + 1

abbrev pub decreases-plan_block : goal.decreases-plan_block
decreases-plan_block l = 2 * l.depth

abbrev pub invariant-plan_split-loop-quarter : goal.invariant-plan_split-loop-quarter
invariant-plan_split-loop-quarter l = record {
  cost : l.cost ≡ 1 + (parts (before_of l.task) (picture_of l.task.current.now) l.task.current.now.size l.task.effort l.depth l.x l.y l.quarter).cost;
  leaves : l.leaves.items ≡ l.initial.leaves.items ++ (parts (before_of l.task) (picture_of l.task.current.now) l.task.current.now.size l.task.effort l.depth l.x l.y l.quarter).leaves;
  below : 0 < l.quarter → l.cost < l.limit;
  few : length l.leaves.items ≤ length l.initial.leaves.items + l.quarter * 4 ^ l.depth;
}
