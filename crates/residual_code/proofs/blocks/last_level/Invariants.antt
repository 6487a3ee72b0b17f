use Rattle.std.proofs.Common.{◌≡◌, ◌≤◌}
use Rattle.h265_model.specs.Residual.{without_leading_zeros}
use Rattle.residual_code.specs.Parts.{tile_levels}
use Rattle.residual_code.proofs.blocks.last_level.Given as goal

abbrev pub invariant-loop-left : goal.invariant-loop-left
invariant-loop-left l = record {
  few : l.left ≤ 16;
  same : without_leading_zeros (tile_levels l.scan l.tile 16) ≡ without_leading_zeros (tile_levels l.scan l.tile l.left);
}

abbrev pub decreases-loop-left : goal.decreases-loop-left
decreases-loop-left l = l.left
