use Rattle.std.proofs.Common.{◌≡◌, ◌≤◌}
use Rattle.h265_model.specs.Residual.{residual_items, from_subs}
use Rattle.residual_code.specs.Parts.{shape_of, sub_count, sub_levels, down}
use Rattle.residual_code.proofs.SubLaws.{AreEmpty}
use Rattle.residual_code.proofs.blocks.last_sub.Given as goal

abbrev pub invariant-loop-left : goal.invariant-loop-left
invariant-loop-left l = record {
  few : l.left ≤ sub_count l.shape;
  empty : AreEmpty (shape_of l.shape) l.levels l.left;
  same : residual_items (shape_of l.shape) l.levels ≡ from_subs (shape_of l.shape) (down (sub_levels (shape_of l.shape) l.levels) l.left);
}

abbrev pub decreases-loop-left : goal.decreases-loop-left
decreases-loop-left l = l.left
