use Rattle.std.proofs.Common.{◌∙◌, arith}
use Rattle.pu_code.specs.Cells.{IsUnit}
use Rattle.row_coder.proofs.Kept.{one_more, all_kept, all_at}
use Rattle.row_coder.proofs.job.grid_above.Goals as goal

pub loop-leaf-init : goal.loop-leaf-init
loop-leaf-init c = record { size = c.in_ok-grid.ensures.size; set = c.in_ok-grid.ensures.empty }

pub set-requires : goal.set-requires
set-requires c =
    let e = c.loop-leaf.invariant.size in
    all_at (IsUnit c.loop-leaf.grid.size) c.args.above.now c.loop-leaf.leaf-index _ (omega arith) (rw e c.requires)

pub loop-leaf-preserved : goal.loop-leaf-preserved
loop-leaf-preserved c = record {
  size = c.set.ensures.size ∙ c.loop-leaf.invariant.size;
  set = one_more _ _ c.args.above.now c.loop-leaf.leaf-index _ (omega arith) c.set.ensures.set c.loop-leaf.invariant.set;
}

pub returns-clause-set : goal.returns-clause-set
returns-clause-set c = all_kept _ c.args.above.now c.loop-leaf.leaf-index (omega arith) c.loop-leaf.invariant.set
