use Rattle.std.proofs.Common.{refl, sym, ◌∙◌, arith}
use Rattle.h265_model.specs.Tree.{IsAllowed}
use Rattle.bin_items.proofs.Growing.{writes_at_err, front_as, grew_as}
use Rattle.pu_code.specs.Cells.{IsUnit}
use Rattle.coding_tree.proofs.Trees.{ctu_units}
use Rattle.coding_tree.proofs.UnitWalks.{units_are}
use Rattle.coding_tree.proofs.UnitSteps.{written_none, written_more, written_stopped, written_all, has_set_none, has_set_more, has_set_all, all_at}
use Rattle.coding_tree.proofs.tree.write_ctu.Goals as goal

pub write_unit-requires-clause-unit : goal.write_unit-requires-clause-unit
write_unit-requires-clause-unit g c = all_at (IsUnit c.args.size) c.args.leaves.now c.loop-leaf.leaf-index _ (omega arith) (ctu_units c.args.size c.args.ctu c.args.leaves.now c.requires.tree)

pub write_unit-requires-clause-allowed : goal.write_unit-requires-clause-allowed
write_unit-requires-clause-allowed g c = all_at (λ leaf. IsAllowed c.args.kind leaf.kind) c.args.leaves.now c.loop-leaf.leaf-index _ (omega arith) c.requires.allowed

pub loop-leaf-init : goal.loop-leaf-init
loop-leaf-init g c = record {
  opened = c.requires.not_ended;
  size = c.requires.size;
  source = refl;
  set = has_set_none _ _;
  written = λ before at. written_none _ _ _ _ _ _;
}

pub loop-leaf-preserved : goal.loop-leaf-preserved
loop-leaf-preserved g c =
    record {
      opened = c.in_ok-write_unit.ensures.not_ended;
      size = c.write_unit.ensures.size ∙ c.loop-leaf.invariant.size;
      source = c.write_unit.ensures.source ∙ c.loop-leaf.invariant.source;
      set = has_set_more _ _ _ c.args.leaves.now c.loop-leaf.leaf-index _ (omega arith) c.in_ok-write_unit.ensures.set c.loop-leaf.invariant.set;
      written = λ before at. written_more _ _ _ _ before c.args.leaves.now c.loop-leaf.leaf-index _ _ _ _ (omega arith) c.loop-leaf.invariant.source
          (c.in_ok-write_unit.ensures.taken _ (c.loop-leaf.invariant.set.set before at)) (c.loop-leaf.invariant.written before at);
    }

pub returns-in_err-write_unit-clause-taken : goal.returns-in_err-write_unit-clause-taken
returns-in_err-write_unit-clause-taken g c = λ before at. writes_at_err _ _ _ _ _ c.from_residual.ensures.1
    (front_as _ _ _ _ (sym (units_are _ _ _ before c.args.leaves.now c.args.ctu c.requires.tree))
    (written_stopped _ _ _ _ before c.args.leaves.now c.loop-leaf.leaf-index _ _ _ _ (omega arith) c.loop-leaf.invariant.source
    (c.in_err-write_unit.ensures.taken _ (c.loop-leaf.invariant.set.set before at)) (c.loop-leaf.invariant.written before at)))

pub returns-clause-taken : goal.returns-clause-taken
returns-clause-taken g c = λ before at. grew_as _ _ _ _ (sym (units_are _ _ _ before c.args.leaves.now c.args.ctu c.requires.tree))
    (written_all _ _ _ before c.args.leaves.now c.loop-leaf.leaf-index _ _ (omega arith) (c.loop-leaf.invariant.written before at))

pub returns-clause-set : goal.returns-clause-set
returns-clause-set g c = has_set_all _ _ c.args.leaves.now c.loop-leaf.leaf-index (omega arith) c.loop-leaf.invariant.set
