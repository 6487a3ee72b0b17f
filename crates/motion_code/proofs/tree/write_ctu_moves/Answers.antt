use Rattle.std.proofs.Common.{refl, sym, ◌∙◌, arith}
use Rattle.h265_model.specs.Tree.{move_unit}
use Rattle.bin_items.proofs.Growing.{writes_at_err, front_as, grew_as}
use Rattle.pu_code.specs.Cells.{IsUnit}
use Rattle.coding_tree.proofs.Trees.{ctu_units}
use Rattle.coding_tree.proofs.UnitSteps.{all_at}
use Rattle.motion_code.specs.Moves.{MayStand, coded_leaves}
use Rattle.motion_code.proofs.MoveWalks.{units_are}
use Rattle.motion_code.proofs.MoveSteps.{written_none, written_more, written_stopped, written_all, has_set_none, has_set_more, has_set_all, leaf_at}
use Rattle.motion_code.proofs.tree.write_ctu_moves.Goals as goal

pub write_unit-requires-clause-unit : goal.write_unit-requires-clause-unit
write_unit-requires-clause-unit g c = leaf_at (IsUnit c.args.size) c.args.units.now c.loop-unit.unit-index _ (omega arith) (ctu_units c.args.size c.args.ctu (coded_leaves c.args.units.now) c.requires.tree)

pub write_unit-requires-clause-allowed : goal.write_unit-requires-clause-allowed
write_unit-requires-clause-allowed g c = all_at (λ unit. MayStand c.args.kind unit.kind) c.args.units.now c.loop-unit.unit-index _ (omega arith) c.requires.allowed

pub loop-unit-init : goal.loop-unit-init
loop-unit-init g c = record {
  opened = c.requires.not_ended;
  size = c.requires.size;
  motion = c.requires.motion;
  short = c.requires.short;
  source = refl;
  set = has_set_none _ _ _;
  written = λ before at. written_none _ _ _ _ _ _;
}

pub loop-unit-preserved : goal.loop-unit-preserved
loop-unit-preserved g c =
    record {
      opened = c.in_ok-write_unit.ensures.not_ended;
      size = c.write_unit.ensures.size;
      motion = c.write_unit.ensures.motion;
      short = c.write_unit.ensures.short;
      source = c.write_unit.ensures.source ∙ c.loop-unit.invariant.source;
      set = has_set_more _ _ _ _ _ _ c.args.units.now c.loop-unit.unit-index _ (omega arith) c.in_ok-write_unit.ensures.set c.loop-unit.invariant.set;
      written = λ before at. written_more _ _ _ _ before c.args.units.now c.loop-unit.unit-index _ _ _ _ (omega arith) c.loop-unit.invariant.source
          (c.in_ok-write_unit.ensures.taken _ (c.loop-unit.invariant.set.set before at)) (c.loop-unit.invariant.written before at);
    }

pub returns-in_err-write_unit-clause-taken : goal.returns-in_err-write_unit-clause-taken
returns-in_err-write_unit-clause-taken g c = λ before at. writes_at_err _ _ _ _ _ c.from_residual.ensures.1
    (front_as _ _ _ _ (sym (units_are (move_unit c.args.kind _) c.args.size before c.args.units.now c.args.ctu c.requires.tree))
    (written_stopped _ _ _ _ before c.args.units.now c.loop-unit.unit-index _ _ _ _ (omega arith) c.loop-unit.invariant.source
    (c.in_err-write_unit.ensures.taken _ (c.loop-unit.invariant.set.set before at)) (c.loop-unit.invariant.written before at)))

pub returns-clause-taken : goal.returns-clause-taken
returns-clause-taken g c = λ before at. grew_as _ _ _ _ (sym (units_are (move_unit c.args.kind _) c.args.size before c.args.units.now c.args.ctu c.requires.tree))
    (written_all _ _ _ before c.args.units.now c.loop-unit.unit-index _ _ (omega arith) (c.loop-unit.invariant.written before at))

pub returns-clause-set : goal.returns-clause-set
returns-clause-set g c = has_set_all _ _ _ _ c.args.units.now c.loop-unit.unit-index (omega arith) c.loop-unit.invariant.set
