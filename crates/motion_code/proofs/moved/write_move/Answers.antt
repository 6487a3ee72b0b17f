use Rattle.std.proofs.Common.{refl}
use Rattle.std.specs.Prelude.{Some}
use Rattle.h265_model.specs.declared.leaf.Kind.TheVariants.{Pcm}
use Rattle.h265_model.specs.declared.moves.MoveKind.TheVariants as moves
use Rattle.h265_model.specs.MotionChoice.{unit_at}
use Rattle.bin_items.proofs.Growing.{front_as, front_first, front_then, grew_as, grew_then, writes_at_err}
use Rattle.motion_code.proofs.Kept.{kept_more}
use Rattle.motion_code.proofs.PartLaws.{moved_is}
use Rattle.motion_code.proofs.Shorts.{short_more}
use Rattle.motion_code.proofs.moved.write_move.Goals as goal

pub returns-in_err-write_front-clause-taken : goal.returns-in_err-write_front-clause-taken
returns-in_err-write_front-clause-taken g c = λ before at. writes_at_err _ _ _ _ _ c.from_residual.ensures.1
    (front_as _ _ _ _ (moved_is before c.args.block c.args.vector _ (c.predictors_of-predictors.ensures.value before at.vectors))
    (front_first _ _ _ _ (c.in_err-write_front.ensures.taken before at.modes)))

pub returns-in_err-write_vector-clause-taken : goal.returns-in_err-write_vector-clause-taken
returns-in_err-write_vector-clause-taken g c = λ before at. writes_at_err _ _ _ _ _ c.from_residual-in_err-write_vector.ensures.1
    (front_as _ _ _ _ (moved_is before c.args.block c.args.vector _ (c.predictors_of-predictors.ensures.value before at.vectors))
    (front_then _ _ _ _ _ (c.in_ok-write_front.ensures.taken before at.modes) c.in_err-write_vector.ensures.taken))

pub returns-clause-taken : goal.returns-clause-taken
returns-clause-taken g c = λ before at.
    grew_as _ _ _ _ (moved_is before c.args.block c.args.vector _ (c.predictors_of-predictors.ensures.value before at.vectors))
    (grew_then _ _ _ _ _ (c.in_ok-write_front.ensures.taken before at.modes) c.in_ok-write_vector.ensures.taken)

pub returns-clause-set : goal.returns-clause-set
returns-clause-set g c = λ before at. kept_more _ _ _ _ (unit_at c.args.block (moves.Move c.args.vector)) (Some c.args.vector) before c.set.ensures.set c.set-2.ensures.set refl at

pub returns-clause-short : goal.returns-clause-short
returns-clause-short g c = short_more _ _ c.args.block Pcm (Some c.args.vector) c.set-2.ensures.set c.requires.vector c.requires.short
