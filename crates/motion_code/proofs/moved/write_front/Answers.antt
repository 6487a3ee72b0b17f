use Rattle.h265_model.specs.Motion.{leaves}
use Rattle.bin_items.proofs.Growing.{front_as, front_kept, front_next, writes_as, writes_at_err, writes_next, writes_took}
use Rattle.motion_code.proofs.PartLaws.{front_is}
use Rattle.motion_code.proofs.moved.write_front.Goals as goal

pub returns-in_err-write_flag-clause-taken : goal.returns-in_err-write_flag-clause-taken
returns-in_err-write_flag-clause-taken g c = λ before at. writes_at_err _ _ _ _ _ c.from_residual.ensures.1 (front_kept _ _ _ c.in_err-write_flag.ensures.taken)

pub returns-in_err-write_flag-2-clause-taken : goal.returns-in_err-write_flag-2-clause-taken
returns-in_err-write_flag-2-clause-taken g c = λ before at. writes_at_err _ _ _ _ _ c.from_residual-in_err-write_flag-2.ensures.1
    (front_as _ _ _ _ (front_is before c.args.block _ (c.skip_context-context.ensures.value (leaves before) at))
    (front_next _ _ _ _ _ c.in_ok-write_flag.ensures.taken (front_kept _ _ _ c.in_err-write_flag-2.ensures.taken)))

pub returns-in_err-write_flag-3-clause-taken : goal.returns-in_err-write_flag-3-clause-taken
returns-in_err-write_flag-3-clause-taken g c = λ before at. writes_at_err _ _ _ _ _ c.from_residual-in_err-write_flag-3.ensures.1
    (front_as _ _ _ _ (front_is before c.args.block _ (c.skip_context-context.ensures.value (leaves before) at))
    (front_next _ _ _ _ _ c.in_ok-write_flag.ensures.taken (front_next _ _ _ _ _ c.in_ok-write_flag-2.ensures.taken (front_kept _ _ _ c.in_err-write_flag-3.ensures.taken))))

pub returns-clause-taken : goal.returns-clause-taken
returns-clause-taken g c = λ before at. writes_as _ _ _ _ _ (front_is before c.args.block _ (c.skip_context-context.ensures.value (leaves before) at))
    (writes_next _ _ _ _ _ _ c.in_ok-write_flag.ensures.taken (writes_next _ _ _ _ _ _ c.in_ok-write_flag-2.ensures.taken
    (writes_next _ _ _ _ _ _ c.in_ok-write_flag-3.ensures.taken (writes_took _ _ _ _ c.write_flag-4.ensures.taken))))
