use Rattle.std.proofs.Common.{◌∙◌, ap, w32, rules}
use Rattle.std.specs.Prelude.{nat_abs}
use Rattle.std.proofs.lemmas.Int.{to_z-of_z}
use Rattle.bin_items.proofs.Growing.{front_kept, writes_as, writes_at_err, writes_next, writes_took}
use Rattle.motion_code.proofs.PartLaws.{greater0_is}
use Rattle.motion_code.proofs.difference.write_greater0.Goals as goal

pub returns-in_err-write_flag-clause-taken : goal.returns-in_err-write_flag-clause-taken
returns-in_err-write_flag-clause-taken g c = writes_at_err _ _ _ _ _ c.from_residual.ensures.1 (front_kept _ _ _ c.in_err-write_flag.ensures.taken)

pub returns-clause-taken : goal.returns-clause-taken
returns-clause-taken g c = writes_as _ _ _ _ _
    (greater0_is c.args.difference _ _ (c.unsigned_abs-x.ensures.value ∙ ap nat_abs (to_z-of_z w32 c.args.difference.x (search rules)))
    (c.unsigned_abs-y.ensures.value ∙ ap nat_abs (to_z-of_z w32 c.args.difference.y (search rules))))
    (writes_next _ _ _ _ _ _ c.in_ok-write_flag.ensures.taken (writes_took _ _ _ _ c.write_flag-2.ensures.taken))
