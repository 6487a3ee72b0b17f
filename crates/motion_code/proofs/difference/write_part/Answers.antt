use Rattle.std.proofs.Common.{refl, ◌∙◌, ap, w32, rules}
use Rattle.std.specs.Prelude.{nat_abs}
use Rattle.std.proofs.lemmas.Int.{to_z-of_z}
use Rattle.h265_model.specs.Residual.{is_negative}
use Rattle.bin_items.proofs.Growing.{front_as, front_first, writes_as, writes_at_err, writes_then}
use Rattle.motion_code.proofs.PartLaws.{part_is}
use Rattle.motion_code.proofs.difference.write_part.Goals as goal

pub returns-in_err-write_rest-clause-taken : goal.returns-in_err-write_rest-clause-taken
returns-in_err-write_rest-clause-taken g c = writes_at_err _ _ _ _ _ c.from_residual.ensures.1
    (front_as _ _ _ _ (part_is c.args.part _ _ (c.unsigned_abs-size.ensures.value ∙ ap nat_abs (to_z-of_z w32 c.args.part (search rules))) refl) (front_first _ _ _ _ c.in_err-write_rest.ensures.taken))

pub returns-clause-taken : goal.returns-clause-taken
returns-clause-taken g c = writes_as _ _ _ _ _
    (part_is c.args.part _ _ (c.unsigned_abs-size.ensures.value ∙ ap nat_abs (to_z-of_z w32 c.args.part (search rules))) (c.is_negative.ensures ∙ ap is_negative (to_z-of_z w32 c.args.part (search rules))))
    (writes_then _ _ _ _ _ _ c.in_ok-write_rest.ensures.taken c.write_sign.ensures.taken)
