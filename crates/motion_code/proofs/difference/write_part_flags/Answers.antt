use Rattle.std.proofs.Common.{ap, w32, rules}
use Rattle.std.specs.Prelude.{ℤ, nat_abs}
use Rattle.std.proofs.lemmas.Int.{to_z-of_z}
use Rattle.h265_model.specs.Motion.{greater1_of}
use Rattle.bin_items.proofs.Growing.{front_as, front_first, grew_as, writes_as, writes_at_err, writes_then}
use Rattle.motion_code.proofs.difference.write_part_flags.Goals as goal

pub returns-in_err-write_greater1-clause-taken : goal.returns-in_err-write_greater1-clause-taken
returns-in_err-write_greater1-clause-taken g c = writes_at_err _ _ _ _ _ c.from_residual.ensures.1
    (front_first _ _ _ _ (front_as _ _ _ _ (ap (λ (v : ℤ). greater1_of (nat_abs v)) (to_z-of_z w32 c.args.difference.x (search rules))) c.in_err-write_greater1.ensures.taken))

pub returns-clause-taken : goal.returns-clause-taken
returns-clause-taken g c =
    writes_then _ _ _ _ _ _ (grew_as _ _ _ _ (ap (λ (v : ℤ). greater1_of (nat_abs v)) (to_z-of_z w32 c.args.difference.x (search rules))) c.in_ok-write_greater1.ensures.taken)
    (writes_as _ _ _ _ _ (ap (λ (v : ℤ). greater1_of (nat_abs v)) (to_z-of_z w32 c.args.difference.y (search rules))) c.write_greater1-2.ensures.taken)
