use Rattle.std.proofs.Common.{◌∙◌, ap, w32, rules}
use Rattle.std.specs.Prelude.{nat_abs}
use Rattle.std.proofs.lemmas.Int.{to_z-of_z}
use Rattle.bin_items.proofs.Growing.{writes_as, writes_took}
use Rattle.motion_code.proofs.PartLaws.{greater1_some}
use Rattle.motion_code.proofs.difference.write_greater1.Goals as goal

pub returns-clause-taken : goal.returns-clause-taken
returns-clause-taken g c = writes_as _ _ _ _ _ (greater1_some _ _ (c.unsigned_abs-size.ensures.value ∙ ap nat_abs (to_z-of_z w32 c.args.part (search rules))) c.if-size-eq0.false)
    (writes_took _ _ _ _ c.write_flag.ensures.taken)
