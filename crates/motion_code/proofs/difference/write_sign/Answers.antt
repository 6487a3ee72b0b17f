use Rattle.bin_items.proofs.Growing.{writes_as, writes_took}
use Rattle.motion_code.proofs.PartLaws.{sign_some}
use Rattle.motion_code.proofs.difference.write_sign.Goals as goal

pub returns-clause-taken : goal.returns-clause-taken
returns-clause-taken g c = writes_as _ _ _ _ _ (sign_some c.args.size c.args.negative c.if-size-eq0.false) (writes_took _ _ _ _ c.write_bypass.ensures.taken)
