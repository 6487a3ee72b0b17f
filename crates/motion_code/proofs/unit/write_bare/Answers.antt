use Rattle.bin_items.proofs.Growing.{writes_as}
use Rattle.motion_code.proofs.PartLaws.{move_is, still_is}
use Rattle.motion_code.proofs.unit.write_bare.Goals as goal

pub returns-in-Move-clause-taken : goal.returns-in-Move-clause-taken
returns-in-Move-clause-taken g c = λ before at. writes_as _ _ _ _ _ (move_is c.args.kind _ before c.args.unit _ c.in-Move.is) (c.write_move.ensures.taken before at)

pub returns-in_default : goal.returns-in_default
returns-in_default g c = record {
  taken = λ before at. writes_as _ _ _ _ _ (still_is c.args.kind _ before c.args.unit c.in_default.not-Move) (c.write_still.ensures.taken before at);
  not_ended = c.write_still.ensures.not_ended;
  set = c.write_still.ensures.set;
  short = c.write_still.ensures.short;
  grid = c.write_still.ensures.grid;
  motion = c.write_still.ensures.motion;
  source = c.write_still.ensures.source;
}
