use Rattle.std.proofs.Common.{sym, subst}
use Rattle.motion_code.specs.Moves.{IsShort}
use Rattle.motion_code.proofs.Shorts.{merge_short}
use Rattle.motion_code.proofs.unit.vector_of.Goals as goal

pub returns-in-Skip-clause-short : goal.returns-in-Skip-clause-short
returns-in-Skip-clause-short c = subst IsShort (sym (c.merge.ensures c.requires.short.units c.requires.short.has)) (merge_short c.requires.short.units c.args.unit.block c.requires.short.short)
