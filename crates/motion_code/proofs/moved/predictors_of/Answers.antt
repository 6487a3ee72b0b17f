use Rattle.std.proofs.Common.{sym, subst}
use Rattle.h265_model.specs.declared.moves.Vector.{Vector}
use Rattle.motion_code.specs.Moves.{IsShort}
use Rattle.motion_code.proofs.Shorts.{predictors_short}
use Rattle.motion_code.proofs.moved.predictors_of.Goals as goal

pub returns-clause-first : goal.returns-clause-first
returns-clause-first c = subst (λ (both : Vector × Vector). IsShort both.0) (sym (c.predictors.ensures c.requires.short.units c.requires.short.has)) (predictors_short c.requires.short.units c.args.block c.requires.short.short).0

pub returns-clause-second : goal.returns-clause-second
returns-clause-second c = subst (λ (both : Vector × Vector). IsShort both.1) (sym (c.predictors.ensures c.requires.short.units c.requires.short.has)) (predictors_short c.requires.short.units c.args.block c.requires.short.short).1
