use Rattle.std.proofs.Common.{◌≡◌, ◌∙◌, ap, subst, ℕ, List, get_or, SFits, w16, rules, arith}
use Rattle.std.specs.Prelude.{ℤ, pos, nat_abs}
use Rattle.std.proofs.lemmas.List.{take_all}
use Rattle.std.proofs.lemmas.Int.{to_z-of_z}
use Rattle.h265_model.specs.Residual.{AreLevels}
use Rattle.residual_code.proofs.LevelLaws.{high_more}
use Rattle.benchmark.proofs.levels.are_levels.Goals as goal

pub loop-level-preserved : goal.loop-level-preserved
loop-level-preserved c =
    let levels : List ℤ = c.args.levels.now in
    let i : ℕ = c.loop-level.level-index in
    let fits : SFits w16 (get_or levels i (pos 0)) = search rules in
    let e : c.unsigned_abs.result ≡ nat_abs (get_or levels i (pos 0)) = c.unsigned_abs.ensures.value ∙ ap nat_abs (to_z-of_z w16 (get_or levels i (pos 0)) fits) in
    high_more levels i (omega arith) (omega arith) c.loop-level.invariant

pub returns : goal.returns
returns c = λ h. subst AreLevels (take_all c.loop-level.level-index c.args.levels.now (omega arith)) c.loop-level.invariant
