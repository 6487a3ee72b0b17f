use Rattle.std.proofs.Common.{◌∙◌, ◌<◌, length, arith}
use Rattle.std.proofs.lemmas.Bool.Decides.{nat_tests}
use Rattle.residual_code.proofs.LevelLaws.{ended_some}
use Rattle.residual_code.proofs.subs.ended_after.Goals as goal

pub returns-else-is_empty : goal.returns-else-is_empty
returns-else-is_empty c =
    let some : 0 < length c.args.values.now = let e = c.is_empty.ensures in let f = c.if-is_empty.false in grind (arith, nat_tests) in
    ended_some c.args.before c.is_some.result c.args.values.now some (c.is_some.ensures ∙ c.requires)
