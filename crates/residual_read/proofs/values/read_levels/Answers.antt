use Rattle.std.proofs.Common.{◌∙◌, ◌-◌, ◌+◌, ◌++◌, ◌∷◌, [], ap, arith, rules, w16}
use Rattle.std.proofs.lemmas.Int.{to_z-of_z}
use Rattle.h265_model.specs.Residual.{signed}
use Rattle.residual_read.proofs.LevelSteps.{levels_none, levels_more, levels_full}
use Rattle.residual_read.proofs.values.read_levels.Goals as goal

pub returns-in_err-size-clause-value : goal.returns-in_err-size-clause-value
returns-in_err-size-clause-value c = rw c.from_residual.ensures (c.loop-i.invariant.goes ∙ levels_none c.loop-i.rice c.loop-i.seen c.args.greater2 c.known-base.result.1 c.args.ones c.loop-i.left c.loop-i.i c.args.many c.args.signs c.known-base.result.0 c.loop-i.values.items c.loop-i.decoder (omega arith) c.loop-i.invariant.within c.known-base.ensures.value c.in_err-size.ensures.value)

pub loop-i-preserved : goal.loop-i-preserved
loop-i-preserved c = record {
  opened = c.in_ok-size.ensures.«open»;
  few = let l = c.less-left.ensures in let f = c.loop-i.invariant.few in omega arith;
  within = let l = c.less-left.ensures in let f = c.loop-i.invariant.within in omega arith;
  rice = c.rice_after-rice.ensures.low;
  room = let n = c.push.ensures.len in let r = c.loop-i.invariant.room in omega arith;
  goes = c.loop-i.invariant.goes ∙ levels_more c.loop-i.rice c.loop-i.seen c.args.greater2 c.known-base.result.1 c.args.ones c.loop-i.left c.loop-i.i c.args.many c.args.signs c.known-base.result.0 c.in_ok-size.size c.rice_after-rice.result c.less-left.result c.seen_after-seen.result
      c.signed.result c.loop-i.values.items c.push.new.self.items c.loop-i.decoder c.read_size.new.decoder (omega arith) c.loop-i.invariant.within c.known-base.ensures.value c.in_ok-size.ensures.value c.rice_after-rice.ensures.value c.seen_after-seen.ensures c.less-left.ensures (c.signed.ensures ∙ ap (λ b. signed b c.in_ok-size.size) c.bit-negative.ensures)
      (c.push.ensures.items ∙ ap (λ v. c.loop-i.values.items ++ v ∷ []) (to_z-of_z w16 c.signed.result (search rules)));
}

pub returns-clause-value : goal.returns-clause-value
returns-clause-value c = c.loop-i.invariant.goes ∙ levels_full c.loop-i.rice c.loop-i.seen c.args.greater2 c.args.ones c.loop-i.left c.loop-i.i c.args.many c.args.signs c.loop-i.values.items c.loop-i.decoder (omega arith) c.loop-i.invariant.within
