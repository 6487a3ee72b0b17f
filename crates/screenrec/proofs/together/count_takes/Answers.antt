use Rattle.std.proofs.Common.{ℕ, ◌+◌, take, sym, ◌∙◌, ap, arith}
use Rattle.recorder_model.specs.Histories.{takes}
use Rattle.screenrec.proofs.TogetherLaws.{no_takes, takes_more}
use Rattle.screenrec.proofs.together.count_takes.Goals as goal

pub loop-entry-init : goal.loop-entry-init
loop-entry-init c = record {
  counted = sym no_takes;
  few = omega arith;
}

pub overflow_add-count : goal.overflow_add-count
overflow_add-count c = omega (arith, c.loop-entry.invariant.few, c.taken-count.ensures.small, c.loop-entry-test.true, c.requires)

pub loop-entry-preserved : goal.loop-entry-preserved
loop-entry-preserved c = record {
  counted = ap (λ (n : ℕ). n + c.taken-count.result) c.loop-entry.invariant.counted
      ∙ ap (λ (n : ℕ). takes (take c.loop-entry.entry-index c.args.order.now) + n) c.taken-count.ensures.takes
      ∙ sym (takes_more c.args.order.now c.loop-entry.entry-index _ c.loop-entry-test.true);
  few = omega (arith, c.loop-entry.invariant.few, c.taken-count.ensures.small);
}
