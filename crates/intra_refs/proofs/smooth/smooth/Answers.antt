use Rattle.std.proofs.Common.{◌-◌, length, arith, sym, ◌∙◌}
use Rattle.std.proofs.lemmas.List.{length-set}
use Rattle.intra_refs.proofs.Smoothed.{smoothed_is}
use Rattle.intra_refs.proofs.smooth.smooth.Goals as goal

pub returns : goal.returns
returns c = smoothed_is c.args.line.now c.loop-i.out (length c.args.line.now - 1) (c.loop-i.auto.out ∙ (length-set c.args.out.now 0 _ ∙ sym c.requires.same)) (omega arith) (omega arith) c.loop-i.invariant.first (λ k a b. c.loop-i.invariant.inner k a (omega arith))
