use Rattle.std.proofs.Common.{refl, ◌∙◌, arith}
use Rattle.residual_read.specs.Parts.{shape_of}
use Rattle.residual_read.proofs.SubSteps.{going_more, going_none, going_all}
use Rattle.residual_read.proofs.subs.read_subs.Goals as goal

pub loop-left-init : goal.loop-left-init
loop-left-init c = record { opened = c.requires.«open»; few = omega arith; side = refl; done = λ flags are. record { now = flags; are = are; goes = refl } }

pub loop-left-preserved : goal.loop-left-preserved
loop-left-preserved c = record {
  opened = c.in_ok-last.ensures.«open»;
  few = let f = c.loop-left.invariant.few in omega arith;
  side = c.in_ok-last.ensures.side ∙ c.loop-left.invariant.side;
  done = λ flags are. going_more (shape_of c.args.shape) flags c.args.ended c.args.number c.args.out.now.levels c.args.decoder.now c.loop-left.left c.loop-left.marks _ c.loop-left.last c.in_ok-last.last c.loop-left.out.levels _ c.loop-left.decoder _ (omega arith)
      c.in_ok-last.ensures.value (c.loop-left.invariant.done flags are);
}

pub returns-in_err-last-clause-value : goal.returns-in_err-last-clause-value
returns-in_err-last-clause-value c = λ flags are. rw c.from_residual.ensures (going_none (shape_of c.args.shape) flags c.args.ended c.args.number c.args.out.now.levels c.args.decoder.now c.loop-left.left c.loop-left.marks c.read_sub.new.marks c.loop-left.last c.loop-left.out.levels c.read_sub.new.out.levels c.loop-left.decoder c.read_sub.new.decoder (omega arith)
    c.in_err-last.ensures.value (c.loop-left.invariant.done flags are))

pub returns-clause-value : goal.returns-clause-value
returns-clause-value c = λ flags are. going_all (shape_of c.args.shape) flags c.args.ended c.args.number c.args.out.now.levels c.args.decoder.now c.loop-left.left c.loop-left.marks c.loop-left.last c.loop-left.out.levels c.loop-left.decoder (omega arith) (c.loop-left.invariant.done flags are)
