use Rattle.std.proofs.Common.{◌∙◌, arith}
use Rattle.residual_read.specs.Parts.{shape_of, sub_of}
use Rattle.residual_read.proofs.Steps.{mask_more, mask_none, room_more}
use Rattle.residual_read.proofs.flags.read_flags.Goals as goal

pub returns-in_err-flag-clause-value : goal.returns-in_err-flag-clause-value
returns-in_err-flag-clause-value c = rw c.from_residual.ensures (c.loop-left.invariant.goes ∙ mask_none (shape_of c.args.shape) (sub_of c.args.sub) c.args.inner c.loop-left.flags c.loop-left.left c.loop-left.decoder (omega arith) c.in_err-flag.ensures.value)

pub loop-left-preserved : goal.loop-left-preserved
loop-left-preserved c = record {
  opened = c.in_ok-flag.ensures.«open»;
  few = let f = c.loop-left.invariant.few in omega arith;
  room = room_more c.in_ok-flag.flag c.from.result c.loop-left.flags c.loop-left.left c.from.ensures (omega arith) c.loop-left.invariant.room;
  goes = c.loop-left.invariant.goes ∙ mask_more (shape_of c.args.shape) (sub_of c.args.sub) c.args.inner c.loop-left.flags c.loop-left.left c.from.result c.in_ok-flag.flag c.loop-left.decoder c.read_later.new.decoder (omega arith) c.from.ensures c.in_ok-flag.ensures.value;
}
