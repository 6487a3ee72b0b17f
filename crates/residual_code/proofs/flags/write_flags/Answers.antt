use Rattle.std.proofs.Common.{refl, arith}
use Rattle.bin_items.proofs.Growing.{took_more, took_as, took_all, stopped, writes_at_err}
use Rattle.residual_code.specs.Parts.{shape_of, sub_of}
use Rattle.residual_code.proofs.FlagLaws.{flag_more, values_more, room_more, no_flags, values_done}
use Rattle.residual_code.proofs.flags.write_flags.Goals as goal

pub loop-left-preserved : goal.loop-left-preserved
loop-left-preserved g c = let h = c.in_ok-write_flag.ensures.values in record {
  opened = c.in_ok-write_flag.ensures.not_ended;
  few = let f = c.loop-left.invariant.few in omega arith;
  room = room_more _ _ _ c.loop-left.left (omega arith) h c.loop-left.invariant.room;
  values = values_more c.args.shape.scan c.args.tile.now _ _ _ c.loop-left.left (omega arith) h c.loop-left.invariant.values;
  taken = took_more _ _ _ _ _ _ (took_as _ _ _ _ _ (flag_more (shape_of c.args.shape) (sub_of c.args.sub) c.args.inner c.args.tile.now _ _ c.loop-left.left (omega arith) h) c.loop-left.invariant.taken) c.in_ok-write_flag.ensures.taken;
}

pub returns-in_err-write_flag-clause-taken : goal.returns-in_err-write_flag-clause-taken
returns-in_err-write_flag-clause-taken g c =
    writes_at_err _ _ _ _ _ c.from_residual.ensures.1
    (stopped _ _ _ _ _ _ (took_as _ _ _ _ _ (flag_more (shape_of c.args.shape) (sub_of c.args.sub) c.args.inner c.args.tile.now _ _ c.loop-left.left (omega arith) refl) c.loop-left.invariant.taken) c.in_err-write_flag.ensures.taken)

pub returns-clause-taken : goal.returns-clause-taken
returns-clause-taken g c = took_all _ _ _ (took_as _ _ _ _ _ (no_flags (shape_of c.args.shape) (sub_of c.args.sub) c.args.inner _ c.args.tile.now c.loop-left.left (omega arith)) c.loop-left.invariant.taken)

pub returns-clause-values : goal.returns-clause-values
returns-clause-values g c = values_done c.args.shape.scan c.args.tile.now _ _ c.loop-left.left (omega arith) c.loop-left.invariant.values
