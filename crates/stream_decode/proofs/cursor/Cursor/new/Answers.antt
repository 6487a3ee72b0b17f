use Rattle.std.proofs.Common.{arith}
use Rattle.stream_decode.proofs.Counts.{few_units}
use Rattle.stream_decode.proofs.cursor.Cursor.new.Goals as goal

pub invariant_of-result : goal.invariant_of-result
invariant_of-result c = omega (arith, few_units c.args.bytes.now c.in-Ok.walk c.in-Ok.ensures.read, c.requires)
