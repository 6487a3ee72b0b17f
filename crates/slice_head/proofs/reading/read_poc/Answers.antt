use Rattle.std.proofs.Common.{arith}
use Rattle.bit_string.proofs.Codes.{low_below}
use Rattle.slice_head.proofs.reading.read_poc.Goals as goal

pub returns-in_default-clause-read : goal.returns-in_default-clause-read
returns-in_default-clause-read c =
    let below = low_below 8 c.in-Some.poc c.args.from.now.left c.in-Some.ensures.value in
    absurd (omega arith)
