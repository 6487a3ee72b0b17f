use Rattle.std.proofs.Common.{arith}
use Rattle.annexb.proofs.Payloads.{payload-mark, payload-trimmed}
use Rattle.annexb.proofs.payload.payload_len.Goals as goal

pub returns-then-mark-bytes-clause-front : goal.returns-then-mark-bytes-clause-front
returns-then-mark-bytes-clause-front c =
    let found = c.find_mark-mark.ensures in
    payload-mark c.args.bytes.now c.find_mark-mark.result c.if-mark-bytes.true found.plain (found.mark c.if-mark-bytes.true)

pub returns-else-mark-bytes-clause-front : goal.returns-else-mark-bytes-clause-front
returns-else-mark-bytes-clause-front c =
    let bytes = c.args.bytes.now in
    let trimmed = c.without_final_zeros.ensures in
    payload-trimmed bytes c.without_final_zeros.result c.find_mark-mark.result (omega arith) c.find_mark-mark.ensures.plain
    (record { within = trimmed.within; zeros = trimmed.zeros; last = λ k is. trimmed.last k (omega (arith, is)) })
