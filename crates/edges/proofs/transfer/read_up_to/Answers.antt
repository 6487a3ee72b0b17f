use Rattle.std.proofs.Common.{◌∙◌, ◌≤◌, ◌<◌, ◌-◌, ◌^◌, length, arith}
use Rattle.edges.proofs.Transfers.{read_answer}
use Rattle.edges.proofs.transfer.read_up_to.Goals as goal

pub returns-in-Ok-2 : goal.returns-in-Ok-2
returns-in-Ok-2 g c =
    let read = rw (c.take.ensures.inner, c.in-Ok.ensures.items) at c.in-Ok-read_to_end.ensures.bytes in
    let below : length c.read_to_end.new.buf.items ≤ c.args.limit = omega (arith, c.read_to_end.new.buf.ok.0) in
    let small : length c.read_to_end.new.buf.items < 2 ^ 64 - 1 = omega (arith, c.read_to_end.new.buf.ok.0, c.read_to_end.new.buf.small) in
    read_answer _ _ _ c.read_to_end.new.buf (c.take.ensures.limit ∙ c.saturating_add.ensures) read below small
