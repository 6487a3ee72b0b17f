use Rattle.bit_string.proofs.Digits.{ue-code}
use Rattle.bit_string.proofs.writer.BitWriter.ue.Goals as goal

pub returns-clause-ok : goal.returns-clause-ok
returns-clause-ok c =
    let written = ue-code c.args.v c.ilog2-zeros.result c.ilog2-zeros.ensures.power_le c.ilog2-zeros.ensures.next_power_gt c.ilog2-zeros.ensures.bound in
    rw written at c.put_code.ensures.ok
