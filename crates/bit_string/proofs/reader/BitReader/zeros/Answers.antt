use Rattle.std.proofs.Common.{◌∙◌, arith}
use Rattle.bit_string.proofs.Codes.{turn, no_bit, too_long, moves_on}
use Rattle.bit_string.proofs.reader.BitReader.zeros.Goals as goal

pub returns-in_err-bits : goal.returns-in_err-bits
returns-in_err-bits c =
    let l = c.loop-zeros in
    record { found = rw c.from_residual.ensures (l.invariant.0 ∙ no_bit l.zeros l.self.left c.in_err-bits.ensures.value) }

pub returns-then-branch-eq1 : goal.returns-then-branch-eq1
returns-then-branch-eq1 c =
    let l = c.loop-zeros in
    let t = turn l.zeros c.in_ok-bits.field-0 l.self c.bits.new.self (omega arith) c.in_ok-bits.ensures.value c.in_ok-bits.ensures.after in
    record { found = (omega arith, l.invariant.0 ∙ t.one c.if-branch-eq1.true, moves_on c.args.self.now l.self c.bits.new.self l.invariant.1 t.moves) }

pub loop-zeros-preserved : goal.loop-zeros-preserved
loop-zeros-preserved c =
    let l = c.loop-zeros in
    let t = turn l.zeros c.in_ok-bits.field-0 l.self c.bits.new.self (omega arith) c.in_ok-bits.ensures.value c.in_ok-bits.ensures.after in
    (l.invariant.0 ∙ t.other c.if-branch-eq1.false, moves_on c.args.self.now l.self c.bits.new.self l.invariant.1 t.moves)

pub returns : goal.returns
returns c = record { found = c.loop-zeros.invariant.0 ∙ too_long c.loop-zeros.zeros c.loop-zeros.self.left (omega arith) }
