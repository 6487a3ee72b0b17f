use Rattle.std.proofs.Common.{◌-◌, arith}
use Rattle.h265_model.specs.Bits.{read_u}
use Rattle.bit_string.proofs.ReadLaws.{read_some, read_none, none_long, none_after, some_long}
use Rattle.bit_string.proofs.fields.read_bits.Goals as goal

pub returns-in_err-bits : goal.returns-in_err-bits
returns-in_err-bits c =
    let left = c.args.from.now.left in
    let n = c.args.width in
    rw c.from_residual.ensures (none_long n left (read_none (read_u (n - 32) left) c.in_err-bits.ensures.value))

pub returns-in_err-bits-2 : goal.returns-in_err-bits-2
returns-in_err-bits-2 c =
    let left = c.args.from.now.left in
    let n = c.args.width in
    let mid = c.bits-2.new.self in
    let high = read_some (read_u (n - 32) left) c.in_ok-bits.field-0 c.args.from.now mid c.in_ok-bits.ensures.value c.in_ok-bits.ensures.after in
    let low = read_none (read_u 32 mid.left) c.in_err-bits-2.ensures.value in
    rw c.from_residual-in_err-bits-2.ensures (none_after n c.in_ok-bits.field-0 left mid.left (omega arith) high low)

pub returns : goal.returns
returns c =
    let left = c.args.from.now.left in
    let n = c.args.width in
    let mid = c.bits-2.new.self in
    let new = c.bits-3.new.self in
    let high = read_some (read_u (n - 32) left) c.in_ok-bits.field-0 c.args.from.now mid c.in_ok-bits.ensures.value c.in_ok-bits.ensures.after in
    let low = read_some (read_u 32 mid.left) c.in_ok-bits-2.field-0 mid new c.in_ok-bits-2.ensures.value c.in_ok-bits-2.ensures.after in
    rw (c.from-high.ensures, c.from-low.ensures)
    (some_long n c.in_ok-bits.field-0 c.in_ok-bits-2.field-0 left mid.left new.left (omega arith) (omega arith) (omega arith) high low)
