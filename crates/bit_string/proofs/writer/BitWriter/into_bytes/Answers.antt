use Rattle.std.proofs.Common.{ℕ, ◌<◌, length, get_or, arith}
use Rattle.bit_string.proofs.Digits.{are_bytes, bytes-whole}
use Rattle.bit_string.proofs.writer.BitWriter.into_bytes.Goals as goal

pub returns : goal.returns
returns c =
    let w = c.self.inside in
    let each = λ (k : ℕ) (h : k < length w.bytes.items). let fits : get_or w.bytes.items k 0 < 256 = omega arith in fits in
    bytes-whole w.bytes.items w.held w.last c.args.self c.self.view_is c.self.invariant c.requires (are_bytes w.bytes.items each)
