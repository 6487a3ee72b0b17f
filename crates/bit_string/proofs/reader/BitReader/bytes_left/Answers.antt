use Rattle.std.proofs.Common.{◌≡◌, ◌+◌, ◌-◌, ◌*◌, length, ap, ◌∙◌, sym, arith}
use Rattle.bit_string.specs.Parts.{Cursor}
use Rattle.bit_string.proofs.Windows.{long_left}
use Rattle.bit_string.proofs.reader.BitReader.bytes_left.Goals as goal

pub returns : goal.returns
returns c =
    let r = c.self.inside in
    let whole : length c.args.self.now.left ≡ 8 * length r.bytes.now - (8 * r.index + r.bit) = ap (λ (k : Cursor). length k.left) (sym c.self.view_is) ∙ long_left r.bytes.now (8 * r.index + r.bit) in
    omega (arith, whole)
