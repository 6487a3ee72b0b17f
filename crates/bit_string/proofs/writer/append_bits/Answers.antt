use Rattle.std.proofs.Common.{◌+◌, ◌*◌, ◌%◌, ◌^◌, ◌++◌, sym, ◌∙◌, ap, append_assoc, bit_or, arith}
use Rattle.h265_model.specs.Bits.{bits, u}
use Rattle.bit_string.proofs.Digits.{u-last, u-word}
use Rattle.bit_string.proofs.writer.append_bits.Goals as goal

pub returns-clause-ok : goal.returns-clause-ok
returns-clause-ok c =
    let word = bit_or (c.args.last * 2 ^ c.args.n % 2 ^ 64) c.args.v in
    let front = bits c.args.bytes.now.items in
    ap (λ l. bits c.append_bytes.new.bytes.items ++ l) (u-last ((c.args.held + c.args.n) % 8) word (omega arith))
    ∙ c.in_ok-append_bytes.ensures.ok
    ∙ ap (λ l. front ++ l) (u-word c.args.held c.args.n c.args.last c.args.v (omega arith) c.requires.most_bits c.requires.below)
    ∙ sym (append_assoc front (u c.args.held c.args.last) (u c.args.n c.args.v))
