use Rattle.std.proofs.Common.{◌∙◌, arith}
use Rattle.cabac_dec.proofs.Words.{four_bytes}
use Rattle.cabac_dec.proofs.window.word_of.Goals as goal

pub returns : goal.returns
returns c = c.from_be_bytes.ensures ∙ four_bytes c.args.bytes.now c.if-bytes-lt4.false (λ i. let h = c.type_inv.bytes i in omega arith)
