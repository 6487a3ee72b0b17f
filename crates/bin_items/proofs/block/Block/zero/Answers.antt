use Rattle.std.proofs.Common.{ap, List, ℤ}
use Rattle.bin_items.specs.Square.{Square}
use Rattle.bin_items.proofs.Places.{zeros}
use Rattle.bin_items.proofs.block.Block.zero.Goals as goal

pub returns : goal.returns
returns c = ap (λ (levels : List ℤ). let s : Square = record { log2 = c.args.log2; levels = levels } in s) (zeros c.args.log2 c.requires.from c.requires.to)
