use Rattle.std.proofs.Common.{◌≡◌, length, rules}
use Rattle.bin_items.proofs.Places.{all}
use Rattle.bin_items.proofs.block.Block.log2.Goals as goal

pub returns-clause-whole : goal.returns-clause-whole
returns-clause-whole c =
    let b = c.self.inside in
    let h : length b.values ≡ 1024 = search rules in
    rw (← c.self.view_is) (all b.log2 b.values c.self.invariant.0 c.self.invariant.1 h)
