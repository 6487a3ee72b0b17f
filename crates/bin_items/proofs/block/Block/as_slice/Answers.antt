use Rattle.std.proofs.Common.{refl}
use Rattle.bin_items.proofs.Places.{whole}
use Rattle.bin_items.proofs.block.Block.as_slice.Goals as goal

pub shared_ref_as_front-result : goal.shared_ref_as_front-result
shared_ref_as_front-result c = (whole c.self.inside.log2 c.self.invariant.0 c.self.invariant.1).small

pub returns : goal.returns
returns c = let w = whole c.self.inside.log2 c.self.invariant.0 c.self.invariant.1 in rw (w.is_area, ← c.self.view_is) refl
