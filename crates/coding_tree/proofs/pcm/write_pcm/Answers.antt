use Rattle.std.proofs.Common.{◌≡◌, sym, ap, ◌<◌, ◌≤◌, length, arith, rules}
use Rattle.std.proofs.lemmas.List.{length-take-le}
use Rattle.bin_items.specs.Growth.{sample_items}
use Rattle.bin_items.specs.Square.{area}
use Rattle.bin_items.proofs.Growing.{front_kept, writes_as, writes_at_err, writes_next, writes_took}
use Rattle.coding_tree.proofs.SampleLaws.{area_low, area_some}
use Rattle.coding_tree.proofs.pcm.write_pcm.Goals as goal

pub returns-in_err-bin-clause-taken : goal.returns-in_err-bin-clause-taken
returns-in_err-bin-clause-taken g c = λ before. writes_at_err _ _ _ _ _ c.from_residual.ensures.1 (front_kept _ _ _ c.in_err-bin.ensures.taken)

pub slice_bounds-planes-end : goal.slice_bounds-planes-end
slice_bounds-planes-end g c =
    let low : area c.args.leaf.block.log2 ≤ 1024 = area_low c.args.leaf.block.log2 c.requires.low c.requires.high in
    let long : length c.fill_planes-count.new.planes ≡ 3072 = search rules in
    rw c.fill_planes-count.ensures.count (omega arith)

pub slice_bounds-pcm-end : goal.slice_bounds-pcm-end
slice_bounds-pcm-end g c =
    let low : area c.args.leaf.block.log2 ≤ 1024 = area_low c.args.leaf.block.log2 c.requires.low c.requires.high in
    let long : length c.fill_planes-count.new.planes ≡ 3072 = search rules in
    let within : c.fill_planes-count.result ≤ length c.fill_planes-count.new.planes = rw (c.fill_planes-count.ensures.count, long) (omega arith) in
    sym (length-take-le c.fill_planes-count.result c.fill_planes-count.new.planes within)

pub pcm-requires-clause-some : goal.pcm-requires-clause-some
pcm-requires-clause-some g c =
    let some : 0 < area c.args.leaf.block.log2 = area_some c.args.leaf.block.log2 c.requires.low c.requires.high in
    let low : area c.args.leaf.block.log2 ≤ 1024 = area_low c.args.leaf.block.log2 c.requires.low c.requires.high in
    let long : length c.fill_planes-count.new.planes ≡ 3072 = search rules in
    let within : c.fill_planes-count.result ≤ length c.fill_planes-count.new.planes = rw (c.fill_planes-count.ensures.count, long) (omega arith) in
    rw (length-take-le c.fill_planes-count.result c.fill_planes-count.new.planes within, c.fill_planes-count.ensures.count) (omega arith)

pub returns-clause-taken : goal.returns-clause-taken
returns-clause-taken g c = λ before.
    writes_next _ _ _ _ _ _ c.in_ok-bin.ensures.taken (writes_as _ _ _ _ _ (ap sample_items c.fill_planes-count.ensures.samples) (writes_took _ _ _ _ c.pcm.ensures.taken))
