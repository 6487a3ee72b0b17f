use Rattle.std.proofs.Common.{◌≡◌, refl, sym, ◌∙◌, ap, ◌+◌, ◌*◌, ◌-◌, ◌≤◌, ◌%◌, ◌^◌, ◌++◌, length, take, arith, rules}
use Rattle.std.specs.Prelude.{map, nat_abs}
use Rattle.bin_items.specs.Square.{area}
use Rattle.bin_items.proofs.Places.{whole}
use Rattle.coding_tree.proofs.SampleLaws.{are_samples, samples_back, put_behind, part_long}
use Rattle.coding_tree.proofs.pcm.append_samples.Goals as goal

pub slice_bounds-copy_samples-end : goal.slice_bounds-copy_samples-end
slice_bounds-copy_samples-end g c =
    let side = c.log2.ensures.value ∙ c.samples.ensures.samples.side in
    let size : 1 * 2 ^ (2 * c.log2.result) % 2 ^ 64 ≡ area c.args.leaf.block.log2 = ap (λ n. 1 * 2 ^ (2 * n) % 2 ^ 64) side ∙ (whole c.args.leaf.block.log2 c.requires.low c.requires.high).is_area in
    rw size c.requires.room

pub copy_samples-requires-clause-long : goal.copy_samples-requires-clause-long
copy_samples-requires-clause-long g c =
    let n = area c.args.leaf.block.log2 in
    let at = c.args.at in
    let h = c.samples.ensures.samples in
    let size : 1 * 2 ^ (2 * c.log2.result) % 2 ^ 64 ≡ n = ap (λ n. 1 * 2 ^ (2 * n) % 2 ^ 64) (c.log2.ensures.value ∙ h.side) ∙ (whole c.args.leaf.block.log2 c.requires.low c.requires.high).is_area in
    let long : length c.args.planes.now ≡ 3072 = search rules in
    ap length c.as_slice.ensures ∙ (c.log2.ensures.whole ∙ (ap area h.side
    ∙ sym (part_long c.args.planes.now at n _ (ap (λ k. at + k - at) size ∙ omega arith) (rw long c.requires.room))))

pub copy_samples-requires-clause-bounds : goal.copy_samples-requires-clause-bounds
copy_samples-requires-clause-bounds g c = let h = c.samples.ensures.samples in rw (c.as_slice.ensures, h.samples) (are_samples _ h.fit)

pub returns-clause-samples : goal.returns-clause-samples
returns-clause-samples g c =
    let n = area c.args.leaf.block.log2 in
    let at = c.args.at in
    let h = c.samples.ensures.samples in
    let size : 1 * 2 ^ (2 * c.log2.result) % 2 ^ 64 ≡ n = ap (λ n. 1 * 2 ^ (2 * n) % 2 ^ 64) (c.log2.ensures.value ∙ h.side) ∙ (whole c.args.leaf.block.log2 c.requires.low c.requires.high).is_area in
    let long : length c.args.planes.now ≡ 3072 = search rules in
    let room : at + n ≤ length c.args.planes.now = rw long c.requires.room in
    let same : at + n - at ≡ n = omega arith in
    let part : length c.copy_samples.new.out ≡ n = c.copy_samples.auto.out ∙ part_long c.args.planes.now at n _ (ap (λ k. at + k - at) size ∙ same) room in
    rw (size, same) (put_behind c.args.planes.now c.copy_samples.new.out (take at c.args.planes.now) at n refl room part
    ∙ ap (λ l. take at c.args.planes.now ++ l) (c.copy_samples.ensures ∙ (ap (map nat_abs) (c.as_slice.ensures ∙ h.samples) ∙ samples_back _)))
