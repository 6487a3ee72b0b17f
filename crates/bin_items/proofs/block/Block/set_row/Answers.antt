use Rattle.std.proofs.Common.{rules, ◌≡◌, ap, sym, refl, ◌∙◌, length, arith, ◌+◌, ◌-◌, ◌*◌, ◌^◌, ◌%◌, List, take, ℤ}
use borrow.Rule.Slice.PartMut.{put_mid}
use Rattle.bin_items.specs.Square.{Square, area}
use Rattle.bin_items.proofs.Places.{row_at, put_row}
use Rattle.bin_items.proofs.block.Block.set_row.Goals as goal

pub slice_bounds-copy_from_slice-end : goal.slice_bounds-copy_from_slice-end
slice_bounds-copy_from_slice-end c =
    let b = c.self.inside in
    let r = row_at b.log2 c.args.y (length c.args.row.now) c.self.invariant.0 c.self.invariant.1 (rw (← c.self.view_is) at c.requires.in_block) (rw (← c.self.view_is) at c.requires.as_many) in
    let w = r.within in
    let s = r.small in
    omega arith

pub returns : goal.returns
returns c =
    let b = c.self.inside in
    let row = c.args.row.now in
    let at = c.args.y * 2 ^ b.log2 % 2 ^ 32 in
    let r = row_at b.log2 c.args.y (length row) c.self.invariant.0 c.self.invariant.1 (rw (← c.self.view_is) at c.requires.in_block) (rw (← c.self.view_is) at c.requires.as_many) in
    let h : length b.values ≡ 1024 = search rules in
    let size : at + length row - at ≡ length row = omega arith in
    let is : row ≡ c.copy_from_slice.new.self = search rules in
    rw (← c.self.view_is) (ap (λ (levels : List ℤ). let s : Square = record { log2 = b.log2; levels = levels } in s)
    (ap (λ n. take (area b.log2) (put_mid at n b.values c.copy_from_slice.new.self)) size ∙ ap (λ l. take (area b.log2) (put_mid at (length row) b.values l)) (sym is)
    ∙ put_row b.log2 c.args.y at (length row) b.values _ row r h refl refl))
