use Rattle.std.proofs.Common.{SFits, w16, ◌+◌, ◌*◌, ◌^◌, ◌%◌, ◌∙◌, ap, refl, List, ℤ, take, set, arith}
use Rattle.std.proofs.lemmas.Int.{to_z-of_z}
use Rattle.bin_items.specs.Square.{Square, area}
use Rattle.bin_items.proofs.Places.{found, put}
use Rattle.bin_items.proofs.block.Block.set.Goals as goal

pub bounds-self-inside-y : goal.bounds-self-inside-y
bounds-self-inside-y c =
    let b = c.self.inside in
    let f = found b.log2 c.args.x c.args.y c.self.invariant.0 c.self.invariant.1 (rw (← c.self.view_is) at c.requires.column) (rw (← c.self.view_is) at c.requires.row) in
    let e = f.is_place in
    let w = f.within in
    let s = f.small in
    omega arith

pub returns : goal.returns
returns c =
    let b = c.self.inside in
    let f = found b.log2 c.args.x c.args.y c.self.invariant.0 c.self.invariant.1 (rw (← c.self.view_is) at c.requires.column) (rw (← c.self.view_is) at c.requires.row) in
    let i = c.args.y * 2 ^ b.log2 % 2 ^ 32 + c.args.x in
    let fits : SFits w16 c.args.value = record { sfits = c.ranges.value.sfits } in
    let v = to_z-of_z w16 c.args.value fits in
    rw (← c.self.view_is) (ap (λ (levels : List ℤ). let s : Square = record { log2 = b.log2; levels = levels } in s) (ap (λ z. take (area b.log2) (set b.values i z)) v ∙ put b.log2 c.args.x c.args.y i b.values _ c.args.value f refl))
