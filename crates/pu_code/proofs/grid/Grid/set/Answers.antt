use Rattle.std.proofs.Common.{◌≡◌, sym, ap, ◌+◌, ◌-◌, ◌*◌, ◌%◌, ◌^◌, ◌≤◌, arith, ◌∙◌}
use Rattle.std.specs.Vec.{with_items}
use Rattle.std.proofs.lemmas.List.{with_items_is}
use Rattle.std.proofs.lemmas.Nat.{one_shl}
use Rattle.h265_model.specs.Plain.{coded}
use Rattle.pu_code.specs.Cells.{Cells, blocks}
use Rattle.pu_code.proofs.Filling.{filled_as}
use Rattle.pu_code.proofs.Placing.{ends_within, tall_within, set_is}
use Rattle.pu_code.proofs.grid.Grid.set.Goals as goal

pub fill_square-requires-clause-wide : goal.fill_square-requires-clause-wide
fill_square-requires-clause-wide c =
    let leaf = c.args.leaf in
    let p : 1 * 2 ^ (leaf.block.log2 - 3) % 2 ^ 64 ≡ 2 ^ (leaf.block.log2 - 3) = one_shl (leaf.block.log2 - 3) 64 (omega arith) in
    let across : leaf.block.x + 2 ^ leaf.block.log2 ≤ coded c.self.inside.size.w = rw (ap (λ (g : Cells). g.size.w) c.self.view_is) c.requires.across in
    rw (p, c.blocks_of-columns.ensures.value, c.w.ensures.value) (ends_within leaf.block.x leaf.block.log2 c.self.inside.size.w c.requires.low c.requires.high c.requires.column across)

pub fill_square-requires-clause-tall : goal.fill_square-requires-clause-tall
fill_square-requires-clause-tall c =
    let leaf = c.args.leaf in
    let p : 1 * 2 ^ (leaf.block.log2 - 3) % 2 ^ 64 ≡ 2 ^ (leaf.block.log2 - 3) = one_shl (leaf.block.log2 - 3) 64 (omega arith) in
    let down : leaf.block.y + 2 ^ leaf.block.log2 ≤ coded c.self.inside.size.h = rw (ap (λ (g : Cells). g.size.h) c.self.view_is) c.requires.down in
    rw (p, c.blocks_of-columns.ensures.value, c.w.ensures.value, c.deref_mut.ensures.value)
    (tall_within _ _ _ _ (ends_within leaf.block.y leaf.block.log2 c.self.inside.size.h c.requires.low c.requires.high c.requires.row down) c.self.invariant.long)

pub returns-clause-set : goal.returns-clause-set
returns-clause-set c =
    let leaf = c.args.leaf in
    let inside = c.self.inside in
    let p : 1 * 2 ^ (leaf.block.log2 - 3) % 2 ^ 64 ≡ 2 ^ (leaf.block.log2 - 3) = one_shl (leaf.block.log2 - 3) 64 (omega arith) in
    let new : (with_items inside.cells c.fill_square.new.cells).items ≡ c.fill_square.new.cells = with_items_is inside.cells c.fill_square.new.cells (omega (arith, inside.cells.ok)) in
    let columns : c.blocks_of-columns.result ≡ blocks c.args.self.now.size.w = c.blocks_of-columns.ensures.value ∙ ap blocks (c.w.ensures.value ∙ ap (λ (g : Cells). g.size.w) c.self.view_is) in
    set_is c.args.self.now _ leaf _ c.of.result c.requires (ap (λ (g : Cells). g.size) c.self.view_is) p c.of.ensures
    (filled_as _ _ _ _ _ _ _ _ _ _ _ (c.deref_mut.ensures.value ∙ ap (λ (g : Cells). g.cells) c.self.view_is) (sym new) columns c.fill_square.ensures)
