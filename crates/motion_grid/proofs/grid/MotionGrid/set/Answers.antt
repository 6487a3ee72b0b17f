use Rattle.std.proofs.Common.{◌≡◌, sym, ap, ◌+◌, ◌-◌, ◌*◌, ◌%◌, ◌^◌, ◌≤◌, arith, ◌∙◌}
use Rattle.std.specs.Vec.{with_items}
use Rattle.std.proofs.lemmas.List.{with_items_is}
use Rattle.std.proofs.lemmas.Nat.{one_shl}
use Rattle.h265_model.specs.Plain.{coded}
use Rattle.motion_grid.specs.Cells.{Cells, blocks}
use Rattle.motion_grid.proofs.Filling.{filled_as}
use Rattle.motion_grid.proofs.Placing.{ends_within, tall_within, set_is}
use Rattle.motion_grid.proofs.grid.MotionGrid.set.Goals as goal

pub fill_square-requires-clause-wide : goal.fill_square-requires-clause-wide
fill_square-requires-clause-wide c =
    let log2 = c.args.block.log2 in
    let p : 1 * 2 ^ (log2 - 3) % 2 ^ 64 ≡ 2 ^ (log2 - 3) = one_shl (log2 - 3) 64 (omega arith) in
    let across : c.args.block.x + 2 ^ log2 ≤ coded c.self.inside.size.w = rw (ap (λ (g : Cells). g.size.w) c.self.view_is) c.requires.across in
    rw (p, c.blocks_of-columns.ensures.value, c.w.ensures.value) (ends_within c.args.block.x log2 c.self.inside.size.w c.requires.low c.requires.high c.requires.column across)

pub fill_square-requires-clause-tall : goal.fill_square-requires-clause-tall
fill_square-requires-clause-tall c =
    let log2 = c.args.block.log2 in
    let p : 1 * 2 ^ (log2 - 3) % 2 ^ 64 ≡ 2 ^ (log2 - 3) = one_shl (log2 - 3) 64 (omega arith) in
    let down : c.args.block.y + 2 ^ log2 ≤ coded c.self.inside.size.h = rw (ap (λ (g : Cells). g.size.h) c.self.view_is) c.requires.down in
    rw (p, c.blocks_of-columns.ensures.value, c.w.ensures.value, c.deref_mut.ensures.value)
    (tall_within _ _ _ _ (ends_within c.args.block.y log2 c.self.inside.size.h c.requires.low c.requires.high c.requires.row down) c.self.invariant.long)

pub returns-clause-set : goal.returns-clause-set
returns-clause-set c =
    let log2 = c.args.block.log2 in
    let inside = c.self.inside in
    let p : 1 * 2 ^ (log2 - 3) % 2 ^ 64 ≡ 2 ^ (log2 - 3) = one_shl (log2 - 3) 64 (omega arith) in
    let new : (with_items inside.cells c.fill_square.new.cells).items ≡ c.fill_square.new.cells = with_items_is inside.cells c.fill_square.new.cells (omega (arith, inside.cells.ok)) in
    let columns : c.blocks_of-columns.result ≡ blocks c.args.self.now.size.w = c.blocks_of-columns.ensures.value ∙ ap blocks (c.w.ensures.value ∙ ap (λ (g : Cells). g.size.w) c.self.view_is) in
    set_is c.args.self.now _ c.args.block.x c.args.block.y log2 c.args.vector _ c.requires.low c.requires.high c.requires.column c.requires.row c.requires.across c.requires.down
    (ap (λ (g : Cells). g.size) c.self.view_is) p
    (filled_as _ _ _ _ _ _ _ _ _ _ _ (c.deref_mut.ensures.value ∙ ap (λ (g : Cells). g.cells) c.self.view_is) (sym new) columns c.fill_square.ensures)
