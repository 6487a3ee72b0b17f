use Rattle.std.proofs.Common.{◌≡◌, ◌+◌, ◌*◌, ◌-◌, ◌≤◌, ℕ, length, take, drop, arith, rules, ◌∙◌}
use Rattle.std.proofs.lemmas.List.{places}
use Rattle.motion_grid.proofs.Filling.{row_filled, row_ends, part_filled}
use Rattle.motion_grid.proofs.cells.fill_square.Goals as goal

pub loop-y-preserved : goal.loop-y-preserved
loop-y-preserved c =
    let at : ℕ = c.loop-y.y * c.args.columns + c.args.left in
    let n : ℕ = c.args.side in
    let tall : (c.loop-y.y + 1) * c.args.columns ≤ length c.loop-y.cells = row_ends c.loop-y.y (c.args.top + c.args.side) c.args.columns (length c.loop-y.cells) (omega arith) (omega arith) in
    let width : at + n - at ≡ n = omega arith in
    let long : length (take n (drop at c.loop-y.cells)) ≡ n = search (places, rules) in
    let same : length (take (at + n - at) (drop at c.loop-y.cells)) ≡ n = rw width long in
    let filled = part_filled c.loop-y.cells c.fill_row.new.row at (at + n - at) n c.args.cell width (omega arith) c.fill_row.ensures in
    rw width
    (row_filled c.loop-y.cells c.args.cells.now c.args.columns c.args.left n c.args.top c.loop-y.y c.fill_row.new.row c.args.cell c.requires.wide tall (omega arith) (c.fill_row.auto.row ∙ same) filled c.loop-y.invariant)
