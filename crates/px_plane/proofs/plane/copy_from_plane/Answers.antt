use Rattle.std.proofs.Common.{◌≡◌, ◌+◌, ◌*◌, ◌-◌, ◌≤◌, length, arith, rules, get_or, take, drop, ap, ◌∙◌, ℕ}
use Rattle.std.proofs.lemmas.List.{places, get_or-take, get_or-drop}
use Rattle.px_plane.proofs.Rows.{row_put, row_ends}
use Rattle.px_plane.proofs.plane.copy_from_plane.Goals as goal

pub overflow_add-from : goal.overflow_add-from
overflow_add-from c =
    let part = c.args.part in
    let rows : (c.args.from_y + (c.loop-y.y - part.top) + 1) * c.args.stride ≤ length c.args.other.now =
    row_ends (c.args.from_y + (c.loop-y.y - part.top)) (c.args.from_y + (part.bottom - part.top)) c.args.stride (length c.args.other.now) (omega arith) c.requires.from_tall in
    omega arith

pub loop-y-preserved : goal.loop-y-preserved
loop-y-preserved c =
    let part = c.args.part in
    let n : ℕ = part.right - part.left in
    let at : ℕ = c.loop-y.y * c.args.stride in
    let row : ℕ = c.args.from_y + (c.loop-y.y - part.top) in
    let from : ℕ = row * c.args.stride + c.args.from_x in
    let rows : (row + 1) * c.args.stride ≤ length c.args.other.now = row_ends row (c.args.from_y + (part.bottom - part.top)) c.args.stride (length c.args.other.now) (omega arith) c.requires.from_tall in
    let tall : (c.loop-y.y + 1) * c.args.stride ≤ length c.loop-y.plane = row_ends c.loop-y.y part.bottom c.args.stride (length c.loop-y.plane) (omega arith) (omega arith) in
    let width : at + part.right - (at + part.left) ≡ n = omega arith in
    let taken : from + n - from ≡ n = omega arith in
    let after : c.copy_from_slice.new.self ≡ take n (drop from c.args.other.now) = c.copy_from_slice.ensures.after ∙ ap (λ (k : ℕ). take k (drop from c.args.other.now)) taken in
    let within : from + n ≤ length c.args.other.now = omega arith in
    let long : length (take n (drop from c.args.other.now)) ≡ n = search (places, rules) in
    rw (width, after)
    (row_put c.loop-y.plane c.args.plane.now c.args.stride part.left part.right part.top c.loop-y.y (take n (drop from c.args.other.now))
    (λ x y. get_or c.args.other.now ((c.args.from_y + (y - part.top)) * c.args.stride + (c.args.from_x + (x - part.left))) 0)
    c.requires.across c.requires.wide tall (omega arith) long
    (λ x a b. get_or-take n (drop from c.args.other.now) (x - part.left) 0 (omega arith)
    ∙ (get_or-drop from c.args.other.now (x - part.left) 0 ∙ ap (λ (k : ℕ). get_or c.args.other.now k 0) (omega arith))) c.loop-y.invariant)
