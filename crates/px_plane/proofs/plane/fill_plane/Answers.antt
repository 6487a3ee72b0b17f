use Rattle.std.proofs.Common.{◌≡◌, ◌+◌, ◌*◌, ◌-◌, ◌≤◌, length, replicate, arith, rules, take, drop, ap, ◌∙◌, ℕ}
use Rattle.std.proofs.lemmas.List.{places, get_or-replicate, length-replicate}
use Rattle.px_plane.proofs.Rows.{row_put, row_ends}
use Rattle.px_plane.proofs.plane.fill_plane.Goals as goal

pub loop-y-preserved : goal.loop-y-preserved
loop-y-preserved c =
    let part = c.args.part in
    let n : ℕ = part.right - part.left in
    let at : ℕ = c.loop-y.y * c.args.stride in
    let tall : (c.loop-y.y + 1) * c.args.stride ≤ length c.loop-y.plane = row_ends c.loop-y.y part.bottom c.args.stride (length c.loop-y.plane) (omega arith) (omega arith) in
    let width : at + part.right - (at + part.left) ≡ n = omega arith in
    let long : length (take n (drop (at + part.left) c.loop-y.plane)) ≡ n = search (places, rules) in
    let e : c.fill.new.self ≡ replicate n c.args.value = c.fill.ensures.after (λ v h. h) ∙ ap (λ (k : ℕ). replicate k c.args.value) (rw width long) in
    rw (width, e)
    (row_put c.loop-y.plane c.args.plane.now c.args.stride part.left part.right part.top c.loop-y.y (replicate n c.args.value) (λ x y. c.args.value)
    c.requires.across c.requires.wide tall (omega arith) (length-replicate n c.args.value)
    (λ x a b. get_or-replicate n (x - part.left) c.args.value 0 (omega arith)) c.loop-y.invariant)
