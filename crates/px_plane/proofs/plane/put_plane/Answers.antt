use Rattle.std.proofs.Common.{◌≡◌, ◌+◌, ◌*◌, ◌-◌, ◌≤◌, length, arith, rules, take, drop, ap, ◌∙◌, ℕ}
use Rattle.std.proofs.lemmas.List.{places, get_or-take, get_or-drop}
use Rattle.px_plane.specs.Rows.{row_sample}
use Rattle.px_plane.proofs.Rows.{row_put, row_ends}
use Rattle.px_plane.proofs.plane.put_plane.Goals as goal

pub loop-y-preserved : goal.loop-y-preserved
loop-y-preserved c =
    let part = c.args.part in
    let n : ℕ = part.right - part.left in
    let at : ℕ = c.loop-y.y * c.args.stride in
    let from : ℕ = (c.loop-y.y - part.top) * n in
    let rows : (c.loop-y.y - part.top + 1) * n ≤ length c.args.samples.now = row_ends (c.loop-y.y - part.top) (part.bottom - part.top) n (length c.args.samples.now) (omega arith) (omega arith) in
    let tall : (c.loop-y.y + 1) * c.args.stride ≤ length c.loop-y.plane = row_ends c.loop-y.y part.bottom c.args.stride (length c.loop-y.plane) (omega arith) (omega arith) in
    let width : at + part.right - (at + part.left) ≡ n = omega arith in
    let taken : from + n - from ≡ n = omega arith in
    let after : c.copy_from_slice.new.self ≡ take n (drop from c.args.samples.now) = c.copy_from_slice.ensures.after ∙ ap (λ (k : ℕ). take k (drop from c.args.samples.now)) taken in
    let within : from + n ≤ length c.args.samples.now = omega arith in
    let long : length (take n (drop from c.args.samples.now)) ≡ n = search (places, rules) in
    rw (width, after)
    (row_put c.loop-y.plane c.args.plane.now c.args.stride part.left part.right part.top c.loop-y.y (take n (drop from c.args.samples.now)) (row_sample part c.args.samples.now)
    c.requires.across c.requires.wide tall (omega arith) long
    (λ x a b. get_or-take n (drop from c.args.samples.now) (x - part.left) 0 (omega arith) ∙ get_or-drop from c.args.samples.now (x - part.left) 0) c.loop-y.invariant)
