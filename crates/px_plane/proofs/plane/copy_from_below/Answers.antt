use Rattle.std.proofs.Common.{◌≡◌, ℕ, ◌+◌, ◌*◌, ◌-◌, ◌≤◌, length, get_or, ap, refl, sym, arith}
use Rattle.px_plane.specs.Rows.{sample_from}
use Rattle.px_plane.proofs.Copies.{IsCopied, copied_from, copied_below, few_rows}
use Rattle.px_plane.proofs.plane.copy_from_below.Goals as goal

pub overflow_add-from : goal.overflow_add-from
overflow_add-from c =
    let rows = few_rows (c.args.from_y + (c.args.part.bottom - c.args.part.top)) c.args.stride (length c.args.plane.now) c.requires.some c.requires.source_tall in
    omega arith

pub loop-y-preserved : goal.loop-y-preserved
loop-y-preserved c =
    let part = c.args.part in
    let n : ℕ = part.right - part.left in
    let row : ℕ = c.args.from_y + (c.loop-y.y - part.top) in
    let from : ℕ = row * c.args.stride + c.args.from_x in
    let at : ℕ = c.loop-y.y * c.args.stride + part.left in
    let width : from + n - from ≡ n = omega arith in
    let moved : IsCopied c.loop-y.plane c.copy_within.new.self from at n = copied_from c.loop-y.plane c.copy_within.new.self from at n (rw width at c.copy_within.ensures.by_index) in
    copied_below c.args.plane.now c.loop-y.plane c.copy_within.new.self c.args.stride part.left part.right c.args.from_x row c.loop-y.y
    c.requires.across c.requires.wide c.requires.source_wide moved part.top (sample_from c.args.plane.now c.args.stride part c.args.from_x c.args.from_y)
    (omega arith) (omega arith) (λ x a b. refl) c.loop-y.invariant

pub returns : goal.returns
returns c =
    let last : c.loop-y.y ≡ c.args.part.bottom = omega arith in
    rw (← last) c.loop-y.invariant
