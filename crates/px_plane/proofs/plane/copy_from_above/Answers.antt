use Rattle.std.proofs.Common.{◌≡◌, ℕ, ◌+◌, ◌*◌, ◌-◌, ◌≤◌, length, get_or, ap, sym, subst, arith, refl}
use Rattle.px_plane.specs.Rows.{IsPutBetween, sample_from}
use Rattle.px_plane.proofs.Copies.{IsCopied, copied_from, copied_above}
use Rattle.px_plane.proofs.plane.copy_from_above.Goals as goal

pub loop-done-preserved : goal.loop-done-preserved
loop-done-preserved c =
    let part = c.args.part in
    let n : ℕ = part.right - part.left in
    let row : ℕ = part.bottom - part.top - 1 - c.loop-done.done in
    let j : ℕ = part.top + row in
    let from_row : ℕ = c.args.from_y + row in
    let from : ℕ = from_row * c.args.stride + c.args.from_x in
    let at : ℕ = j * c.args.stride + part.left in
    let width : from + n - from ≡ n = omega arith in
    let moved : IsCopied c.loop-done.plane c.copy_within.new.self from at n = copied_from c.loop-done.plane c.copy_within.new.self from at n (rw width at c.copy_within.ensures.by_index) in
    let lower : part.bottom - c.loop-done.done ≡ j + 1 = omega arith in
    let here : part.bottom - (c.loop-done.done + 1) ≡ j = omega arith in
    let source : c.args.from_y + (j - part.top) ≡ from_row = omega arith in
    let f : ℕ → ℕ → ℕ = sample_from c.args.plane.now c.args.stride part c.args.from_x c.args.from_y in
    let known : IsPutBetween c.args.plane.now c.loop-done.plane c.args.stride part.left part.right (j + 1) part.bottom f = rw (← lower) c.loop-done.invariant in
    rw here
    (copied_above c.args.plane.now c.loop-done.plane c.copy_within.new.self c.args.stride part.left part.right c.args.from_x from_row j
    c.requires.across c.requires.wide c.requires.source_wide moved part.bottom f
    (omega arith) (omega arith) (λ x a b. ap (λ (m : ℕ). get_or c.args.plane.now (m * c.args.stride + (c.args.from_x + (x - part.left))) 0) (sym source)) known)

pub returns : goal.returns
returns c =
    let last : c.args.part.bottom - c.loop-done.done ≡ c.args.part.top = omega arith in
    let f : ℕ → ℕ → ℕ = sample_from c.args.plane.now c.args.stride c.args.part c.args.from_x c.args.from_y in
    subst (λ (top : ℕ). IsPutBetween c.args.plane.now c.loop-done.plane c.args.stride c.args.part.left c.args.part.right top c.args.part.bottom f) last c.loop-done.invariant
