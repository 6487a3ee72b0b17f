use Rattle.std.proofs.Common.{◌≡◌, ◌+◌, ◌*◌, ◌-◌, ◌≤◌, length, arith, rules, get_or, take, drop, ap, refl, ◌∙◌, ℕ, List}
use Rattle.std.proofs.lemmas.List.{places, get_or-take, get_or-drop}
use Rattle.std.proofs.lemmas.Nat.{mul-le}
use Rattle.h265_model.specs.Raster.{black}
use Rattle.h265_model.specs.Raster.{component}
use Rattle.h265_model.specs.declared.rgb.Rgb.{Rgb}
use Rattle.px_plane.specs.Planes.{pixel_at}
use Rattle.px_plane.proofs.Rows.{row_put, row_ends}
use Rattle.px_plane.proofs.plane.blit_plane.Goals as goal

pub loop-y-preserved : goal.loop-y-preserved
loop-y-preserved c =
    let part = c.args.part in
    let pixels : List Rgb = c.args.pixels.now in
    let n : ℕ = part.right - part.left in
    let at : ℕ = c.loop-y.y * c.args.stride in
    let from : ℕ = (c.loop-y.y - part.top) * c.args.rect.w in
    let tall : (c.loop-y.y + 1) * c.args.stride ≤ length c.loop-y.plane = row_ends c.loop-y.y part.bottom c.args.stride (length c.loop-y.plane) (omega arith) (omega arith) in
    let width : at + part.right - (at + part.left) ≡ n = omega arith in
    let taken : from + n - from ≡ n = omega arith in
    let place : length (take n (drop (at + part.left) c.loop-y.plane)) ≡ n = search (places, rules) in
    let long : length c.blit_row.new.row ≡ n = c.blit_row.auto.row ∙ rw width place in
    let last : (c.loop-y.y - part.top + 1) * c.args.rect.w ≤ c.args.rect.h * c.args.rect.w =
    mul-le (c.loop-y.y - part.top + 1) c.args.rect.w c.args.rect.h c.args.rect.w (omega arith) (omega arith) in
    let all : from + n ≤ length pixels = omega arith in
    let read : length (take (from + n - from) (drop from pixels)) ≡ n = rw taken (search (places, rules)) in
    let top : part.top ≡ c.args.rect.y = c.requires.placed.top in
    let left : part.left ≡ c.args.rect.x = c.requires.placed.left in
    rw width
    (row_put c.loop-y.plane c.args.plane.now c.args.stride part.left part.right part.top c.loop-y.y c.blit_row.new.row (λ x y. component c.args.number (pixel_at c.args.rect pixels x y))
    c.requires.across c.requires.wide tall (omega arith) long
    (λ x a b.
    c.blit_row.ensures (x - part.left) (rw read (omega arith))
    ∙ ap (component c.args.number)
    (get_or-take (from + n - from) (drop from pixels) (x - part.left) black (omega arith)
    ∙ (get_or-drop from pixels (x - part.left) black ∙ ap (λ (k : ℕ). get_or pixels k black) (rw (top, left) refl)))) c.loop-y.invariant)
