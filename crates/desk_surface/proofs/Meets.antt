-- Which tiles a rectangle meets.
use Rattle.std.proofs.Common.{◌≡◌, ℕ, ◌+◌, ◌*◌, ◌-◌, ◌/◌, ◌%◌, ◌<◌, ◌&&◌, true, min, nat_lt, nat_le, arith, sym, subst, mod-lt}
use Rattle.std.proofs.lemmas.Bool.Decides.{nat_tests}
use Rattle.std.proofs.lemmas.Nat.{div_below}
use Rattle.std.proofs.Math.Nat.{mul_comm}
use Rattle.h265_model.specs.declared.rect.Rect.{Rect}
use Rattle.h265_model.specs.Plain.{Size, ctus}
use Rattle.recorder_model.specs.Desk.{overlap, meets_tile}
use Rattle.h265_model.specs.Tiles.{tile_count}
use Rattle.px_plane.specs.Planes.{IsInside}
use Rattle.desk_surface.specs.Damage.{is_between}

-- along one axis: a span of n places from a, of which those below `end` count, meets the 32 places from 32 * c on
axis : (a n end c : ℕ) → a < end → 0 < n → c * 32 < end → overlap a n (c * 32) 32 end ≡ (nat_le (a / 32) c && nat_lt c ((a + (min (a + n) end - a) - 1) / 32 + 1))
axis a n end c inside some low = grind (arith, nat_tests)

overlap_inside : (a n b m end : ℕ) → overlap a n b m end ≡ true → (a < end) × (0 < n)
overlap_inside a n b m end is = (grind (arith, nat_tests), grind (arith, nat_tests))

column_low : (size : Size) (c : ℕ) → c < ctus size.w → c * 32 < size.w
column_low size c less = omega arith

row_low : (size : Size) (c : ℕ) → c < ctus size.h → c * 32 < size.h
row_low size c less = omega arith

row_below : (t across rows : ℕ) → 0 < across → t < across * rows → t / across < rows
row_below t across rows some less = div_below t across rows some (subst (λ (n : ℕ). t < n) (mul_comm across rows) less)

-- a tile meets a rectangle exactly where it is between the sides of the rectangle's part
pub meets_between : (size : Size) (r : Rect) (t : ℕ) → IsInside size r → t < tile_count size
    → is_between (r.x / 32) ((r.x + (min (r.x + r.w) size.w - r.x) - 1) / 32 + 1) (r.y / 32) ((r.y + (min (r.y + r.h) size.h - r.y) - 1) / 32 + 1) (t % ctus size.w) (t / ctus size.w) ≡ meets_tile size t r
meets_between size r t inside less =
    let some : 0 < ctus size.w = let a = inside.0 in omega arith in
    let column = axis r.x r.w size.w (t % ctus size.w) inside.0 inside.2 (column_low size (t % ctus size.w) (mod-lt t some)) in
    let row = axis r.y r.h size.h (t / ctus size.w) inside.1 inside.3 (row_low size (t / ctus size.w) (row_below t (ctus size.w) (ctus size.h) some less)) in
    sym (λ i. column i && row i)
