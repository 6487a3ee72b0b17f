-- The order of coding is one of whole squares of 8.
use Rattle.std.proofs.Common.{◌≡◌, ℕ, zero, suc, ◌+◌, ◌*◌, ◌/◌, ◌%◌, ◌<◌, ltb, Some, None, refl, sym, ◌∙◌, arith, cond, inl, inr}
use Rattle.std.proofs.lemmas.Bool.{cases_lt, lt-ltb, le-ltb}
use Rattle.h265_model.specs.Plain.{Size, Picture, ctus, coded}
use Rattle.h265_model.specs.Predict.{coding_order, z_order, seen, is_available}

abbrev pub square : ℕ → ℕ → ℕ → ℕ
square across x y = (y / 4 * across + x / 4) * 16 + (8 * (y / 2 % 2) + 4 * (x / 2 % 2) + 2 * (y % 2) + x % 2)

-- what is left within a square of 8
rest : ℕ → ℕ → ℕ
rest x y = z_order 3 (x % 8) (y % 8)

z_split : (x y : ℕ) → z_order 5 (x % 32) (y % 32) ≡ 64 * (8 * (y / 8 / 2 % 2) + 4 * (x / 8 / 2 % 2) + 2 * (y / 8 % 2) + x / 8 % 2) + rest x y
unfolding rest
z_split x y = omega arith

order_is : (size : Size) (x y : ℕ) → coding_order size x y ≡ 64 * square (ctus size.w) (x / 8) (y / 8) + rest x y
unfolding coding_order
order_is size x y =
    let rows : y / 8 / 4 ≡ y / 32 = omega arith in
    let columns : x / 8 / 4 ≡ x / 32 = omega arith in
    rw (rows, columns) (omega (arith, z_split x y))

rest_low : (x y : ℕ) → rest x y < 64
unfolding rest
rest_low x y = omega arith

rest_none : (x y : ℕ) → x % 8 ≡ 0 → y % 8 ≡ 0 → rest x y ≡ 0
unfolding rest
rest_none x y a b = rw (a, b) refl

scaled : (u v r : ℕ) → r < 64 → ltb (64 * u + r) (64 * v + 0) ≡ ltb u v
scaled u v r h =
    elim (cases_lt u v) [
      | inl less ↦ lt-ltb (64 * u + r) (64 * v + 0) (omega arith) ∙ sym (lt-ltb u v less)
      | inr more ↦ le-ltb (64 * u + r) (64 * v + 0) (omega arith) ∙ sym (le-ltb u v more)
    ]

pub order_agrees : (size : Size) (ax ay x y : ℕ) → ax % 8 ≡ 0 → ay % 8 ≡ 0
    → ltb (coding_order size x y) (coding_order size ax ay) ≡ ltb (square (ctus size.w) (x / 8) (y / 8)) (square (ctus size.w) (ax / 8) (ay / 8))
order_agrees size ax ay x y a b =
    rw (order_is size x y, order_is size ax ay, rest_none ax ay a b)
    (scaled (square (ctus size.w) (x / 8) (y / 8)) (square (ctus size.w) (ax / 8) (ay / 8)) (rest x y) (rest_low x y))

pub available_is : (size : Size) (ax ay x y u v : ℕ) → ax % 8 ≡ 0 → ay % 8 ≡ 0 → x < coded size.w → y < coded size.h
    → u ≡ square (ctus size.w) (x / 8) (y / 8) → v ≡ square (ctus size.w) (ax / 8) (ay / 8) → ltb u v ≡ is_available size ax ay x y
available_is size ax ay x y u v a b in_x in_y at_u at_v =
    rw (lt-ltb x (coded size.w) in_x, lt-ltb y (coded size.h) in_y, order_agrees size ax ay x y a b, at_u, at_v) refl

-- ---- eight places of one square are all available, or none is

below_whole : (a k w : ℕ) → k < 8 → a % 8 ≡ 0 → w % 8 ≡ 0 → ltb (a + k) w ≡ ltb a w
below_whole a k w hk ha hw =
    elim (cases_lt a w) [
      | inl less ↦ lt-ltb (a + k) w (omega arith) ∙ sym (lt-ltb a w less)
      | inr more ↦ le-ltb (a + k) w (omega arith) ∙ sym (le-ltb a w more)
    ]

coded_whole : (n : ℕ) → coded n % 8 ≡ 0
coded_whole n = omega arith

pub column_same : (size : Size) (ax ay x row k : ℕ) → ax % 8 ≡ 0 → ay % 8 ≡ 0 → row % 8 ≡ 0 → k < 8
    → is_available size ax ay x (row + k) ≡ is_available size ax ay x row
column_same size ax ay x row k a b r h =
    let e : (row + k) / 8 ≡ row / 8 = omega arith in
    rw (below_whole row k (coded size.h) h r (coded_whole size.h), order_agrees size ax ay x (row + k) a b, order_agrees size ax ay x row a b, e) refl

pub row_same : (size : Size) (ax ay column y k : ℕ) → ax % 8 ≡ 0 → ay % 8 ≡ 0 → column % 8 ≡ 0 → k < 8
    → is_available size ax ay (column + k) y ≡ is_available size ax ay column y
row_same size ax ay column y k a b r h =
    let e : (column + k) / 8 ≡ column / 8 = omega arith in
    rw (below_whole column k (coded size.w) h r (coded_whole size.w), order_agrees size ax ay (column + k) y a b, order_agrees size ax ay column y a b, e) refl

-- ---- what is seen

pub seen_inner : (size : Size) (picture : Picture) (component ax ay x y u v : ℕ) → x ≡ u + 1 → y ≡ v + 1
    → seen size picture component ax ay x y ≡ cond (is_available size ax ay u v) (Some (picture component u v)) None
seen_inner size picture component ax ay zero y u v a b = absurd (omega arith)
seen_inner size picture component ax ay (suc x) zero u v a b = absurd (omega arith)
seen_inner size picture component ax ay (suc x) (suc y) u v a b =
    let ex : x ≡ u = omega arith in let ey : y ≡ v = omega arith in rw (ex, ey) refl

pub seen_left_of_all : (size : Size) (picture : Picture) (component ax ay y : ℕ) → seen size picture component ax ay zero y ≡ None
seen_left_of_all size picture component ax ay y = refl

pub seen_above_all : (size : Size) (picture : Picture) (component ax ay x : ℕ) → seen size picture component ax ay x zero ≡ None
seen_above_all size picture component ax ay zero = refl
seen_above_all size picture component ax ay (suc x) = refl
