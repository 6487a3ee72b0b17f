-- Eight neighbours beside each other.
use Rattle.std.proofs.Common.{List, get_or, ◌≡◌, ℕ, zero, suc, ◌+◌, ◌%◌, ◌-◌, ◌<◌, ◌≤◌, Bool, true, false, ltb, Option, Some, None, refl, sym, ◌∙◌, arith, cond}
use Rattle.std.proofs.lemmas.Bool.{and_parts, ltb-true}
use Rattle.std.specs.Prelude.{◌&&◌}
use Rattle.h265_model.specs.Plain.{Size, Picture, coded}
use Rattle.h265_model.specs.Predict.{is_available}
use Rattle.intra_refs.specs.Neighbours.{left_of, above, carried, IsFilled, AreAll}
use Rattle.intra_refs.proofs.Order.{column_same, row_same, seen_inner, seen_left_of_all, seen_above_all}

left_at : (size : Size) (picture : Picture) (component x y row j : ℕ) (b : Bool) → x % 8 ≡ 0 → y % 8 ≡ 0 → row % 8 ≡ 0 → 0 < x → j < 8
    → is_available size x y (x - 1) row ≡ b → left_of size picture component x y (row + 8 - j) ≡ cond b (Some (picture component (x - 1) (row + (7 - j)))) None
left_at size picture component x y row j b wx wy wr some h is =
    seen_inner size picture component x y x (row + 8 - j) (x - 1) (row + (7 - j)) (omega arith) (omega arith)
    ∙ rw (column_same size x y (x - 1) row (7 - j) wx wy wr (omega arith), is) refl

pub left_all : (size : Size) (picture : Picture) (component x y row : ℕ) (b : Bool) → x % 8 ≡ 0 → y % 8 ≡ 0 → row % 8 ≡ 0 → 0 < x
    → is_available size x y (x - 1) row ≡ b → AreAll b (λ j. left_of size picture component x y (row + 8 - j)) (λ j. picture component (x - 1) (row + (7 - j)))
left_all size picture component x y row true wx wy wr some is = λ j h. left_at size picture component x y row j true wx wy wr some h is
left_all size picture component x y row false wx wy wr some is = λ j h. left_at size picture component x y row j false wx wy wr some h is

pub left_none : (size : Size) (picture : Picture) (component x y row : ℕ) → x ≡ 0
    → AreAll false (λ j. left_of size picture component x y (row + 8 - j)) (λ j. picture component (x - 1) (row + (7 - j)))
left_none size picture component x y row none = rw none (λ j h. seen_left_of_all size picture component 0 y (row + 8 - j))

above_at : (size : Size) (picture : Picture) (component x y column j : ℕ) (b : Bool) → x % 8 ≡ 0 → y % 8 ≡ 0 → column % 8 ≡ 0 → 0 < y → j < 8
    → is_available size x y column (y - 1) ≡ b → above size picture component x y (column + j + 1) ≡ cond b (Some (picture component (column + j) (y - 1))) None
above_at size picture component x y column j b wx wy wc some h is =
    seen_inner size picture component x y (column + j + 1) y (column + j) (y - 1) (omega arith) (omega arith)
    ∙ rw (row_same size x y column (y - 1) j wx wy wc h, is) refl

pub above_all : (size : Size) (picture : Picture) (component x y column : ℕ) (b : Bool) → x % 8 ≡ 0 → y % 8 ≡ 0 → column % 8 ≡ 0 → 0 < y
    → is_available size x y column (y - 1) ≡ b → AreAll b (λ j. above size picture component x y (column + j + 1)) (λ j. picture component (column + j) (y - 1))
above_all size picture component x y column true wx wy wc some is = λ j h. above_at size picture component x y column j true wx wy wc some h is
above_all size picture component x y column false wx wy wc some is = λ j h. above_at size picture component x y column j false wx wy wc some h is

pub above_none : (size : Size) (picture : Picture) (component x y column : ℕ) → y ≡ 0
    → AreAll false (λ j. above size picture component x y (column + j + 1)) (λ j. picture component (column + j) (y - 1))
above_none size picture component x y column none = rw none (λ j h. seen_above_all size picture component x 0 (column + j + 1))

-- an available place is in the coded picture
pub available_inside : (size : Size) (ax ay x y : ℕ) → is_available size ax ay x y ≡ true → (x < coded size.w) × (y < coded size.h)
available_inside size ax ay x y is =
    let inside = and_parts (ltb x (coded size.w) && ltb y (coded size.h)) _ is in
    let parts = and_parts (ltb x (coded size.w)) (ltb y (coded size.h)) inside.0 in
    (ltb-true x (coded size.w) parts.0, ltb-true y (coded size.h) parts.1)

-- ---- filling eight places

pub filled_all : (out : List ℕ) (before : ℕ) (f : ℕ → Option ℕ) (samples : ℕ → ℕ) → AreAll true f samples
    → ((j : ℕ) → j < 8 → get_or out j 0 ≡ samples j) → IsFilled out before f 8
filled_all out before f samples are each = record { each = λ i h. each i h ∙ rw (are i h) refl }

pub carried_all : (out : List ℕ) (before : ℕ) (f : ℕ → Option ℕ) (samples : ℕ → ℕ) → AreAll true f samples
    → ((j : ℕ) → j < 8 → get_or out j 0 ≡ samples j) → get_or out 7 0 ≡ carried before f 8
carried_all out before f samples are each = each 7 (omega arith) ∙ rw (are 7 (omega arith)) refl

carried_kept : (before : ℕ) (f : ℕ → Option ℕ) (samples : ℕ → ℕ) → AreAll false f samples → (i : ℕ) → i ≤ 8 → carried before f i ≡ before
carried_kept before f samples are zero h = refl
carried_kept before f samples are (suc i) h = rw (are i (omega arith)) (carried_kept before f samples are i (omega arith))

pub filled_none : (out : List ℕ) (before : ℕ) (f : ℕ → Option ℕ) (samples : ℕ → ℕ) → AreAll false f samples
    → ((j : ℕ) → j < 8 → get_or out j 0 ≡ before) → IsFilled out before f 8
filled_none out before f samples are each = record { each = λ i h. each i h ∙ sym (carried_kept before f samples are (suc i) (omega arith)) }

pub carried_none : (before : ℕ) (f : ℕ → Option ℕ) (samples : ℕ → ℕ) → AreAll false f samples → before ≡ carried before f 8
carried_none before f samples are = sym (carried_kept before f samples are 8 (omega arith))
