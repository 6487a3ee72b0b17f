-- What filling a part of a row leaves in rows of cells.
use Rattle.std.proofs.Common.{◌≡◌, ℕ, ◌+◌, ◌*◌, ◌-◌, ◌<◌, ◌≤◌, true, false, cond, List, length, get_or, take, drop, arith, ◌∙◌, ap, inl, inr, ◌⊎◌, Option, Some, None}
use Rattle.std.proofs.lemmas.List.{places}
use Rattle.std.proofs.lemmas.Bool.{cases_lt, cases_order, cond-false}
use Rattle.std.proofs.lemmas.Bool.Decides.{nat_tests}
use Rattle.std.proofs.lemmas.Nat.{mul-le}
use Rattle.std.specs.Option.{option_or}
use borrow.Rule.Slice.PartMut.{put_mid}
use Rattle.motion_grid.specs.declared.cells.Cell.{Cell}
use Rattle.motion_grid.specs.Cells.{is_within, IsFilled}

-- a place before, in or behind what was written
at_before : (xs ys : List (Option Cell)) (a k i : ℕ) → a ≤ length xs → i < a → get_or (put_mid a k xs ys) i None ≡ get_or xs i None
at_before xs ys a k i le lt = grind (arith, places)

at_in : (xs ys : List (Option Cell)) (a k i j : ℕ) → a ≤ length xs → i ≡ a + j → j < length ys → get_or (put_mid a k xs ys) i None ≡ get_or ys j None
at_in xs ys a k i j le e lt = grind (arith, places)

at_behind : (xs ys : List (Option Cell)) (a k i : ℕ) → a + k ≤ length xs → length ys ≡ k → a + k ≤ i → get_or (put_mid a k xs ys) i None ≡ get_or xs i None
at_behind xs ys a k i le e lt = grind (arith, places)

-- a lower row ends before a higher one begins
rows_apart : (columns x y j : ℕ) → x < columns → y < j → y * columns + x < j * columns
rows_apart columns x y j in_row less =
    let h : (y + 1) * columns ≤ j * columns = mul-le (y + 1) columns j columns (omega arith) (omega arith) in omega arith

-- the row j adds only its own places between the sides
abbrev Other : ℕ → ℕ → ℕ → ℕ → ℕ → Type 0
Other left right j x y = (x < left) ⊎ ((right ≤ x) ⊎ ((y < j) ⊎ (j < y)))

within_other : (left right top j x y : ℕ) → Other left right j x y → is_within left right top (j + 1) x y ≡ is_within left right top j x y
within_other left right top j x y (inl h) = grind (arith, nat_tests)
within_other left right top j x y (inr (inl h)) = grind (arith, nat_tests)
within_other left right top j x y (inr (inr (inl h))) = grind (arith, nat_tests)
within_other left right top j x y (inr (inr (inr h))) = grind (arith, nat_tests)

within_row : (left right top j x : ℕ) → left ≤ x → x < right → top ≤ j → is_within left right top (j + 1) x j ≡ true
within_row left right top j x a b c = grind (arith, nat_tests)

not_yet : (left right top j x : ℕ) → is_within left right top j x j ≡ false
not_yet left right top j x = grind (arith, nat_tests)

-- the place is in the row between the sides, or other
which : (left right j x y : ℕ) → (y ≡ j) × ((left ≤ x) × (x < right)) ⊎ Other left right j x y
which left right j x y =
    elim (cases_order y j) [
      | inr (inl less) ↦ inr (inr (inr (inl less)))
      | inr (inr more) ↦ inr (inr (inr (inr more)))
      | inl same ↦ elim (cases_lt x left) [
        | inl h ↦ inr (inl h)
        | inr h ↦ elim (cases_lt x right) [ inl k ↦ inl (same, (h, k)) | inr k ↦ inr (inr (inl k)) ]
      ]
    ]

-- the cells with these in the row j between the sides
abbrev written : List (Option Cell) → ℕ → ℕ → ℕ → ℕ → List (Option Cell) → List (Option Cell)
written now columns left side j row = put_mid (j * columns + left) side now row

-- the place is before or behind what was written
abbrev Apart : ℕ → ℕ → ℕ → ℕ → ℕ → ℕ → Type 0
Apart columns left side j x y = (y * columns + x < j * columns + left) ⊎ (j * columns + left + side ≤ y * columns + x)

place_in_row : (columns left side j x y : ℕ) → y ≡ j → (x < left) ⊎ (left + side ≤ x) → Apart columns left side j x y
place_in_row columns left side j x y same (inl h) = inl (rw same (omega arith))
place_in_row columns left side j x y same (inr h) = inr (rw same (omega arith))

place_in_other : (columns left side j x y : ℕ) → left + side ≤ columns → x < columns → (y < j) ⊎ (j < y) → Apart columns left side j x y
place_in_other columns left side j x y wide in_row (inl less) =
    let h = rows_apart columns x y j in_row less in inl (omega arith)
place_in_other columns left side j x y wide in_row (inr more) =
    let h : (j + 1) * columns ≤ y * columns = mul-le (j + 1) columns y columns (omega arith) (omega arith) in inr (omega arith)

place_other : (columns left side j x y : ℕ) → left + side ≤ columns → x < columns → Other left (left + side) j x y → Apart columns left side j x y
place_other columns left side j x y wide in_row (inr (inr h)) = place_in_other columns left side j x y wide in_row h
place_other columns left side j x y wide in_row (inl h) =
    elim (cases_order y j) [ inl same ↦ place_in_row columns left side j x y same (inl h) | inr k ↦ place_in_other columns left side j x y wide in_row k ]
place_other columns left side j x y wide in_row (inr (inl h)) =
    elim (cases_order y j) [ inl same ↦ place_in_row columns left side j x y same (inr h) | inr k ↦ place_in_other columns left side j x y wide in_row k ]

written_other : (now : List (Option Cell)) (columns left side j : ℕ) (row : List (Option Cell)) (i : ℕ) → (j + 1) * columns ≤ length now → left + side ≤ columns → length row ≡ side
    → (i < j * columns + left) ⊎ (j * columns + left + side ≤ i) → get_or (written now columns left side j row) i None ≡ get_or now i None
written_other now columns left side j row i tall wide long (inl h) = at_before now row (j * columns + left) side i (omega arith) h
written_other now columns left side j row i tall wide long (inr h) = at_behind now row (j * columns + left) side i (omega arith) long h

written_row : (now : List (Option Cell)) (columns left side j : ℕ) (row : List (Option Cell)) (x : ℕ) → (j + 1) * columns ≤ length now → left + side ≤ columns → length row ≡ side → left ≤ x → x < left + side
    → get_or (written now columns left side j row) (j * columns + x) None ≡ get_or row (x - left) None
written_row now columns left side j row x tall wide long a b =
    at_in now row (j * columns + left) side (j * columns + x) (x - left) (omega arith) (omega arith) (omega arith)

-- the row has these cells, with the empty ones filled
abbrev pub IsRowFilled : List (Option Cell) → List (Option Cell) → ℕ → ℕ → Cell → Type 0
IsRowFilled now row at side cell = (i : ℕ) → i < side → get_or row i None ≡ option_or (get_or now (at + i) None) (Some cell)

row_filled_at : (now before : List (Option Cell)) (columns left side top j : ℕ) (row : List (Option Cell)) (cell : Cell)
    → left + side ≤ columns → (j + 1) * columns ≤ length now → top ≤ j → length row ≡ side
    → IsRowFilled now row (j * columns + left) side cell
    → IsFilled before now columns left (left + side) top j cell
    → (x y : ℕ) → x < columns → (y ≡ j) × ((left ≤ x) × (x < left + side)) ⊎ Other left (left + side) j x y
    → get_or (written now columns left side j row) (y * columns + x) None
    ≡ cond (is_within left (left + side) top (j + 1) x y) (option_or (get_or before (y * columns + x) None) (Some cell)) (get_or before (y * columns + x) None)
row_filled_at now before columns left side top j row cell wide tall low long each known x y in_row (inl h) =
    let at : j * columns + left + (x - left) ≡ j * columns + x = omega arith in
    let was : get_or now (j * columns + x) None ≡ get_or before (j * columns + x) None = known x j in_row ∙ cond-false _ _ _ (not_yet left (left + side) top j x) in
    rw (h.0, within_row left (left + side) top j x h.1.0 h.1.1 low) (written_row now columns left side j row x tall wide long h.1.0 h.1.1 ∙ (each (x - left) (omega arith) ∙ ap (λ (c : Option Cell). option_or c (Some cell)) (ap (λ (i : ℕ). get_or now i None) at ∙ was)))
row_filled_at now before columns left side top j row cell wide tall low long each known x y in_row (inr h) =
    rw (within_other left (left + side) top j x y h) (written_other now columns left side j row (y * columns + x) tall wide long (place_other columns left side j x y wide in_row h) ∙ known x y in_row)

-- one more row of a square is filled
pub row_filled : (now before : List (Option Cell)) (columns left side top j : ℕ) (row : List (Option Cell)) (cell : Cell)
    → left + side ≤ columns → (j + 1) * columns ≤ length now → top ≤ j → length row ≡ side
    → IsRowFilled now row (j * columns + left) side cell
    → IsFilled before now columns left (left + side) top j cell
    → IsFilled before (written now columns left side j row) columns left (left + side) top (j + 1) cell
row_filled now before columns left side top j row cell wide tall low long each known = λ x y in_row.
    row_filled_at now before columns left side top j row cell wide tall low long each known x y in_row (which left (left + side) j x y)

-- a part of a row, filled
pub part_filled : (now row : List (Option Cell)) (at k side : ℕ) (cell : Cell) → k ≡ side → at + side ≤ length now
    → ((i : ℕ) → i < length (take k (drop at now)) → get_or row i None ≡ option_or (get_or (take k (drop at now)) i None) (Some cell))
    → IsRowFilled now row at side cell
part_filled now row at k side cell e within each = λ i less. each i (long i less) ∙ ap (λ (c : Option Cell). option_or c (Some cell)) (place i less)
  where
    long : (i : ℕ) → i < side → i < length (take k (drop at now))
    long i less = grind (arith, places)

    place : (i : ℕ) → i < side → get_or (take k (drop at now)) i None ≡ get_or now (at + i) None
    place i less = grind (arith, places)

-- a row above the bottom ends within the cells
pub row_ends : (y bottom columns len : ℕ) → y < bottom → bottom * columns ≤ len → (y + 1) * columns ≤ len
row_ends y bottom columns len less tall =
    let h : (y + 1) * columns ≤ bottom * columns = mul-le (y + 1) columns bottom columns (omega arith) (omega arith) in omega arith

pub filled_as : (before before2 after after2 : List (Option Cell)) (columns columns2 left right top bottom : ℕ) (cell : Cell) → before ≡ before2 → after ≡ after2 → columns ≡ columns2
    → IsFilled before after columns left right top bottom cell → IsFilled before2 after2 columns2 left right top bottom cell
filled_as before before2 after after2 columns columns2 left right top bottom cell e f g h = rw (← e, ← f, ← g) h
