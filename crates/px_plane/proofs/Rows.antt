-- What a write to a part of a row leaves in a plane.
use Rattle.std.proofs.Common.{◌≡◌, ℕ, ◌+◌, ◌*◌, ◌-◌, ◌<◌, ◌≤◌, true, cond, List, length, get_or, arith, ◌∙◌, inl, inr, ◌⊎◌}
use Rattle.std.proofs.lemmas.List.{places}
use Rattle.std.proofs.lemmas.Bool.{cases_lt, cases_order}
use Rattle.std.proofs.lemmas.Bool.Decides.{nat_tests}
use Rattle.std.proofs.lemmas.Nat.{mul-le}
use borrow.Rule.Slice.PartMut.{put_mid}
use Rattle.h265_model.specs.Plain.{coded}
use Rattle.px_plane.specs.Rows.{is_between, IsPutBetween}

-- a place before, in or behind what was written
pub get_or-put_mid_before : (xs ys : List ℕ) (a k i : ℕ) → a ≤ length xs → i < a → get_or (put_mid a k xs ys) i 0 ≡ get_or xs i 0
get_or-put_mid_before xs ys a k i le lt = grind (arith, places)

pub get_or-put_mid_in : (xs ys : List ℕ) (a k i j : ℕ) → a ≤ length xs → i ≡ a + j → j < length ys → get_or (put_mid a k xs ys) i 0 ≡ get_or ys j 0
get_or-put_mid_in xs ys a k i j le e lt = grind (arith, places)

pub get_or-put_mid_behind : (xs ys : List ℕ) (a k i : ℕ) → a + k ≤ length xs → length ys ≡ k → a + k ≤ i → get_or (put_mid a k xs ys) i 0 ≡ get_or xs i 0
get_or-put_mid_behind xs ys a k i le e lt = grind (arith, places)

-- a lower row ends before a higher one begins
pub rows_apart : (stride x y j : ℕ) → x < stride → y < j → y * stride + x < j * stride
rows_apart stride x y j in_row less =
    let h : (y + 1) * stride ≤ j * stride = mul-le (y + 1) stride j stride (omega arith) (omega arith) in omega arith

-- the row j adds only its own places between the sides
abbrev pub Other : ℕ → ℕ → ℕ → ℕ → ℕ → Type 0
Other left right j x y = (x < left) ⊎ ((right ≤ x) ⊎ ((y < j) ⊎ (j < y)))

pub between_other : (left right top j x y : ℕ) → Other left right j x y → is_between left right top (j + 1) x y ≡ is_between left right top j x y
between_other left right top j x y (inl h) = grind (arith, nat_tests)
between_other left right top j x y (inr (inl h)) = grind (arith, nat_tests)
between_other left right top j x y (inr (inr (inl h))) = grind (arith, nat_tests)
between_other left right top j x y (inr (inr (inr h))) = grind (arith, nat_tests)

pub between_row : (left right top j x : ℕ) → left ≤ x → x < right → top ≤ j → is_between left right top (j + 1) x j ≡ true
between_row left right top j x a b c = grind (arith, nat_tests)

-- the plane with these values in the row j between the sides
abbrev written : List ℕ → ℕ → ℕ → ℕ → ℕ → List ℕ → List ℕ
written now stride left right j values = put_mid (j * stride + left) (right - left) now values

-- the place is before or behind what was written
abbrev pub Apart : ℕ → ℕ → ℕ → ℕ → ℕ → ℕ → Type 0
Apart stride left right j x y = (y * stride + x < j * stride + left) ⊎ (j * stride + left + (right - left) ≤ y * stride + x)

place_in_row : (stride left right j x y : ℕ) → left ≤ right → y ≡ j → (x < left) ⊎ (right ≤ x) → Apart stride left right j x y
place_in_row stride left right j x y across same (inl h) = inl (rw same (omega arith))
place_in_row stride left right j x y across same (inr h) = inr (rw same (omega arith))

place_in_other : (stride left right j x y : ℕ) → left ≤ right → right ≤ stride → x < stride → (y < j) ⊎ (j < y) → Apart stride left right j x y
place_in_other stride left right j x y across wide in_row (inl less) =
    let h = rows_apart stride x y j in_row less in inl (omega arith)
place_in_other stride left right j x y across wide in_row (inr more) =
    let h : (j + 1) * stride ≤ y * stride = mul-le (j + 1) stride y stride (omega arith) (omega arith) in inr (omega arith)

pub place_other : (stride left right j x y : ℕ) → left ≤ right → right ≤ stride → x < stride → Other left right j x y → Apart stride left right j x y
place_other stride left right j x y across wide in_row (inr (inr h)) = place_in_other stride left right j x y across wide in_row h
place_other stride left right j x y across wide in_row (inl h) =
    elim (cases_order y j) [ inl same ↦ place_in_row stride left right j x y across same (inl h) | inr k ↦ place_in_other stride left right j x y across wide in_row k ]
place_other stride left right j x y across wide in_row (inr (inl h)) =
    elim (cases_order y j) [ inl same ↦ place_in_row stride left right j x y across same (inr h) | inr k ↦ place_in_other stride left right j x y across wide in_row k ]

written_other : (now : List ℕ) (stride left right j : ℕ) (values : List ℕ) (i : ℕ) → (j + 1) * stride ≤ length now → left ≤ right → right ≤ stride → length values ≡ right - left
    → (i < j * stride + left) ⊎ (j * stride + left + (right - left) ≤ i) → get_or (written now stride left right j values) i 0 ≡ get_or now i 0
written_other now stride left right j values i tall across wide long (inl h) = get_or-put_mid_before now values (j * stride + left) (right - left) i (omega arith) h
written_other now stride left right j values i tall across wide long (inr h) = get_or-put_mid_behind now values (j * stride + left) (right - left) i (omega arith) long h

written_row : (now : List ℕ) (stride left right j : ℕ) (values : List ℕ) (x : ℕ) → (j + 1) * stride ≤ length now → right ≤ stride → length values ≡ right - left → left ≤ x → x < right
    → get_or (written now stride left right j values) (j * stride + x) 0 ≡ get_or values (x - left) 0
written_row now stride left right j values x tall wide long a b =
    get_or-put_mid_in now values (j * stride + left) (right - left) (j * stride + x) (x - left) (omega arith) (omega arith) (omega arith)

-- the place is in the row between the sides, or other
pub which : (left right j x y : ℕ) → (y ≡ j) × ((left ≤ x) × (x < right)) ⊎ Other left right j x y
which left right j x y =
    elim (cases_order y j) [
      | inr (inl less) ↦ inr (inr (inr (inl less)))
      | inr (inr more) ↦ inr (inr (inr (inr more)))
      | inl same ↦ elim (cases_lt x left) [
        | inl h ↦ inr (inl h)
        | inr h ↦ elim (cases_lt x right) [ inl k ↦ inl (same, (h, k)) | inr k ↦ inr (inr (inl k)) ]
      ]
    ]

row_put_at : (now before : List ℕ) (stride left right top j : ℕ) (values : List ℕ) (f : ℕ → ℕ → ℕ)
    → left ≤ right → right ≤ stride → (j + 1) * stride ≤ length now → top ≤ j → length values ≡ right - left
    → ((x : ℕ) → left ≤ x → x < right → get_or values (x - left) 0 ≡ f x j)
    → IsPutBetween before now stride left right top j f
    → (x y : ℕ) → x < stride → (y ≡ j) × ((left ≤ x) × (x < right)) ⊎ Other left right j x y
    → get_or (written now stride left right j values) (y * stride + x) 0 ≡ cond (is_between left right top (j + 1) x y) (f x y) (get_or before (y * stride + x) 0)
row_put_at now before stride left right top j values f across wide tall low long each known x y in_row (inl h) =
    rw (h.0, between_row left right top j x h.1.0 h.1.1 low) (written_row now stride left right j values x tall wide long h.1.0 h.1.1 ∙ each x h.1.0 h.1.1)
row_put_at now before stride left right top j values f across wide tall low long each known x y in_row (inr h) =
    rw (between_other left right top j x y h) (written_other now stride left right j values (y * stride + x) tall across wide long (place_other stride left right j x y across wide in_row h) ∙ known x y in_row)

-- one more row of a rectangle is written
pub row_put : (now before : List ℕ) (stride left right top j : ℕ) (values : List ℕ) (f : ℕ → ℕ → ℕ)
    → left ≤ right → right ≤ stride → (j + 1) * stride ≤ length now → top ≤ j → length values ≡ right - left
    → ((x : ℕ) → left ≤ x → x < right → get_or values (x - left) 0 ≡ f x j)
    → IsPutBetween before now stride left right top j f
    → IsPutBetween before (written now stride left right j values) stride left right top (j + 1) f
row_put now before stride left right top j values f across wide tall low long each known = λ x y in_row.
    row_put_at now before stride left right top j values f across wide tall low long each known x y in_row (which left right j x y)

-- a row above the bottom ends within the plane
pub row_ends : (y bottom stride len : ℕ) → y < bottom → bottom * stride ≤ len → (y + 1) * stride ≤ len
row_ends y bottom stride len less tall =
    let h : (y + 1) * stride ≤ bottom * stride = mul-le (y + 1) stride bottom stride (omega arith) (omega arith) in omega arith

-- a rectangle that ends within the picture ends within its planes
pub tall_enough : (bottom h stride cw len : ℕ) → bottom ≤ coded h → stride ≡ cw → len ≡ cw * coded h → bottom * stride ≤ len
tall_enough bottom h stride cw len low e n =
    let k : bottom * cw ≤ coded h * cw = mul-le bottom cw (coded h) cw (omega arith) (omega arith) in rw (e, n) (omega arith)
