-- A line of neighbours that is searched and filled in parts of eight.
use Rattle.std.proofs.Common.{◌≡◌, refl, sym, ap, ◌∙◌, ℕ, zero, suc, ◌+◌, ◌*◌, ◌-◌, ◌/◌, ◌%◌, ◌<◌, ◌≤◌, List, [], ◌∷◌, length, get_or, map, Option, Some, None, true, false, inl, inr, ◌++◌, set, length-append, arith}
use Rattle.std.specs.List.{range_with_len}
use Rattle.std.specs.Option.{unwrap_or}
use Rattle.std.proofs.lemmas.Bool.{cases_lt, cases_eq}
use Rattle.std.proofs.lemmas.List.{get_or-set_same, get_or-set_other, get_or_append_left, length-set, places}
use borrow.Rule.Slice.PartMut.{put_mid, mid_of}
use Rattle.px_plane.proofs.Rows.{get_or-put_mid_before, get_or-put_mid_in}
use Rattle.h265_model.specs.declared.block.CodingBlock.{CodingBlock}
use Rattle.h265_model.specs.Plain.{Size, Picture, side}
use Rattle.h265_model.specs.Predict.{neighbours, first_seen, filled, substituted}
use Rattle.intra_refs.specs.Neighbours.{neighbour, left_of, above, value_or, carried, IsFilled, AreAll, AreMissing, IsFirst}

-- ---- where the eights stand

pub left_place : (size : Size) (picture : Picture) (component : ℕ) (block : CodingBlock) (n part row j : ℕ) → n ≡ side block → n % 8 ≡ 0 → part < n / 4 → row ≡ block.y + (2 * n - 8 * (part + 1)) → j < 8
    → neighbour size picture component block (8 * part + j) ≡ left_of size picture component block.x block.y (row + 8 - j)
left_place size picture component block n part row j long whole within is h =
    let column : block.x + (8 * part + j - 2 * side block) ≡ block.x = omega arith in
    let place : block.y + (2 * side block - (8 * part + j)) ≡ row + 8 - j = omega arith in
    rw (column, place) refl

pub above_place : (size : Size) (picture : Picture) (component : ℕ) (block : CodingBlock) (part column j : ℕ) → column ≡ block.x + 8 * part → j < 8
    → neighbour size picture component block (2 * side block + 1 + (8 * part + j)) ≡ above size picture component block.x block.y (column + j + 1)
above_place size picture component block part column j is h =
    let place : block.x + (2 * side block + 1 + (8 * part + j) - 2 * side block) ≡ column + j + 1 = omega arith in
    let row : block.y + (2 * side block - (2 * side block + 1 + (8 * part + j))) ≡ block.y = omega arith in
    rw (place, row) refl

-- ---- what is carried on

pub carried_on : (f g : ℕ → Option ℕ) (first at k : ℕ) → ((j : ℕ) → j < k → g j ≡ f (at + j)) → carried (carried first f at) g k ≡ carried first f (at + k)
carried_on f g first at zero same = ap (carried first f) (omega arith)
carried_on f g first at (suc k) same =
    let next : at + suc k ≡ suc (at + k) = omega arith in
    rw (next, same k (omega arith), carried_on f g first at k (λ j h. same j (omega arith))) refl

pub part_carried : (f g : ℕ → Option ℕ) (first before at after : ℕ) → before ≡ carried first f at → ((j : ℕ) → j < 8 → g j ≡ f (at + j))
    → after ≡ carried before g 8 → after ≡ carried first f (at + 8)
part_carried f g first before at after known same is = is ∙ (rw known refl ∙ carried_on f g first at 8 same)

pub part_filled : (line out : List ℕ) (f g : ℕ → Option ℕ) (first before at k next : ℕ) → IsFilled line first f at → before ≡ carried first f at
    → ((j : ℕ) → j < 8 → g j ≡ f (at + j)) → IsFilled out before g 8 → length out ≡ 8 → at + 8 ≤ length line → next ≡ at + 8
    → IsFilled (put_mid at k line out) first f next
part_filled line out f g first before at k next known carries same part eight within is = record { each = at_each }
  where
    at_each : (i : ℕ) → i < next → get_or (put_mid at k line out) i 0 ≡ carried first f (suc i)
    at_each i h = elim (cases_lt i at) [
      | inl less ↦ get_or-put_mid_before line out at k i (omega arith) less ∙ known.each i less
      | inr more ↦
          let place : i ≡ at + (i - at) = omega arith in
          let here : suc i ≡ at + suc (i - at) = omega arith in
          get_or-put_mid_in line out at k i (i - at) (omega arith) place (omega arith)
          ∙ (part.each (i - at) (omega arith)
          ∙ (ap (λ (b : ℕ). carried b g (suc (i - at))) carries
          ∙ (carried_on f g first at (suc (i - at)) (λ j less. same j (omega arith)) ∙ ap (carried first f) (sym here))))
    ]

-- ---- the whole line

filled_cons : (before : ℕ) (o : Option ℕ) (line : List (Option ℕ)) → filled before (o ∷ line) ≡ value_or before o ∷ filled (value_or before o) line
filled_cons before None line = refl
filled_cons before (Some v) line = refl

carried_after : (f : ℕ → Option ℕ) (first a k : ℕ) → carried (value_or first (f a)) (λ j. f (a + 1 + j)) k ≡ carried first (λ j. f (a + j)) (suc k)
carried_after f first a zero = ap (λ (i : ℕ). value_or first (f i)) (omega arith)
carried_after f first a (suc k) =
    let e : a + suc k ≡ a + 1 + k = omega arith in
    rw (e, carried_after f first a k) refl

filled_is : (line : List ℕ) (f : ℕ → Option ℕ) (first a n : ℕ) → length line ≡ n → ((i : ℕ) → i < n → get_or line i 0 ≡ carried first (λ j. f (a + j)) (suc i))
    → line ≡ filled first (map f (range_with_len a n))
filled_is [] f first a zero long each = refl
filled_is [] f first a (suc n) long each = absurd (omega arith)
filled_is (v ∷ line) f first a zero long each = absurd (omega arith)
filled_is (v ∷ line) f first a (suc n) long each =
    let here : v ≡ value_or first (f a) = each 0 (omega arith) ∙ ap (λ (i : ℕ). value_or first (f i)) (omega arith) in
    let later : (i : ℕ) → i < n → get_or line i 0 ≡ carried (value_or first (f a)) (λ j. f (a + 1 + j)) (suc i) =
    λ i h. each (suc i) (omega arith) ∙ sym (carried_after f first a (suc i)) in
    rw (filled_cons first (f a) (map f (range_with_len (a + 1) n)), ← here)
    (ap (λ (l : List ℕ). v ∷ l) (filled_is line f v (a + 1) n (omega arith) (λ i h. later i h ∙ ap (λ (b : ℕ). carried b (λ j. f (a + 1 + j)) (suc i)) (sym here))))

zero_first : (i : ℕ) → suc i ≡ 0 + suc i
zero_first i = omega arith

pub line_is : (size : Size) (picture : Picture) (component : ℕ) (block : CodingBlock) (first : ℕ) (line : List ℕ) → first ≡ first_seen (neighbours size picture component block) → length line ≡ 4 * side block + 1
    → ((i : ℕ) → i < 4 * side block + 1 → get_or line i 0 ≡ carried first (neighbour size picture component block) (suc i))
    → line ≡ substituted (neighbours size picture component block)
unfolding neighbours
line_is size picture component block first line is long each =
    let f : ℕ → Option ℕ = neighbour size picture component block in
    filled_is line f first 0 (4 * side block + 1) long (λ i h. each i h ∙ (ap (carried first f) (zero_first i) ∙ sym (carried_on f (λ j. f (0 + j)) first 0 (suc i) (λ j less. refl))))
    ∙ ap (λ (v : ℕ). filled v (map f (range_with_len 0 (4 * side block + 1)))) is

-- ---- the first that isn't missing

first_from : (f : ℕ → Option ℕ) (a n at v : ℕ) → at < n → ((i : ℕ) → i < at → f (a + i) ≡ None) → f (a + at) ≡ Some v → first_seen (map f (range_with_len a n)) ≡ v
first_from f a zero at v within before here = absurd (omega arith)
first_from f a (suc n) zero v within before here =
    let e : a + 0 ≡ a = omega arith in
    let here' : f a ≡ Some v = rw e at here in
    rw here' refl
first_from f a (suc n) (suc at) v within before here =
    let none : f a ≡ None = ap f (omega arith) ∙ before 0 (omega arith) in
    rw none (first_from f (a + 1) n at v (omega arith) (λ i h. ap f (omega arith) ∙ before (suc i) (omega arith)) (ap f (omega arith) ∙ here))

none_from : (f : ℕ → Option ℕ) (a n : ℕ) → ((i : ℕ) → i < n → f (a + i) ≡ None) → first_seen (map f (range_with_len a n)) ≡ 128
none_from f a zero before = refl
none_from f a (suc n) before =
    let none : f a ≡ None = ap f (omega arith) ∙ before 0 (omega arith) in
    rw none (none_from f (a + 1) n (λ i h. ap f (omega arith) ∙ before (suc i) (omega arith)))

pub first_is : (size : Size) (picture : Picture) (component : ℕ) (block : CodingBlock) (at v : ℕ) → at < 4 * side block + 1
    → ((i : ℕ) → i < at → neighbour size picture component block i ≡ None) → neighbour size picture component block at ≡ Some v
    → first_seen (neighbours size picture component block) ≡ v
unfolding neighbours
first_is size picture component block at v within before here =
    let f : ℕ → Option ℕ = neighbour size picture component block in
    first_from f 0 (4 * side block + 1) at v within (λ i h. ap f (omega arith) ∙ before i h) (ap f (omega arith) ∙ here)

pub none_is : (size : Size) (picture : Picture) (component : ℕ) (block : CodingBlock) → ((i : ℕ) → i < 4 * side block + 1 → neighbour size picture component block i ≡ None)
    → first_seen (neighbours size picture component block) ≡ 128
unfolding neighbours
none_is size picture component block before =
    let f : ℕ → Option ℕ = neighbour size picture component block in
    none_from f 0 (4 * side block + 1) (λ i h. ap f (omega arith) ∙ before i h)

pub missing_at : (f : ℕ → Option ℕ) (n : ℕ) → AreMissing f 0 n → (i : ℕ) → i < n → f i ≡ None
missing_at f n none i h = ap f (omega arith) ∙ none.each i h

-- those before a place above are missing where those on the left, the corner and those above are
pub missing_up_to : (f : ℕ → Option ℕ) (n k : ℕ) → AreMissing f 0 (2 * n) → f (2 * n) ≡ None → AreMissing f (2 * n + 1) k → (i : ℕ) → i < 2 * n + 1 + k → f i ≡ None
missing_up_to f n k left corner top i h = elim (cases_lt i (2 * n)) [
  | inl less ↦ missing_at f (2 * n) left i less
  | inr more ↦ elim (cases_eq i (2 * n)) [
    | inl same ↦ rw same corner
    | inr other ↦ ap f (omega arith) ∙ top.each (i - (2 * n + 1)) (omega arith)
  ]
]

-- ---- the next part

pub missing_more : (f g : ℕ → Option ℕ) (samples : ℕ → ℕ) (a at next : ℕ) → AreMissing f a at → AreAll false g samples → ((j : ℕ) → j < 8 → f (a + (at + j)) ≡ g j) → next ≡ at + 8
    → AreMissing f a next
missing_more f g samples a at next known none same is = record { each = at_each }
  where
    at_each : (i : ℕ) → i < next → f (a + i) ≡ None
    at_each i h = elim (cases_lt i at) [
      | inl less ↦ known.each i less
      | inr more ↦ ap f (omega arith) ∙ (same (i - at) (omega arith) ∙ none (i - at) (omega arith))
    ]

pub first_found : (f g : ℕ → Option ℕ) (samples : ℕ → ℕ) (a at n v : ℕ) → AreMissing f a at → AreAll true g samples → ((j : ℕ) → j < 8 → f (a + (at + j)) ≡ g j) → at < n → v ≡ samples 0
    → IsFirst f a n v
first_found f g samples a at n v known all same within is = record {
  at = at;
  within = within;
  before = known;
  here = ap f (omega arith) ∙ (same 0 (omega arith) ∙ (all 0 (omega arith) ∙ ap (λ (s : ℕ). Some s) (sym is)));
}

-- ---- a line of the left side, the corner and the row above

pub whole_line : (left rest top : List ℕ) (f : ℕ → Option ℕ) (first v before n k : ℕ) → IsFilled left first f (2 * n) → length left ≡ 2 * n → length rest ≡ 2 * n + 1
    → v ≡ carried first f (2 * n + 1) → IsFilled top v (λ i. f (2 * n + 1 + i)) (2 * n) → length top ≡ 2 * n
    → (i : ℕ) → i < 4 * n + 1 → get_or (put_mid (2 * n + 1) k (set (left ++ rest) (2 * n) v) top) i 0 ≡ carried first f (suc i)
whole_line left rest top f first v before n k filled_left long_left long_rest corner filled_top long_top i h = elim (cases_lt i (2 * n)) [
  | inl less ↦
      get_or-put_mid_before (set (left ++ rest) (2 * n) v) top (2 * n + 1) k i within (omega arith)
      ∙ (get_or-set_other (left ++ rest) (2 * n) i v 0 (λ e. omega arith)
      ∙ (get_or_append_left left rest 0 i (omega arith) ∙ filled_left.each i less))
  | inr more ↦ elim (cases_eq i (2 * n)) [
    | inl same ↦
        let next_of_same : 2 * n + 1 ≡ suc i = omega arith in
        get_or-put_mid_before (set (left ++ rest) (2 * n) v) top (2 * n + 1) k i within (omega arith)
        ∙ (ap (λ (j : ℕ). get_or (set (left ++ rest) (2 * n) v) j 0) same
        ∙ (get_or-set_same (left ++ rest) (2 * n) v 0 (omega (arith, long))
        ∙ (corner ∙ ap (carried first f) next_of_same)))
    | inr other ↦
        let j : ℕ = i - (2 * n + 1) in
        let back : 2 * n + 1 + suc j ≡ suc i = omega arith in
        get_or-put_mid_in (set (left ++ rest) (2 * n) v) top (2 * n + 1) k i j within (omega arith) (omega arith)
        ∙ (filled_top.each j (omega arith)
        ∙ (ap (λ (b : ℕ). carried b (λ m. f (2 * n + 1 + m)) (suc j)) corner
        ∙ (carried_on f (λ m. f (2 * n + 1 + m)) first (2 * n + 1) (suc j) (λ m less. refl) ∙ ap (carried first f) back)))
  ]
]
  where
    long : length (left ++ rest) ≡ 4 * n + 1
    long = length-append left rest ∙ omega arith

    within : 2 * n + 1 ≤ length (set (left ++ rest) (2 * n) v)
    within = let l = length-set (left ++ rest) (2 * n) v in omega (arith, long)

pub corner_is : (o : Option ℕ) (f : ℕ → Option ℕ) (first before v n : ℕ) → o ≡ f (2 * n) → before ≡ carried first f (2 * n) → v ≡ unwrap_or o before → v ≡ carried first f (2 * n + 1)
corner_is None f first before v n here known is =
    let next : 2 * n + 1 ≡ suc (2 * n) = omega arith in is ∙ rw (next, ← here) known
corner_is (Some w) f first before v n here known is =
    let next : 2 * n + 1 ≡ suc (2 * n) = omega arith in is ∙ rw (next, ← here) refl

pub line_long : (line top : List ℕ) (a : ℕ) → a ≤ length line → length top ≡ length line - a → length (put_mid a (length line - a) line top) ≡ length line
line_long line top a within long = grind (arith, places)

pub length-mid : (a : ℕ) (line : List ℕ) → length (mid_of a (length line - a) line) ≡ length line - a
length-mid a line = grind (arith, places)
