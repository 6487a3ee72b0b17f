-- The table of angles, and what a line holds of a slanted mode.
use Rattle.std.proofs.Common.{◌≡◌, refl, sym, ap, ◌∙◌, ℕ, zero, suc, ◌+◌, ◌*◌, ◌-◌, ◌/◌, ◌%◌, ◌<◌, ◌≤◌, Bool, true, false, cond, List, [], ◌∷◌, get_or, arith, add-one, inl, inr}
use Rattle.std.specs.Prelude.{ℤ, pos, negsuc, ◌+ℤ◌, ◌*ℤ◌, ◌&&◌, ◌==◌, nat_le}
use Rattle.std.specs.List.{list_all, range_with_len}
use Rattle.std.proofs.lemmas.Bool.{and_parts, leb-true, eqb-true, cases_eq}
use Rattle.std.proofs.lemmas.Int.{ints}
use Rattle.std.proofs.lemmas.Nat.{mul-le}
use Rattle.h265_model.specs.Contexts.{shift_right}
use Rattle.h265_model.specs.Predict.{angle, inverse_angle, inverse_angles, along, fraction, between, directed}
use Rattle.intra_predict.specs.Sides.{leads_back, signed, IsLine}

-- ---- the tables

pub at_most : (list : List ℕ) (bound i : ℕ) → list_all (λ v. nat_le v bound) list ≡ true → get_or list i 0 ≤ bound
at_most [] bound i h = omega arith
at_most (v ∷ list) bound zero h = leb-true v bound (and_parts (nat_le v bound) _ h).0
at_most (v ∷ list) bound (suc i) h = at_most list bound i (and_parts (nat_le v bound) _ h).1

pub at_each : (p : ℕ → Bool) (a n i : ℕ) → list_all p (range_with_len a n) ≡ true → a ≤ i → i < a + n → p i ≡ true
at_each p a zero i h low high = absurd (omega arith)
at_each p a (suc n) i h low high = elim (cases_eq i a) [
  | inl same ↦ ap p same ∙ (and_parts (p a) _ h).0
  | inr other ↦ at_each p (a + 1) n i (and_parts (p a) _ h).1 (omega arith) (omega arith)
]

is_signed : ℤ → Bool → ℕ → Bool
is_signed (pos n) false m = n == m
is_signed (pos n) true m = n == 0 && m == 0
is_signed (negsuc n) false m = false
is_signed (negsuc n) true m = n + 1 == m

signed_is : (z : ℤ) (b : Bool) (m : ℕ) → is_signed z b m ≡ true → z ≡ signed b m
unfolding is_signed
signed_is (pos n) false m h = ap pos (eqb-true n m h)
signed_is (pos n) true m h =
    let p = and_parts (n == 0) (m == 0) h in
    let e : n ≡ 0 = eqb-true n 0 p.0 in
    let f : m ≡ 0 = eqb-true m 0 p.1 in
    rw (e, f) refl
signed_is (negsuc n) false m h = absurd (false-is-true h)
  where
    false-is-true : false ≡ true → ⊥
    false-is-true e = cc
signed_is (negsuc n) true m h =
    let e : n + 1 ≡ m = eqb-true (n + 1) m h in
    rw (← e, add-one) refl

abbrev pub leans : List ℕ
leans = 32 ∷ 26 ∷ 21 ∷ 17 ∷ 13 ∷ 9 ∷ 5 ∷ 2 ∷ 0 ∷ 2 ∷ 5 ∷ 9 ∷ 13 ∷ 17 ∷ 21 ∷ 26 ∷ 32 ∷ 26 ∷ 21 ∷ 17 ∷ 13 ∷ 9 ∷ 5 ∷ 2 ∷ 0 ∷ 2 ∷ 5 ∷ 9 ∷ 13 ∷ 17 ∷ 21 ∷ 26 ∷ 32 ∷ []

fits : ℕ → Bool
fits mode = is_signed (angle mode) (leads_back mode) (get_or leans (mode - 2) 0)

pub lean_is : (mode : ℕ) → 2 ≤ mode → mode < 35 → angle mode ≡ signed (leads_back mode) (get_or leans (mode - 2) 0)
unfolding angle fits is_signed
lean_is mode low high = signed_is (angle mode) (leads_back mode) (get_or leans (mode - 2) 0) (at_each fits 2 33 mode refl low (omega arith))

pub lean_most : (i : ℕ) → get_or leans i 0 ≤ 32
lean_most i = at_most leans 32 i refl

pub inverse_most : (i : ℕ) → get_or inverse_angles i 0 ≤ 4096
inverse_most i = at_most inverse_angles 4096 i refl

-- ---- a way of so many parts of 32, ahead or back

pub start_back : (w : ℕ) → w ≤ 1024 → pos (33 - (w + 31) / 32) ≡ pos 33 +ℤ shift_right (signed true w) 5
start_back zero h = refl
start_back (suc k) h =
    let n : 33 - (suc k + 31) / 32 ≡ 32 - k / 32 = omega arith in
    let e : pos 33 +ℤ negsuc (k / 32) ≡ pos (32 - k / 32) = omega (arith, ints) in
    rw n (sym e)

pub part_back : (w : ℕ) → (32 - w % 32) % 32 ≡ fraction (signed true w)
part_back zero = refl
part_back (suc k) = omega arith

way_is : (y m : ℕ) (b : Bool) → pos (y + 1) *ℤ signed b m ≡ signed b ((y + 1) * m)
way_is y m false = refl
way_is y zero true = let e : (y + 1) * 0 ≡ 0 = omega arith in rw e (omega (arith, ints))
way_is y (suc m) true = grind (arith, ints)

-- ---- what is read at a place

line_at : (line : List ℕ) (main other : ℕ → ℕ) (inverse n reach : ℕ) → IsLine line main other inverse n reach → (i : ℤ) (k : ℕ) → pos k ≡ pos 32 +ℤ i
    → k ≤ 33 + 2 * n → 32 ≤ k + reach → get_or line k 0 ≡ along main other inverse i
line_at line main other inverse n reach is (pos m) k e high low =
    let p : 32 + m ≡ k = omega (arith, ints) in
    ap (λ (j : ℕ). get_or line j 0) (sym p) ∙ is.ahead m (omega arith)
line_at line main other inverse n reach is (negsuc m) k e high low =
    let p : 32 - (m + 1) ≡ k = omega (arith, ints) in
    ap (λ (j : ℕ). get_or line j 0) (sym p) ∙ is.behind (m + 1) (omega (arith, ints)) (omega (arith, ints))

-- how far a row is led
record IsStart (b : Bool) (start y n : ℕ) : Type 0 where
  high : start ≤ 34 + y
  low : 32 ≤ start + y
  ahead : b ≡ false → 33 ≤ start

start_is : (b : Bool) (start y n w : ℕ) → pos start ≡ pos 33 +ℤ shift_right (signed b w) 5 → w ≤ 32 * (y + 1) → IsStart b start y n
start_is false start y n w e most =
    let p : start ≡ 33 + w / 32 = omega (arith, ints) in
    record { high = omega arith; low = omega arith; ahead = λ q. omega arith }
start_is true start y n zero e most =
    let p : start ≡ 33 = omega (arith, ints) in
    record { high = omega arith; low = omega arith; ahead = λ q. omega arith }
start_is true start y n (suc k) e most =
    let p : start + k / 32 ≡ 32 = omega (arith, ints) in
    record { high = omega arith; low = omega arith; ahead = λ q. absurd (true-is-false q) }
  where
    true-is-false : true ≡ false → ⊥
    true-is-false q = cc

pub slanted_at : (line : List ℕ) (main other : ℕ → ℕ) (mode n x y lean start part : ℕ) → IsLine line main other (inverse_angle mode) n (cond (leads_back mode) n 0)
    → angle mode ≡ signed (leads_back mode) lean → lean ≤ 32 → x < n → y < n
    → pos start ≡ pos 33 +ℤ shift_right (signed (leads_back mode) ((y + 1) * lean)) 5 → part ≡ fraction (signed (leads_back mode) ((y + 1) * lean))
    → between part (get_or line (start + x) 0) (get_or line (start + x + 1) 0) ≡ directed main other mode x y
slanted_at line main other mode n x y lean start part is led most hx hy e f =
    let w : pos (y + 1) *ℤ angle mode ≡ signed (leads_back mode) ((y + 1) * lean) = ap (λ (a : ℤ). pos (y + 1) *ℤ a) led ∙ way_is y lean (leads_back mode) in
    let s : ℤ = shift_right (signed (leads_back mode) ((y + 1) * lean)) 5 in
    let bound : (y + 1) * lean ≤ 32 * (y + 1) = (let h : (y + 1) * lean ≤ (y + 1) * 32 = mul-le (y + 1) lean (y + 1) 32 (omega arith) most in omega arith) in
    let starts : IsStart (leads_back mode) start y n = start_is (leads_back mode) start y n ((y + 1) * lean) e bound in
    let reach : 32 ≤ start + x + cond (leads_back mode) n 0 = reaches (leads_back mode) starts in
    let first : get_or line (start + x) 0 ≡ along main other (inverse_angle mode) (pos (x + 1) +ℤ s) =
    line_at line main other (inverse_angle mode) n (cond (leads_back mode) n 0) is (pos (x + 1) +ℤ s) (start + x) (omega (arith, ints)) (omega (arith, starts.high)) reach in
    let second : get_or line (start + x + 1) 0 ≡ along main other (inverse_angle mode) ((pos (x + 1) +ℤ s) +ℤ pos 1) =
    line_at line main other (inverse_angle mode) n (cond (leads_back mode) n 0) is ((pos (x + 1) +ℤ s) +ℤ pos 1) (start + x + 1) (omega (arith, ints)) (omega (arith, starts.high)) (omega (arith, reach)) in
    rw (w, first, second, f) refl
  where
    reaches : (b : Bool) → IsStart b start y n → 32 ≤ start + x + cond b n 0
    reaches true h = omega (arith, h.low)
    reaches false h = omega (arith, h.ahead refl)
