-- Samples less predicted samples, row by row.
use Rattle.std.proofs.Common.{◌≡◌, refl, sym, ◌∙◌, ap, subst, ℕ, zero, suc, ◌+◌, ◌*◌, ◌<◌, ◌≤◌, ◌^◌, List, [], ◌∷◌, ◌++◌, length, get_or, map, take, drop, replicate, arith, pos, ℤ, ◌-ℤ◌, append-nil, add-one}
use Rattle.std.specs.Prelude.{nat_abs}
use Rattle.std.specs.List.{range_with_len}
use Rattle.std.proofs.lemmas.Int.{ints}
use Rattle.std.proofs.lemmas.List.{length-take-le, take_all, take-replicate}
use Rattle.std.proofs.Math.Seq.{take-append-add, take-add}
use Rattle.std.proofs.lemmas.Grind.{flat_map-append}
use Rattle.h265_model.specs.Plain.{below, place_values, AreBytes}
use Rattle.h265_model.specs.Residual.{AreLevels}
use Rattle.h265_model.specs.Tree.{differences}
use Rattle.h265_model.proofs.Squares.{length_places}
use Rattle.h265_model.proofs.ListParts.{all_append, take_front}
use Rattle.std.proofs.lemmas.Nat.{mul-le}
use Rattle.bin_items.specs.Square.{with_row}

pub differences-append : (a b c d : List ℕ) → length a ≡ length b → differences (a ++ c) (b ++ d) ≡ differences a b ++ differences c d
differences-append [] [] c d h = refl
differences-append [] (y ∷ b) c d h = absurd (omega arith)
differences-append (x ∷ a) [] c d h = absurd (omega arith)
differences-append (x ∷ a) (y ∷ b) c d h = ap (λ (l : List ℤ). (pos x -ℤ pos y) ∷ l) (differences-append a b c d (omega arith))

-- samples less nothing
pub differences-zeros : (list : List ℕ) (n : ℕ) → n ≡ length list → differences list (replicate n 0) ≡ map pos list
differences-zeros [] zero h = refl
differences-zeros [] (suc n) h = absurd (omega arith)
differences-zeros (x ∷ list) zero h = absurd (omega arith)
differences-zeros (x ∷ list) (suc n) h =
    let e : pos x -ℤ pos 0 ≡ pos x = omega (arith, ints) in
    rw (e, differences-zeros list n (omega arith)) refl

level_is : (a b : ℕ) → a < 256 → b < 256 → nat_abs (pos a -ℤ pos b) ≤ 255
level_is a b ha hb = omega (arith, ints)

-- bytes less bytes are levels
pub are_levels : (a b : List ℕ) → AreBytes a → ((k : ℕ) → k < length b → get_or b k 0 < 256) → AreLevels (differences a b)
are_levels [] b ha hb = tt
are_levels (x ∷ a) [] ha hb = tt
are_levels (x ∷ a) (y ∷ b) ha hb = (level_is x y ha.0 (hb 0 (omega arith)), are_levels a b ha.1 (λ k h. hb (suc k) (omega arith)))

pub bytes_are : (list : List ℕ) → ((k : ℕ) → k < length list → get_or list k 0 < 256) → AreBytes list
bytes_are [] h = tt
bytes_are (x ∷ list) h = (h 0 (omega arith), bytes_are list (λ k l. h (suc k) (omega arith)))

pub below_next : (n a k : ℕ) → a + n ≡ k → range_with_len a (suc n) ≡ range_with_len a n ++ k ∷ []
below_next zero a k e = let z : a ≡ k = omega arith in rw (← z) refl
below_next (suc n) a k e = ap (λ (xs : List ℕ). a ∷ xs) (below_next n (a + 1) k (omega arith))

-- one more row of a square
pub places_more : {A : Type 0} (n y : ℕ) (f : ℕ → ℕ → A) → place_values n (y + 1) f ≡ place_values n y f ++ map (λ x. f x y) (below n)
places_more {A} n y f =
    let next : below (y + 1) ≡ below y ++ y ∷ [] = rw add-one (below_next y 0 y (omega arith)) in
    rw (next, flat_map-append, append-nil) refl

-- the front of the levels after a row is set
set_front : (log2 n y : ℕ) (levels row : List ℤ) → n ≡ 2 ^ log2 → length (take (y * n) levels) ≡ y * n → length row ≡ n
    → take ((y + 1) * n) (with_row log2 y row levels) ≡ take (y * n) levels ++ row
set_front log2 n y levels row e front full =
    let at : y * 2 ^ log2 + 0 ≡ y * n = rw e (omega arith) in
    let split : (y + 1) * n ≡ y * n + n = omega arith in
    let end : (y + 1) * n ≡ length (take (y * n) levels) + length row = omega arith in
    let rest : List ℤ = drop ((y + 1) * 2 ^ log2 + 0) levels in
    ap (λ (k : ℕ). take ((y + 1) * n) (take k levels ++ (row ++ rest))) at
    ∙ (ap (λ (k : ℕ). take k (take (y * n) levels ++ (row ++ rest))) end
    ∙ (take-append-add (take (y * n) levels) (row ++ rest) (length row) ∙ ap (λ (l : List ℤ). take (y * n) levels ++ l) (take_front row rest)))

-- so many levels of the front
length-differences : (a b : List ℕ) (n : ℕ) → length a ≡ n → length b ≡ n → length (differences a b) ≡ n
length-differences [] b n h k = h
length-differences (x ∷ a) [] n h k = absurd (omega arith)
length-differences (x ∷ a) (y ∷ b) zero h k = absurd (omega arith)
length-differences (x ∷ a) (y ∷ b) (suc n) h k = ap suc (length-differences a b n (omega arith) (omega arith))

-- samples less nothing
pub less_nothing : (list : List ℕ) (k : ℕ) → k ≤ 1024 → length list ≡ k → differences list (take k (replicate 1024 0)) ≡ map pos list
less_nothing list k few long = ap (λ (l : List ℕ). differences list l) (take-replicate k 1024 0 few) ∙ differences-zeros list k (sym long)

-- levels and bytes of the first rows
pub record AreRows (n : ℕ) (f : ℕ → ℕ → ℕ) (guess : List ℕ) (levels : List ℤ) (y : ℕ) : Type 0 where
  pub levels_are : take (y * n) levels ≡ differences (place_values n y f) (take (y * n) guess)
  pub bytes_are : AreBytes (place_values n y f)

pub no_rows : (n : ℕ) (f : ℕ → ℕ → ℕ) (guess : List ℕ) (levels : List ℤ) → AreRows n f guess levels 0
no_rows n f guess levels =
    let z : 0 * n ≡ 0 = omega arith in
    record { levels_are = rw z refl; bytes_are = tt }

-- one more row is set
pub rows_more : (log2 n y : ℕ) (f : ℕ → ℕ → ℕ) (guess part samples : List ℕ) (levels row : List ℤ) → n ≡ 2 ^ log2 → length guess ≡ n * n → y < n → length row ≡ n
    → AreRows n f guess levels y → samples ≡ map (λ x. f x y) (below n) → AreBytes samples
    → part ≡ take n (drop (y * n) guess) → row ≡ differences samples part
    → AreRows n f guess (with_row log2 y row levels) (y + 1)
rows_more log2 n y f guess part samples levels row e wide less full rows here bytes of is = record {
  levels_are = set_front log2 n y levels row e front full
      ∙ (ap (λ (l : List ℤ). l ++ row) rows.levels_are
      ∙ (ap (λ (l : List ℤ). differences (place_values n y f) (take (y * n) guess) ++ l) (is ∙ (ap (λ (l : List ℕ). differences l part) here ∙ ap (λ (l : List ℕ). differences (map (λ x. f x y) (below n)) l) of))
      ∙ (sym (differences-append (place_values n y f) (take (y * n) guess) (map (λ x. f x y) (below n)) (take n (drop (y * n) guess)) same)
      ∙ (ap (λ (l : List ℕ). differences (place_values n y f ++ map (λ x. f x y) (below n)) l) (sym take_parts) ∙ ap (λ (l : List ℕ). differences l (take ((y + 1) * n) guess)) (sym (places_more n y f))))));
  bytes_are = subst AreBytes (sym (places_more n y f)) (all_append (λ b. b < 256) (place_values n y f) (map (λ x. f x y) (below n)) rows.bytes_are (subst AreBytes here bytes));
}
  where
    fits : (y + 1) * n ≤ n * n
    fits = mul-le (y + 1) n n n (omega arith) (omega arith)

    split : (y + 1) * n ≡ y * n + n
    split = omega arith

    before : length (take (y * n) guess) ≡ y * n
    before = length-take-le (y * n) guess (let a = fits in let b = split in omega arith)

    front : length (take (y * n) levels) ≡ y * n
    front = ap (λ (l : List ℤ). length l) rows.levels_are ∙ length-differences (place_values n y f) (take (y * n) guess) (y * n) (length_places n y f) before

    same : length (place_values n y f) ≡ length (take (y * n) guess)
    same = length_places n y f ∙ sym before

    take_parts : take ((y + 1) * n) guess ≡ take (y * n) guess ++ take n (drop (y * n) guess)
    take_parts = ap (λ (k : ℕ). take k guess) split ∙ take-add (y * n) n guess

-- all rows
pub rows_all : (n y : ℕ) (f : ℕ → ℕ → ℕ) (guess : List ℕ) (levels : List ℤ) → y ≡ n → length levels ≡ n * n → length guess ≡ n * n → AreRows n f guess levels y
    → (levels ≡ differences (place_values n n f) guess) × AreBytes (place_values n n f)
rows_all n y f guess levels e long wide rows =
    let r : AreRows n f guess levels n = subst (λ (k : ℕ). AreRows n f guess levels k) e rows in
    (sym (take_all (n * n) levels (omega arith)) ∙ (r.levels_are ∙ ap (λ (l : List ℕ). differences (place_values n n f) l) (take_all (n * n) guess (omega arith))), r.bytes_are)
