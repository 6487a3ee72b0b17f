-- A block by its sub-blocks, and what is written of them one after another.
use Rattle.std.proofs.Common.{◌≡◌, refl, sym, ◌∙◌, ap, ℕ, zero, suc, ◌+◌, ◌-◌, ◌*◌, ◌/◌, ◌%◌, ◌^◌, ◌<◌, ◌≤◌, Bool, true, false, cond, not, ◌||◌, inl, inr, List, [], ◌∷◌, ◌++◌, length, map, reverse, get_or, append_assoc, arith}
use Rattle.std.specs.Prelude.{ℤ, pos, ◌==◌}
use Rattle.std.proofs.lemmas.Bool.{false≢true}
use Rattle.std.proofs.Math.Nat.{eq-or-lt_of_le}
use Rattle.h265_model.specs.Plain.{context_bin, place_values}
use Rattle.h265_model.specs.Residual as residual
use Rattle.h265_model.specs.Residual.{scan, sub_scan, place_at, number_of, level_at, in_coding_order, residual_items, from_subs, from_last, without_leading_zeros, cbf, sub_items, sub_at, last_items, place_of, sig_items, value_items, set_of, nonzero, ended_at_zero, flag_context}
use Rattle.residual_code.specs.Parts.{down, tile_at, tile_levels, sub_tile, sub_levels, sub_part, coded_at}
use Rattle.residual_code.proofs.Zeros.{any_level, none_of}
use Rattle.residual_code.proofs.Down.{length-down, down_first, down_none}
use Rattle.scan_orders.proofs.ScanPlaces.{number_found, covered, scan_long}
use Rattle.residual_code.proofs.Tiles.{none_down}

map_same : {A B : Type 0} (f g : A → B) (xs : List A) → ((x : A) → f x ≡ g x) → map f xs ≡ map g xs
map_same f g [] h = refl
map_same f g (x ∷ xs) h = ap (λ y. y ∷ map f xs) (h x) ∙ ap (λ l. g x ∷ l) (map_same f g xs h)

tile_order : (kind : ℕ) (g : ℕ × ℕ → ℤ) → map g (reverse (scan kind 2)) ≡ tile_levels kind (place_values 4 4 (λ x y. g (x, y))) 16
unfolding scan down
tile_order zero g = refl
tile_order (suc zero) g = refl
tile_order (suc (suc kind)) g = refl

subs_order : (kind log2 : ℕ) (h : ℕ × ℕ → List ℤ) → 1 ≤ log2 → log2 ≤ 3 → map h (reverse (scan kind log2)) ≡ down (λ n. h (place_at (scan kind log2) n)) (4 ^ log2)
unfolding scan down
subs_order kind zero h low high = absurd (omega arith)
subs_order zero (suc zero) h low high = refl
subs_order zero (suc (suc zero)) h low high = refl
subs_order zero (suc (suc (suc zero))) h low high = refl
subs_order (suc zero) (suc zero) h low high = refl
subs_order (suc zero) (suc (suc zero)) h low high = refl
subs_order (suc zero) (suc (suc (suc zero))) h low high = refl
subs_order (suc (suc kind)) (suc zero) h low high = refl
subs_order (suc (suc kind)) (suc (suc zero)) h low high = refl
subs_order (suc (suc kind)) (suc (suc (suc zero))) h low high = refl
subs_order kind (suc (suc (suc (suc n)))) h low high = absurd (omega arith)

pub in_order : (s : residual.Shape) (block : List ℤ) → 3 ≤ s.log2 → s.log2 ≤ 5 → in_coding_order s block ≡ down (sub_levels s block) (4 ^ (s.log2 - 2))
unfolding in_coding_order
in_order s block low high =
    map_same (λ sub. map (λ place. level_at s block sub place) (reverse (scan s.scan 2))) (λ sub. tile_levels s.scan (sub_tile s block sub) 16) (reverse (sub_scan s))
    (λ sub. tile_order s.scan (λ place. level_at s block sub place))
    ∙ subs_order s.scan (s.log2 - 2) (λ sub. tile_levels s.scan (sub_tile s block sub) 16) (omega arith) (omega arith)

pub items_start : (s : residual.Shape) (block : List ℤ) → 3 ≤ s.log2 → s.log2 ≤ 5 → residual_items s block ≡ from_subs s (down (sub_levels s block) (4 ^ (s.log2 - 2)))
unfolding residual_items
items_start s block low high = ap (from_subs s) (in_order s block low high)

pub from_empty : (s : residual.Shape) (F : ℕ → List ℤ) (left : ℕ) → 0 < left → cbf (F (left - 1)) ≡ false → from_subs s (down F left) ≡ from_subs s (down F (left - 1))
from_empty s F left h e = ap (from_subs s) (down_first F left h) ∙ rw e refl

pub from_coded : (s : residual.Shape) (F : ℕ → List ℤ) (left : ℕ) → 0 < left → cbf (F (left - 1)) ≡ true → from_subs s (down F left) ≡ from_last s (without_leading_zeros (F (left - 1))) (down F (left - 1))
from_coded s F left h e = ap (from_subs s) (down_first F left h) ∙ rw e refl

-- from the last level on
pub from_is : (s : residual.Shape) (F : ℕ → List ℤ) (f : ℕ → ℤ) (n k : ℕ) (v : ℤ) → from_last s (v ∷ down f k) (down F n)
    ≡ last_items s (place_of s n k) ++ ((sig_items s (sub_at s n []) false true (down f k) ++ value_items s.component (set_of s n false) (v ∷ nonzero (down f k)))
    ++ sub_items s (true ∷ []) (ended_at_zero false (v ∷ nonzero (down f k))) (down F n))
from_is s F f n k v =
    ap (λ m. last_items s (place_of s m (length (down f k))) ++ ((sig_items s (sub_at s m []) false true (down f k) ++ value_items s.component (set_of s m false) (v ∷ nonzero (down f k)))
    ++ sub_items s (true ∷ []) (ended_at_zero false (v ∷ nonzero (down f k))) (down F n))) (length-down F n)
    ∙ ap (λ m. last_items s (place_of s n m) ++ ((sig_items s (sub_at s n []) false true (down f k) ++ value_items s.component (set_of s n false) (v ∷ nonzero (down f k)))
    ++ sub_items s (true ∷ []) (ended_at_zero false (v ∷ nonzero (down f k))) (down F n))) (length-down f k)

-- one more sub-block before the last
part_then : (s : residual.Shape) (number : ℕ) (flags : List Bool) (ended : Bool) (levels : List ℤ) (subs : List (List ℤ)) → length subs ≡ number →
    sub_items s flags ended (levels ∷ subs)
    ≡ sub_part s (sub_at s number flags) ended levels ++ sub_items s (coded_at number levels ∷ flags) (ended_at_zero ended (nonzero levels)) subs
part_then s number flags ended levels subs e =
    ap (λ m. cond (not (m == 0)) (context_bin (not (not (m == 0)) || cbf levels) (flag_context s (sub_at s m flags)) ∷ []) []
    ++ (cond (not (not (m == 0)) || cbf levels) (sig_items s (sub_at s m flags) (not (m == 0)) false levels ++ value_items s.component (set_of s m ended) (nonzero levels)) []
    ++ sub_items s ((not (not (m == 0)) || cbf levels) ∷ flags) (ended_at_zero ended (nonzero levels)) subs)) e
    ∙ sym (append_assoc (cond (not (number == 0)) (context_bin (coded_at number levels) (flag_context s (sub_at s number flags)) ∷ []) [])
    (cond (coded_at number levels) (sig_items s (sub_at s number flags) (not (number == 0)) false levels ++ value_items s.component (set_of s number ended) (nonzero levels)) [])
    (sub_items s (coded_at number levels ∷ flags) (ended_at_zero ended (nonzero levels)) subs))

pub sub_more : (s : residual.Shape) (F : ℕ → List ℤ) (flags : List Bool) (ended after : Bool) (left : ℕ) → 0 < left → after ≡ ended_at_zero ended (nonzero (F (left - 1))) →
    sub_items s flags ended (down F left)
    ≡ sub_part s (sub_at s (left - 1) flags) ended (F (left - 1)) ++ sub_items s (coded_at (left - 1) (F (left - 1)) ∷ flags) after (down F (left - 1))
sub_more s F flags ended after left h e =
    rw e (ap (sub_items s flags ended) (down_first F left h) ∙ part_then s (left - 1) flags ended (F (left - 1)) (down F (left - 1)) (length-down F (left - 1)))

pub subs_end : (s : residual.Shape) (F : ℕ → List ℤ) (flags : List Bool) (ended : Bool) (left : ℕ) → left ≤ 0 → sub_items s flags ended (down F left) ≡ []
subs_end s F flags ended left h = let z : left ≡ 0 = omega arith in rw (z, down_none F) refl

-- ---- a block with a level has a sub-block with one

pub record AreEmpty (s : residual.Shape) (block : List ℤ) (from : ℕ) : Type 0 where
  pub each : (n : ℕ) → from ≤ n → n < 4 ^ (s.log2 - 2) → cbf (sub_levels s block n) ≡ false

pub empty_start : (s : residual.Shape) (block : List ℤ) (from : ℕ) → from ≡ 4 ^ (s.log2 - 2) → AreEmpty s block from
empty_start s block from e = record { each = λ n h k. absurd (omega arith) }

pub empty_more : (s : residual.Shape) (block : List ℤ) (from : ℕ) → 0 < from → cbf (sub_levels s block (from - 1)) ≡ false → AreEmpty s block from → AreEmpty s block (from - 1)
empty_more s block from some e are = record {
  each = λ n h k. elim (eq-or-lt_of_le h) [ inl same ↦ ap (λ m. cbf (sub_levels s block m)) (sym same) ∙ e | inr later ↦ are.each n (omega arith) k ];
}

-- a place of the block by its sub-block and its place there
in_sub : (log2 i : ℕ) → 3 ≤ log2 → log2 ≤ 5 → i < 2 ^ log2 * 2 ^ log2 →
    ((i / 2 ^ log2 / 4 * 2 ^ (log2 - 2) + i % 2 ^ log2 / 4) < 4 ^ (log2 - 2))
    × (((i / 2 ^ log2 / 4 * 2 ^ (log2 - 2) + i % 2 ^ log2 / 4) % 2 ^ (log2 - 2)) ≡ i % 2 ^ log2 / 4)
    × (((i / 2 ^ log2 / 4 * 2 ^ (log2 - 2) + i % 2 ^ log2 / 4) / 2 ^ (log2 - 2)) ≡ i / 2 ^ log2 / 4)
    × ((4 * (i / 2 ^ log2 / 4) + i / 2 ^ log2 % 4) * 2 ^ log2 + 4 * (i % 2 ^ log2 / 4) + i % 2 ^ log2 % 4 ≡ i)
in_sub zero i low high h = absurd (omega arith)
in_sub (suc zero) i low high h = absurd (omega arith)
in_sub (suc (suc zero)) i low high h = absurd (omega arith)
in_sub (suc (suc (suc zero))) i low high h = (omega arith, omega arith, omega arith, omega arith)
in_sub (suc (suc (suc (suc zero)))) i low high h = (omega arith, omega arith, omega arith, omega arith)
in_sub (suc (suc (suc (suc (suc zero))))) i low high h = (omega arith, omega arith, omega arith, omega arith)
in_sub (suc (suc (suc (suc (suc (suc n)))))) i low high h = absurd (omega arith)

tile_read : (g : ℕ → ℕ → ℤ) (x y : ℕ) → x < 4 → y < 4 → tile_at (place_values 4 4 g) (x, y) ≡ g x y
tile_read g x zero h k = go x h
  where
    go : (a : ℕ) → a < 4 → tile_at (place_values 4 4 g) (a, 0) ≡ g a 0
    go zero e = refl
    go (suc zero) e = refl
    go (suc (suc zero)) e = refl
    go (suc (suc (suc zero))) e = refl
    go (suc (suc (suc (suc n)))) e = absurd (omega arith)
tile_read g x (suc zero) h k = go x h
  where
    go : (a : ℕ) → a < 4 → tile_at (place_values 4 4 g) (a, 1) ≡ g a 1
    go zero e = refl
    go (suc zero) e = refl
    go (suc (suc zero)) e = refl
    go (suc (suc (suc zero))) e = refl
    go (suc (suc (suc (suc n)))) e = absurd (omega arith)
tile_read g x (suc (suc zero)) h k = go x h
  where
    go : (a : ℕ) → a < 4 → tile_at (place_values 4 4 g) (a, 2) ≡ g a 2
    go zero e = refl
    go (suc zero) e = refl
    go (suc (suc zero)) e = refl
    go (suc (suc (suc zero))) e = refl
    go (suc (suc (suc (suc n)))) e = absurd (omega arith)
tile_read g x (suc (suc (suc zero))) h k = go x h
  where
    go : (a : ℕ) → a < 4 → tile_at (place_values 4 4 g) (a, 3) ≡ g a 3
    go zero e = refl
    go (suc zero) e = refl
    go (suc (suc zero)) e = refl
    go (suc (suc (suc zero))) e = refl
    go (suc (suc (suc (suc n)))) e = absurd (omega arith)
tile_read g x (suc (suc (suc (suc n)))) h k = absurd (omega arith)

pub none_left : (s : residual.Shape) (block : List ℤ) (left : ℕ) → 3 ≤ s.log2 → s.log2 ≤ 5 → length block ≡ 2 ^ s.log2 * 2 ^ s.log2 → left ≤ 0 → AreEmpty s block left → any_level block ≡ true → ⊥
unfolding cbf
none_left s block left low high long z are some = false≢true (sym (none_of block at) ∙ some)
  where
    at : (i : ℕ) → i < length block → get_or block i (pos 0) ≡ pos 0
    at i h =
        let p = in_sub s.log2 i low high (omega arith) in
        let j : ℕ = i / 2 ^ s.log2 / 4 * 2 ^ (s.log2 - 2) + i % 2 ^ s.log2 / 4 in
        let x : ℕ = i % 2 ^ s.log2 in
        let y : ℕ = i / 2 ^ s.log2 in
        let n : ℕ = number_of (j % 2 ^ (s.log2 - 2)) (j / 2 ^ (s.log2 - 2)) (sub_scan s) in
        let few : n < 4 ^ (s.log2 - 2) = covered s.scan (s.log2 - 2) j (omega arith) (omega arith) p.0 in
        let l : length (sub_scan s) ≡ 4 ^ (s.log2 - 2) = scan_long s.scan (s.log2 - 2) (omega arith) (omega arith) in
        let sub_is : place_at (sub_scan s) n ≡ (j % 2 ^ (s.log2 - 2), j / 2 ^ (s.log2 - 2)) = number_found (j % 2 ^ (s.log2 - 2)) (j / 2 ^ (s.log2 - 2)) (sub_scan s) (omega arith) in
        let k : ℕ = number_of (x % 4) (y % 4) (scan s.scan 2) in
        let m : ℕ = 4 * (y % 4) + x % 4 in
        let mx : m % 4 ≡ x % 4 = omega arith in
        let my : m / 4 ≡ y % 4 = omega arith in
        let inner : number_of (m % 4) (m / 4) (scan s.scan 2) < 16 = covered s.scan 2 m (omega arith) (omega arith) (omega arith) in
        let kk : number_of (m % 4) (m / 4) (scan s.scan 2) ≡ k = ap (λ a. number_of a (m / 4) (scan s.scan 2)) mx ∙ ap (λ a. number_of (x % 4) a (scan s.scan 2)) my in
        let l2 : length (scan s.scan 2) ≡ 16 = scan_long s.scan 2 (omega arith) (omega arith) in
        let place_is : place_at (scan s.scan 2) k ≡ (x % 4, y % 4) = number_found (x % 4) (y % 4) (scan s.scan 2) (omega arith) in
        let e : cbf (sub_levels s block n) ≡ false = are.each n (omega arith) few in
        let zero_there : tile_at (sub_tile s block (place_at (sub_scan s) n)) (place_at (scan s.scan 2) k) ≡ pos 0 =
        none_down (λ i. tile_at (sub_tile s block (place_at (sub_scan s) n)) (place_at (scan s.scan 2) i)) 16 e k (omega arith) in
        let read : tile_at (sub_tile s block (place_at (sub_scan s) n)) (x % 4, y % 4) ≡ level_at s block (place_at (sub_scan s) n) (x % 4, y % 4) =
        tile_read (λ a b. level_at s block (place_at (sub_scan s) n) (a, b)) (x % 4) (y % 4) (omega arith) (omega arith) in
        let index : (4 * (j / 2 ^ (s.log2 - 2)) + y % 4) * 2 ^ s.log2 + 4 * (j % 2 ^ (s.log2 - 2)) + x % 4 ≡ i =
        ap (λ a. (4 * (j / 2 ^ (s.log2 - 2)) + y % 4) * 2 ^ s.log2 + 4 * a + x % 4) p.1 ∙ (ap (λ a. (4 * a + y % 4) * 2 ^ s.log2 + 4 * (x / 4) + x % 4) p.2 ∙ p.3) in
        ap (λ a. get_or block a (pos 0)) (sym index)
        ∙ (ap (λ (sub : ℕ × ℕ). level_at s block sub (x % 4, y % 4)) (sym sub_is)
        ∙ (sym read ∙ (ap (λ (p : ℕ × ℕ). tile_at (sub_tile s block (place_at (sub_scan s) n)) p) (sym place_is) ∙ zero_there)))
