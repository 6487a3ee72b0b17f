-- A block goes into the order of coding and back, and the law of residuals.
use Rattle.std.proofs.Common.{◌≡◌, refl, sym, ◌∙◌, ap, ℕ, zero, suc, ◌-◌, ◌*◌, ◌^◌, ◌≤◌, List, [], ◌∷◌, ◌++◌, Bool, true, false, cond, ◌||◌, length, replicate, arith}
use Rattle.std.specs.Prelude.{get_or, map, ℤ, pos, nat_abs, reverse}
use Rattle.h265_model.specs.Engine.{Reads}
use Rattle.h265_model.specs.Residual.{Shape, cbf, scan, sub_scan, level_at, in_coding_order, in_rows, zeros, residual_items, residual_read, from_subs, from_last, without_leading_zeros, last_items, place_of, sig_items, sub_at, value_items, set_of, nonzero, ended_at_zero, IsSide, eight, sixteen, thirty_two, AreLevels, shape}
use Rattle.h265_laws.proofs.Reading.{reads_as}
use Rattle.h265_laws.proofs.ResidualLaw.{AreSubs, reads_from_subs, has_levels, no_levels, AreBins, bins-append, last_are, sig_are, value_are, sub_are}

-- the levels in rows, each read from the block
abbrev each_of : ℕ → ℕ → List ℤ → List ℤ
each_of zero i block = []
each_of (suc n) i block = get_or block i (pos 0) ∷ each_of n (suc i) block

rows_back_8 : (component kind : ℕ) (block : List ℤ) → in_rows (shape component 3 kind) (in_coding_order (shape component 3 kind) block) ≡ each_of 64 0 block
unfolding in_rows in_coding_order scan
rows_back_8 component zero block = refl
rows_back_8 component (suc zero) block = refl
rows_back_8 component (suc (suc kind)) block = refl

no_rows_8 : (component kind : ℕ) → cbf (in_rows (shape component 3 kind) (replicate 4 zeros)) ≡ false
unfolding in_rows cbf scan
no_rows_8 component zero = refl
no_rows_8 component (suc zero) = refl
no_rows_8 component (suc (suc kind)) = refl

rows_back_16 : (component kind : ℕ) (block : List ℤ) → in_rows (shape component 4 kind) (in_coding_order (shape component 4 kind) block) ≡ each_of 256 0 block
unfolding in_rows in_coding_order scan
rows_back_16 component zero block = refl
rows_back_16 component (suc zero) block = refl
rows_back_16 component (suc (suc kind)) block = refl

no_rows_16 : (component kind : ℕ) → cbf (in_rows (shape component 4 kind) (replicate 16 zeros)) ≡ false
unfolding in_rows cbf scan
no_rows_16 component zero = refl
no_rows_16 component (suc zero) = refl
no_rows_16 component (suc (suc kind)) = refl

rows_back_32 : (component kind : ℕ) (block : List ℤ) → in_rows (shape component 5 kind) (in_coding_order (shape component 5 kind) block) ≡ each_of 1024 0 block
unfolding in_rows in_coding_order scan
rows_back_32 component zero block = refl
rows_back_32 component (suc zero) block = refl
rows_back_32 component (suc (suc kind)) block = refl

no_rows_32 : (component kind : ℕ) → cbf (in_rows (shape component 5 kind) (replicate 64 zeros)) ≡ false
unfolding in_rows cbf scan
no_rows_32 component zero = refl
no_rows_32 component (suc zero) = refl
no_rows_32 component (suc (suc kind)) = refl

subs_long_8 : (component kind : ℕ) (block : List ℤ) → length (in_coding_order (shape component 3 kind) block) ≡ 4
unfolding in_coding_order scan
subs_long_8 component zero block = refl
subs_long_8 component (suc zero) block = refl
subs_long_8 component (suc (suc kind)) block = refl

scan_long_8 : (component kind : ℕ) → length (sub_scan (shape component 3 kind)) ≡ 4
unfolding scan
scan_long_8 component zero = refl
scan_long_8 component (suc zero) = refl
scan_long_8 component (suc (suc kind)) = refl

subs_long_16 : (component kind : ℕ) (block : List ℤ) → length (in_coding_order (shape component 4 kind) block) ≡ 16
unfolding in_coding_order scan
subs_long_16 component zero block = refl
subs_long_16 component (suc zero) block = refl
subs_long_16 component (suc (suc kind)) block = refl

scan_long_16 : (component kind : ℕ) → length (sub_scan (shape component 4 kind)) ≡ 16
unfolding scan
scan_long_16 component zero = refl
scan_long_16 component (suc zero) = refl
scan_long_16 component (suc (suc kind)) = refl

subs_long_32 : (component kind : ℕ) (block : List ℤ) → length (in_coding_order (shape component 5 kind) block) ≡ 64
unfolding in_coding_order scan
subs_long_32 component zero block = refl
subs_long_32 component (suc zero) block = refl
subs_long_32 component (suc (suc kind)) block = refl

scan_long_32 : (component kind : ℕ) → length (sub_scan (shape component 5 kind)) ≡ 64
unfolding scan
scan_long_32 component zero = refl
scan_long_32 component (suc zero) = refl
scan_long_32 component (suc (suc kind)) = refl

places_long : (kind : ℕ) → length (reverse (scan kind 2)) ≡ 16
unfolding scan
places_long zero = refl
places_long (suc zero) = refl
places_long (suc (suc kind)) = refl

each_later : (n i : ℕ) (v : ℤ) (block : List ℤ) → each_of n (suc i) (v ∷ block) ≡ each_of n i block
each_later zero i v block = refl
each_later (suc n) i v block = ap (λ (l : List ℤ). get_or block i (pos 0) ∷ l) (each_later n (suc i) v block)

each_back : (block : List ℤ) → each_of (length block) 0 block ≡ block
each_back [] = refl
each_back (v ∷ block) = ap (λ (l : List ℤ). v ∷ l) (each_later (length block) 0 v block ∙ each_back block)

level_bound : (block : List ℤ) (i : ℕ) → AreLevels block → nat_abs (get_or block i (pos 0)) ≤ 255
level_bound [] i h = omega arith
level_bound (v ∷ block) zero h = h.0
level_bound (v ∷ block) (suc i) h = level_bound block i h.1

levels_at : (s : Shape) (block : List ℤ) (sub : ℕ × ℕ) (places : List (ℕ × ℕ)) → AreLevels block → AreLevels (map (λ place. level_at s block sub place) places)
levels_at s block sub [] h = tt
levels_at s block sub (p ∷ places) h = (level_bound block _ h, levels_at s block sub places h)

length-levels : (s : Shape) (block : List ℤ) (sub : ℕ × ℕ) (places : List (ℕ × ℕ)) → length (map (λ place. level_at s block sub place) places) ≡ length places
length-levels s block sub [] = refl
length-levels s block sub (p ∷ places) = ap suc (length-levels s block sub places)

subs_at : (s : Shape) (block : List ℤ) (places subs : List (ℕ × ℕ)) → length places ≡ 16 → AreLevels block → AreSubs (map (λ sub. map (λ place. level_at s block sub place) places) subs)
subs_at s block places [] long h = tt
subs_at s block places (sub ∷ subs) long h = (length-levels s block sub places ∙ long, levels_at s block sub places h, subs_at s block places subs long h)

subs_of : (s : Shape) (block : List ℤ) → AreLevels block → AreSubs (in_coding_order s block)
unfolding in_coding_order
subs_of s block h = subs_at s block (reverse (scan s.scan 2)) (reverse (sub_scan s)) (places_long s.scan) h

all_zero : (subs : List (List ℤ)) → AreSubs subs → has_levels subs ≡ false → subs ≡ replicate (length subs) zeros
all_zero [] h e = refl
all_zero (levels ∷ subs) h e = go (cbf levels) refl e (all_zero subs h.2)
  where
    go : (b : Bool) → cbf levels ≡ b → (b || has_levels subs) ≡ false → (has_levels subs ≡ false → subs ≡ replicate (length subs) zeros) → levels ∷ subs ≡ replicate (suc (length subs)) zeros
    go true f k later = absurd (cc)
    go false f k later = ap (λ (l : List ℤ). l ∷ subs) (no_levels levels f ∙ ap (λ (n : ℕ). replicate n (pos 0)) h.0) ∙ ap (λ (l : List (List ℤ)). zeros ∷ l) (later k)

-- the law, at a side
by_parts : (s : Shape) (block : List ℤ) (n : ℕ) → IsSide s.log2 → 4 ^ (s.log2 - 2) ≡ n
    → length (in_coding_order s block) ≡ n → length (sub_scan s) ≡ n → in_rows s (in_coding_order s block) ≡ block → cbf (in_rows s (replicate n zeros)) ≡ false
    → AreLevels block → cbf block ≡ true → Reads (residual_read s) (residual_items s block) block
unfolding residual_items
by_parts s block n is_side power long scan_long back none bounds some =
    let subs : List (List ℤ) = in_coding_order s block in
    let are : AreSubs subs = subs_of s block bounds in
    let few : length subs ≤ 4 ^ (s.log2 - 2) = omega arith in
    let nothing : length (sub_scan s) - length subs ≡ 0 = omega arith in
    reads_as (residual_read s) (from_subs s subs) (from_subs s subs) _ block refl
    (ap (λ (m : ℕ). in_rows s (replicate m zeros ++ subs)) nothing ∙ back)
    (reads_from_subs s subs is_side few (scan_long ∙ sym power) are (has (has_levels subs) refl))
  where
    has : (b : Bool) → has_levels (in_coding_order s block) ≡ b → has_levels (in_coding_order s block) ≡ true
    has true e = e
    has false e = absurd (let z : in_coding_order s block ≡ replicate n zeros = all_zero (in_coding_order s block) (subs_of s block bounds) e ∙ ap (λ (m : ℕ). replicate m zeros) long in
        let f : cbf block ≡ false = ap cbf (sym back ∙ ap (in_rows s) z) ∙ none in cc)

pub residual_law : (component log2 kind : ℕ) (block : List ℤ) → IsSide log2 → length block ≡ 2 ^ log2 * 2 ^ log2 → AreLevels block → cbf block ≡ true
    → Reads (residual_read (shape component log2 kind)) (residual_items (shape component log2 kind) block) block
residual_law component _ kind block eight long bounds some =
    by_parts (shape component 3 kind) block 4 eight refl (subs_long_8 component kind block) (scan_long_8 component kind)
    (rows_back_8 component kind block ∙ (ap (λ (n : ℕ). each_of n 0 block) (sym long) ∙ each_back block)) (no_rows_8 component kind) bounds some
residual_law component _ kind block sixteen long bounds some =
    by_parts (shape component 4 kind) block 16 sixteen refl (subs_long_16 component kind block) (scan_long_16 component kind)
    (rows_back_16 component kind block ∙ (ap (λ (n : ℕ). each_of n 0 block) (sym long) ∙ each_back block)) (no_rows_16 component kind) bounds some
residual_law component _ kind block thirty_two long bounds some =
    by_parts (shape component 5 kind) block 64 thirty_two refl (subs_long_32 component kind block) (scan_long_32 component kind)
    (rows_back_32 component kind block ∙ (ap (λ (n : ℕ). each_of n 0 block) (sym long) ∙ each_back block)) (no_rows_32 component kind) bounds some

-- the items are bins
from_are : (s : Shape) (subs : List (List ℤ)) → AreBins (from_subs s subs)
from_are s [] = tt
from_are s (levels ∷ subs) = go (cbf levels) (from_are s subs)
  where
    last_level : (ls : List ℤ) → AreBins (from_last s ls subs)
    last_level [] = tt
    last_level (v ∷ rest) =
        bins-append (last_items s (place_of s (length subs) (length rest))) _ (last_are s (place_of s (length subs) (length rest)))
        (bins-append (sig_items s (sub_at s (length subs) []) false true rest ++ value_items s.component (set_of s (length subs) false) (v ∷ nonzero rest)) _
        (bins-append (sig_items s (sub_at s (length subs) []) false true rest) _ (sig_are s (sub_at s (length subs) []) false true rest) (value_are s.component (set_of s (length subs) false) (v ∷ nonzero rest)))
        (sub_are s (true ∷ []) (ended_at_zero false (v ∷ nonzero rest)) subs))

    go : (b : Bool) → AreBins (from_subs s subs) → AreBins (cond b (from_last s (without_leading_zeros levels) subs) (from_subs s subs))
    go true h = last_level (without_leading_zeros levels)
    go false h = h

pub residual_are : (s : Shape) (block : List ℤ) → AreBins (residual_items s block)
unfolding residual_items
residual_are s block = from_are s (in_coding_order s block)
