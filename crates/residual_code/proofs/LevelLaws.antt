-- Levels within the bounds.
use Rattle.std.proofs.Common.{◌≡◌, refl, sym, ◌∙◌, ap, ℕ, zero, suc, ◌+◌, ◌<◌, ◌≤◌, Bool, true, false, map, List, [], ◌∷◌, ◌++◌, length, get_or, take, subst, arith}
use Rattle.std.proofs.lemmas.List.{take_more}
use Rattle.std.specs.Prelude.{ℤ, pos, negsuc, nat_abs, ◌==◌}
use Rattle.h265_model.specs.Residual as residual
use Rattle.h265_model.specs.Residual.{AreLevels, nonzero, level_at, place_at, scan, counted_all, has_flag, ended_at_zero, greater1_flags, value_items}
use Rattle.std.proofs.lemmas.Bool.Decides.{nat_tests}
use Rattle.residual_code.specs.Parts.{down, tile_at, tile_levels, sub_tile}
use Rattle.std.specs.Prelude.{Result, Ok, Err, OnOk}
use Rattle.h265_model.specs.declared.memory.NoMemory.{NoMemory}
use Rattle.residual_code.proofs.Sizes.{size_high}
use Rattle.residual_code.proofs.FlagLaws.{nonzero-append}

pub tile_high : (s : residual.Shape) (block : List ℤ) (sub : ℕ × ℕ) → AreLevels block → AreLevels (sub_tile s block sub)
tile_high s block sub h =
    (at 0 0, (at 1 0, (at 2 0, (at 3 0, (at 0 1, (at 1 1, (at 2 1, (at 3 1, (at 0 2, (at 1 2, (at 2 2, (at 3 2, (at 0 3, (at 1 3, (at 2 3, (at 3 3, tt))))))))))))))))
  where
    at : (x y : ℕ) → nat_abs (level_at s block sub (x, y)) ≤ 255
    at x y = size_high block _ h

pub down_high : (f : ℕ → ℤ) (n : ℕ) → ((i : ℕ) → nat_abs (f i) ≤ 255) → AreLevels (down f n)
unfolding down
down_high f zero h = tt
down_high f (suc n) h = (h n, down_high f n h)

pub levels_high : (kind : ℕ) (tile : List ℤ) (k : ℕ) → AreLevels tile → AreLevels (tile_levels kind tile k)
levels_high kind tile k h = down_high (λ i. tile_at tile (place_at (scan kind 2) i)) k (λ i. size_high tile _ h)

pub nonzero_high : (levels : List ℤ) → AreLevels levels → AreLevels (nonzero levels)
nonzero_high [] h = tt
nonzero_high (pos zero ∷ levels) h = nonzero_high levels h.1
nonzero_high (pos (suc n) ∷ levels) h = (h.0, nonzero_high levels h.1)
nonzero_high (negsuc n ∷ levels) h = (h.0, nonzero_high levels h.1)

pub append_high : (a b : List ℤ) → AreLevels a → AreLevels b → AreLevels (a ++ b)
append_high [] b h k = k
append_high (v ∷ a) b h k = (h.0, append_high a b h.1 k)

pub nonzero_twice : (levels : List ℤ) → nonzero (nonzero levels) ≡ nonzero levels
nonzero_twice [] = refl
nonzero_twice (pos zero ∷ levels) = nonzero_twice levels
nonzero_twice (pos (suc n) ∷ levels) = ap (λ l. pos (suc n) ∷ l) (nonzero_twice levels)
nonzero_twice (negsuc n ∷ levels) = ap (λ l. negsuc n ∷ l) (nonzero_twice levels)

counted_zero : (flags : List Bool) → counted_all 0 flags ≡ 0
counted_zero [] = refl
counted_zero (true ∷ flags) = counted_zero flags
counted_zero (false ∷ flags) = counted_zero flags

-- the counter ends at 0 where a flag was 1
counted_some : (counter : ℕ) (flags : List Bool) → (counted_all (suc counter) flags == 0) ≡ has_flag flags
counted_some counter [] = grind (arith, nat_tests)
counted_some counter (true ∷ flags) = let e : counted_all 0 flags ≡ 0 = counted_zero flags in rw e refl
counted_some counter (false ∷ flags) = counted_some (suc counter) flags

pub ended_none : (before : Bool) (values : List ℤ) → length values ≡ 0 → before ≡ ended_at_zero before values
ended_none before [] h = refl
ended_none before (v ∷ values) h = absurd (omega arith)

pub ended_some : (before flag : Bool) (values : List ℤ) → 0 < length values → flag ≡ has_flag (greater1_flags 8 (map nat_abs values)) → flag ≡ ended_at_zero before values
ended_some before flag [] h e = absurd (omega arith)
ended_some before flag (v ∷ values) h e = e ∙ sym (counted_some 0 (greater1_flags 8 (map nat_abs (v ∷ values))))

pub values_nonzero : (values levels : List ℤ) → nonzero values ≡ values → nonzero (values ++ nonzero levels) ≡ values ++ nonzero levels
values_nonzero values levels h =
    nonzero-append values (nonzero levels) ∙ (ap (λ l. l ++ nonzero (nonzero levels)) h ∙ ap (λ l. values ++ l) (nonzero_twice levels))

pub on_ok : {P : Type 0} (r : Result (Unit {0}) NoMemory) → P → OnOk r P
on_ok (Ok done) h = h
on_ok (Err refused) h = tt

pub value_items_as : (component set other : ℕ) (values more : List ℤ) → set ≡ other → values ≡ more → value_items component set values ≡ value_items component other more
value_items_as component set other values more e f = rw (e, f) refl

pub high_more : (levels : List ℤ) (i : ℕ) → i < length levels → nat_abs (get_or levels i (pos 0)) ≤ 255 → AreLevels (take i levels) → AreLevels (take (i + 1) levels)
high_more levels i h low are = subst AreLevels (sym (take_more levels i (pos 0) h)) (append_high (take i levels) (get_or levels i (pos 0) ∷ []) are (low, tt))
