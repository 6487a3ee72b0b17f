-- How many flags there are, and how many positions are compared.
use Rattle.std.proofs.Common.{◌≡◌, refl, ℕ, zero, suc, ◌+◌, ◌*◌, ◌≤◌, List, [], ◌∷◌, Bool, true, false, take, set, get_or, replicate, arith}
use Rattle.picture_encoder.specs.Planning.{raised, most_ticks}

pub none_raised : (n : ℕ) → raised (replicate n false) ≡ 0
none_raised zero = refl
none_raised (suc n) = none_raised n

-- one flag more is one more at most
pub raised_set : (flags : List Bool) (i : ℕ) → raised (set flags i true) ≤ raised flags + 1
raised_set [] i = omega arith
raised_set (true ∷ flags) zero = omega arith
raised_set (false ∷ flags) zero = omega arith
raised_set (true ∷ flags) (suc i) = omega (arith, raised_set flags i)
raised_set (false ∷ flags) (suc i) = omega (arith, raised_set flags i)

pub raised_front : (flags : List Bool) (n : ℕ) → raised (take n flags) ≤ raised flags
raised_front [] zero = omega arith
raised_front [] (suc n) = omega arith
raised_front (f ∷ flags) zero = omega arith
raised_front (true ∷ flags) (suc n) = omega (arith, raised_front flags n)
raised_front (false ∷ flags) (suc n) = omega (arith, raised_front flags n)

-- the flags so far and the next one
pub raised_next : (flags : List Bool) (n : ℕ) → 1024 * raised (take (suc n) flags) ≡ 1024 * raised (take n flags) + most_ticks (get_or flags n false)
raised_next [] zero = refl
raised_next [] (suc n) = refl
raised_next (true ∷ flags) zero = omega arith
raised_next (false ∷ flags) zero = omega arith
raised_next (true ∷ flags) (suc n) = omega (arith, raised_next flags n)
raised_next (false ∷ flags) (suc n) = omega (arith, raised_next flags n)

pub ticks_are : (flag : Bool) (old new : ℕ) → new ≤ old + 1024 → (flag ≡ false → new ≡ old) → new ≤ old + most_ticks flag
ticks_are true old new high none = high
ticks_are false old new high none = let same : new ≡ old = none refl in omega arith
