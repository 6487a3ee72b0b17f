-- The coordinates of a block are small.
use Rattle.std.proofs.Common.{◌≡◌, ◌∙◌, ap, pow-suc, pow_mono, Bool, true, false, ℕ, zero, suc, ◌+◌, ◌-◌, ◌*◌, ◌/◌, ◌%◌, ◌^◌, ◌<◌, ◌≤◌, arith}
use Rattle.std.specs.Prelude.{◌==◌, if◌then◌else◌}
use Rattle.h265_model.specs.Residual.{swapped}

mod_low : (p : ℕ) → p % 2 < 2
mod_low p = omega arith

power_low : (n : ℕ) → n ≤ 3 → 2 ^ n ≤ 8
power_low zero h = omega arith
power_low (suc zero) h = omega arith
power_low (suc (suc zero)) h = omega arith
power_low (suc (suc (suc zero))) h = omega arith
power_low (suc (suc (suc (suc n)))) h = absurd (omega arith)

reduced_low : (x n : ℕ) → x % (n + 1) ≤ n
reduced_low x n = omega arith

pub coordinate_fits : (p suffix : ℕ) → p ≤ 9 → suffix < 2 ^ (p / 2 - 1) → (2 + p % 2) * 2 ^ (p / 2 - 1) % 4294967296 + suffix < 4294967296
coordinate_fits p suffix h k =
    let few : p / 2 - 1 ≤ 3 = omega arith in
    let low = power_low (p / 2 - 1) few in
    let m = mod_low p in
    let bound : (2 + p % 2) * 2 ^ (p / 2 - 1) ≤ 24 = bounded (p % 2) (2 ^ (p / 2 - 1)) m low in
    omega arith
  where
    bounded : (a b : ℕ) → a < 2 → b ≤ 8 → (2 + a) * b ≤ 24
    bounded zero b h k = omega arith
    bounded (suc zero) b h k = omega arith
    bounded (suc (suc a)) b h k = absurd (omega arith)

pub coordinate_short : (p : ℕ) → p < 4 → p < 2 ^ (p / 2 + 1)
coordinate_short zero h = omega arith
coordinate_short (suc zero) h = omega arith
coordinate_short (suc (suc zero)) h = omega arith
coordinate_short (suc (suc (suc zero))) h = omega arith
coordinate_short (suc (suc (suc (suc p)))) h = absurd (omega arith)

pub coordinate_low : (p suffix : ℕ) → 4 ≤ p → suffix < 2 ^ (p / 2 - 1) → (2 + p % 2) * 2 ^ (p / 2 - 1) % 4294967296 + suffix < 2 ^ (p / 2 + 1)
coordinate_low p suffix h k =
    let n : p / 2 + 1 ≡ suc (suc (p / 2 - 1)) = omega arith in
    let s : 2 ^ (p / 2 + 1) ≡ 2 ^ (p / 2 - 1) * 2 * 2 = ap (λ j. 2 ^ j) n ∙ pow-suc 2 (suc (p / 2 - 1)) ∙ ap (λ j. j * 2) (pow-suc 2 (p / 2 - 1)) in
    let m = by (p % 2) (2 ^ (p / 2 - 1)) (mod_low p) in
    omega arith
  where
    by : (a b : ℕ) → a < 2 → (2 + a) * b % 4294967296 ≤ 3 * b
    by zero b h = omega arith
    by (suc zero) b h = omega arith
    by (suc (suc a)) b h = absurd (omega arith)

-- a coordinate by its prefix is in the block
pub coordinate_in : (p log2 at : ℕ) → p ≤ 2 * log2 - 1 → 3 ≤ log2 → at < 2 ^ (p / 2 + 1) → at < 2 ^ log2
coordinate_in p log2 at h low k = let m : 2 ^ (p / 2 + 1) ≤ 2 ^ log2 = pow_mono {i = p / 2 + 1} {j = log2} (omega arith) in omega arith

pub swapped_low : (kind n : ℕ) (p : ℕ × ℕ) → p.0 < n → p.1 < n → ((swapped kind p).0 < n) × ((swapped kind p).1 < n)
swapped_low kind n p h k = go (kind == 2)
  where
    go : (b : Bool) → ((if b then (p.1, p.0) else p).0 < n) × ((if b then (p.1, p.0) else p).1 < n)
    go true = (k, h)
    go false = (h, k)
