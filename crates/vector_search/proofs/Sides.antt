-- Blocks in squares of 8.
use Rattle.std.proofs.Common.{◌≡◌, refl, ℕ, ◌+◌, ◌-◌, ◌*◌, ◌/◌, ◌%◌, ◌^◌, ◌≤◌, arith, inl, inr}
use Rattle.std.proofs.lemmas.Bool.{cases_eq}

-- the side of a block in squares
pub side_eights : (log2 : ℕ) → 3 ≤ log2 → log2 ≤ 5 → (2 ^ log2 / 8 * 8 ≡ 2 ^ log2) × (1 ≤ 2 ^ log2 / 8) × (2 ^ log2 ≤ 32)
side_eights log2 low high = elim (cases_eq log2 3) [
  | inl three ↦ rw three (refl, omega arith, omega arith)
  | inr not_three ↦ elim (cases_eq log2 4) [
    | inl four ↦ rw four (refl, omega arith, omega arith)
    | inr not_four ↦
        let five : log2 ≡ 5 = omega arith in
        rw five (refl, omega arith, omega arith)
  ]
]

-- a multiple of a side is one of 8
pub eights : (x log2 : ℕ) → 3 ≤ log2 → log2 ≤ 5 → x % 2 ^ log2 ≡ 0 → x % 8 ≡ 0
eights x log2 low high whole = elim (cases_eq log2 3) [
  | inl three ↦ rw three at whole
  | inr not_three ↦ elim (cases_eq log2 4) [
    | inl four ↦ let sixteen : x % 16 ≡ 0 = rw four at whole in omega arith
    | inr not_four ↦
        let five : log2 ≡ 5 = omega arith in
        let sides : x % 32 ≡ 0 = rw five at whole in omega arith
  ]
]

pub eights_apart : (tx x : ℕ) → tx % 32 ≡ 0 → x % 8 ≡ 0 → tx ≤ x → x ≡ tx + (x - tx) / 8 * 8
eights_apart tx x a b h = omega arith
