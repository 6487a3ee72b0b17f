-- Places that are multiples of a side.
use Rattle.std.proofs.Common.{◌≡◌, ℕ, ◌%◌, ◌^◌, ◌≤◌, inl, inr, arith}
use Rattle.std.proofs.lemmas.Bool.{cases_eq}

pub eights : (x log2 : ℕ) → 3 ≤ log2 → log2 ≤ 5 → x % 2 ^ log2 ≡ 0 → x % 8 ≡ 0
eights x log2 low high whole = elim (cases_eq log2 3) [
  | inl three ↦ rw three at whole
  | inr not_three ↦ elim (cases_eq log2 4) [
    | inl four ↦ let h : x % 16 ≡ 0 = rw four at whole in omega arith
    | inr not_four ↦
        let five : log2 ≡ 5 = omega arith in
        let h : x % 32 ≡ 0 = rw five at whole in omega arith
  ]
]
