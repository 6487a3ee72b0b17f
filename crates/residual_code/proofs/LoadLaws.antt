-- The rows of a sub-block in a block.
use Rattle.std.proofs.Common.{◌≡◌, sym, ◌∙◌, ap, ℕ, zero, suc, ◌+◌, ◌-◌, ◌*◌, ◌/◌, ◌%◌, ◌^◌, ◌<◌, ◌≤◌, inl, inr, List, length, get_or, take, drop, arith}
use Rattle.std.specs.Prelude.{ℤ, pos}
use Rattle.std.proofs.Math.Nat.{eq-or-lt_of_le}
use Rattle.std.proofs.lemmas.List.{places, get_or-take, get_or-drop}
use Rattle.std.proofs.lemmas.List.FromFn.{fill_by_all}
use borrow.Rule.Slice.PartMut.{put_mid}
use Rattle.h265_model.specs.Plain.{place_values}

pub row_fits : (log2 x y row : ℕ) → 3 ≤ log2 → log2 ≤ 5 → x < 2 ^ (log2 - 2) → y < 2 ^ (log2 - 2) → row < 4 →
    ((4 * y + row) * 2 ^ log2 % 4294967296 ≡ (4 * y + row) * 2 ^ log2) × ((4 * y + row) * 2 ^ log2 + 4 * x + 4 ≤ 2 ^ log2 * 2 ^ log2)
row_fits zero x y row low high h k r = absurd (omega arith)
row_fits (suc zero) x y row low high h k r = absurd (omega arith)
row_fits (suc (suc zero)) x y row low high h k r = absurd (omega arith)
row_fits (suc (suc (suc zero))) x y row low high h k r = (omega arith, omega arith)
row_fits (suc (suc (suc (suc zero)))) x y row low high h k r = (omega arith, omega arith)
row_fits (suc (suc (suc (suc (suc zero))))) x y row low high h k r = (omega arith, omega arith)
row_fits (suc (suc (suc (suc (suc (suc n)))))) x y row low high h k r = absurd (omega arith)

pub row_within : (log2 x y row at len : ℕ) → 3 ≤ log2 → log2 ≤ 5 → x < 2 ^ (log2 - 2) → y < 2 ^ (log2 - 2) → row < 4
    → at ≡ (4 * y + row) * 2 ^ log2 % 4294967296 + 4 * x → len ≡ 2 ^ log2 * 2 ^ log2 → at + 4 ≤ len
row_within log2 x y row at len low high h k r e f =
    let p = row_fits log2 x y row low high h k r in
    let a : at ≡ (4 * y + row) * 2 ^ log2 + 4 * x = e ∙ ap (λ n. n + 4 * x) p.0 in
    let b : (4 * y + row) * 2 ^ log2 + 4 * x + 4 ≤ 2 ^ log2 * 2 ^ log2 = p.1 in
    rw (a, f) b

pub row_read : (log2 x y row at n i : ℕ) (levels : List ℤ) → 3 ≤ log2 → log2 ≤ 5 → x < 2 ^ (log2 - 2) → y < 2 ^ (log2 - 2) → row < 4
    → at ≡ (4 * y + row) * 2 ^ log2 % 4294967296 + 4 * x → n ≡ 4 → i < 4 → get_or (take n (drop at levels)) i (pos 0) ≡ get_or levels ((4 * y + row) * 2 ^ log2 + 4 * x + i) (pos 0)
row_read log2 x y row at n i levels low high h k r e four less =
    let p = row_fits log2 x y row low high h k r in
    let a : at ≡ (4 * y + row) * 2 ^ log2 + 4 * x = e ∙ ap (λ m. m + 4 * x) p.0 in
    get_or-take n (drop at levels) i (pos 0) (omega arith) ∙ (get_or-drop at levels i (pos 0) ∙ ap (λ m. get_or levels (m + i) (pos 0)) a)

before : (xs ys : List ℤ) (a k i : ℕ) → a ≤ length xs → i < a → get_or (put_mid a k xs ys) i (pos 0) ≡ get_or xs i (pos 0)
before xs ys a k i le lt = grind (arith, places)

inside : (xs ys : List ℤ) (a k i j : ℕ) → a ≤ length xs → i ≡ a + j → j < length ys → get_or (put_mid a k xs ys) i (pos 0) ≡ get_or ys j (pos 0)
inside xs ys a k i j le e lt = grind (arith, places)

pub load_long : (tile part : List ℤ) (a k : ℕ) → length tile ≡ 16 → length part ≡ k → a + k ≤ 16 → length (put_mid a k tile part) ≡ 16
load_long tile part a k long e h = grind (arith, places)

pub load_more : (tile part : List ℤ) (row k : ℕ) (g : ℕ → ℕ → ℤ) → length tile ≡ 16 → row < 4 → length part ≡ 4
    → ((x : ℕ) → x < 4 → get_or part x (pos 0) ≡ g x row) → ((x y : ℕ) → x < 4 → y < row → get_or tile (4 * y + x) (pos 0) ≡ g x y)
    → (x y : ℕ) → x < 4 → y < row + 1 → get_or (put_mid (4 * row) k tile part) (4 * y + x) (pos 0) ≡ g x y
load_more tile part row k g long low four here earlier x y wide tall =
    let h : y ≤ row = omega arith in
    elim (eq-or-lt_of_le h) [
      | inl e ↦ inside tile part (4 * row) k (4 * y + x) x (omega arith) (omega arith) (omega arith) ∙ (here x wide ∙ ap (g x) (sym e))
      | inr less ↦ before tile part (4 * row) k (4 * y + x) (omega arith) (omega arith) ∙ earlier x y wide less
    ]

pub load_done : (tile : List ℤ) (row : ℕ) (g : ℕ → ℕ → ℤ) → length tile ≡ 16 → 4 ≤ row → ((x y : ℕ) → x < 4 → y < row → get_or tile (4 * y + x) (pos 0) ≡ g x y) → tile ≡ place_values 4 4 g
load_done tile row g long all each =
    fill_by_all (λ i. g (i % 4) (i / 4)) tile 16 (pos 0) long
    (λ i h. let e : i ≡ 4 * (i / 4) + i % 4 = omega arith in ap (λ k. get_or tile k (pos 0)) e ∙ each (i % 4) (i / 4) (omega arith) (omega arith))
