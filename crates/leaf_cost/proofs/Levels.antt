-- Costs of levels, and their sums row by row.
use Rattle.std.proofs.Common.{◌≡◌, ℕ, zero, suc, ◌+◌, ◌*◌, ◌-◌, ◌<◌, ◌≤◌, ◌^◌, cond, leb, List, [], ◌∷◌, ◌++◌, length, get_or, take, sum_by, pos, negsuc, ◌-ℤ◌, refl, sym, ap, arith, add-one, zero-add, inl, inr}
use Rattle.std.proofs.lemmas.Int.{ints}
use lib.Count.{count_leading_zeros}
use Rattle.std.proofs.lemmas.Nat.{leading_top}
use Rattle.std.proofs.lemmas.Bool.{le-leb, lt-leb, cases_eq, cases_lt}
use Rattle.std.proofs.Math.Nat.{pow-le-pow_right}
use Rattle.std.proofs.lemmas.List.Sums.{sum_by-append}
use Rattle.h265_model.specs.Bits.{digits_up_to, digit_count}
use Rattle.h265_model.specs.Tree.{differences}
use Rattle.h265_model.specs.Choice.{level_cost}

-- how many binary digits a number has
pub digits_is : (n j v : ℕ) → suc j ≤ n → 2 ^ j ≤ v → v < 2 ^ suc j → digits_up_to n v ≡ suc j
unfolding digits_up_to
digits_is zero j v most low high = absurd (omega arith)
digits_is (suc n) j v most low high =
    elim (cases_eq j n) as (λ _. cond (leb (2 ^ n) v) (suc n) (digits_up_to n v) ≡ suc j) [
      | inl same ↦ rw (le-leb (2 ^ n) v (rw (← same) low)) (ap suc (sym same))
      | inr other ↦ let up : 2 ^ suc j ≤ 2 ^ n = pow-le-pow_right {n = 2} (omega arith) {i = suc j} {j = n} (omega arith) in rw (lt-leb (2 ^ n) v (omega arith)) (digits_is n j v (omega arith) low high)
    ]

pub level_cost-leading : (d : ℕ) → 0 < d → d < 2 ^ 8 → 17 - 2 * count_leading_zeros 8 d ≡ level_cost (pos d)
level_cost-leading zero some small = absurd (omega arith)
level_cost-leading (suc m) some small =
    let t = leading_top 8 (suc m) some small in
    let k : digit_count (suc m) ≡ suc t.0 = digits_is 64 t.0 (suc m) (omega (arith, t.1)) t.2 t.3 in
    rw k (omega (arith, t.1))

minus_down : (a b : ℕ) → b ≤ a → pos a -ℤ pos b ≡ pos (a - b)
minus_down a b h = omega (arith, ints)

minus_up : (a b k : ℕ) → a + suc k ≡ b → pos a -ℤ pos b ≡ negsuc k
minus_up a b k h = omega (arith, ints)

pub level_cost-minus : (a b : ℕ) → level_cost (pos ((a - b) + (b - a))) ≡ level_cost (pos a -ℤ pos b)
level_cost-minus a b =
    elim (cases_lt a b) [
      | inl less ↦ let n : (a - b) + (b - a) ≡ suc (b - a - 1) = omega arith in let z = minus_up a b (b - a - 1) (omega arith) in rw (n, z)
      | inr more ↦ let n : (a - b) + (b - a) ≡ a - b = omega arith in let z = minus_down a b more in rw (n, z)
    ]

pub differences-more : (xs ys : List ℕ) (i : ℕ) → i < length xs → i < length ys
    → differences (take (i + 1) xs) (take (i + 1) ys) ≡ differences (take i xs) (take i ys) ++ (pos (get_or xs i 0) -ℤ pos (get_or ys i 0)) ∷ []
differences-more [] ys i a b = absurd (omega arith)
differences-more (x ∷ xs) [] i a b = absurd (omega arith)
differences-more (x ∷ xs) (y ∷ ys) zero a b = refl
differences-more (x ∷ xs) (y ∷ ys) (suc i) a b =
    let h : differences (take (suc i) xs) (take (suc i) ys) ≡ differences (take i xs) (take i ys) ++ (pos (get_or xs i 0) -ℤ pos (get_or ys i 0)) ∷ [] =
    rw add-one at (differences-more xs ys i (omega arith) (omega arith)) in
    rw add-one (ap (λ ds. (pos x -ℤ pos y) ∷ ds) h)

pub cost-more : (xs ys : List ℕ) (i sum more : ℕ) → i < length xs → i < length ys → sum ≡ sum_by level_cost (differences (take i xs) (take i ys))
    → more ≡ level_cost (pos ((get_or xs i 0 - get_or ys i 0) + (get_or ys i 0 - get_or xs i 0)))
    → sum + more ≡ sum_by level_cost (differences (take (i + 1) xs) (take (i + 1) ys))
cost-more xs ys i sum more a b known here =
    rw (differences-more xs ys i a b, sum_by-append level_cost, known, here, level_cost-minus (get_or xs i 0) (get_or ys i 0), zero-add) refl
