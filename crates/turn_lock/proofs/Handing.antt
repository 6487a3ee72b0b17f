-- The first pass is cut into the passes of a new turn.
use Rattle.std.proofs.Common.{◌≡◌, ℕ, zero, suc, ◌-◌, ◌*◌, ◌^◌, ◌<◌, List, [], ◌∷◌, ◌++◌, length, Some, refl, sym, ap, ◌∙◌, arith, length-append}
use Rattle.std.specs.Prelude.{slice_get}
use mathlib.Core.Logic.{dite}
use native.Mathlib.Decide.{ℕ_discrete}
use Rattle.atomic_table.specs.Seated.{TableId}
use Rattle.recorder_model.specs.Setting.{Setting}
use Rattle.turn_lock.specs.Turns.{none_made, starting, fresh_view, opening_view, without_first, only_first}
use Rattle.turn_lock.specs.Standing.{Standing, standing, IsHandedOut}

module _ (s : Setting) (p : ℕ) where
  -- what is left once n passes were cut off
  abbrev pub left_after : ℕ → Rattle.turn_lock.specs.declared.knowledge.Knowledge.Knowledge
  left_after n = starting s p (none_made n (p - n)) (2 ^ 32 * (p - n))

  pub left-none : opening_view s p ≡ left_after 0
  left-none = let e : p ≡ p - 0 = omega arith in ap (λ (m : ℕ). starting s p (none_made 0 m) (2 ^ 32 * m)) e

  cut : (n m : ℕ) → without_first (starting s p (none_made n (suc m)) (2 ^ 32 * suc m)) ≡ starting s p (none_made (suc n) m) (2 ^ 32 * m)
  cut n m = let e : 2 ^ 32 * suc m - 2 ^ 32 ≡ 2 ^ 32 * m = omega arith in ap (starting s p (none_made (suc n) m)) e

  pub left-cut : (n : ℕ) → n < p → without_first (left_after n) ≡ left_after (suc n)
  left-cut n less = let e : p - n ≡ suc (p - suc n) = omega arith in ap (λ (m : ℕ). without_first (starting s p (none_made n m) (2 ^ 32 * m))) e ∙ cut n (p - suc n)

  pub first-cut : (n : ℕ) → n < p → only_first (left_after n) ≡ fresh_view s p n
  first-cut n less = let e : p - n ≡ suc (p - suc n) = omega arith in ap (λ (m : ℕ). only_first (starting s p (none_made n m) (2 ^ 32 * m))) e

  pub left-last : (n : ℕ) → suc n ≡ p → left_after n ≡ fresh_view s p n
  left-last n last = let e : p - n ≡ 1 = omega arith in ap (λ (m : ℕ). starting s p (none_made n m) (2 ^ 32 * m)) e

  pub left-numbers : (n : ℕ) → n < p → (left_after n).made ≡ none_made n (suc (p - suc n))
  left-numbers n less = let e : p - n ≡ suc (p - suc n) = omega arith in ap (none_made n) e

get-last : (xs : List Standing) (x : Standing) (n : ℕ) → length xs ≡ n → slice_get (xs ++ x ∷ []) n ≡ Some x
get-last [] x zero e = refl
get-last [] x (suc n) e = absurd (omega arith)
get-last (y ∷ ys) x zero e = absurd (omega arith)
get-last (y ∷ ys) x (suc n) e = get-last ys x n (omega arith)

get-front : (xs : List Standing) (x y : Standing) (n : ℕ) → slice_get xs n ≡ Some y → slice_get (xs ++ x ∷ []) n ≡ Some y
get-front [] x y n e = absurd (cc)
get-front (z ∷ zs) x y zero e = e
get-front (z ∷ zs) x y (suc n) e = get-front zs x y n e

pub handed-more : (z : TableId) (s : Setting) (p n : ℕ) (xs : List Standing) (x : Standing) → IsHandedOut z s p n xs → x ≡ standing z (fresh_view s p n) → IsHandedOut z s p (suc n) (xs ++ x ∷ [])
handed-more z s p n xs x h is = (
  length-append xs (x ∷ []) ∙ (let l = h.0 in omega arith),
  λ a less. dite (ℕ_discrete a n)
      (λ same. ap (slice_get (xs ++ x ∷ [])) same ∙ (get-last xs x n h.0 ∙ ap (λ (y : Standing). Some y) (is ∙ ap (λ (k : ℕ). standing z (fresh_view s p k)) (sym same))))
      (λ apart. get-front xs x (standing z (fresh_view s p a)) a (h.1 a (omega arith))),
)
