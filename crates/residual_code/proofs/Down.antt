-- Values at numbers below a bound, the greatest first.
use Rattle.std.proofs.Common.{◌≡◌, refl, ◌∙◌, ap, ℕ, zero, suc, ◌-◌, ◌<◌, [], ◌∷◌, length, arith}
use Rattle.residual_code.specs.Parts.{down}

pub length-down : {A : Type 0} (f : ℕ → A) (n : ℕ) → length (down f n) ≡ n
unfolding down
length-down f zero = refl
length-down f (suc n) = ap suc (length-down f n)

pub down_first : {A : Type 0} (f : ℕ → A) (n : ℕ) → 0 < n → down f n ≡ f (n - 1) ∷ down f (n - 1)
unfolding down
down_first f zero h = absurd (omega arith)
down_first f (suc n) h = let e : suc n - 1 ≡ n = omega arith in rw e refl

pub down_same : {A : Type 0} (f g : ℕ → A) (n : ℕ) → ((i : ℕ) → i < n → f i ≡ g i) → down f n ≡ down g n
unfolding down
down_same f g zero h = refl
down_same f g (suc n) h = ap (λ x. x ∷ down f n) (h n (omega arith)) ∙ ap (λ l. g n ∷ l) (down_same f g n (λ i k. h i (omega arith)))

pub down_none : {A : Type 0} (f : ℕ → A) → down f 0 ≡ []
unfolding down
down_none f = refl
