-- Levels that are 0, and lists of them.
use Rattle.std.proofs.Common.{◌≡◌, refl, sym, ◌∙◌, ap, ℕ, zero, suc, ◌+◌, ◌<◌, Bool, true, false, not, ◌||◌, List, [], ◌∷◌, ◌++◌, length, take, drop, get_or, arith}
use Rattle.std.specs.Prelude.{ℤ, pos, negsuc}
use Rattle.std.specs.List.{list_any}
use Rattle.std.proofs.lemmas.List.{take-append-drop}
use Rattle.std.proofs.Math.Seq.{take-add}
use Rattle.h265_model.specs.Residual.{is_zero}

abbrev pub flag_of : ℤ → Bool
flag_of v = not (is_zero v)

pub zero_is : (v : ℤ) → is_zero v ≡ true → v ≡ pos 0
zero_is (pos zero) h = refl
zero_is (pos (suc n)) h = absurd (cc)
zero_is (negsuc n) h = absurd (cc)

pub is_zero_at : (v : ℤ) → v ≡ pos 0 → is_zero v ≡ true
is_zero_at v e = ap is_zero e

pub flag_at : (v : ℤ) → (v ≡ pos 0 → ⊥) → flag_of v ≡ true
flag_at (pos zero) h = absurd (h refl)
flag_at (pos (suc n)) h = refl
flag_at (negsuc n) h = refl

-- ---- whether one isn't 0

abbrev pub any_level : List ℤ → Bool
any_level levels = list_any flag_of levels

pub any-append : (a b : List ℤ) → any_level (a ++ b) ≡ (any_level a || any_level b)
any-append [] b = refl
any-append (v ∷ a) b = go (flag_of v) (any-append a b)
  where
    go : (f : Bool) → any_level (a ++ b) ≡ (any_level a || any_level b) → (f || any_level (a ++ b)) ≡ ((f || any_level a) || any_level b)
    go true e = refl
    go false e = e

pub any_at : (levels : List ℤ) (i : ℕ) → flag_of (get_or levels i (pos 0)) ≡ true → any_level levels ≡ true
any_at [] i h = absurd (cc)
any_at (v ∷ levels) zero h = go (flag_of v) h
  where
    go : (f : Bool) → f ≡ true → (f || any_level levels) ≡ true
    go true e = refl
    go false e = absurd (cc)
any_at (v ∷ levels) (suc i) h = go (flag_of v) (any_at levels i h)
  where
    go : (f : Bool) → any_level levels ≡ true → (f || any_level levels) ≡ true
    go true e = refl
    go false e = e

pub none_at : (levels : List ℤ) → any_level levels ≡ false → (i : ℕ) → get_or levels i (pos 0) ≡ pos 0
none_at [] h i = refl
none_at (v ∷ levels) h zero = go (is_zero v) refl h
  where
    go : (f : Bool) → is_zero v ≡ f → (not f || any_level levels) ≡ false → v ≡ pos 0
    go true e k = zero_is v e
    go false e k = absurd (cc)
none_at (v ∷ levels) h (suc i) = none_at levels (go (flag_of v) h) i
  where
    go : (f : Bool) → (f || any_level levels) ≡ false → any_level levels ≡ false
    go true k = absurd (cc)
    go false k = k

pub none_of : (levels : List ℤ) → ((i : ℕ) → i < length levels → get_or levels i (pos 0) ≡ pos 0) → any_level levels ≡ false
none_of [] h = refl
none_of (v ∷ levels) h = let e : is_zero v ≡ true = ap is_zero (h 0 (omega arith)) in rw e (none_of levels (λ i k. h (suc i) (omega arith)))

-- ---- a list in parts of 64

pub any_part : (levels : List ℤ) (at n : ℕ) → any_level (take n (drop at levels)) ≡ true → any_level levels ≡ true
any_part levels at n h =
    ap any_level (sym (take-append-drop at levels)) ∙ (any-append (take at levels) (drop at levels)
    ∙ go (any_level (take at levels)) (ap any_level (sym (take-append-drop n (drop at levels))) ∙ (any-append (take n (drop at levels)) (drop n (drop at levels)) ∙ first (any_level (take n (drop at levels))) h)))
  where
    first : (a : Bool) → a ≡ true → (a || any_level (drop n (drop at levels))) ≡ true
    first true e = refl
    first false e = absurd (cc)

    go : (a : Bool) → any_level (drop at levels) ≡ true → (a || any_level (drop at levels)) ≡ true
    go true e = refl
    go false e = e

pub any_more : (levels : List ℤ) (at n more : ℕ) → more ≡ at + n → any_level (take at levels) ≡ false → any_level (take n (drop at levels)) ≡ false → any_level (take more levels) ≡ false
any_more levels at n more e h k =
    rw (e, take-add at n levels) (any-append (take at levels) (take n (drop at levels)) ∙ rw (h, k) refl)

pub any_rest : (levels : List ℤ) (at : ℕ) → any_level (take at levels) ≡ false → any_level (drop at levels) ≡ any_level levels
any_rest levels at h =
    sym (ap any_level (sym (take-append-drop at levels)) ∙ (any-append (take at levels) (drop at levels) ∙ ap (λ b. b || any_level (drop at levels)) h))
