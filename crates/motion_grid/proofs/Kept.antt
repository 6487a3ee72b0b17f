-- What is kept of neighbours gives the merge vector and the predictors.
use Rattle.std.proofs.Common.{◌≡◌, refl, ◌∙◌, ap, ℕ, zero, suc, ◌+◌, ◌^◌, List, [], ◌∷◌, Option, Some, None}
use Rattle.std.specs.Option.{option_or}
use Rattle.std.specs.Prelude.{unwrap_or}
use Rattle.h265_model.specs.declared.moves.Vector.{Vector}
use Rattle.h265_model.specs.Motion.{Moving, no_motion, vector_in, vector_before, merge, predictors, first_vector, or_none, two_of}
use Rattle.h265_model.specs.Plain.{block_at}
use Rattle.motion_grid.specs.Cells.{Cells, HasMotion, kept_of, unit_at, vector_kept, kept_before}

kept_is : (unit : Option Moving) → vector_kept (kept_of unit) ≡ vector_in unit
kept_is None = refl
kept_is (Some unit) = refl

pub before_is : (g : Cells) (units : List Moving) (x y : ℕ) → HasMotion g units → kept_before g x y ≡ vector_before units x y
unfolding vector_before
before_is g units zero y has = refl
before_is g units (suc x) zero has = refl
before_is g units (suc x) (suc y) has = ap vector_kept (has.each x y) ∙ kept_is (unit_at units x y)

-- the first of two, and so on
pub first_two : (a b : Option Vector) → option_or a b ≡ first_vector (a ∷ b ∷ [])
first_two None None = refl
first_two None (Some b) = refl
first_two (Some a) b = refl

pub first_three : (a b c : Option Vector) → option_or (option_or a b) c ≡ first_vector (a ∷ b ∷ c ∷ [])
first_three None None None = refl
first_three None None (Some c) = refl
first_three None (Some b) c = refl
first_three (Some a) b c = refl

-- the five neighbours that a merge vector may come from
abbrev pub five : List Moving → ℕ → ℕ → ℕ → Option Vector
five units x y n = first_vector (vector_before units x (y + n) ∷ vector_before units (x + n) y ∷ vector_before units (x + n + 1) y ∷ vector_before units x (y + n + 1) ∷ vector_before units x y ∷ [])

pub merge_is : (units : List Moving) (x y log2 : ℕ) → or_none (five units x y (2 ^ log2)) ≡ merge units (block_at x y log2)
unfolding merge
merge_is units x y log2 = refl

pub predictors_are : (g : Cells) (units : List Moving) (x y log2 : ℕ) → HasMotion g units
    → two_of (option_or (kept_before g x (y + 2 ^ log2 + 1)) (kept_before g x (y + 2 ^ log2)))
    (option_or (option_or (kept_before g (x + 2 ^ log2 + 1) y) (kept_before g (x + 2 ^ log2) y)) (kept_before g x y))
    ≡ predictors units (block_at x y log2)
unfolding predictors
predictors_are g units x y log2 has =
    rw (first_two (kept_before g x (y + 2 ^ log2 + 1)) (kept_before g x (y + 2 ^ log2)), first_three (kept_before g (x + 2 ^ log2 + 1) y) (kept_before g (x + 2 ^ log2) y) (kept_before g x y))
    (rw (before_is g units x (y + 2 ^ log2) has, before_is g units (x + 2 ^ log2) y has, before_is g units (x + 2 ^ log2 + 1) y has, before_is g units x (y + 2 ^ log2 + 1) has, before_is g units x y has) refl)

pub or_none_is : (o : Option Vector) (v : Vector) → v ≡ unwrap_or o no_motion → v ≡ or_none o
or_none_is None v e = e
or_none_is (Some w) v e = e
