-- The vectors that are tried, by their numbers.
use Rattle.std.proofs.Common.{◌≡◌, refl, ◌∙◌, ap, ℕ, zero, suc, ◌+◌, ◌-◌, ◌*◌, ◌/◌, ◌%◌, ◌<◌, ◌≤◌, List, ◌∷◌, length, get_or, arith}
use Rattle.std.specs.Prelude.{pos, neg_ℤ}
use Rattle.h265_model.specs.declared.moves.Vector.{Vector}
use Rattle.h265_model.specs.Plain.{place_values}
use Rattle.h265_model.specs.Motion.{vector, no_motion}
use Rattle.h265_model.specs.MotionChoice.{tried_vectors}
use Rattle.h265_model.proofs.Squares.{at_places, length_places}
use Rattle.vector_search.specs.Copies.{tried}

-- up, down, left or right by one more than this
abbrev pub turned : ℕ → ℕ → Vector
turned zero d = vector (pos 0) (neg_ℤ (pos (d + 1)))
turned (suc zero) d = vector (pos 0) (pos (d + 1))
turned (suc (suc zero)) d = vector (neg_ℤ (pos (d + 1))) (pos 0)
turned (suc (suc (suc r))) d = vector (pos (d + 1)) (pos 0)

tried_as : tried_vectors ≡ no_motion ∷ place_values 4 64 turned
unfolding tried_vectors
tried_as = refl

pub tried_long : length tried_vectors ≡ 257
tried_long = ap (λ (l : List Vector). length l) tried_as ∙ ap (λ (n : ℕ). suc n) (length_places 4 64 turned)

pub tried_first : (n : ℕ) → n ≡ 0 → tried n ≡ no_motion
tried_first n e = ap (λ (k : ℕ). tried k) e ∙ ap (λ (l : List Vector). get_or l 0 no_motion) tried_as

pub tried_turned : (n r : ℕ) → 1 ≤ n → n < 257 → (n - 1) % 4 ≡ r → tried n ≡ turned r ((n - 1) / 4)
tried_turned n r some most e =
    let split : n ≡ suc ((n - 1) / 4 * 4 + r) = omega arith in
    ap (λ (k : ℕ). tried k) split
    ∙ (ap (λ (l : List Vector). get_or l (suc ((n - 1) / 4 * 4 + r)) no_motion) tried_as
    ∙ at_places 4 64 r ((n - 1) / 4) turned no_motion (omega arith) (omega arith))
