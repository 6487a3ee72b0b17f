use Rattle.std.proofs.Common.{◌≡◌, ℕ, zero, suc, ◌<◌, List, [], ◌∷◌, get_or, length, refl, arith, true}
use Rattle.std.specs.Prelude.{nat_lt}
use Rattle.std.specs.List.{list_all}
use Rattle.std.proofs.lemmas.Bool.{and_parts, ltb-true}
use Rattle.h265_model.specs.Choice.{modes_of}
use Rattle.block_choice.proofs.modes.modes_for.Goals as goal

below_each : (list : List ℕ) (bound k d : ℕ) → list_all (λ v. nat_lt v bound) list ≡ true → k < length list → get_or list k d < bound
below_each [] bound k d h within = absurd (omega arith)
below_each (v ∷ list) bound zero d h within = ltb-true v bound (and_parts (nat_lt v bound) _ h).0
below_each (v ∷ list) bound (suc k) d h within = below_each list bound k d (and_parts (nat_lt v bound) _ h).1 (omega arith)

pub returns-in-0-clause-modes : goal.returns-in-0-clause-modes
unfolding modes_of
returns-in-0-clause-modes c = rw c.in-0.is refl

pub returns-in-1-clause-modes : goal.returns-in-1-clause-modes
unfolding modes_of
returns-in-1-clause-modes c = rw c.in-1.is refl

pub returns-in_default-clause-modes : goal.returns-in_default-clause-modes
unfolding modes_of
returns-in_default-clause-modes c = let two : c.args.effort ≡ 2 = omega arith in rw two refl

all_modes : List ℕ
all_modes =
    1 ∷ 26 ∷ 10 ∷ 0 ∷ 2 ∷ 3 ∷ 4 ∷ 5 ∷ 6 ∷ 7 ∷ 8 ∷ 9 ∷ 11 ∷ 12 ∷ 13 ∷ 14 ∷ 15 ∷ 16 ∷ 17 ∷ 18 ∷ 19 ∷ 20 ∷ 21 ∷ 22 ∷ 23 ∷ 24 ∷ 25 ∷ 27 ∷ 28 ∷ 29 ∷ 30 ∷ 31 ∷ 32 ∷ 33 ∷ 34 ∷ []

all_small : (k d : ℕ) → k < 35 → get_or all_modes k d < 35
unfolding all_modes
all_small k d h = below_each all_modes 35 k d refl h

pub returns-in_default-clause-small : goal.returns-in_default-clause-small
unfolding all_modes
returns-in_default-clause-small c = all_small
