-- The table of sigCtx by numbers of places, against its formula.
use Rattle.std.proofs.Common.{◌≡◌, refl, sym, ◌∙◌, ap, ℕ, zero, suc, ◌+◌, ◌*◌, ◌<◌, Bool, true, false, not, get_or, arith}
use Rattle.std.specs.Prelude.{◌==◌, ◌||◌, ◌&&◌, if◌then◌else◌}
use Rattle.std.proofs.lemmas.Bool.{agree_below, agree_below_at, eqb-true}
use Rattle.std.proofs.lemmas.Bool.Decides.{nat_tests}
use Rattle.h265_model.specs.Bits.{digit}
use Rattle.h265_model.specs.Engine.{Engine, bin, give}
use Rattle.h265_model.specs.declared.Place.TheVariants.{Context}
use Rattle.h265_model.specs.SyntaxElements.{sig_coeff_flag}
use Rattle.h265_model.specs.Residual as residual
use Rattle.h265_model.specs.Residual.{sig_within, sig_added, sig_context, sig_at, is_implied, place_at, scan, Sub}
use Rattle.residual_read.specs.declared.flags.TheConstants.{WITHIN}

fits : ℕ → Bool → Bool → ℕ → Bool
fits kind right below i = get_or WITHIN (64 * kind + 16 * (2 * digit below + digit right) + i) 0 == sig_within right below (place_at (scan kind 2) i).0 (place_at (scan kind 2) i).1

all_fit : (kind : ℕ) (right below : Bool) → kind < 3 → agree_below (fits kind right below) (λ i. true) 16 ≡ true
unfolding fits scan
all_fit zero false false h = refl
all_fit zero true false h = refl
all_fit zero false true h = refl
all_fit zero true true h = refl
all_fit (suc zero) false false h = refl
all_fit (suc zero) true false h = refl
all_fit (suc zero) false true h = refl
all_fit (suc zero) true true h = refl
all_fit (suc (suc zero)) false false h = refl
all_fit (suc (suc zero)) true false h = refl
all_fit (suc (suc zero)) false true h = refl
all_fit (suc (suc zero)) true true h = refl
all_fit (suc (suc (suc kind))) right below h = absurd (omega arith)

pub within_at : (kind : ℕ) (right below : Bool) (i : ℕ) → kind < 3 → i < 16
    → get_or WITHIN (64 * kind + 16 * (2 * digit below + digit right) + i) 0 ≡ sig_within right below (place_at (scan kind 2) i).0 (place_at (scan kind 2) i).1
unfolding fits
within_at kind right below i h k = eqb-true _ _ (agree_below_at (fits kind right below) (λ j. true) 16 i (all_fit kind right below h) k)

-- only the first place is in the corner
moved : ℕ → ℕ → Bool
moved kind i = (i == 0) || not ((place_at (scan kind 2) i).0 + (place_at (scan kind 2) i).1 == 0)

all_moved : (kind : ℕ) → agree_below (moved kind) (λ i. true) 16 ≡ true
unfolding moved scan
all_moved zero = refl
all_moved (suc zero) = refl
all_moved (suc (suc kind)) = refl

not_zero : (i : ℕ) → 0 < i → (i == 0) ≡ false
not_zero i h = grind (arith, nat_tests)

or_second : (a b : Bool) → (a || b) ≡ true → a ≡ false → b ≡ true
or_second true b h e = absurd (cc)
or_second false b h e = h

from_not : (b : Bool) → not b ≡ true → b ≡ false
from_not true h = absurd (clash h)
  where
    clash : false ≡ true → ⊥
    clash h = cc
from_not false h = refl

sum_some : (a b : ℕ) → (a + b == 0) ≡ false → 0 < a + b
sum_some a b h = grind (arith, nat_tests)

later_place : (kind i : ℕ) → 0 < i → i < 16 → 0 < (place_at (scan kind 2) i).0 + (place_at (scan kind 2) i).1
unfolding moved
later_place kind i h k =
    let t : moved kind i ≡ true = agree_below_at (moved kind) (λ j. true) 16 i (all_moved kind) k in
    sum_some (place_at (scan kind 2) i).0 (place_at (scan kind 2) i).1 (from_not _ (or_second (i == 0) _ t (not_zero i h)))

four_some : (a b c d : ℕ) → 0 < c + d → (a + b + c + d == 0) ≡ false
four_some a b c d h = grind (arith, nat_tests)

-- the context of a level that isn't the first, in two parts
pub sig_later : (component log2 kind a b i start part : ℕ) (right below : Bool) → 0 < i → i < 16
    → start ≡ (if component == 0 then sig_coeff_flag else sig_coeff_flag + 27) + sig_added component log2 kind (a + b == 0) → part ≡ sig_within right below (place_at (scan kind 2) i).0 (place_at (scan kind 2) i).1
    → start + part ≡ sig_context component log2 kind a b (place_at (scan kind 2) i).0 (place_at (scan kind 2) i).1 right below
unfolding sig_context
sig_later component log2 kind a b i start part right below h k se pe =
    let t : (a + b + (place_at (scan kind 2) i).0 + (place_at (scan kind 2) i).1 == 0) ≡ false = four_some a b (place_at (scan kind 2) i).0 (place_at (scan kind 2) i).1 (later_place kind i h k) in
    let s : start + part ≡ (if component == 0 then sig_coeff_flag else sig_coeff_flag + 27) + (sig_within right below (place_at (scan kind 2) i).0 (place_at (scan kind 2) i).1 + sig_added component log2 kind (a + b == 0)) = omega arith in
    s ∙ sym (ap (λ (z : Bool). (if component == 0 then sig_coeff_flag else sig_coeff_flag + 27) + (if z then 0 else sig_within right below (place_at (scan kind 2) i).0 (place_at (scan kind 2) i).1 + sig_added component log2 kind (a + b == 0))) t)

and_false : (a b : Bool) → (a && b && false) ≡ false
and_false true true = refl
and_false true false = refl
and_false false b = refl

-- no such flag is implied
pub never_implied : (s : residual.Shape) (sub : Sub) (inner found : Bool) (i context : ℕ) (e : Engine) → 0 < i → context ≡ sig_at s sub i
    → (if is_implied inner found i then give true else bin (Context (sig_at s sub i))) e ≡ bin (Context context) e
never_implied s sub inner found i context e h is =
    ap (λ (b : Bool). (if inner && not found && b then give true else bin (Context (sig_at s sub i))) e) (not_zero i h)
    ∙ ap (λ (b : Bool). (if b then give true else bin (Context (sig_at s sub i))) e) (and_false inner (not found))
    ∙ ap (λ n. bin (Context n) e) (sym is)
