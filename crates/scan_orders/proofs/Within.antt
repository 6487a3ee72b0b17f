-- The table of sigCtx within a sub-block, against its formula.
use Rattle.std.proofs.Common.{◌≡◌, refl, ◌∙◌, ap, ℕ, ◌+◌, ◌*◌, ◌/◌, ◌%◌, ◌<◌, Bool, true, false, get_or, arith}
use Rattle.std.specs.Prelude.{◌==◌}
use Rattle.std.proofs.lemmas.Bool.{agree_below, agree_below_at, eqb-true}
use Rattle.h265_model.specs.Residual.{sig_within}
use Rattle.h265_model.specs.Bits.{digit}
use Rattle.scan_orders.specs.declared.contexts.TheConstants.{SIG_WITHIN}

-- the entry of a place, numbered in rows
fits : Bool → Bool → ℕ → Bool
fits right below i = get_or SIG_WITHIN (16 * (2 * digit below + digit right) + i) 0 == sig_within right below (i % 4) (i / 4)

all_fit : (right below : Bool) → agree_below (fits right below) (λ i. true) 16 ≡ true
unfolding fits
all_fit false false = refl
all_fit true false = refl
all_fit false true = refl
all_fit true true = refl

pub within_at : (right below : Bool) (x y : ℕ) → x < 4 → y < 4 → get_or SIG_WITHIN (16 * (2 * digit below + digit right) + 4 * y + x) 0 ≡ sig_within right below x y
unfolding fits
within_at right below x y wide tall =
    let i : ℕ = 4 * y + x in
    let column : i % 4 ≡ x = omega arith in
    let row : i / 4 ≡ y = omega arith in
    let e : get_or SIG_WITHIN (16 * (2 * digit below + digit right) + i) 0 ≡ sig_within right below (i % 4) (i / 4) =
    eqb-true _ _ (agree_below_at (fits right below) (λ j. true) 16 i (all_fit right below) (omega arith)) in
    let place : 16 * (2 * digit below + digit right) + 4 * y + x ≡ 16 * (2 * digit below + digit right) + i = omega arith in
    ap (λ (k : ℕ). get_or SIG_WITHIN k 0) place ∙ (e ∙ (ap (λ (k : ℕ). sig_within right below k (i / 4)) column ∙ ap (λ (k : ℕ). sig_within right below x k) row))
