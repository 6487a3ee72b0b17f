-- A number's digits in parts.
use Rattle.std.proofs.Common.{◌≡◌, sym, ◌∙◌, ap, ℕ, zero, suc, ◌+◌, ◌*◌, ◌/◌, ◌%◌, ◌^◌, ◌∷◌, ◌++◌, zero-add, arith}
use Rattle.std.proofs.lemmas.Nat.{shr-shr}
use Rattle.std.specs.Prelude.{◌==◌}
use Rattle.h265_model.specs.Bits.{u, value_after}
use Rattle.h265_model.proofs.BitLaws.{value-u, length-u}
use Rattle.h265_model.proofs.ByteLaws.{u-value}

nothing_before : (p r : ℕ) → 0 * p + r ≡ r
nothing_before p r = omega arith

-- only the low n digits count
pub u-mod : (n v : ℕ) → u n (v % 2 ^ n) ≡ u n v
u-mod n v =
    ap (u n) (sym (value-u 0 n v ∙ nothing_before (2 ^ n) (v % 2 ^ n)))
    ∙ ap (λ k. u k (value_after 0 (u n v))) (sym (length-u n v))
    ∙ u-value 0 (u n v)

-- digits in two parts
pub u-split : (m n v : ℕ) → u (m + n) v ≡ u m (v / 2 ^ n) ++ u n v
unfolding u
u-split zero n v = ap (λ k. u k v) (zero-add n)
u-split (suc m) n v =
    let whole : suc m + n ≡ suc (m + n) = omega arith in
    let order : v / 2 ^ n / 2 ^ m ≡ v / 2 ^ (m + n) = shr-shr v n m ∙ ap (λ j. v / 2 ^ j) (omega arith) in
    ap (λ k. u k v) whole ∙ rw order (ap (λ l. (v / 2 ^ (m + n) % 2 == 1) ∷ l) (u-split m n v))
