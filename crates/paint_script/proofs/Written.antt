-- Numbers as they are written, from their last digit.
use Rattle.std.proofs.Common.{◌≡◌, ℕ, zero, suc, ◌+◌, ◌-◌, ◌*◌, ◌/◌, ◌%◌, ◌^◌, ◌<◌, ◌≤◌, List, [], ◌∷◌, ◌++◌, length, set, drop, sym, ap, ◌∙◌, arith}
use Rattle.std.proofs.lemmas.List.{append_assoc, drop-set}
use Rattle.std.proofs.lemmas.Grind.{pow_more}
use Rattle.std.proofs.lemmas.Fmt.{decimal_step, decimal_digit}
use Rattle.std.specs.Prelude.{decimal}

pub small-first : (first left : ℕ) → 10 ≤ left → left < 10 ^ (first + 1) → 1 ≤ first
small-first zero left a b = absurd (omega arith)
small-first (suc k) left a b = omega arith

pub small-step : (first left : ℕ) → 10 ≤ left → left < 10 ^ (first + 1) → left / 10 < 10 ^ (first - 1 + 1)
small-step first left a b =
    let one : 1 ≤ first = small-first first left a b in
    let same : first - 1 + 1 ≡ first = omega arith in
    let power : 10 ^ (first + 1) ≡ 10 ^ first * 10 = pow_more 10 first in
    rw same (omega arith)

-- one more digit in front
pub digits-more : (number left first : ℕ) (digits : List ℕ) → 10 ≤ left → left < 2 ^ 64 → 1 ≤ first → first < length digits → decimal number ≡ decimal left ++ drop (first + 1) digits → decimal number ≡ decimal (left / 10) ++ drop (first - 1 + 1) (set digits first (48 + left % 10))
digits-more number left first digits a small one within e =
    let same : first ≡ first - 1 + 1 = omega arith in
    e
    ∙ ap (λ d. d ++ drop (first + 1) digits) (decimal_step left a small)
    ∙ append_assoc (decimal (left / 10)) ((48 + left % 10) ∷ []) (drop (first + 1) digits)
    ∙ ap (λ d. decimal (left / 10) ++ d) (sym (drop-set digits first (48 + left % 10) within))
    ∙ ap (λ n. decimal (left / 10) ++ drop n (set digits first (48 + left % 10))) same

-- the first digit
pub digits-first : (number left first : ℕ) (digits : List ℕ) → left < 10 → first < length digits → decimal number ≡ decimal left ++ drop (first + 1) digits → drop first (set digits first (48 + left)) ≡ decimal number
digits-first number left first digits small within e =
    drop-set digits first (48 + left) within ∙ ap (λ d. d ++ drop (first + 1) digits) (sym (decimal_digit left small)) ∙ sym e
