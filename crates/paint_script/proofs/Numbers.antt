-- Digits and their value, one step of a loop at a time.
use Rattle.std.proofs.Common.{◌≡◌, ℕ, ◌+◌, ◌-◌, ◌*◌, ◌<◌, ◌≤◌, true, false, ◌&&◌, nat_le, List, [], ◌∷◌, length, get_or, drop, sym, ap, ◌∙◌, arith, Some, None, if◌then◌else◌}
use Rattle.std.proofs.lemmas.List.{at_drop_more}
use Rattle.std.proofs.lemmas.Bool.{lt-leb}
use Rattle.std.proofs.Math.Bool.{and-false}
use Rattle.std.proofs.lemmas.Bool.Decides.{nat_tests}
use Rattle.std.specs.Char.{digit_value}
use Rattle.std.specs.Str.Parse.{digits_value, digits_value_after}
use Rattle.recorder_model.specs.Script.{all_digits, is_numeral, number_up_to}

digit_value-digit : (c : ℕ) → 48 ≤ c → c ≤ 57 → digit_value c ≡ c - 48
digit_value-digit c low high = grind (arith, nat_tests)

-- a digit more of a value
digit_step : (n : ℕ) (ds : List ℕ) (i : ℕ) → i < length ds → 48 ≤ get_or ds i 0 → get_or ds i 0 ≤ 57
    → digits_value_after 10 n (drop i ds) ≡ digits_value_after 10 (n * 10 + (get_or ds i 0 - 48)) (drop (i + 1) ds)
digit_step n ds i h low high =
    at_drop_more (digits_value_after 10 n) ds i 0 h ∙ ap (λ d. digits_value_after 10 (n * 10 + d) (drop (i + 1) ds)) (digit_value-digit (get_or ds i 0) low high)

pub digits_value_after-le : (n : ℕ) (ds : List ℕ) → n ≤ digits_value_after 10 n ds
digits_value_after-le n [] = omega arith
digits_value_after-le n (c ∷ cs) = omega (arith, digits_value_after-le (n * 10 + digit_value c) cs)

-- digits that are worth too much with the digit at i
pub more_than_most : (most n : ℕ) (ds : List ℕ) (i : ℕ) → i < length ds → 48 ≤ get_or ds i 0 → get_or ds i 0 ≤ 57
    → digits_value_after 10 n (drop i ds) ≡ digits_value 10 ds → most < n * 10 + (get_or ds i 0 - 48)
    → None ≡ (if all_digits ds && nat_le (digits_value 10 ds) most then Some (digits_value 10 ds) else None)
more_than_most most n ds i h low high value over =
    let next : ℕ = n * 10 + (get_or ds i 0 - 48) in
    let above : most < digits_value 10 ds = omega (arith, digits_value_after-le next (drop (i + 1) ds), digit_step n ds i h low high, value) in
    sym (ap (λ b. if all_digits ds && b then Some (digits_value 10 ds) else None) (lt-leb _ _ above) ∙ ap (λ b. if b then Some (digits_value 10 ds) else None) (and-false (all_digits ds)))

-- what a word without a zero before other digits spells
pub number_up_to-digits : (most : ℕ) (word : List ℕ) → is_numeral word ≡ all_digits word
    → number_up_to most word ≡ (if all_digits word && nat_le (digits_value 10 word) most then Some (digits_value 10 word) else None)
unfolding number_up_to
number_up_to-digits most word e = ap (λ b. if b && nat_le (digits_value 10 word) most then Some (digits_value 10 word) else None) e

pub number_up_to-numeral : (most : ℕ) (word : List ℕ) → is_numeral word ≡ true → number_up_to most word ≡ (if nat_le (digits_value 10 word) most then Some (digits_value 10 word) else None)
unfolding number_up_to
number_up_to-numeral most word e = rw e

pub number_up_to-other : (most : ℕ) (word : List ℕ) → is_numeral word ≡ false → number_up_to most word ≡ None
unfolding number_up_to
number_up_to-other most word e = rw e
