-- What each byte is worth as a hexadecimal digit: the table against the definition, computed for every byte.
use Rattle.std.proofs.Common.{◌≡◌, refl, sym, ◌∙◌, ap, ℕ, ◌+◌, ◌<◌, ◌≤◌, Bool, true, false, get_or, Option, Some, None, arith}
use Rattle.std.specs.Prelude.{◌==◌, nat_lt, if◌then◌else◌}
use Rattle.std.proofs.lemmas.Bool.{agree_below, agree_below_at, eqb-true, cond-true, cond-false}
use Rattle.std.proofs.lemmas.Bool.Decides.{nat_tests}
use Rattle.recorder_model.specs.Script as script
use Rattle.paint_script.specs.declared.colour.TheConstants.{WORTH}

-- what the table says of a byte
abbrev worth_of : ℕ → Option ℕ
worth_of digit = if nat_lt (get_or WORTH digit 0) 16 then Some (get_or WORTH digit 0) else None

-- an option as a number
number : Option ℕ → ℕ
number None = 0
number (Some n) = n + 1

number_tells : (a b : Option ℕ) → number a ≡ number b → a ≡ b
unfolding number
number_tells None None h = refl
number_tells None (Some n) h = absurd (omega arith)
number_tells (Some n) None h = absurd (omega arith)
number_tells (Some n) (Some m) h = let e : n ≡ m = omega arith in ap Some e

fits : ℕ → Bool
fits digit = number (worth_of digit) == number (script.hex_value digit)

all_fit : agree_below fits (λ i. true) 256 ≡ true
unfolding fits number
all_fit = refl

worth_is : (digit : ℕ) → digit < 256 → worth_of digit ≡ script.hex_value digit
unfolding fits
worth_is digit h = number_tells _ _ (eqb-true _ _ (agree_below_at fits (λ i. true) 256 digit all_fit h))

less : (n : ℕ) → n < 16 → nat_lt n 16 ≡ true
less n h = grind (arith, nat_tests)

no_less : (n : ℕ) → 16 ≤ n → nat_lt n 16 ≡ false
no_less n h = grind (arith, nat_tests)

pub some_worth : (digit : ℕ) → digit < 256 → get_or WORTH digit 0 < 16 → Some (get_or WORTH digit 0) ≡ script.hex_value digit
some_worth digit h small = sym (cond-true _ _ _ (less (get_or WORTH digit 0) small)) ∙ worth_is digit h

pub no_worth : (digit : ℕ) → digit < 256 → 16 ≤ get_or WORTH digit 0 → None ≡ script.hex_value digit
no_worth digit h large = sym (cond-false _ _ _ (no_less (get_or WORTH digit 0) large)) ∙ worth_is digit h
