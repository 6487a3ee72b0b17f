-- The numbers of a frame's head (Netpbm's PPM format).
use Rattle.std.specs.Prelude.{ℕ, ◌+◌, ◌-◌, ◌*◌, ◌^◌, min, Bool, true, false, ◌||◌, ◌&&◌, List, [], ◌∷◌, Option, Some, None, unwrap_or, Result, Ok, Err, ◌==◌, nat_le, if◌then◌else◌}
use Rattle.frame_read.specs.declared.error.Flaw.{Flaw}
use Rattle.frame_read.specs.declared.error.Flaw.TheVariants.{NoNumber, Truncated}
use Rattle.frame_read.specs.declared.error.HeadNumber.{HeadNumber}
use Rattle.frame_read.specs.declared.number.Stand.{Stand}
use Rattle.frame_read.specs.declared.number.Step.{Step}
use Rattle.frame_read.specs.declared.number.Step.TheVariants.{On, End, Wrong}

-- blanks, and tabs, line feeds, vertical tabs, form feeds and carriage returns
abbrev pub is_white : ℕ → Bool
is_white c = c == 32 || (nat_le 9 c && nat_le c 13)

-- line feeds and carriage returns
abbrev pub ends_line : ℕ → Bool
ends_line c = c == 10 || c == 13

-- the sign with which a comment begins
abbrev pub opens_comment : ℕ → Bool
opens_comment c = c == 35

abbrev pub is_digit : ℕ → Bool
is_digit c = nat_le 48 c && nat_le c 57

-- a number with one more digit; numbers stop at the last value of 32 bits
abbrev pub with_digit : ℕ → ℕ → ℕ
with_digit n c = min (2 ^ 32 - 1) (10 * n + (c - 48))

-- where the reading of a number stands after white space: at the end of its digits, or still before them
abbrev pub after_white : Option ℕ → Step
after_white None = On (record { in_comment = false; value = None })
after_white (Some n) = End n

-- where it stands after one more byte. A comment, up to its line's end, is as white space
abbrev pub step : Stand → ℕ → Step
step stand c =
    if stand.in_comment then (if ends_line c then after_white stand.value else On stand)
    else if opens_comment c then On (record stand { in_comment = true })
    else if is_white c then after_white stand.value
    else if is_digit c then On (record { in_comment = false; value = Some (with_digit (unwrap_or stand.value 0) c) })
    else Wrong

-- what is made of a step
abbrev pub stepped : {A : Type 0} → Step → (Stand → A) → (ℕ → A) → A → A
stepped (On next) on end wrong = on next
stepped (End n) on end wrong = end n
stepped Wrong on end wrong = wrong

-- a number from where its reading stands, and what follows the white space behind it
unfoldable pub number_from : HeadNumber → Stand → List ℕ → Result (ℕ × List ℕ) Flaw
number_from which stand [] = Err Truncated
number_from which stand (c ∷ cs) = stepped (step stand c) (λ next. number_from which next cs) (λ n. Ok (n, cs)) (Err (NoNumber which))

-- before a number, perhaps in a comment
abbrev pub before_number : Bool → Stand
before_number in_comment = record { in_comment = in_comment; value = None }
