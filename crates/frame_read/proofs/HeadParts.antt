-- A head, number after number.
use Rattle.std.proofs.Common.{◌≡◌, ℕ, Bool, false, List, Option, Result, Ok, Err, sym, ap, ◌∙◌}
use Rattle.h265_model.specs.Bits.{◌>>-◌}
use Rattle.h265_model.specs.Plain.{Size}
use Rattle.frame_read.specs.declared.error.Flaw.{Flaw}
use Rattle.frame_read.specs.declared.error.FrameError.TheVariants.{Bad}
use Rattle.frame_read.specs.declared.error.HeadNumber.TheVariants.{Width, Height, Maximum}
use Rattle.frame_read.specs.Numbers.{before_number, number_from}
use Rattle.frame_read.specs.Answers.{ReadsBy}
use Rattle.frame_read.specs.Heads.{size_of}
use Rattle.frame_read.proofs.Calls.{told_as}

-- what the numbers say, and what follows them
abbrev pub judged : Option Size → ℕ → ℕ → ℕ → List ℕ → Result (Size × List ℕ) Flaw
judged like w h maximum bytes = size_of like w h maximum >>- λ size. Ok (size, bytes)

-- the head from a number on
abbrev pub from_maximum : Option Size → ℕ → ℕ → List ℕ → Result (Size × List ℕ) Flaw
from_maximum like w h bytes = number_from Maximum (before_number false) bytes >>- λ maximum. judged like w h maximum.0 maximum.1

abbrev pub from_height : Option Size → ℕ → List ℕ → Result (Size × List ℕ) Flaw
from_height like w bytes = number_from Height (before_number false) bytes >>- λ h. from_maximum like w h.0 h.1

abbrev pub from_width : Option Size → Bool → List ℕ → Result (Size × List ℕ) Flaw
from_width like in_comment bytes = number_from Width (before_number in_comment) bytes >>- λ w. from_height like w.0 w.1

module _ (like : Option Size) (w h maximum : ℕ) (a b : Option (List ℕ)) where
  pub is_judged : (size : Size) → ReadsBy (number_from Maximum (before_number false)) a b (Ok maximum) → Ok size ≡ size_of like w h maximum → ReadsBy (from_maximum like w h) a b (Ok size)
  is_judged size read e =
      told_as a b _ (λ was now. from_maximum like w h was ≡ Ok (size, now)) read
      (λ x y p. ap (λ r. r >>- λ maximum. judged like w h maximum.0 maximum.1) p ∙ ap (λ r. r >>- λ size. Ok (size, y)) (sym e))

  pub not_judged : (flaw : Flaw) → ReadsBy (number_from Maximum (before_number false)) a b (Ok maximum) → Err flaw ≡ size_of like w h maximum → ReadsBy {A = Size} (from_maximum like w h) a b (Err (Bad flaw))
  not_judged flaw read e =
      told_as a b _ (λ was now. from_maximum like w h was ≡ Err flaw) read
      (λ x y p. ap (λ r. r >>- λ maximum. judged like w h maximum.0 maximum.1) p ∙ ap (λ r. r >>- λ size. Ok (size, y)) (sym e))
