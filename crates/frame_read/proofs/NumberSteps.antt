-- Numbers, byte by byte.
use Rattle.std.proofs.Common.{◌≡◌, ℕ, List, [], ◌∷◌, Option, Result, Ok, Err, refl, sym, ap, ◌∙◌}
use Rattle.frame_read.specs.Sources.{StillTold}
use Rattle.frame_read.specs.Answers.{ReadsBy, needed_byte}
use Rattle.frame_read.specs.Numbers.{number_from, step, stepped}
use Rattle.frame_read.specs.declared.error.Flaw.{Flaw}
use Rattle.frame_read.specs.declared.error.Flaw.TheVariants.{NoNumber, Truncated}
use Rattle.frame_read.specs.declared.error.HeadNumber.{HeadNumber}
use Rattle.frame_read.specs.declared.error.FrameError.{FrameError}
use Rattle.frame_read.specs.declared.error.FrameError.TheVariants.{Bad, Failed, NoMemory}
use Rattle.frame_read.specs.declared.number.Stand.{Stand}
use Rattle.frame_read.specs.declared.number.Step.TheVariants.{On, End, Wrong}
use Rattle.frame_read.proofs.Calls.{told_on, told_same}

-- what is left to read is the number from another stand on
pub record IsUnderWay (which : HeadNumber) (from stand : Stand) (before now : Option (List ℕ)) (faults_before faults : ℕ) : Type 0 where
  pub told : StillTold before now (λ was left. number_from which from was ≡ number_from which stand left)
  pub quiet : faults ≡ faults_before

pub begins : (which : HeadNumber) (from : Stand) (text : Option (List ℕ)) (faults : ℕ) → IsUnderWay which from from text text faults faults
begins which from text faults = record { told = told_same text (λ was left. number_from which from was ≡ number_from which from left) (λ x. refl); quiet = refl }

byte_is : (was rest : List ℕ) (c : ℕ) → needed_byte was ≡ Ok (c, rest) → was ≡ c ∷ rest
byte_is [] rest c e = cc
byte_is (x ∷ xs) rest c e =
    let both : (x, xs) ≡ (c, rest) = cc in
    let first : x ≡ c = ap (λ (t : ℕ × List ℕ). t.0) both in
    let others : xs ≡ rest = ap (λ (t : ℕ × List ℕ). t.1) both in
    cc

none_is : (was : List ℕ) (flaw : Flaw) → needed_byte was ≡ Err flaw → (was ≡ []) × (flaw ≡ Truncated)
none_is [] flaw e = let same : Truncated ≡ flaw = cc in (refl, sym same)
none_is (x ∷ xs) flaw e = absurd cc

pub next_is : (which : HeadNumber) (stand : Stand) (c : ℕ) (rest : List ℕ)
    → number_from which stand (c ∷ rest) ≡ stepped (step stand c) (λ next. number_from which next rest) (λ n. Ok (n, rest)) (Err (NoNumber which))
unfolding number_from
next_is which stand c rest = refl

end_is : (which : HeadNumber) (stand : Stand) → number_from which stand [] ≡ Err Truncated
unfolding number_from
end_is which stand = refl

-- what a byte says of the number
module _ (which : HeadNumber) (from stand : Stand) (a b c : Option (List ℕ)) (faults_before faults : ℕ) (is : IsUnderWay which from stand a b faults_before faults) where
  after_byte : (byte : ℕ) (R : List ℕ → Result (ℕ × List ℕ) Flaw) → ReadsBy needed_byte b c (Ok byte)
      → ((rest : List ℕ) → stepped (step stand byte) (λ next. number_from which next rest) (λ n. Ok (n, rest)) (Err (NoNumber which)) ≡ R rest)
      → StillTold a c (λ was left. number_from which from was ≡ R left)
  after_byte byte R h e =
      told_on a b c _ _ (λ was left. number_from which from was ≡ R left) is.told h (λ x y z p q. p ∙ (ap (number_from which stand) (byte_is y z byte q) ∙ (next_is which stand byte z ∙ e z)))

  pub goes_on : (now : ℕ) → now ≡ faults → (byte : ℕ) (next : Stand) → ReadsBy needed_byte b c (Ok byte) → step stand byte ≡ On next → IsUnderWay which from next a c faults_before now
  goes_on now same byte next h e = record {
    told = after_byte byte (number_from which next) h (λ rest. ap (λ s. stepped s (λ next. number_from which next rest) (λ n. Ok (n, rest)) (Err (NoNumber which))) e);
    quiet = same ∙ is.quiet;
  }

  pub ends : (byte n : ℕ) → ReadsBy needed_byte b c (Ok byte) → step stand byte ≡ End n → ReadsBy (number_from which from) a c (Ok n)
  ends byte n h e = after_byte byte (λ rest. Ok (n, rest)) h (λ rest. ap (λ s. stepped s (λ next. number_from which next rest) (λ n. Ok (n, rest)) (Err (NoNumber which))) e)

  pub is_wrong : (byte : ℕ) → ReadsBy needed_byte b c (Ok byte) → step stand byte ≡ Wrong → ReadsBy {A = ℕ} (number_from which from) a c (Err (Bad (NoNumber which)))
  is_wrong byte h e = after_byte byte (λ rest. Err (NoNumber which)) h (λ rest. ap (λ s. stepped s (λ next. number_from which next rest) (λ n. Ok (n, rest)) (Err (NoNumber which))) e)

  pub fails : (error : FrameError) → ReadsBy needed_byte b c (Err error) → ReadsBy {A = ℕ} (number_from which from) a c (Err error)
  fails error h = go error h
    where
      go : (e : FrameError) → ReadsBy needed_byte b c (Err e) → ReadsBy {A = ℕ} (number_from which from) a c (Err e)
      go (Bad flaw) h =
          told_on a b c _ _ (λ was left. number_from which from was ≡ Err flaw) is.told h (λ x y z p q. let none = none_is y flaw q in p ∙ (ap (number_from which stand) none.0 ∙ (end_is which stand ∙ ap Err (sym none.1))))
      go Failed h = told_on a b c _ _ (λ was left. Unit {0}) is.told h (λ x y z p q. tt)
      go NoMemory h = told_on a b c _ _ (λ was left. Unit {0}) is.told h (λ x y z p q. tt)
