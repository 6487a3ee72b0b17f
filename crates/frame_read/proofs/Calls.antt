-- What is read call after call.
use Rattle.std.proofs.Common.{◌≡◌, ℕ, ◌<◌, List, ◌++◌, length, take, Option, Some, None, Result, Ok, Err, refl, sym, ap, ◌∙◌}
use Rattle.std.specs.Result.{IsErrAnd}
use Rattle.std.proofs.lemmas.Result.{err_from_is_err_and}
use Rattle.std.specs.Io.KnownBytes.{Consumes, Keeps, IsAtEnd}
use Rattle.h265_model.specs.Bits.{◌>>-◌}
use Rattle.frame_read.specs.Sources.{StillTold, Takes}
use Rattle.frame_read.specs.Answers.{Answers, ReadsBy}
use Rattle.frame_read.specs.declared.error.Flaw.{Flaw}
use Rattle.frame_read.specs.declared.error.FrameError.{FrameError}
use Rattle.frame_read.specs.declared.error.FrameError.TheVariants.{Bad, Failed, NoMemory}

-- two calls
pub told_on : {A : Type 0} (a b c : Option A) (P Q R : A → A → Type 0) → StillTold a b P → StillTold b c Q → ((x y z : A) → P x y → Q y z → R x z) → StillTold a c R
told_on None b c P Q R p q f = tt
told_on (Some x) None c P Q R p q f = absurd p
told_on (Some x) (Some y) None P Q R p q f = absurd q
told_on (Some x) (Some y) (Some z) P Q R p q f = f x y z p q

pub told_as : {A : Type 0} (a b : Option A) (P Q : A → A → Type 0) → StillTold a b P → ((x y : A) → P x y → Q x y) → StillTold a b Q
told_as None b P Q p f = tt
told_as (Some x) None P Q p f = absurd p
told_as (Some x) (Some y) P Q p f = f x y p

pub told_same : {A : Type 0} (a : Option A) (P : A → A → Type 0) → ((x : A) → P x x) → StillTold a a P
told_same None P f = tt
told_same (Some x) P f = f x

module _ {A B : Type 0} where
  -- what was read first is the front of a whole
  pub reads_then : (whole : List ℕ → Result (B × List ℕ) Flaw) (first : List ℕ → Result (A × List ℕ) Flaw) (second : List ℕ → Result (B × List ℕ) Flaw)
      (a b c : Option (List ℕ)) (value : A) (result : Result B FrameError)
      → ReadsBy first a b (Ok value) → ReadsBy second b c result → ((was rest : List ℕ) → first was ≡ Ok (value, rest) → whole was ≡ second rest) → ReadsBy whole a c result
  reads_then whole first second a b c value result one two is =
      told_on a b c (λ was now. first was ≡ Ok (value, now)) (λ was now. Answers (second was) now result) (λ was now. Answers (whole was) now result) one two
      (λ x y z p q. answers x y z result (is x y p) q)
    where
      answers : (x y z : List ℕ) (r : Result B FrameError) → whole x ≡ second y → Answers (second y) z r → Answers (whole x) z r
      answers x y z (Ok v) e h = e ∙ h
      answers x y z (Err (Bad flaw)) e h = e ∙ h
      answers x y z (Err Failed) e h = tt
      answers x y z (Err NoMemory) e h = tt

  -- the whole fails where its first part does
  pub reads_not : (whole : List ℕ → Result (B × List ℕ) Flaw) (first : List ℕ → Result (A × List ℕ) Flaw) (a b : Option (List ℕ)) (error : FrameError)
      → ReadsBy first a b (Err error) → ((was : List ℕ) (flaw : Flaw) → first was ≡ Err flaw → whole was ≡ Err flaw) → ReadsBy whole a b (Err error)
  reads_not whole first a b (Bad flaw) h is = told_as a b (λ was now. first was ≡ Err flaw) (λ was now. whole was ≡ Err flaw) h (λ x y e. is x flaw e)
  reads_not whole first a b Failed h is = h
  reads_not whole first a b NoMemory h is = h

-- one reader after another, the second over what the first gave
module _ {A B : Type 0} where
  pub reads_bind : (p : List ℕ → Result (A × List ℕ) Flaw) (q : A → List ℕ → Result (B × List ℕ) Flaw) (a b c : Option (List ℕ)) (value : A) (result : Result B FrameError)
      → ReadsBy p a b (Ok value) → ReadsBy (q value) b c result → ReadsBy (λ was. p was >>- λ x. q x.0 x.1) a c result
  reads_bind p q a b c value result one two =
      reads_then (λ was. p was >>- λ x. q x.0 x.1) p (q value) a b c value result one two (λ was rest e. ap (λ r. r >>- λ x. q x.0 x.1) e)

  pub fails_bind : (p : List ℕ → Result (A × List ℕ) Flaw) (q : A → List ℕ → Result (B × List ℕ) Flaw) (a b : Option (List ℕ)) (error : FrameError)
      → ReadsBy p a b (Err error) → ReadsBy (λ was. p was >>- λ x. q x.0 x.1) a b (Err error)
  fails_bind p q a b error one = reads_not (λ was. p was >>- λ x. q x.0 x.1) p a b error one (λ was flaw e. ap (λ r. r >>- λ x. q x.0 x.1) e)

-- what a reader of `std` says
pub taken : (out : List ℕ) (a b : Option (List ℕ)) (count : ℕ) → Consumes a b (take count out) → (count ≡ 0 → 0 < length out → IsAtEnd b)
    → StillTold a b (λ before after. Takes out before after (Ok count))
taken out None b count h end = tt
taken out (Some x) None count h end = absurd h
taken out (Some x) (Some y) count h end = (h, λ none room. h ∙ (ap (λ (n : ℕ). take n out ++ y) none ∙ end none room))

pub kept : (a b : Option (List ℕ)) → Keeps a b → StillTold a b (λ before after. after ≡ before)
kept None b h = tt
kept (Some x) None h = absurd h
kept (Some x) (Some y) h = h

-- known bytes stay as they were, from call to call
pub record AreKept (before now : Option (List ℕ)) : Type 0 where
  pub same : Keeps before now

pub kept_none : (a : Option (List ℕ)) → AreKept a a
kept_none None = record { same = tt }
kept_none (Some x) = record { same = refl }

pub kept_more : (a b c : Option (List ℕ)) → AreKept a b → Keeps b c → AreKept a c
kept_more None b c h k = record { same = tt }
kept_more (Some x) None c h k = absurd h.same
kept_more (Some x) (Some y) None h k = absurd k
kept_more (Some x) (Some y) (Some z) h k = record { same = k ∙ h.same }

pub consumes_then : (a b c : Option (List ℕ)) (bytes : List ℕ) → AreKept a b → Consumes b c bytes → Consumes a c bytes
consumes_then None b c bytes h k = tt
consumes_then (Some x) None c bytes h k = absurd h.same
consumes_then (Some x) (Some y) None bytes h k = absurd k
consumes_then (Some x) (Some y) (Some z) bytes h k = sym h.same ∙ k

module _ {B : Type 0} where
  -- the exit of a `?`
  pub reads_at_err : (whole : List ℕ → Result (B × List ℕ) Flaw) (a b : Option (List ℕ)) (error : FrameError) (result : Result B FrameError)
      → IsErrAnd result (λ e. e ≡ error) → ReadsBy {A = B} whole a b (Err error) → ReadsBy whole a b result
  reads_at_err whole a b error result h is = let p = err_from_is_err_and result h in rw (p.1, p.2) is
