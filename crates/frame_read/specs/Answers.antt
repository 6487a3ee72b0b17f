-- What the readers of frames answer.
use Rattle.std.specs.Prelude.{◌≡◌, ℕ, List, [], ◌∷◌, Option, Some, None, Result, Ok, Err}
use Rattle.recorder_model.specs.Files.{Rose}
use Rattle.frame_read.specs.Sources.{StillTold}
use Rattle.frame_read.specs.declared.error.Flaw.{Flaw}
use Rattle.frame_read.specs.declared.error.Flaw.TheVariants.{Truncated}
use Rattle.frame_read.specs.declared.error.FrameError.{FrameError}
use Rattle.frame_read.specs.declared.error.FrameError.TheVariants.{Bad, Failed, NoMemory}

-- The value that is told, and what follows it; or what is told to be wrong. Of a failed read and want of memory nothing is said.
abbrev pub Answers : {A : Type 0} → Result (A × List ℕ) Flaw → List ℕ → Result A FrameError → Type 0
Answers told after (Ok value) = told ≡ Ok (value, after)
Answers told after (Err (Bad flaw)) = told ≡ Err flaw
Answers told after (Err Failed) = Unit {0}
Answers told after (Err NoMemory) = Unit {0}

-- the bytes to come were read as this function of them tells, up to what it says that follows
abbrev pub ReadsBy : {A : Type 0} → (List ℕ → Result (A × List ℕ) Flaw) → Option (List ℕ) → Option (List ℕ) → Result A FrameError → Type 0
ReadsBy tells before after result = StillTold before after (λ was now. Answers (tells was) now result)

-- a read failed only where the count of failed reads rose
abbrev pub HasFrameCause : {A : Type 0} → ℕ → ℕ → Result A FrameError → Type 0
HasFrameCause before now (Ok value) = now ≡ before
HasFrameCause before now (Err (Bad flaw)) = now ≡ before
HasFrameCause before now (Err Failed) = Rose before now
HasFrameCause before now (Err NoMemory) = now ≡ before

-- the first byte, if there is one, and what follows it
abbrev pub first_byte : List ℕ → Result (Option ℕ × List ℕ) Flaw
first_byte [] = Ok (None, [])
first_byte (c ∷ cs) = Ok (Some c, cs)

-- the same of a byte that must be there
abbrev pub needed_byte : List ℕ → Result (ℕ × List ℕ) Flaw
needed_byte [] = Err Truncated
needed_byte (c ∷ cs) = Ok (c, cs)
