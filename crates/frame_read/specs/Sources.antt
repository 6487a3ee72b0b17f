-- Bytes that come one after another.
use Rattle.std.specs.Prelude.{◌≡◌, ℕ, ◌<◌, List, [], ◌++◌, length, take, Option, IfSome, IsSomeAnd, Result, Ok, Err}
use Rattle.recorder_model.specs.Files.{Rose}
use Rattle.frame_read.specs.declared.source.ReadFailed.{ReadFailed}

-- Where it was told before, it is told afterwards, and P holds of both.
abbrev pub StillTold : {A : Type 0} → Option A → Option A → (A → A → Type 0) → Type 0
StillTold before after P = IfSome before (λ was. IsSomeAnd after (λ now. P was now))

-- some bytes were taken from the front: none only at the end, or where there is no room for one
abbrev pub Takes : List ℕ → List ℕ → List ℕ → Result ℕ ReadFailed → Type 0
Takes out before after (Ok count) = (before ≡ take count out ++ after) × (count ≡ 0 → 0 < length out → before ≡ [])
Takes out before after (Err failed) = after ≡ before

-- a read fails only where the count of failed reads rose
abbrev pub HasCause : {A : Type 0} → ℕ → ℕ → Result A ReadFailed → Type 0
HasCause before now (Ok value) = now ≡ before
HasCause before now (Err failed) = Rose before now
