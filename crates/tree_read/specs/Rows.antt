-- Coding tree units of a row, each with the flag behind it.
use Rattle.std.specs.Prelude.{◌≡◌, ℕ, ◌+◌, ◌*◌, ◌<◌, ◌==◌, ◌&&◌, Bool, List, ◌∷◌, Option, Some, None}
use Rattle.h265_model.specs.declared.Place.TheVariants.{Terminate}
use Rattle.h265_model.specs.declared.leaf.SliceKind.{SliceKind}
use Rattle.h265_model.specs.Plain.{Size, ctus}
use Rattle.h265_model.specs.Engine.{Engine, Reader, ◌>>=◌, give}
use Rattle.h265_model.specs.Motion.{Moving}
use Rattle.h265_model.specs.Tree.{ReadUnit, ReadCtu, ctu_read, contexts_read, expect, units_of}

-- a coding tree unit with its end_of_slice_segment_flag, which has to have this value (7.3.8.1)
unfoldable pub flagged_read : SliceKind → Size → List Moving → ℕ → Bool → Reader ReadCtu
flagged_read kind size before ctu ends = do
  units ← ctu_read kind size before ctu
  contexts ← contexts_read
  expect Terminate ends (give (record { units = units; contexts = contexts }))

-- the contexts after a coding tree unit that was read, of whose units this holds, or nothing just where nothing is read
abbrev pub ReadsCtu : Option (List ℕ) → Option (ReadCtu × Engine) → Engine → (List ReadUnit → Type 0) → Type 0
ReadsCtu None read new Holds = read ≡ None
ReadsCtu (Some contexts) read new Holds = (units : List ReadUnit) × (read ≡ Some (record { units = units; contexts = contexts }, new)) × Holds units

-- the contexts after the second coding tree unit of a row, where it has so many (9.3.2.2, TableStateIdxWpp)
abbrev pub second_of : List ReadCtu → Option (List ℕ)
second_of (first ∷ second ∷ others) = Some second.contexts
second_of _ = None

-- a row that was read, of whose units this holds, and what it hands on, or nothing just where nothing is read
abbrev pub ReadsRow : Option (Option (List ℕ)) → Option (List ReadCtu × Engine) → Engine → (List ReadUnit → Type 0) → Type 0
ReadsRow None read new Holds = read ≡ None
ReadsRow (Some handed) read new Holds = (ctus : List ReadCtu) × (read ≡ Some (ctus, new)) × (handed ≡ second_of ctus) × Holds (units_of ctus)

-- the flag behind a coding tree unit of a row, where the last one's is `last`
abbrev pub ends_at : Bool → ℕ → ℕ → Bool
ends_at last n i = last && (i + 1 == n)

-- these flags end the row so, and no unit before
pub record AreEnds (size : Size) (row : ℕ) (last : Bool) (ends : ℕ → Bool) : Type 0 where
  pub each : (i : ℕ) → i < ctus size.w → ends (row * ctus size.w + i) ≡ ends_at last (ctus size.w) i
