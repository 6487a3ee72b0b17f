-- Counts of faults, and what they are after a call.
use Rattle.std.specs.Prelude.{◌≡◌, ℕ, ◌+◌, ◌-◌, ◌^◌, min, List, [], ◌∷◌, ◌++◌, take, Option, Some, None, Result, Ok, Err, MatchOption, ◌==◌, if◌then◌else◌}
use Rattle.edges.specs.declared.shelf.ReadError.{ReadError}
use Rattle.edges.specs.declared.shelf.ReadError.TheVariants as read
use Rattle.edges.specs.declared.sink.WriteError.{WriteError}
use Rattle.edges.specs.declared.sink.WriteError.TheVariants as write

-- one more, up to the last value of a u64
abbrev pub raised : ℕ → ℕ
raised count = min (count + 1) (2 ^ 64 - 1)

-- a count of faults after a write
abbrev pub faults_after : ℕ → Result (Unit {0}) WriteError → ℕ
faults_after faults (Ok done) = faults
faults_after faults (Err write.Failed) = raised faults
faults_after faults (Err write.NoMemory) = faults

-- ---- real files

-- the name of the file that was created last, and the counts
pub record Disk : Type 0 where
  pub created : Option (List ℕ)
  pub read_faults : ℕ
  pub write_faults : ℕ

abbrev pub after_read : {T : Type 0} → Disk → Result T ReadError → Disk
after_read disk (Ok read) = disk
after_read disk (Err read.Failed) = record disk { read_faults = raised disk.read_faults }
after_read disk (Err read.TooLarge) = disk
after_read disk (Err read.NoMemory) = disk

abbrev pub after_create : List ℕ → Disk → Result (Unit {0}) WriteError → Disk
after_create name disk (Ok done) = record disk { created = Some name }
after_create name disk (Err write.Failed) = record disk { write_faults = raised disk.write_faults }
after_create name disk (Err write.NoMemory) = disk

-- ---- a text in memory

-- the text, the count of faults, how many calls there were, and the calls that fail with how many bytes each takes first
pub record MemoryText : Type 0 where
  pub text : List ℕ
  pub faults : ℕ
  pub calls : ℕ
  pub failing : List (ℕ × ℕ)

-- how many bytes this call takes first, if it fails
abbrev pub taken_at : List (ℕ × ℕ) → ℕ → Option ℕ
taken_at [] call = None
taken_at (entry ∷ entries) call = if entry.0 == call then Some entry.1 else taken_at entries call

-- a call that fails by the list, and one that doesn't; both change nothing where there is no memory
abbrev pub WritesMemory : List ℕ → MemoryText → MemoryText → Result (Unit {0}) WriteError → Type 0
WritesMemory piece before after (Ok done) =
    (taken_at before.failing before.calls ≡ None)
    × (after ≡ record before { text = before.text ++ piece; calls = raised before.calls })
WritesMemory piece before after (Err write.Failed) = MatchOption (taken_at before.failing before.calls) ⊥ (λ taken.
    after ≡ record before { text = before.text ++ take taken piece; calls = raised before.calls; faults = raised before.faults })
WritesMemory piece before after (Err write.NoMemory) = after ≡ before
