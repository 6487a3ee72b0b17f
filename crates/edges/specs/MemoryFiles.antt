-- Files in memory with calls that fail, and what each call leaves.
use Rattle.std.specs.Prelude.{◌≡◌, ◌≢◌, ℕ, ◌≤◌, ◌<◌, Bool, true, false, List, [], ◌∷◌, ◌++◌, length, take, Option, Some, None, Result, Ok, Err, Vec, MatchOption, ◌==◌, if◌then◌else◌, refl}
use Rattle.std.specs.Coded.{Coded, code_by, coded×, coded_ℕ, coded_list}
use Rattle.std.specs.Ordering.{nat_cmp}
use Rattle.std.specs.Cmp.Lexicographic.{slice_cmp}
use Rattle.std.specs.FinMap.{code, get, insert}
use Rattle.recorder_model.specs.Files.{Files, file_at}
use Rattle.edges.specs.Counts.{raised, taken_at}
use Rattle.edges.specs.declared.shelf.ReadError.{ReadError}
use Rattle.edges.specs.declared.shelf.ReadError.TheVariants as read
use Rattle.edges.specs.declared.sink.WriteError.{WriteError}
use Rattle.edges.specs.declared.sink.WriteError.TheVariants as write

-- the files, the counts of faults, how many reads and writes there were, the reads that fail, and the writes that fail with
-- how many bytes each takes first
pub record MemoryFiles : Type 0 where
  pub files : Files
  pub read_faults : ℕ
  pub write_faults : ℕ
  pub reads : ℕ
  pub writes : ℕ
  pub failing_reads : List ℕ
  pub failing_writes : List (ℕ × ℕ)

-- stored as pairs: the files, the counts, the call numbers and the lists
abbrev pub memory_files_code : Coded MemoryFiles
memory_files_code =
    code_by ((Files × (ℕ × ℕ)) × ((ℕ × ℕ) × (List ℕ × List (ℕ × ℕ))))
    (coded× (coded× (code {R = slice_cmp nat_cmp} (coded_list coded_ℕ) (coded_list coded_ℕ)) (coded× coded_ℕ coded_ℕ))
    (coded× (coded× coded_ℕ coded_ℕ) (coded× (coded_list coded_ℕ) (coded_list (coded× coded_ℕ coded_ℕ)))))
    (λ s. ((s.files, (s.read_faults, s.write_faults)), ((s.reads, s.writes), (s.failing_reads, s.failing_writes))))
    (λ t. record {
      files = t.0.0;
      read_faults = t.0.1.0;
      write_faults = t.0.1.1;
      reads = t.1.0.0;
      writes = t.1.0.1;
      failing_reads = t.1.1.0;
      failing_writes = t.1.1.1;
    })
    (λ _. refl)

-- whether a call's number is in a list
abbrev pub is_listed : List ℕ → ℕ → Bool
is_listed [] call = false
is_listed (number ∷ numbers) call = if number == call then true else is_listed numbers call

-- what the next read finds: the bytes of the file, where there is one and the read doesn't fail by the list
abbrev pub found : MemoryFiles → List ℕ → Option (List ℕ)
found shelf name = if is_listed shelf.failing_reads shelf.reads then None else get shelf.files name

-- how many bytes the next write takes first, if it fails
abbrev pub next_taken : MemoryFiles → Option ℕ
next_taken shelf = taken_at shelf.failing_writes shelf.writes

-- what is answered of what was found: Failed exactly where that is nothing
abbrev pub FoundAnswer : {G : Type 0} → ℕ → Option (List ℕ) → Result (Vec ℕ G) ReadError → Type 0
FoundAnswer limit found (Ok bytes) = (found ≡ Some bytes.items) × (length bytes.items ≤ limit)
FoundAnswer limit found (Err read.Failed) = found ≡ None
FoundAnswer limit found (Err read.TooLarge) = MatchOption found ⊥ (λ bytes. limit < length bytes)
FoundAnswer limit found (Err read.NoMemory) = Unit {0}

-- how a read is counted; for want of memory it isn't
abbrev pub after_memory_read : {G : Type 0} → MemoryFiles → Result (Vec ℕ G) ReadError → MemoryFiles
after_memory_read shelf (Ok bytes) = record shelf { reads = raised shelf.reads }
after_memory_read shelf (Err read.Failed) = record shelf { reads = raised shelf.reads; read_faults = raised shelf.read_faults }
after_memory_read shelf (Err read.TooLarge) = record shelf { reads = raised shelf.reads }
after_memory_read shelf (Err read.NoMemory) = shelf

-- after a write that ended well with these files; and after one that failed
abbrev pub after_good_write : MemoryFiles → Files → MemoryFiles
after_good_write shelf files = record shelf { files = files; writes = raised shelf.writes }

abbrev pub after_bad_write : MemoryFiles → Files → MemoryFiles
after_bad_write shelf files =
    record shelf { files = files; writes = raised shelf.writes; write_faults = raised shelf.write_faults }

abbrev pub ReadsMemory : {G : Type 0} → List ℕ → ℕ → MemoryFiles → MemoryFiles → Result (Vec ℕ G) ReadError → Type 0
ReadsMemory name limit before after result =
    FoundAnswer limit (found before name) result × (after ≡ after_memory_read before result)

-- A file is made, but by a call that fails by the list: that leaves the file as it was. For want of memory nothing changes.
abbrev pub CreatesMemory : List ℕ → MemoryFiles → MemoryFiles → Result (Unit {0}) WriteError → Type 0
CreatesMemory name before after (Ok done) =
    (next_taken before ≡ None) × (after ≡ after_good_write before (insert before.files name []))
CreatesMemory name before after (Err write.Failed) =
    (next_taken before ≢ None) × (after ≡ after_bad_write before before.files)
CreatesMemory name before after (Err write.NoMemory) = after ≡ before

-- A piece is added, or by a call that fails by the list as much of its front as is listed. For want of memory nothing changes.
abbrev pub AppendsMemory : List ℕ → List ℕ → MemoryFiles → MemoryFiles → Result (Unit {0}) WriteError → Type 0
AppendsMemory name piece before after (Ok done) =
    (next_taken before ≡ None) × (after ≡ after_good_write before (insert before.files name (file_at before.files name ++ piece)))
AppendsMemory name piece before after (Err write.Failed) = MatchOption (next_taken before) ⊥ (λ taken.
    after ≡ after_bad_write before (insert before.files name (file_at before.files name ++ take taken piece)))
AppendsMemory name piece before after (Err write.NoMemory) = after ≡ before
