-- Files in memory, as a map from names to bytes.
use Rattle.std.specs.Prelude.{ℕ, List, map, Vec, String, string_bytes}
use Rattle.std.specs.BTreeMap.{BTreeMap}
use Rattle.std.specs.FinMap.{from_entries}
use Rattle.recorder_model.specs.Files.{Files}

-- each name with its bytes
abbrev pub entry_of : {A B : Type 0} → String A × Vec ℕ B → List ℕ × List ℕ
entry_of entry = (string_bytes entry.0, entry.1.items)

unfoldable pub files_of : {A B : Type 0} → BTreeMap (String A) (Vec ℕ B) → Files
files_of m = from_entries (map entry_of m.entries)
