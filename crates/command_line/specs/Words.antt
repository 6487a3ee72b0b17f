-- The words of the command line, as rows of the program's table.
use Rattle.std.specs.Prelude.{ℕ, Bool, ◌&&◌, ◌||◌, not, List, [], ◌∷◌, length, Option, Some, None, ◌==◌, nat_le, nat_lt, codes, bytes_eq, if◌then◌else◌}
use Rattle.std.specs.List.{slice_split}
use Rattle.h265_model.specs.declared.extra.Extra.{Extra}
use Rattle.h265_model.specs.declared.extra.Extra.TheVariants.{Plain, Hash, Segments, Moves}
use Rattle.h265_model.specs.Bits.{◌>>=◌}
use Rattle.h265_model.specs.Plain.{Size}
use Rattle.h265_model.specs.Settings.{Settings, most_side, is_size, has_segments}
use Rattle.recorder_model.specs.Script.{number_up_to}

-- the limits
abbrev pub most_workers : ℕ
most_workers = 64

abbrev pub most_clients : ℕ
most_clients = 64

-- the words after `record`, `serial` and `decode`
pub record RecordWords : Type 0 where
  pub settings : Settings
  pub workers : ℕ
  pub out : List ℕ
  pub files : List (List ℕ)

pub record SerialWords : Type 0 where
  pub settings : Settings
  pub out : List ℕ
  pub file : List ℕ

pub record DecodeWords : Type 0 where
  pub input : List ℕ
  pub out : List ℕ

pub data Row : Type 0 where
  Record : RecordWords → Row
  Serial : SerialWords → Row
  Demo : ℕ → Row
  Decode : DecodeWords → Row

abbrev pub size_parts : List (List ℕ) → Option Size
size_parts (w ∷ h ∷ []) = do
  w ← number_up_to most_side w
  h ← number_up_to most_side h
  if is_size (record { w = w; h = h }) then Some (record { w = w; h = h }) else None
size_parts _ = None

-- WxH
abbrev pub size_word : List ℕ → Option Size
size_word word = size_parts (slice_split (λ c. c == 120) word)

-- whether pictures of this size can be coded so: a row that is a slice segment has two coding tree units at least
abbrev pub is_wide_enough : Extra → Size → Bool
is_wide_enough extra size = not (has_segments extra) || nat_lt 32 size.w

-- SIZE, EFFORT and KEY
unfoldable pub settings_words : Extra → List ℕ → List ℕ → List ℕ → Option Settings
settings_words extra size effort key = do
  size ← size_word size
  effort ← number_up_to 2 effort
  key ← number_up_to 65535 key
  if is_wide_enough extra size then Some (record { size = size; effort = effort; key = key; extra = extra }) else None

-- SIZE WORKERS EFFORT KEY OUT FILE..
abbrev pub record_words : Extra → List (List ℕ) → Option Row
record_words extra (size ∷ workers ∷ effort ∷ key ∷ out ∷ file ∷ files) = do
  settings ← settings_words extra size effort key
  workers ← number_up_to most_workers workers
  if nat_le 1 workers && nat_le (length (file ∷ files)) most_clients then Some (Record (record { settings = settings; workers = workers; out = out; files = file ∷ files })) else None
record_words extra _ = None

-- SIZE EFFORT KEY OUT FILE
abbrev pub serial_words : Extra → List (List ℕ) → Option Row
serial_words extra (size ∷ effort ∷ key ∷ out ∷ file ∷ []) = do
  settings ← settings_words extra size effort key
  Some (Serial (record { settings = settings; out = out; file = file }))
serial_words extra _ = None

-- what follows `hash`: a recording in which the hash of each picture stands after it
abbrev pub hash_words : List (List ℕ) → Option Row
hash_words [] = None
hash_words (command ∷ words) =
    if bytes_eq command (codes "record") then record_words Hash words
    else if bytes_eq command (codes "serial") then serial_words Hash words
    else None

-- what follows `segments`: a recording in which each row of coding tree units is a slice segment
abbrev pub segments_words : List (List ℕ) → Option Row
segments_words [] = None
segments_words (command ∷ words) = if bytes_eq command (codes "serial") then serial_words Segments words else None

-- what follows `moves`: a recording in which blocks may be copied from other places of the picture before
abbrev pub moves_words : List (List ℕ) → Option Row
moves_words [] = None
moves_words (command ∷ words) = if bytes_eq command (codes "serial") then serial_words Moves words else None

abbrev pub demo_words : List (List ℕ) → Option Row
demo_words (number ∷ []) = do
  number ← number_up_to 18446744073709551615 number
  Some (Demo number)
demo_words _ = None

abbrev pub decode_words : List (List ℕ) → Option Row
decode_words (input ∷ out ∷ []) = Some (Decode (record { input = input; out = out }))
decode_words _ = None

-- the row that the words are in
unfoldable pub row_of : List (List ℕ) → Option Row
row_of [] = None
row_of (command ∷ words) =
    if bytes_eq command (codes "record") then record_words Plain words
    else if bytes_eq command (codes "serial") then serial_words Plain words
    else if bytes_eq command (codes "demo") then demo_words words
    else if bytes_eq command (codes "decode") then decode_words words
    else if bytes_eq command (codes "hash") then hash_words words
    else if bytes_eq command (codes "segments") then segments_words words
    else if bytes_eq command (codes "moves") then moves_words words
    else None
