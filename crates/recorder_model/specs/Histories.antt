-- Histories of several clients' scripts.
use Rattle.std.specs.Prelude.{◌≡◌, ℕ, ◌<◌, ◌≤◌, not, List, [], ◌∷◌, ◌++◌, length, count_by, ◌==◌, if◌then◌else◌, slice_index_or, map}
use Rattle.std.specs.List.{range_with_len}
use Rattle.recorder_model.specs.declared.entry.Entry.{Entry}
use Rattle.recorder_model.specs.declared.entry.Entry.TheVariants as entry
use Rattle.recorder_model.specs.declared.line.Line.{Line}
use Rattle.recorder_model.specs.Script.{is_cut}
use Rattle.recorder_model.specs.Painting.{lines_of}

-- the indexes of a client's lines, in order
unfoldable pub indexes_of : List Entry → ℕ → List ℕ
indexes_of [] client = []
indexes_of (entry.Line c index ∷ h) client = if c == client then index ∷ indexes_of h client else indexes_of h client
indexes_of (entry.Take number ∷ h) client = indexes_of h client

-- the numbers of its takes, in order
unfoldable pub take_numbers : List Entry → List ℕ
take_numbers [] = []
take_numbers (entry.Line c index ∷ h) = take_numbers h
take_numbers (entry.Take number ∷ h) = number ∷ take_numbers h

-- how many cuts, paints and takes it has
abbrev pub cuts : List (List Line) → List Entry → ℕ
cuts scripts h = count_by is_cut (lines_of scripts h)

abbrev pub paints : List (List Line) → List Entry → ℕ
paints scripts h = count_by (λ line. not (is_cut line)) (lines_of scripts h)

abbrev pub takes : List Entry → ℕ
takes h = length (take_numbers h)

abbrev pub script_length : List (List Line) → ℕ → ℕ
script_length scripts client = length (slice_index_or scripts client [])

-- each client's lines are its script's first ones in order, and no other client occurs
abbrev pub BeginsMerge : List (List Line) → List Entry → Type 0
BeginsMerge scripts h = (client : ℕ) → (n : ℕ) × (n ≤ script_length scripts client) × (indexes_of h client ≡ range_with_len 0 n)

-- the same, and each script is played to its end
abbrev pub Merges : List (List Line) → List Entry → Type 0
Merges scripts h = (client : ℕ) → indexes_of h client ≡ range_with_len 0 (script_length scripts client)

-- a take comes after the cut whose picture it takes
abbrev pub TakesFollowCuts : List (List Line) → List Entry → Type 0
TakesFollowCuts scripts h = (before after : List Entry) (number : ℕ) → h ≡ before ++ entry.Take number ∷ after → number < cuts scripts before

pub record IsLawful (scripts : List (List Line)) (h : List Entry) : Type 0 where
  pub begins : BeginsMerge scripts h
  pub in_order : take_numbers h ≡ range_with_len 0 (takes h)
  pub after_cuts : TakesFollowCuts scripts h

-- the first script's lines, in its own order
abbrev pub own_order : List (List Line) → List Entry
own_order scripts = map (λ index. entry.Line 0 index) (range_with_len 0 (script_length scripts 0))
