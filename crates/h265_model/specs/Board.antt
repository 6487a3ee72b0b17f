-- The board of rows: what its words, its slots and all row seats say of the rows.
use Rattle.std.specs.Prelude.{◌≡◌, ◌⊎◌, ℕ, zero, suc, ◌+◌, ◌^◌, ◌<◌, ◌≤◌, min, Bool, true, false, List, [], map, flat_map, find, sum_by, Option, Some, None, ◌==◌, slice_index_or, length, nat_lt, ◌&&◌, ◌||◌, IsTrue, IsFalse, IsPermutation, if◌then◌else◌}
use Rattle.std.specs.List.{AllByRecursion}
use Rattle.h265_model.specs.Plain.{below}
use Rattle.h265_model.specs.Contexts.{AreContexts}
use Rattle.h265_model.specs.Wave.{Jobs, inherited, row_bytes, RowState}

-- the board, a rule of this project's own: what the laws of a row's job name, of a job as it was made: whether it
-- was begun, its width, and the contexts after its second CTU and its bytes, by what it inherits
pub record JobView : Type 0 where
  pub begun : Bool
  pub width : ℕ
  pub second : Option (List ℕ) → List ℕ
  pub bytes : Option (List ℕ) → List ℕ

-- the board, this project's own: how far a claimed row is
pub data Progress : Type 0 where
  Open : Progress
  Published : Progress
  Lost : Progress

-- the board, this project's own: a claimed row, whether it has synced (9.3.2.4), and whether its slot is in hand
pub record Claimed : Type 0 where
  pub row : ℕ
  pub progress : Progress
  pub synced : Bool
  -- in the midst of a call the seat may have the slot of an open row in hand
  pub in_hand : Bool

-- the board, this project's own: what a row seat knows
pub record Seat : Type 0 where
  pub width : ℕ
  -- the contexts that each row hands on, and the bytes that it gives
  pub want : List (List ℕ)
  pub give : List (List ℕ)
  pub rows : List Claimed
  pub met_none : Bool
  -- how many words it found by claims and takes, and the last of them with its number
  pub found : ℕ
  pub last_number : ℕ
  pub last : ℕ
  pub weight : ℕ

-- the board, this project's own: what it is made for: each row has the contexts that it hands on, of 130 state
-- bytes, and what it gives
pub record IsPlan (rows : ℕ) (want give : List (List ℕ)) : Type 0 where
  pub some_row : 0 < rows
  pub few_rows : rows < 2 ^ 32
  pub want_long : length want ≡ rows
  pub give_long : length give ≡ rows
  pub want_contexts : AllByRecursion AreContexts want

-- the board, this project's own: the contexts that each row of these jobs hands on (TableStateIdxWpp, 9.3.2.3),
-- begun with what it inherits
abbrev pub want_of : Jobs → ℕ → List (List ℕ)
want_of jobs rows = map (λ r. jobs.second r (inherited jobs r)) (below rows)

-- the board, this project's own: the bytes that each row of these jobs gives, begun with what it inherits
abbrev pub give_of : Jobs → ℕ → List (List ℕ)
give_of jobs rows = map (row_bytes jobs) (below rows)

-- the contexts that a row begins with, where the row above hands some on (9.3.1, 9.3.2.4)
abbrev pub row_inherits : ℕ → List (List ℕ) → ℕ → Option (List ℕ)
row_inherits width want zero = None
row_inherits width want (suc r) = if width == 1 then None else Some (slice_index_or want r [])

-- the board, this project's own: the job is the one that the row was made for, and it wasn't begun
pub record Fits (width : ℕ) (want give : List (List ℕ)) (row : ℕ) (job : JobView) : Type 0 where
  pub fresh : IsFalse job.begun
  pub same_width : job.width ≡ width
  pub hands_on : 2 ≤ width → job.second (row_inherits width want row) ≡ slice_index_or want row []
  pub gives : job.bytes (row_inherits width want row) ≡ slice_index_or give row []

-- the board, this project's own: a slot: at home with a job, with contexts or with nothing, or with a seat
pub data Slot : Type 0 where
  HomeJob : JobView → Slot
  HomeContexts : List ℕ → Slot
  HomeEmpty : Slot
  Away : Slot

-- the board, this project's own: what these claimed rows say of a row
abbrev pub find_row : List Claimed → ℕ → Option Claimed
find_row claimed row = find (λ c. c.row == row) claimed

-- the board, this project's own: the claimed rows of all seats
abbrev pub all_rows : List Seat → List Claimed
all_rows seats = flat_map (λ s. s.rows) seats

-- the board, this project's own: what the seats say of a row
abbrev pub claimed_of : List Seat → ℕ → Option Claimed
claimed_of seats row = find_row (all_rows seats) row

-- the board, this project's own: a row was claimed and has taken contexts from the row above (9.3.2.4)
abbrev pub has_synced : Option Claimed → Bool
has_synced None = false
has_synced (Some c) = c.synced

-- the board, this project's own: the word of a claimed row: 0 open, 1 published, 2 published and taken by the row
-- below, 3 lost
abbrev pub word_of_progress : Progress → Bool → ℕ
word_of_progress Open below_synced = 0
word_of_progress Published below_synced = if below_synced then 2 else 1
word_of_progress Lost below_synced = 3

-- the board, this project's own: the word of a row: 0 unclaimed or open, 1 published, 2 published and taken by the
-- row below, 3 lost
abbrev pub word_of : Option Claimed → Bool → ℕ
word_of None below_synced = 0
word_of (Some c) below_synced = word_of_progress c.progress below_synced

-- the board, this project's own: what stands in the slot of a claimed row. Its claimer took the job out, and leaves
-- the slot at home, empty, between two calls. The claimer of the row below takes the contexts out, and puts the slot
-- back empty
abbrev pub SlotOfProgress : List (List ℕ) → Claimed → Progress → Bool → Slot → Type 0
SlotOfProgress want c Open below_synced slot = slot ≡ (if c.in_hand then Away else HomeEmpty)
SlotOfProgress want c Published true slot = (slot ≡ Away) ⊎ (slot ≡ HomeEmpty)
SlotOfProgress want c Published false slot = slot ≡ HomeContexts (slice_index_or want c.row [])
SlotOfProgress want c Lost below_synced slot = slot ≡ HomeEmpty

-- the board, this project's own: what stands in the slot of a row
abbrev pub SlotOf : ℕ → List (List ℕ) → List (List ℕ) → ℕ → Option Claimed → Bool → Slot → Type 0
SlotOf width want give row None below_synced slot = (job : JobView) × Fits width want give row job × (slot ≡ HomeJob job)
SlotOf width want give row (Some c) below_synced slot = SlotOfProgress want c c.progress below_synced slot

-- the board, this project's own: a row has handed its contexts to the board
abbrev pub progress_published : Progress → Bool
progress_published Open = false
progress_published Published = true
progress_published Lost = false

-- the board, this project's own: a row was claimed and has handed its contexts to the board
abbrev pub is_published : Option Claimed → Bool
is_published None = false
is_published (Some c) = progress_published c.progress

-- the board, this project's own: the rule of one row, its word and its slot
pub record RowRule (width : ℕ) (want give : List (List ℕ)) (seats : List Seat) (words : List ℕ) (slots : List Slot) (row : ℕ) : Type 0 where
  pub word : slice_index_or words (row + 1) 0 ≡ word_of (claimed_of seats row) (has_synced (claimed_of seats (row + 1)))
  pub slot : SlotOf width want give row (claimed_of seats row) (has_synced (claimed_of seats (row + 1))) (slice_index_or slots row Away)
  pub above : IsTrue (has_synced (claimed_of seats (row + 1))) → IsTrue (is_published (claimed_of seats row))
  -- only a row with one above it syncs, and only two CTUs of a row hand contexts on
  pub not_first : IsTrue (has_synced (claimed_of seats row)) → 0 < row
  pub two_wide : IsTrue (is_published (claimed_of seats row)) → 2 ≤ width
  pub synced : 0 < row → IsTrue (is_published (claimed_of seats row)) → IsTrue (has_synced (claimed_of seats row))

-- the board, this project's own: the rule of one seat
pub record SeatRule (rows width : ℕ) (want give : List (List ℕ)) (words : List ℕ) (s : Seat) : Type 0 where
  pub same_width : s.width ≡ width
  pub same_want : s.want ≡ want
  pub same_give : s.give ≡ give
  pub met : IsTrue s.met_none → rows ≤ slice_index_or words 0 0
  pub weighs : 1 ≤ s.weight

-- the board, this project's own: the weight that a seat has to show for having met the end of the rows
abbrev pub weight_past : Seat → ℕ
weight_past s = if s.met_none then s.weight else 0

-- the board, this project's own: the rule over the words (word 0 is that of claims), the slots and all seats that
-- weren't joined into another
pub record Rule (rows width : ℕ) (want give : List (List ℕ)) (words : List ℕ) (slots : List Slot) (seats : List Seat) : Type 0 where
  pub plan : IsPlan rows want give
  pub words_long : length words ≡ rows + 1
  pub slots_long : length slots ≡ rows
  pub claimed : IsPermutation (map (λ c. c.row) (all_rows seats)) (below (min (slice_index_or words 0 0) rows))
  pub passed : slice_index_or words 0 0 ≤ rows + sum_by weight_past seats
  pub weights : sum_by (λ s. s.weight) seats ≡ 2 ^ 32
  pub each_seat : AllByRecursion (SeatRule rows width want give words) seats
  pub each_row : (row : ℕ) → row < rows → RowRule width want give seats words slots row

-- the board, this project's own: the words show this state of a row of the wavefront machine. What is coded and
-- finished of a row its worker alone knows
pub record ShowsRow (words : List ℕ) (row : ℕ) (state : RowState) : Type 0 where
  pub claimed : state.claimed ≡ nat_lt row (slice_index_or words 0 0)
  pub published : state.published ≡ (slice_index_or words (row + 1) 0 == 1 || slice_index_or words (row + 1) 0 == 2)
  pub lost : state.lost ≡ (slice_index_or words (row + 1) 0 == 3)
  -- the word of the row above is 2
  pub synced : state.synced ≡ (nat_lt 0 row && slice_index_or words row 0 == 2)
