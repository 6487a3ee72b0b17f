-- Wavefront parallel processing as a machine of rows (9.3.1, 9.3.2.3, 9.3.2.4).
use Rattle.std.specs.Prelude.{ℕ, zero, suc, ◌+◌, ◌-◌, ◌<◌, Bool, true, false, not, ◌&&◌, ◌||◌, List, [], ◌∷◌, length, set, replicate, fold, count_by, Option, Some, None, ◌==◌, nat_lt, nat_le, slice_index_or, IsTrue, if◌then◌else◌}

-- the wavefront machine, a rule of this project's own: what was done of a row, and how many coding tree units of it
-- are coded
pub record RowState : Type 0 where
  pub claimed : Bool
  pub synced : Bool
  pub published : Bool
  pub lost : Bool
  pub finished : Bool
  pub coded : ℕ

-- the wavefront machine, this project's own: what is done of a row; Sync is the synchronization process (9.3.2.4),
-- Publish the storage process (9.3.2.3)
pub data Event : Type 0 where
  Claim : ℕ → Event
  Sync : ℕ → Event
  Code : ℕ → Event
  Publish : ℕ → Event
  Finish : ℕ → Event
  Lose : ℕ → Event

-- the wavefront machine, this project's own: a row of which nothing was done
abbrev pub unclaimed : RowState
unclaimed = record { claimed = false; synced = false; published = false; lost = false; finished = false; coded = 0 }

-- the wavefront machine, this project's own: how many coding tree units a row has, and the rows
pub record Wave : Type 0 where
  pub width : ℕ
  pub rows : List RowState

-- the wavefront machine, this project's own: rows of which nothing was done
abbrev pub new_wave : ℕ → ℕ → Wave
new_wave rows width = record { width = width; rows = replicate rows unclaimed }

-- the wavefront machine, this project's own: the state of a row
abbrev pub row_at : Wave → ℕ → RowState
row_at w r = slice_index_or w.rows r unclaimed

-- the wavefront machine, this project's own: how many rows are claimed
abbrev pub claimed_count : Wave → ℕ
claimed_count w = count_by (λ s. s.claimed) w.rows

-- a row takes contexts from the row above, where there is one and it is two coding tree units wide (9.3.1)
abbrev pub must_sync : Wave → ℕ → Bool
must_sync w r = nat_lt 0 r && nat_le 2 w.width

-- the wavefront machine, this project's own: where an event is lawful. Rows are claimed in order, so that the least
-- row not claimed is the number of those claimed
abbrev pub allows_row : Wave → Event → Bool
allows_row w (Claim r) = r == claimed_count w && nat_lt r (length w.rows)
allows_row w (Sync r) =
    let s : RowState = row_at w r in
    s.claimed && must_sync w r && s.coded == 0 && (row_at w (r - 1)).published && not s.synced
allows_row w (Code r) =
    let s : RowState = row_at w r in
    s.claimed && (not (must_sync w r) || s.synced) && not s.lost && nat_lt s.coded w.width
allows_row w (Publish r) =
    let s : RowState = row_at w r in
    s.coded == 2 && not s.published && not s.lost
allows_row w (Finish r) =
    let s : RowState = row_at w r in
    s.claimed && s.coded == w.width && not s.lost && not s.finished && (not (nat_le 2 w.width) || s.published)
allows_row w (Lose r) =
    let s : RowState = row_at w r in
    s.claimed && not s.published && not s.finished && not s.lost

-- the wavefront machine, this project's own: the row of an event
abbrev pub row_of_event : Event → ℕ
row_of_event (Claim r) = r
row_of_event (Sync r) = r
row_of_event (Code r) = r
row_of_event (Publish r) = r
row_of_event (Finish r) = r
row_of_event (Lose r) = r

-- the wavefront machine, this project's own: what an event changes of its row
abbrev pub changed : RowState → Event → RowState
changed s (Claim r) = record s { claimed = true }
changed s (Sync r) = record s { synced = true }
changed s (Code r) = record s { coded = s.coded + 1 }
changed s (Publish r) = record s { published = true }
changed s (Finish r) = record s { finished = true }
changed s (Lose r) = record s { lost = true }

-- the wavefront machine, this project's own: the rows after an event
abbrev pub after_event : Wave → Event → Wave
after_event w e = record w { rows = set w.rows (row_of_event e) (changed (row_at w (row_of_event e)) e) }

-- the wavefront machine, this project's own: each event is lawful in the wave that the events before it leave
abbrev pub AreLawful : Wave → List Event → Type 0
AreLawful w [] = Unit {0}
AreLawful w (e ∷ es) = IsTrue (allows_row w e) × AreLawful (after_event w e) es

-- the wavefront machine, this project's own: the rows after a list of events
abbrev pub after_events : Wave → List Event → Wave
after_events w es = fold after_event w es

-- ---- what rows hand on and finish with

-- the wavefront machine, this project's own: jobs of one width, one for each row: the contexts after the second
-- coding tree unit and the bytes at the end, by what was inherited
pub record Jobs : Type 0 where
  pub width : ℕ
  pub second : ℕ → Option (List ℕ) → List ℕ
  pub bytes : ℕ → Option (List ℕ) → List ℕ

-- what a row inherits: the contexts after the second coding tree unit of the row above, where there are such
-- (9.3.1). No schedule stands in it
unfoldable pub inherited : Jobs → ℕ → Option (List ℕ)
inherited jobs zero = None
inherited jobs (suc r) = if jobs.width == 1 then None else Some (jobs.second r (inherited jobs r))

-- the bytes of a row that begins with what it inherits (9.3.1). No schedule stands in it
abbrev pub row_bytes : Jobs → ℕ → List ℕ
row_bytes jobs r = jobs.bytes r (inherited jobs r)

-- the wavefront machine, this project's own: over a list of events, the contexts that each row was handed, and the
-- bytes that it finished with
pub record RowResults : Type 0 where
  pub handed : List (Option (List ℕ))
  pub finished : List (Option (List ℕ))

-- the wavefront machine, this project's own: the contexts that a row was handed, if it was
abbrev pub handed_to : RowResults → ℕ → Option (List ℕ)
handed_to o r = slice_index_or o.handed r None

-- the wavefront machine, this project's own: what an event hands to a row, and what a row finishes with at it
abbrev pub result_after : Jobs → RowResults → Event → RowResults
result_after jobs o (Sync r) = record o { handed = set o.handed r (Some (jobs.second (r - 1) (handed_to o (r - 1)))) }
result_after jobs o (Finish r) = record o { finished = set o.finished r (Some (jobs.bytes r (handed_to o r))) }
result_after jobs o (Claim r) = o
result_after jobs o (Code r) = o
result_after jobs o (Publish r) = o
result_after jobs o (Lose r) = o

-- the wavefront machine, this project's own: what a list of events hands to rows, and what these finish with
abbrev pub results : Jobs → ℕ → List Event → RowResults
results jobs rows es = fold (result_after jobs) (record { handed = replicate rows None; finished = replicate rows None }) es

-- the wavefront machine, this project's own: all rows are finished
abbrev pub AllFinished : Wave → Type 0
AllFinished w = (r : ℕ) → r < length w.rows → IsTrue (row_at w r).finished
