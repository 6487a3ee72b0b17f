-- What workers at a board know of its rows, and what they coded.
use Rattle.std.specs.Prelude.{◌≡◌, ◌≢◌, ℕ, ◌+◌, ◌<◌, ◌==◌, List, [], ◌∷◌, ◌++◌, length, map, slice_index_or, true, false, if◌then◌else◌, Some}
use Rattle.std.specs.List.{All}
use Rattle.std.specs.Global.{Vec}
use Rattle.atomic_table.specs.Seated.{TableId}
use Rattle.row_board.specs.declared.knowledge.Stage.TheVariants.{Open}
use Rattle.row_board.specs.declared.knowledge.Claimed.{Claimed}
use Rattle.row_board.specs.declared.knowledge.Knowledge.{Knowledge}
use Rattle.row_board.specs.Rows.{times, claim_of, newcomer}
use Rattle.row_board.specs.Standing.{IsSame}
use Rattle.row_workers.specs.declared.at_once.CodedRow.{CodedRow}
use Rattle.row_workers.specs.declared.at_once.Worker.{Worker}

-- a seat after some calls on its rows: it has the same rows, and knows the same of the board
pub record KeepsRows (v w : Knowledge) : Type 0 where
  pub same : IsSame v w
  pub rows : (r : ℕ) → times r w.rows ≡ times r v.rows

-- the seat published the row, or lost it
abbrev pub IsSettled : Knowledge → ℕ → Type 0
IsSettled v r = (c : Claimed) × (claim_of r v.rows ≡ Some c) × (c.stage ≢ Open)

-- the bytes of a row, by its number
abbrev pub row_at : List (Vec ℕ) → ℕ → List ℕ
row_at rows r = slice_index_or (map (λ row. row.items) rows) r []

-- how often the row is among these
abbrev pub coded_times : ℕ → List CodedRow → ℕ
coded_times r [] = 0
coded_times r (row ∷ rows) = (if r == row.number then 1 else 0) + coded_times r rows

-- the row is below the board's rows, and has the bytes that are wanted of it
abbrev pub IsRowOf : List (List ℕ) → List (List ℕ) → CodedRow → Type 0
IsRowOf want give row = (row.number < length want) × (row.bytes.items ≡ slice_index_or give row.number [])

-- these are the rows that a seat claimed, each with its bytes
pub record HasCoded (v : Knowledge) (rows : List CodedRow) : Type 0 where
  pub each : (r : ℕ) → times r v.rows ≡ coded_times r rows
  pub bytes : All (IsRowOf v.want v.give) rows

-- a list of rows became longer by this one, with these bytes
abbrev pub IsMoreBy : List CodedRow → ℕ → List ℕ → List CodedRow → Type 0
IsMoreBy before number bytes after = (row : CodedRow) × (after ≡ before ++ row ∷ []) × (row.number ≡ number) × (row.bytes.items ≡ bytes)

-- rows by their numbers before and after these took their places: each has the bytes that are wanted of it, if it had them before or is among these
pub record HavePlaced (give : List (List ℕ)) (before : List (Vec ℕ)) (rows : List CodedRow) (after : List (Vec ℕ)) : Type 0 where
  pub kept : (r : ℕ) → row_at before r ≡ slice_index_or give r [] → row_at after r ≡ slice_index_or give r []
  pub placed : (r : ℕ) → 0 < coded_times r rows → row_at after r ≡ slice_index_or give r []

-- each row that a seat claimed has the bytes that are wanted of it
abbrev pub AreGathered : Knowledge → List (Vec ℕ) → Type 0
AreGathered v rows = (r : ℕ) → 0 < times r v.rows → row_at rows r ≡ slice_index_or v.give r []

module _ {J : Type 0} where
  -- a worker that begins
  pub record IsReady (board : TableId) (worker : Worker J) : Type 0 where
    pub table : worker.seat.table ≡ board
    pub goes_on : worker.seat.knows.met_none ≡ false
    pub coded : worker.failed ≡ false → HasCoded worker.seat.knows worker.rows.items

  -- a worker before and after it claimed rows until none was left
  pub record HasWorked (board : TableId) (before after : Worker J) : Type 0 where
    pub table : after.seat.table ≡ board
    pub weight : after.seat.knows.weight ≡ before.seat.knows.weight
    pub width : after.seat.knows.width ≡ before.seat.knows.width
    pub want : after.seat.knows.want ≡ before.seat.knows.want
    pub give : after.seat.knows.give ≡ before.seat.knows.give
    pub met : after.seat.knows.met_none ≡ true
    pub coded : after.failed ≡ false → HasCoded after.seat.knows after.rows.items

  abbrev pub HaveWorked : TableId → List (Worker J) → List (Worker J) → Type 0
  HaveWorked board before after = (i : ℕ) (d : Worker J) → i < length before → HasWorked board (slice_index_or before i d) (slice_index_or after i d)

  -- a worker whose seat was split off
  pub record IsNewcomer (board : TableId) (v : Knowledge) (worker : Worker J) : Type 0 where
    pub table : worker.seat.table ≡ board
    pub knows : worker.seat.knows ≡ newcomer v
    pub rows : worker.rows.items ≡ []
    pub failed : worker.failed ≡ false

  -- a worker that met the end of the rows, and gave none up
  pub record IsDone (board : TableId) (v : Knowledge) (worker : Worker J) : Type 0 where
    pub table : worker.seat.table ≡ board
    pub weight : worker.seat.knows.weight ≡ 1
    pub want : worker.seat.knows.want ≡ v.want
    pub give : worker.seat.knows.give ≡ v.give
    pub met : worker.seat.knows.met_none ≡ true
    pub coded : HasCoded worker.seat.knows worker.rows.items
