-- The table of a board as the definition of the board speaks of it: words, slots, and what the seats know.
use Rattle.std.specs.Prelude.{ℕ, ◌+◌, ◌==◌, List, [], ◌∷◌, map, Bool, if◌then◌else◌}
use Rattle.atomic_table.specs.Table.{State}
use mathlib.Core.Option as maybe
use Rattle.h265_model.specs.Board as board
use Rattle.h265_model.specs.Board.{Progress, Seat, Slot, Rule}
use Rattle.row_core.specs.Plan.{Plan}
use Rattle.row_board.specs.declared.piece.Piece.{Piece}
use Rattle.row_board.specs.declared.piece.Piece.TheVariants.{Nothing, Job, Shown}
use Rattle.row_board.specs.declared.knowledge.Stage.{Stage}
use Rattle.row_board.specs.declared.knowledge.Stage.TheVariants.{Open, Published, Lost}
use Rattle.row_board.specs.declared.knowledge.Claimed.{Claimed}
use Rattle.row_board.specs.declared.knowledge.Knowledge.{Knowledge}
use Rattle.row_board.specs.Rows.{job_view}

abbrev pub progress_of : Stage → Progress
progress_of Open = board.Open
progress_of Published = board.Published
progress_of Lost = board.Lost

-- a row that a seat claimed, by the slot that it has in hand
abbrev pub row_of : ℕ → Claimed → board.Claimed
row_of picked c = record { row = c.row; progress = progress_of c.stage; synced = c.synced; in_hand = picked == c.row + 1 }

abbrev pub seat_of : Knowledge → Seat
seat_of v = record {
  width = v.width;
  want = v.want;
  give = v.give;
  rows = map (row_of v.picked) v.rows;
  met_none = v.met_none;
  found = v.found;
  last_number = v.place;
  last = v.last;
  weight = v.weight;
}

-- what the seats know that weren't joined into another
abbrev pub seats_of : List Knowledge → List Seat
seats_of [] = []
seats_of (v ∷ vs) = if v.weight == 0 then seats_of vs else (seat_of v ∷ seats_of vs)

module _ {J : Type 0} (plan : J → Plan) (begun : J → Bool) where
  abbrev pub slot_of : maybe.Option (Piece J) → Slot
  slot_of maybe.none = board.Away
  slot_of (maybe.some Nothing) = board.HomeEmpty
  slot_of (maybe.some (Job job)) = board.HomeJob (job_view plan begun job)
  slot_of (maybe.some (Shown contexts)) = board.HomeContexts contexts

  -- the rule of the board holds of the table, for some rows
  pub record IsOneBoard (s : State (Piece J) Knowledge) : Type 0 where
    pub rows : ℕ
    pub width : ℕ
    pub want : List (List ℕ)
    pub give : List (List ℕ)
    pub rule : Rule rows width want give s.words (map slot_of s.homes) (seats_of s.views)
