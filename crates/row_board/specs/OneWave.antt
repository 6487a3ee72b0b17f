-- The table of a board as the definitions of the board and of the wavefront machine speak of it.
use Rattle.std.specs.Prelude.{◌≡◌, ℕ, ◌+◌, ◌<◌, List, length, Bool, true, false, IsTrue, IsFalse, Some}
use mathlib.Core.Option.{some}
use lib.ListN.{get_elem?}
use Rattle.atomic_table.specs.Table.{State}
use Rattle.h265_model.specs.Wave.{RowState, Wave, Event, new_wave, row_at, AreLawful, after_events}
use Rattle.h265_model.specs.Board.{ShowsRow}
use Rattle.row_board.specs.declared.piece.Piece.{Piece}
use Rattle.row_board.specs.declared.knowledge.Stage.{Stage}
use Rattle.row_board.specs.declared.knowledge.Stage.TheVariants.{Open, Published, Lost}
use Rattle.row_board.specs.declared.knowledge.Claimed.{Claimed}
use Rattle.row_board.specs.declared.knowledge.Knowledge.{Knowledge}
use Rattle.row_board.specs.Rows.{total, times, claim_of}

abbrev pub is_published : Stage → Bool
is_published Published = true
is_published Open = false
is_published Lost = false

abbrev pub is_lost : Stage → Bool
is_lost Lost = true
is_lost Open = false
is_lost Published = false

-- what a seat knows of a row that it claimed is what was done of the row
pub record Says (c : Claimed) (row : RowState) : Type 0 where
  pub claimed : IsTrue row.claimed
  pub published : row.published ≡ is_published c.stage
  pub lost : row.lost ≡ is_lost c.stage
  pub synced : row.synced ≡ c.synced

-- Words and seats show a wave, and lawful events lead to it. Of what its worker alone knows of a row, how much of it is coded, the wave
-- has as much as its word needs.
pub record IsOneWave {J : Type 0} (s : State (Piece J) Knowledge) : Type 0 where
  pub rows : ℕ
  pub width : ℕ
  pub wave : Wave
  pub same_width : wave.width ≡ width
  pub sized : length wave.rows ≡ rows
  -- these are the rows and the width of the board: there is a word for each row, and one more, and each seat knows the width
  pub each_has_a_word : length s.words ≡ rows + 1
  pub seats_width : (j : ℕ) (v : Knowledge) → get_elem? s.views j ≡ some v → 0 < v.weight → v.width ≡ width
  pub words : (r : ℕ) → r < rows → ShowsRow s.words r (row_at wave r)
  pub seats : (j : ℕ) (v : Knowledge) → get_elem? s.views j ≡ some v → 0 < v.weight → (r : ℕ) (c : Claimed) → claim_of r v.rows ≡ Some c → (r < rows) × Says c (row_at wave r)
  -- a claimed row is of one seat, and a row that wasn't claimed is of none
  pub once : (r : ℕ) → r < rows → IsTrue (row_at wave r).claimed → total (λ v. times r v.rows) s.views ≡ 1
  pub nobody : (r : ℕ) → r < rows → IsFalse (row_at wave r).claimed → total (λ v. times r v.rows) s.views ≡ 0
  pub reached : (events : List Event) × AreLawful (new_wave rows width) events × (after_events (new_wave rows width) events ≡ wave)
