-- A row seat as contracts see it.
use Rattle.std.specs.Prelude.{◌≡◌, ℕ, ◌<◌, ◌≤◌, [], length, true, false, Some}
use Rattle.std.specs.List.{AllByRecursion}
use Rattle.atomic_table.specs.Table.{Me}
use Rattle.atomic_table.specs.Seated.{TableId}
use Rattle.row_board.specs.declared.piece.Piece.{Piece}
use Rattle.row_board.specs.declared.knowledge.Stage.TheVariants.{Open, Published}
use Rattle.row_board.specs.declared.knowledge.Stage.TheVariants as stage
use Rattle.row_board.specs.declared.knowledge.Claimed.{Claimed}
use Rattle.row_board.specs.declared.knowledge.Knowledge.{Knowledge}
use Rattle.row_board.specs.declared.board.SyncError.{SyncError}
use Rattle.row_board.specs.declared.board.SyncError.TheVariants.{NotYet, Lost}
use Rattle.row_board.specs.Rows.{claim_of, finds, claims, meets_none, change, at_stage, in_sync}

pub record Standing : Type 0 where
  pub table : TableId
  pub knows : Knowledge

abbrev pub standing : TableId → Knowledge → Standing
standing z v = record { table = z; knows = v }

-- between two calls a seat has some weight, and no slot in hand
pub record IsSeated {J : Type 0} (z : TableId) (me : Me (Piece J) Knowledge) : Type 0 where
  pub live : 0 < me.0.weight
  pub idle : me.0.picked ≡ 0
  pub sized : length me.0.want ≡ z.slots
  pub inside : AllByRecursion (λ claimed. claimed.row < z.slots) me.0.rows
  pub bare : me.1 ≡ []

-- the seat claimed the row, and neither published nor lost it
abbrev pub HasOpen : Knowledge → ℕ → Type 0
HasOpen v r = (c : Claimed) × (claim_of r v.rows ≡ Some c) × (c.stage ≡ Open)

-- the seat claimed the row, and took no contexts for it
abbrev pub HasUnsynced : Knowledge → ℕ → Type 0
HasUnsynced v r = (c : Claimed) × (claim_of r v.rows ≡ Some c) × (c.synced ≡ false)

-- a row but the first took the contexts of the row above
abbrev pub IsSynced : Knowledge → ℕ → Type 0
IsSynced v r = 0 < r → (c : Claimed) × (claim_of r v.rows ≡ Some c) × (c.synced ≡ true)

-- what no call on the rows changes of a seat that hasn't met the end
pub record IsSame (v w : Knowledge) : Type 0 where
  pub weight : w.weight ≡ v.weight
  pub width : w.width ≡ v.width
  pub want : w.want ≡ v.want
  pub give : w.give ≡ v.give
  pub met_none : w.met_none ≡ v.met_none

-- a claim found the row's number, and the seat has the row
abbrev pub has_claimed : Knowledge → ℕ → Knowledge
has_claimed v r = record (claims (finds v 0 r) r) { picked = 0 }

-- a claim found a number that is past all rows
abbrev pub HasMetNone : Knowledge → Knowledge → Type 0
HasMetNone v w = (n : ℕ) × (length v.want ≤ n) × (w ≡ meets_none (finds v 0 n))

abbrev pub has_published : Knowledge → ℕ → Knowledge
has_published v r = record v { rows = change r (at_stage Published) v.rows }

abbrev pub has_lost : Knowledge → ℕ → Knowledge
has_lost v r = record v { rows = change r (at_stage stage.Lost) v.rows }

-- the row took the contexts of the row above, at whose word a 1 was found
abbrev pub has_synced : Knowledge → ℕ → Knowledge
has_synced v r = record (finds v r 1) { rows = change r in_sync v.rows }

-- the word that was found is that of the error
abbrev pub SyncMissed : Knowledge → ℕ → Knowledge → SyncError → Type 0
SyncMissed v r w (NotYet n) = (n ≡ 0) × (w ≡ finds v r 0)
SyncMissed v r w (Lost n) = (n ≡ 3) × (w ≡ finds v r 3)
