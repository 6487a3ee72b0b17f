-- Clients that play, and their passes after that.
use Rattle.std.specs.Prelude.{◌≡◌, ℕ, ◌+◌, ◌<◌, List, ◌++◌, length, map, sum_by, true, false, slice_index_or}
use Rattle.atomic_table.specs.Seated.{TableId}
use Rattle.turn_lock.specs.Turns.{Begins}
use Rattle.turn_lock.specs.Standing.{Standing}
use Rattle.live_desk.specs.Passes.{Client}
use Rattle.live_desk.specs.Desks.{IsSameClient}
use Rattle.live_desk.specs.Turned.{IsKept}

-- the pass is of this desk
abbrev pub IsAt : TableId → Client → Type 0
IsAt desk client = client.table ≡ desk

-- The client played as far as it got: to its script's end, if it isn't stopped, and not so far where it was stopped now.
pub record HasEnded (desk : TableId) (old new : Client) : Type 0 where
  pub at : IsAt desk new
  pub same : IsSameClient old new
  pub kept : IsKept old.knows new.knows
  pub begins : Begins old.knows.seen new.knows.seen
  pub ended : new.stopped ≡ false → new.next ≡ new.lines
  pub short : old.stopped ≡ false → new.stopped ≡ true → new.next < new.lines

-- each of these clients did
pub record HaveEnded (desk : TableId) (before after : List Client) : Type 0 where
  pub many : length after ≡ length before
  pub each : (i : ℕ) (d : Client) → i < length before → HasEnded desk (slice_index_or before i d) (slice_index_or after i d)

-- how many lines each client played, under its number
abbrev pub lines_made : List Client → List (ℕ × ℕ)
lines_made clients = map (λ c. (c.client, c.next)) clients

abbrev pub weight_of : List Client → ℕ
weight_of clients = sum_by (λ c. c.knows.weight) clients

-- all of these clients' passes were folded into the recorder's
pub record AreFolded (old : Standing) (clients : List Client) (new : Standing) : Type 0 where
  pub table : new.table ≡ old.table
  pub begins : Begins old.knows.seen new.knows.seen
  pub weight : new.knows.weight ≡ old.knows.weight + weight_of clients
  pub setting : new.knows.setting ≡ old.knows.setting
  pub passes : new.knows.passes ≡ old.knows.passes
  pub made : new.knows.made ≡ old.knows.made ++ lines_made clients
