-- The passes of a new desk.
use Rattle.std.specs.Prelude.{◌≡◌, ℕ, ◌<◌, List, length, Some, slice_get, slice_index, slice_index_or}
use Rattle.recorder_model.specs.Histories.{script_length}
use Rattle.turn_lock.specs.Turns.{fresh_view}
use Rattle.turn_lock.specs.Standing.{Standing}
use Rattle.live_desk.specs.Passes.{Client, passes_of, fresh_client}

-- the pass with this number, before any turn, whose client has so many lines
pub record IsFreshPass (p : Standing) (client lines : ℕ) : Type 0 where
  pub knows : p.knows ≡ fresh_view p.knows.setting (passes_of p.knows.setting) client
  pub within : client < length p.knows.setting.scripts
  pub long : lines ≡ script_length p.knows.setting.scripts client

-- a pass for each of these lengths
pub record AreFreshPasses (passes : List Standing) (lengths : List ℕ) : Type 0 where
  pub many : length lengths ≡ length passes
  pub each : (i : ℕ) (d : Standing) → i < length passes → IsFreshPass (slice_index_or passes i d) i (slice_index lengths i)

abbrev pub client_of : Standing → ℕ → Client
client_of p client = fresh_client p.table p.knows.setting client

-- the first n clients' passes, of these passes
pub record AreClients (passes : List Standing) (n : ℕ) (clients : List Client) : Type 0 where
  pub many : length clients ≡ n
  pub each : (i : ℕ) (d : Standing) → i < n → slice_get clients i ≡ Some (client_of (slice_index_or passes i d) i)
