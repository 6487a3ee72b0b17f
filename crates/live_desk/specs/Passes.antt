-- Passes as contracts see them.
use Rattle.std.specs.Prelude.{◌≡◌, ℕ, ◌+◌, ◌<◌, ◌≤◌, [], ◌∷◌, length, Bool, false}
use Rattle.atomic_table.specs.Seated.{TableId}
use Rattle.recorder_model.specs.Setting.{Setting}
use Rattle.recorder_model.specs.Histories.{script_length}
use Rattle.turn_lock.specs.Turns.{Owns, fresh_view}
use Rattle.turn_lock.specs.Standing.{Standing, standing}
use Rattle.turn_lock.specs.declared.knowledge.Knowledge.{Knowledge}

-- a client's pass: the desk's table, what the pass knows, whose it is, its next line, how many lines its script has, and
-- whether want of memory stopped it
pub record Client : Type 0 where
  pub table : TableId
  pub knows : Knowledge
  pub client : ℕ
  pub next : ℕ
  pub lines : ℕ
  pub stopped : Bool

-- each script has a pass, and one more pass takes
abbrev pub passes_of : Setting → ℕ
passes_of setting = length setting.scripts + 1

-- between two calls
pub record IsClient (c : Client) : Type 0 where
  pub free : c.knows.holds ≡ false
  pub made : c.knows.made ≡ (c.client, c.next) ∷ []
  pub passes : c.knows.passes ≡ passes_of c.knows.setting
  pub within : c.client < length c.knows.setting.scripts
  pub lines : c.lines ≡ script_length c.knows.setting.scripts c.client
  pub next : c.next ≤ c.lines

-- the recorder's pass has the last number
pub record IsRecorder (p : Standing) : Type 0 where
  pub free : p.knows.holds ≡ false
  pub passes : p.knows.passes ≡ passes_of p.knows.setting
  pub takes : Owns p.knows (length p.knows.setting.scripts)

-- a client's pass of a new desk
abbrev pub fresh_client : TableId → Setting → ℕ → Client
fresh_client desk setting client = record {
  table = desk;
  knows = fresh_view setting (passes_of setting) client;
  client = client;
  next = 0;
  lines = script_length setting.scripts client;
  stopped = false;
}

-- and the recorder's
abbrev pub fresh_recorder : TableId → Setting → Standing
fresh_recorder desk setting = standing desk (fresh_view setting (passes_of setting) (length setting.scripts))

-- a note that was made from a pass of this desk
pub record IsNoteOf (desk : TableId) (note : Standing) : Type 0 where
  pub table : note.table ≡ desk
  pub nobody : note.knows.made ≡ []
