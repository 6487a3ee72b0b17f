-- The words that the program was given, as the definitions see them.
use Rattle.std.specs.Prelude.{ℕ, ◌≤◌, ◌<◌, List, map, length}
use Rattle.std.specs.Borrow.{Bor}
use Rattle.h265_model.specs.declared.extra.Extra.{Extra}
use Rattle.h265_model.specs.declared.extra.Extra.TheVariants.{Plain, Hash, Segments, Moves}
use Rattle.h265_model.specs.Settings as model
use Rattle.command_line.specs.Words as words
use Rattle.command_line.specs.declared.row.Settings.{Settings}
use Rattle.command_line.specs.declared.row.Row.{Row}
use Rattle.command_line.specs.declared.row.Row.TheVariants.{Record, Serial, Demo, Decode}

-- the texts of words
abbrev pub texts : List (Bor (List ℕ)) → List (List ℕ)
texts list = map (λ word. word.now) list

abbrev pub settings_view : Settings → model.Settings
settings_view s = record { size = s.size; effort = s.effort; key = s.key; extra = s.extra }

-- a row of the table
abbrev pub row_view : Row → words.Row
row_view (Record r) = words.Record (record { settings = settings_view r.settings; workers = r.workers; out = r.out.now; files = texts r.files.now })
row_view (Serial s) = words.Serial (record { settings = settings_view s.settings; out = s.out.now; file = s.file.now })
row_view (Demo number) = words.Demo number
row_view (Decode d) = words.Decode (record { input = d.input.now; out = d.out.now })

-- what a stream of pictures so wide has besides them, where one script is recorded alone
abbrev pub IsOfScript : Extra → ℕ → Type 0
IsOfScript Plain w = Unit {0}
IsOfScript Hash w = Unit {0}
IsOfScript Segments w = 32 < w
IsOfScript Moves w = Unit {0}

-- and where those of several clients are recorded together
abbrev pub IsOfClients : Extra → Type 0
IsOfClients Plain = Unit {0}
IsOfClients Hash = Unit {0}
IsOfClients Segments = ⊥
IsOfClients Moves = ⊥

-- the limits on the numbers of a row
pub record IsWithinLimits (s : Settings) : Type 0 where
  pub effort : s.effort ≤ 2
  pub key : s.key ≤ 65535
  pub extra : IsOfScript s.extra s.size.w

-- the limits on those of clients together
pub record AreWithinLimits (workers files : ℕ) (extra : Extra) : Type 0 where
  pub one_worker : 1 ≤ workers
  pub few_workers : workers ≤ words.most_workers
  pub one_file : 1 ≤ files
  pub few_files : files ≤ words.most_clients
  pub of_clients : IsOfClients extra

abbrev pub RowIsWithinLimits : Row → Type 0
RowIsWithinLimits (Record r) = IsWithinLimits r.settings × AreWithinLimits r.workers (length r.files.now) r.settings.extra
RowIsWithinLimits (Serial s) = IsWithinLimits s.settings
RowIsWithinLimits (Demo number) = Unit {0}
RowIsWithinLimits (Decode d) = Unit {0}
