-- What a desk state stands for, and what a call makes of it.
use Rattle.std.specs.Prelude.{◌≡◌, ℕ, ◌+◌, ◌<◌, List, [], ◌∷◌, ◌++◌, length, count_by, sum_by}
use Rattle.recorder_model.specs.declared.entry.Entry.{Entry}
use Rattle.recorder_model.specs.declared.entry.Entry.TheVariants as entry
use Rattle.h265_model.specs.declared.job.Job.{Job}
use Rattle.recorder_model.specs.declared.line.Line.{Line}
use Rattle.recorder_model.specs.Script.{is_cut}
use Rattle.recorder_model.specs.Setting.{Setting}
use Rattle.recorder_model.specs.Turn.{State}
use Rattle.h265_model.specs.Raster.{Raster}
use Rattle.recorder_model.specs.Painting.{accepted_line}
use Rattle.recorder_model.specs.Histories.{indexes_of, script_length, takes}
use Rattle.recorder_model.specs.Desk.{IsReplay, job_of}
use Rattle.px_plane.specs.Planes.{Shows}
use Rattle.desk_surface.specs.Damage.{Painted}

-- A desk's picture shows the raster, and its flags and waiting jobs are those, of the replay of its history.
pub record StandsFor (setting : Setting) (h : List Entry) (surface : Painted) (jobs : List Job) : Type 0 where
  pub raster : Raster
  pub shows : Shows surface.shown raster
  pub replay : IsReplay setting h raster surface.flags jobs

-- the most entries that a history of these scripts has: one for each line, and one more for each cut
abbrev pub most_entries : List (List Line) → ℕ
most_entries scripts = sum_by (λ script. length script + count_by is_cut script) scripts

-- the client has a line of this number, and so many of its lines were accepted
pub record IsNext (s : State) (client index : ℕ) : Type 0 where
  pub there : index < script_length s.setting.scripts client
  pub accepted : length (indexes_of s.history client) ≡ index

-- the line of an entry that comes next
abbrev pub next_line : State → ℕ → ℕ → Line
next_line s client index = accepted_line s.setting.scripts client index

-- the same state with one entry more
abbrev pub with_entry : State → Entry → State
with_entry s e = record s { history = s.history ++ e ∷ [] }

-- the first cut picture that wasn't taken is taken: its job leaves, and the entry says so
pub record HasTaken (before : State) (e : Entry) (job : Job) (after : State) : Type 0 where
  pub says : e ≡ entry.Take (takes before.history)
  pub is : job ≡ job_of before.setting before.history (takes before.history)
  pub grown : after ≡ with_entry before e
