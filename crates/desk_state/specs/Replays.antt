-- The surface and the jobs that lines leave.
use Rattle.std.specs.Prelude.{◌≡◌, ℕ, ◌-◌, ◌≤◌, List, [], ◌∷◌, ◌++◌, map, count_by, slice_index_or}
use Rattle.std.specs.List.{slice_split, range_with_len}
use Rattle.h265_model.specs.declared.job.Job.{Job}
use Rattle.recorder_model.specs.declared.line.Line.{Line}
use Rattle.h265_model.specs.Plain.{Size}
use Rattle.recorder_model.specs.Script.{is_cut}
use Rattle.h265_model.specs.Raster.{Raster}
use Rattle.recorder_model.specs.Painting.{rasters_after}
use Rattle.recorder_model.specs.Desk.{touched_by}
use Rattle.h265_model.specs.Tiles.{job_for}
use Rattle.desk_surface.specs.Shown.{ShowsLines}
use Rattle.desk_surface.specs.Damage.{Painted, IsFlagged}

-- part n of these lines, which lies before their cut n
abbrev pub part_of : List Line → ℕ → List Line
part_of lines n = slice_index_or (slice_split is_cut lines) n []

-- what a desktop shows at cut n of these lines
abbrev pub raster_at : Size → List Line → ℕ → Raster
raster_at size lines n = slice_index_or (rasters_after size [] lines) n []

-- the job of cut n of these lines
abbrev pub job_on : Size → List Line → ℕ → Job
job_on size lines n = job_for size n (touched_by size (part_of lines n)) (raster_at size lines n)

-- the jobs of these lines' cuts from cut `taken` on
abbrev pub jobs_on : Size → List Line → ℕ → List Job
jobs_on size lines taken = map (job_on size lines) (range_with_len taken (count_by is_cut lines - taken))

-- A surface after these lines, with the jobs of the cuts from cut `taken` on.
pub record IsAfter (lines : List Line) (taken : ℕ) (surface : Painted) (jobs : List Job) (cuts : ℕ) : Type 0 where
  pub shows : ShowsLines surface.shown lines
  pub flagged : IsFlagged surface (part_of lines (count_by is_cut lines))
  pub waiting : jobs ≡ jobs_on surface.shown.size lines taken
  pub counted : cuts ≡ count_by is_cut lines

-- one line more, whatever the lines before it were
abbrev pub IsOneMore : Line → (List Line → ℕ → Type 0) → (List Line → ℕ → Type 0) → Type 0
IsOneMore line Before After = (lines : List Line) (taken : ℕ) → taken ≤ count_by is_cut lines → Before lines taken → After (lines ++ line ∷ []) taken
