-- The jobs of a picture's rows by their plans, and what they give.
use Rattle.std.specs.Prelude.{◌≡◌, ℕ, List, [], slice_index_or, length, map}
use Rattle.std.specs.List.{AllByRecursion}
use Rattle.h265_model.specs.Plain.{below}
use Rattle.h265_model.specs.Wave.{Jobs, row_bytes}
use Rattle.row_core.specs.Plan.{Plan}

abbrev pub no_plan : Plan
no_plan = record { width = 0; second = λ inherited. []; bytes = λ inherited. [] }

-- the jobs with these plans, of this width, by row
abbrev pub jobs_of : ℕ → List Plan → Jobs
jobs_of width plans = record {
  width = width;
  second = λ r inherited. (slice_index_or plans r no_plan).second inherited;
  bytes = λ r inherited. (slice_index_or plans r no_plan).bytes inherited;
}

-- all plans have this width
abbrev pub HaveWidth : ℕ → List Plan → Type 0
HaveWidth width plans = AllByRecursion (λ plan. plan.width ≡ width) plans

-- the bytes of each row of these plans, each begun with what it inherits
abbrev pub rows_of : ℕ → List Plan → List (List ℕ)
rows_of width plans = map (row_bytes (jobs_of width plans)) (below (length plans))
