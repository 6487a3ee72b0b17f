-- What the job of a cut makes of the picture before it.
use Rattle.std.specs.Prelude.{◌≡◌, ℕ, zero, suc, ◌<◌, List, [], slice_index_or}
use Rattle.recorder_model.specs.declared.entry.Entry.{Entry}
use Rattle.recorder_model.specs.Setting.{Setting}
use Rattle.h265_model.specs.Raster.{Raster, coded_picture}
use Rattle.recorder_model.specs.Painting.{raster, pictures}
use Rattle.recorder_model.specs.Histories.{cuts}
use Rattle.recorder_model.specs.Desk.{job_of}
use Rattle.h265_model.specs.Tiles.{job_for}
use Rattle.px_plane.specs.Planes.{Planes, Shows}
use Rattle.px_plane.specs.Tiles.{IsJobOf, DiffersOnlyIn}

-- what the desktop shows at cut n
abbrev pub shown_at : Setting → List Entry → ℕ → Raster
shown_at setting h n = slice_index_or (pictures setting.size setting.scripts h) n []

-- what it shows at the cut before, or black
abbrev pub shown_before : Setting → List Entry → ℕ → Raster
shown_before setting h zero = raster setting.size []
shown_before setting h (suc n) = shown_at setting h n

-- The job of cut n can be laid: over a picture that shows what the cut before it showed, it has all tiles in which the
-- picture of cut n differs, with their samples.
pub record LeadsOn (setting : Setting) (h : List Entry) (n : ℕ) : Type 0 where
  pub whole : IsJobOf setting.size (job_of setting h n)
  pub made : job_of setting h n ≡ job_for setting.size n (job_of setting h n).tiles (shown_at setting h n)
  pub differs : (p : Planes) → p.size ≡ setting.size → Shows p (shown_before setting h n) → DiffersOnlyIn (job_of setting h n).tiles p (coded_picture setting.size (shown_at setting h n))

-- laid over the picture before it, a cut's job gives the next picture
abbrev pub EachJobLeadsOn : Type 0
EachJobLeadsOn = (setting : Setting) (h : List Entry) (n : ℕ) → n < cuts setting.scripts h → LeadsOn setting h n
