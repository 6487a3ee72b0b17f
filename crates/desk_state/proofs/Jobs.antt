-- The jobs that wait, when one line comes, and when the first of them leaves.
use Rattle.std.proofs.Common.{◌≡◌, ℕ, zero, suc, ◌+◌, ◌-◌, ◌<◌, ◌≤◌, false, if◌then◌else◌, List, [], ◌∷◌, ◌++◌, length, map, get_or, refl, sym, ap, subst, ◌∙◌, arith}
use Rattle.std.specs.Prelude.{count_by}
use Rattle.std.specs.List.{range_with_len}
use Rattle.std.proofs.lemmas.List.Sums.{sum_by_push, fold_push}
use Rattle.std.proofs.lemmas.List.FromFn.{map-range_with_len_more}
use Rattle.h265_model.specs.declared.job.Job.{Job}
use Rattle.recorder_model.specs.declared.line.Line.{Line}
use Rattle.recorder_model.specs.declared.line.Line.TheVariants.{Cut}
use Rattle.h265_model.specs.Plain.{Size, place_values}
use Rattle.recorder_model.specs.Script.{is_cut}
use Rattle.h265_model.specs.Raster.{Raster}
use Rattle.recorder_model.specs.Painting.{painted, unpainted}
use Rattle.recorder_model.specs.Painting.{raster, colour, rasters_after}
use Rattle.recorder_model.specs.Desk.{touched_by}
use Rattle.h265_model.specs.Tiles.{job_for}
use Rattle.px_plane.specs.Planes.{Planes, Shows}
use Rattle.desk_surface.specs.Shown.{ShowsLines}
use Rattle.desk_surface.specs.Damage.{Painted, IsFlagged}
use Rattle.desk_state.specs.Replays.{part_of, raster_at, job_on, jobs_on, IsAfter}
use Rattle.desk_state.proofs.Splits.{part_before, part_grows, part_kept, part_begins}
use Rattle.desk_state.proofs.Shown.{rasters_kept, rasters_cut, length-rasters_after, at_front, at_end}

pub count_paint : (lines : List Line) (line : Line) → is_cut line ≡ false → count_by is_cut (lines ++ line ∷ []) ≡ count_by is_cut lines
count_paint lines line paints = sum_by_push (λ l. if is_cut l then 1 else 0) lines line ∙ ap (λ b. count_by is_cut lines + (if b then 1 else 0)) paints ∙ omega arith

pub count_cut : (lines : List Line) → count_by is_cut (lines ++ Cut ∷ []) ≡ count_by is_cut lines + 1
count_cut lines = sum_by_push (λ l. if is_cut l then 1 else 0) lines Cut

pub same_range : {X : Type 0} (f g : ℕ → X) (a n : ℕ) → ((k : ℕ) → a ≤ k → k < a + n → f k ≡ g k) → map f (range_with_len a n) ≡ map g (range_with_len a n)
same_range f g a zero each = refl
same_range f g a (suc n) each = λ i. each a (omega arith) (omega arith) i ∷ same_range f g (a + 1) n (λ k low high. each k (omega arith) (omega arith)) i

-- ---- a line that paints

job_kept : (size : Size) (lines : List Line) (line : Line) (n : ℕ) → is_cut line ≡ false → n < count_by is_cut lines → job_on size (lines ++ line ∷ []) n ≡ job_on size lines n
job_kept size lines line n paints less =
    ap (λ (l : List Line). job_for size n (touched_by size l) (raster_at size (lines ++ line ∷ []) n)) (part_before is_cut lines line n paints less)
    ∙ ap (λ (rs : List Raster). job_for size n (touched_by size (part_of lines n)) (get_or rs n [])) (rasters_kept size [] lines line paints)

jobs_kept : (size : Size) (lines : List Line) (line : Line) (taken : ℕ) → is_cut line ≡ false → taken ≤ count_by is_cut lines → jobs_on size (lines ++ line ∷ []) taken ≡ jobs_on size lines taken
jobs_kept size lines line taken paints most =
    ap (λ (n : ℕ). map (job_on size (lines ++ line ∷ [])) (range_with_len taken (n - taken))) (count_paint lines line paints)
    ∙ same_range (job_on size (lines ++ line ∷ [])) (job_on size lines) taken (count_by is_cut lines - taken) (λ k low high. job_kept size lines line k paints (omega arith))

pub painted_after : (lines : List Line) (line : Line) (taken : ℕ) (old new : Painted) (jobs : List Job) (cuts : ℕ) → is_cut line ≡ false → taken ≤ count_by is_cut lines → new.shown.size ≡ old.shown.size
    → ((ls : List Line) → ShowsLines old.shown ls → ShowsLines new.shown (ls ++ line ∷ [])) → ((since : List Line) → IsFlagged old since → IsFlagged new (since ++ line ∷ []))
    → IsAfter lines taken old jobs cuts → IsAfter (lines ++ line ∷ []) taken new jobs cuts
painted_after lines line taken old new jobs cuts paints most size shows flags is =
    let count = count_paint lines line paints in
    let part : part_of lines (count_by is_cut lines) ++ line ∷ [] ≡ part_of (lines ++ line ∷ []) (count_by is_cut (lines ++ line ∷ [])) =
    sym (part_grows is_cut lines line paints) ∙ ap (part_of (lines ++ line ∷ [])) (sym count) in
    record {
      shows = shows lines is.shows;
      flagged = subst (IsFlagged new) part (flags _ is.flagged);
      waiting = is.waiting ∙ sym (jobs_kept old.shown.size lines line taken paints most) ∙ ap (λ (s : Size). jobs_on s (lines ++ line ∷ []) taken) (sym size);
      counted = is.counted ∙ sym count;
    }

-- ---- a cut

-- a cut paints nothing
pub cut_raster : (size : Size) (lines : List Line) → raster size (lines ++ Cut ∷ []) ≡ raster size lines
unfolding raster colour
cut_raster size lines = λ i. place_values size.w size.h (fold_push (painted size) unpainted lines Cut i)

cut_shows : (p : Planes) (lines : List Line) → ShowsLines p lines → ShowsLines p (lines ++ Cut ∷ [])
cut_shows p lines shows = subst (Shows p) (sym (cut_raster p.size lines)) shows

job_before : (size : Size) (lines : List Line) (n : ℕ) → n < count_by is_cut lines → job_on size (lines ++ Cut ∷ []) n ≡ job_on size lines n
job_before size lines n less =
    let many : n < length (rasters_after size [] lines) = omega (arith, length-rasters_after size [] lines) in
    ap (λ (l : List Line). job_for size n (touched_by size l) (raster_at size (lines ++ Cut ∷ []) n)) (part_kept is_cut lines Cut n refl)
    ∙ ap (λ (r : Raster). job_for size n (touched_by size (part_of lines n)) r) (ap (λ (rs : List Raster). get_or rs n []) (rasters_cut size [] lines) ∙ at_front (rasters_after size [] lines) (raster size lines) n [] many)

job_new : (size : Size) (lines : List Line) (n : ℕ) → n ≡ count_by is_cut lines → job_on size (lines ++ Cut ∷ []) n ≡ job_for size n (touched_by size (part_of lines n)) (raster size lines)
job_new size lines n is =
    let many : length (rasters_after size [] lines) ≡ n = length-rasters_after size [] lines ∙ sym is in
    ap (λ (l : List Line). job_for size n (touched_by size l) (raster_at size (lines ++ Cut ∷ []) n)) (part_kept is_cut lines Cut n refl)
    ∙ ap (λ (r : Raster). job_for size n (touched_by size (part_of lines n)) r) (ap (λ (rs : List Raster). get_or rs n []) (rasters_cut size [] lines) ∙ at_end (rasters_after size [] lines) (raster size lines) n [] many)

jobs_cut : (size : Size) (lines : List Line) (taken n : ℕ) → n ≡ count_by is_cut lines → taken ≤ n → jobs_on size (lines ++ Cut ∷ []) taken ≡ jobs_on size lines taken ++ job_for size n (touched_by size (part_of lines n)) (raster size lines) ∷ []
jobs_cut size lines taken n is most =
    let count : count_by is_cut (lines ++ Cut ∷ []) - taken ≡ (n - taken) + 1 = omega (arith, count_cut lines) in
    let f : ℕ → Job = job_on size (lines ++ Cut ∷ []) in
    let same : n - taken ≡ count_by is_cut lines - taken = ap (λ (k : ℕ). k - taken) is in
    ap (λ (k : ℕ). map f (range_with_len taken k)) count
    ∙ map-range_with_len_more f taken (n - taken) n (omega arith)
    ∙ ap (λ (l : List Job). l ++ f n ∷ []) (same_range f (job_on size lines) taken (n - taken) (λ k low high. job_before size lines k (omega arith)) ∙ ap (λ (k : ℕ). map (job_on size lines) (range_with_len taken k)) same)
    ∙ ap (λ (j : Job). jobs_on size lines taken ++ j ∷ []) (job_new size lines n is)

pub cut_after : (lines : List Line) (taken : ℕ) (old new : Painted) (jobs more : List Job) (cuts : ℕ) (job : Job) → taken ≤ count_by is_cut lines → new.shown ≡ old.shown → IsFlagged new [] → more ≡ jobs ++ job ∷ []
    → ((ls since : List Line) → ShowsLines old.shown ls → IsFlagged old since → job ≡ job_for old.shown.size cuts (touched_by old.shown.size since) (raster old.shown.size ls))
    → IsAfter lines taken old jobs cuts → IsAfter (lines ++ Cut ∷ []) taken new more (cuts + 1)
cut_after lines taken old new jobs more cuts job most shown lowered grown is_job is =
    let count = count_cut lines in
    let size : Size = old.shown.size in
    let begins : [] ≡ part_of (lines ++ Cut ∷ []) (count_by is_cut (lines ++ Cut ∷ [])) = sym (part_begins is_cut lines Cut refl) ∙ ap (part_of (lines ++ Cut ∷ [])) (sym count) in
    let made : job ≡ job_for size cuts (touched_by size (part_of lines cuts)) (raster size lines) =
    is_job lines _ is.shows is.flagged ∙ ap (λ (n : ℕ). job_for size cuts (touched_by size (part_of lines n)) (raster size lines)) (sym is.counted) in
    record {
      shows = subst (λ p. ShowsLines p (lines ++ Cut ∷ [])) (sym shown) (cut_shows old.shown lines is.shows);
      flagged = subst (IsFlagged new) begins lowered;
      waiting = grown ∙ ap (λ (l : List Job). l ++ job ∷ []) is.waiting ∙ ap (λ (j : Job). jobs_on size lines taken ++ j ∷ []) made
          ∙ sym (jobs_cut size lines taken cuts is.counted (omega (arith, is.counted))) ∙ ap (λ p. jobs_on p.size (lines ++ Cut ∷ []) taken) (sym shown);
      counted = ap (λ (n : ℕ). n + 1) is.counted ∙ sym count;
    }

-- ---- the first job

pub first_job : {X : Type 0} (f : ℕ → X) (a n : ℕ) (x : X) (xs : List X) → x ∷ xs ≡ map f (range_with_len a n) → (m : ℕ) × (n ≡ m + 1) × (x ≡ f a) × (xs ≡ map f (range_with_len (a + 1) m))
first_job f a zero x xs e = absurd cc
first_job f a (suc n) x xs e = (n, omega arith, cc, cc)

pub more_cuts : (lines : List Line) (line : Line) → count_by is_cut lines ≤ count_by is_cut (lines ++ line ∷ [])
more_cuts lines line = omega (arith, sum_by_push (λ l. if is_cut l then 1 else 0) lines line)
