-- What one more line makes of a stage.
use Rattle.std.proofs.Common.{◌≡◌, ℕ, zero, suc, ◌+◌, false, List, [], ◌∷◌, ◌++◌, length, get_or, refl, sym, ap, subst, ◌∙◌, arith}
use Rattle.std.proofs.lemmas.List.{append-nil, get_or_at}
use Rattle.std.specs.Prelude.{count_by, Result, Ok, Err, IfOk}
use Rattle.recorder_model.specs.declared.entry.Entry.{Entry}
use Rattle.h265_model.specs.declared.job.Job.{Job}
use Rattle.recorder_model.specs.declared.line.Line.{Line}
use Rattle.recorder_model.specs.declared.line.Line.TheVariants.{Cut}
use Rattle.h265_model.specs.Plain.{Size, Picture, joined}
use Rattle.h265_model.specs.Settings.{Settings}
use Rattle.recorder_model.specs.Setting.{Setting}
use Rattle.recorder_model.specs.Script.{is_cut}
use Rattle.h265_model.specs.Raster.{Raster, black_raster, coded_picture}
use Rattle.recorder_model.specs.Painting.{raster, rasters_after, lines_of}
use Rattle.recorder_model.specs.Histories.{own_order, cuts}
use Rattle.recorder_model.specs.Desk.{job_of, touched_by}
use Rattle.h265_model.specs.Tiles.{job_for}
use Rattle.h265_model.specs.Stream.{pieces}
use Rattle.recorder_laws.proofs.PlayLaws.{raster_of_none, lines_of-own_order, pictures-own_order, cuts-own_order}
use Rattle.h265_laws.proofs.Prefixes.{pieces-append}
use Rattle.px_plane.specs.Planes.{Planes, Shows}
use Rattle.desk_surface.specs.Shown.{ShowsLines}
use Rattle.px_plane.specs.Tiles.{IsJobOf, DiffersOnlyIn}
use Rattle.desk_surface.specs.Damage.{Painted, IsFlagged}
use Rattle.desk_state.specs.Laws.{LeadsOn, shown_at, shown_before}
use Rattle.desk_state.specs.Replays.{part_of}
use Rattle.desk_state.proofs.Leading.{each_leads_on}
use Rattle.desk_state.proofs.Splits.{part_grows, part_kept, part_begins}
use Rattle.desk_state.proofs.Shown.{rasters_kept, rasters_cut, length-rasters_after, at_end}
use Rattle.desk_state.proofs.Jobs.{count_paint, count_cut, cut_raster}
use Rattle.picture_encoder.specs.Coded.{Coded, StandsFor, TurnsInto, last_of}
use Rattle.screenrec.specs.declared.stage.Stage.{Stage}
use Rattle.screenrec.specs.Stored.{pieces_after_lines, stream_after, cut_piece}
use Rattle.screenrec.specs.Played.{HasPlayed, IsPlayed}

-- ---- the job of a cut, by the law of jobs over the lines with the cut

abbrev setting_at : Size → List Line → Setting
setting_at size done = record { size = size; scripts = (done ++ Cut ∷ []) ∷ [] }

abbrev order_at : List Line → List Entry
order_at done = own_order ((done ++ Cut ∷ []) ∷ [])

law_at : (size : Size) (done : List Line) → LeadsOn (setting_at size done) (order_at done) (count_by is_cut done)
law_at size done =
    each_leads_on (setting_at size done) (order_at done) (count_by is_cut done)
    (omega (arith, cuts-own_order (done ++ Cut ∷ []), count_cut done))

shown_is : (size : Size) (done : List Line) → shown_at (setting_at size done) (order_at done) (count_by is_cut done) ≡ raster size done
shown_is size done =
    ap (λ (rs : List Raster). get_or rs (count_by is_cut done) []) (pictures-own_order size (done ++ Cut ∷ []) ∙ rasters_cut size [] done)
    ∙ at_end (rasters_after size [] done) (raster size done) (count_by is_cut done) [] (length-rasters_after size [] done)

last_is : (shown : Raster) (ps : List Raster) (next : Raster) (n : ℕ) → length ps ≡ suc n → get_or (ps ++ next ∷ []) n [] ≡ last_of shown ps
last_is shown [] next n e = absurd (omega arith)
last_is shown (p ∷ []) next zero e = refl
last_is shown (p ∷ []) next (suc n) e = absurd (omega arith)
last_is shown (p ∷ q ∷ ps) next zero e = absurd (omega arith)
last_is shown (p ∷ q ∷ ps) next (suc n) e = last_is p (q ∷ ps) next n (omega arith)

none_is : (shown : Raster) (ps : List Raster) → length ps ≡ 0 → last_of shown ps ≡ shown
none_is shown [] e = refl
none_is shown (p ∷ ps) e = absurd (omega arith)

before_is : (size : Size) (done : List Line) (n : ℕ) → length (rasters_after size [] done) ≡ n →
    last_of (black_raster size) (rasters_after size [] done) ≡ shown_before (setting_at size done) (order_at done) n
before_is size done zero e = none_is (black_raster size) (rasters_after size [] done) e ∙ raster_of_none size
before_is size done (suc n) e =
    sym (
    ap (λ (rs : List Raster). get_or rs n []) (pictures-own_order size (done ++ Cut ∷ []) ∙ rasters_cut size [] done)
    ∙ last_is (black_raster size) (rasters_after size [] done) (raster size done) n e
    )

abbrev job_at : Size → List Line → Job
job_at size done = job_for size (count_by is_cut done) (touched_by size (part_of done (count_by is_cut done))) (raster size done)

job_is : (size : Size) (done : List Line) → job_of (setting_at size done) (order_at done) (count_by is_cut done) ≡ job_at size done
unfolding job_of
job_is size done =
    let n : ℕ = count_by is_cut done in
    let lines : List Line = lines_of ((done ++ Cut ∷ []) ∷ []) (order_at done) in
    ap (λ (r : Raster). job_for size n (touched_by size (part_of lines n)) r) (shown_is size done)
    ∙ (ap (λ (ls : List Line). job_for size n (touched_by size (part_of ls n)) (raster size done)) (lines_of-own_order (done ++ Cut ∷ []))
    ∙ ap (λ (ls : List Line). job_for size n (touched_by size ls) (raster size done)) (part_kept is_cut done Cut n refl))

-- the job has whole tiles of the desktop
job_whole : (size : Size) (done : List Line) (job : Job) → job ≡ job_at size done → IsJobOf size job
job_whole size done job is = subst (IsJobOf size) (job_is size done ∙ sym is) (law_at size done).whole

-- and turns the last picture into the next one
job_turns : (size : Size) (done : List Line) (last : Planes) (job : Job) → last.size ≡ size →
    Shows last (last_of (black_raster size) (rasters_after size [] done)) → job ≡ job_at size done → TurnsInto job last (raster size done)
job_turns size done last job sized shows is =
    let law = law_at size done in
    let before : Shows last (shown_before (setting_at size done) (order_at done) (count_by is_cut done)) =
    subst (Shows last) (before_is size done (count_by is_cut done) (length-rasters_after size [] done)) shows in
    let made : job ≡ job_for last.size job.number job.tiles (raster size done) =
    is ∙ ap (λ (j : Job). job_for size j.number j.tiles (raster size done)) (sym is)
    ∙ ap (λ (s : Size). job_for s job.number job.tiles (raster size done)) (sym sized) in
    let listed : (job_of (setting_at size done) (order_at done) (count_by is_cut done)).tiles ≡ job.tiles = ap (λ (j : Job). j.tiles) (job_is size done ∙ sym is) in
    let next : coded_picture size (shown_at (setting_at size done) (order_at done) (count_by is_cut done)) ≡ coded_picture last.size (raster size done) =
    ap (coded_picture size) (shown_is size done) ∙ ap (λ (s : Size). coded_picture s (raster size done)) (sym sized) in
    record {
      samples = made;
      elsewhere = subst (λ (tiles : List ℕ). DiffersOnlyIn tiles last (coded_picture last.size (raster size done))) listed
          (subst (λ (picture : Picture). DiffersOnlyIn (job_of (setting_at size done) (order_at done) (count_by is_cut done)).tiles last picture) next (law.differs last sized before));
    }

-- ---- a stage

-- what `cut_job` says of the job
abbrev pub MakesJob : Painted → ℕ → Job → Type 0
MakesJob surface number job =
    (lines since : List Line) → ShowsLines surface.shown lines → IsFlagged surface since →
    job ≡ job_for surface.shown.size number (touched_by surface.shown.size since) (raster surface.shown.size lines)

job_now : (settings : Settings) (stage : Stage) (done : List Line) (job : Job) → HasPlayed settings stage done → MakesJob stage.surface stage.cuts job →
    job ≡ job_at settings.size done
job_now settings stage done job is makes =
    makes done (part_of done (count_by is_cut done)) is.shows is.flagged
    ∙ ap (λ (s : Size). job_for s stage.cuts (touched_by s (part_of done (count_by is_cut done))) (raster s done)) is.desktop
    ∙ ap (λ (n : ℕ). job_for settings.size n (touched_by settings.size (part_of done (count_by is_cut done))) (raster settings.size done)) is.counted

-- the encoder may take the job
pub job_fits : (stage : Stage) (job : Job) → IsPlayed stage → MakesJob stage.surface stage.cuts job → IsJobOf stage.encoder.settings.size job
job_fits stage job some makes =
    let is = some.played in
    let size : some.settings.size ≡ stage.encoder.settings.size = ap (λ (s : Settings). s.size) (sym is.same) in
    subst (λ (s : Size). IsJobOf s job) size (job_whole some.settings.size some.done job (job_now some.settings stage some.done job is makes))

pub job_numbered : (stage : Stage) (job : Job) → IsPlayed stage → MakesJob stage.surface stage.cuts job → job.number ≡ stage.encoder.count
job_numbered stage job some makes =
    let is = some.played in
    ap (λ (j : Job). j.number) (job_now some.settings stage some.done job is makes)
    ∙ (sym (length-rasters_after some.settings.size [] some.done) ∙ sym is.coded.count)

pub counted_so : (stage : Stage) → IsPlayed stage → stage.encoder.count ≡ stage.cuts
counted_so stage some =
    let is = some.played in
    is.coded.count ∙ (length-rasters_after some.settings.size [] some.done ∙ sym is.counted)

pub job_leads : (settings : Settings) (stage : Stage) (done : List Line) (job : Job) → HasPlayed settings stage done → MakesJob stage.surface stage.cuts job →
    TurnsInto job stage.encoder.last (raster settings.size done)
job_leads settings stage done job is makes =
    let size : stage.encoder.settings.size ≡ settings.size = ap (λ (s : Settings). s.size) is.same in
    let shows : Shows stage.encoder.last (last_of (black_raster settings.size) (rasters_after settings.size [] done)) =
    subst (λ (s : Size). Shows stage.encoder.last (last_of (black_raster s) (rasters_after settings.size [] done))) size is.coded.last in
    job_turns settings.size done stage.encoder.last job is.picture shows (job_now settings stage done job is makes)

-- ---- what the calls leave

pub played_first : (settings : Settings) (stage : Stage) → stage.surface.shown.size ≡ settings.size → ShowsLines stage.surface.shown [] → IsFlagged stage.surface [] →
    stage.encoder.settings ≡ settings → stage.encoder.last.size ≡ stage.encoder.settings.size → StandsFor stage.encoder [] → stage.cuts ≡ 0 → HasPlayed settings stage []
unfolding rasters_after
played_first settings stage size black clean same sized fresh none = record {
  same = same;
  desktop = size;
  picture = sized ∙ ap (λ (s : Settings). s.size) same;
  shows = black;
  flagged = clean;
  coded = fresh;
  counted = none;
}

pub played_more : (settings : Settings) (old new : Stage) (done : List Line) (line : Line) → is_cut line ≡ false → new.encoder ≡ old.encoder → new.cuts ≡ old.cuts →
    new.surface.shown.size ≡ old.surface.shown.size → ((lines : List Line) → ShowsLines old.surface.shown lines → ShowsLines new.surface.shown (lines ++ line ∷ [])) →
    ((since : List Line) → IsFlagged old.surface since → IsFlagged new.surface (since ++ line ∷ [])) → HasPlayed settings old done → HasPlayed settings new (done ++ line ∷ [])
played_more settings old new done line paints encoder cuts size shows flags is =
    let count = count_paint done line paints in
    let part : part_of done (count_by is_cut done) ++ line ∷ [] ≡ part_of (done ++ line ∷ []) (count_by is_cut (done ++ line ∷ [])) =
    sym (part_grows is_cut done line paints) ∙ ap (part_of (done ++ line ∷ [])) (sym count) in
    record {
      same = ap (λ (e : Coded). e.settings) encoder ∙ is.same;
      desktop = size ∙ is.desktop;
      picture = ap (λ (e : Coded). e.last.size) encoder ∙ is.picture;
      shows = shows done is.shows;
      flagged = subst (IsFlagged new.surface) part (flags (part_of done (count_by is_cut done)) is.flagged);
      coded = subst (StandsFor new.encoder) (sym (rasters_kept settings.size [] done line paints)) (subst (λ (e : Coded). StandsFor e (rasters_after settings.size [] done)) (sym encoder) is.coded);
      counted = cuts ∙ is.counted ∙ sym count;
    }

pub played_cut : (settings : Settings) (old new : Stage) (done : List Line) → new.surface.shown ≡ old.surface.shown → IsFlagged new.surface [] → new.cuts ≡ old.cuts + 1 →
    new.encoder.settings ≡ old.encoder.settings → new.encoder.last.size ≡ new.encoder.settings.size →
    StandsFor new.encoder (rasters_after settings.size [] done ++ raster settings.size done ∷ []) → HasPlayed settings old done → HasPlayed settings new (done ++ Cut ∷ [])
played_cut settings old new done shown lowered cuts same sized coded is =
    let count = count_cut done in
    let begins : [] ≡ part_of (done ++ Cut ∷ []) (count_by is_cut (done ++ Cut ∷ [])) =
    sym (part_begins is_cut done Cut refl) ∙ ap (part_of (done ++ Cut ∷ [])) (sym count) in
    record {
      same = same ∙ is.same;
      desktop = ap (λ (p : Planes). p.size) shown ∙ is.desktop;
      picture = sized ∙ ap (λ (s : Settings). s.size) (same ∙ is.same);
      shows = subst (λ (p : Planes). ShowsLines p (done ++ Cut ∷ [])) (sym shown) (subst (Shows old.surface.shown) (sym (cut_raster old.surface.shown.size done)) is.shows);
      flagged = subst (IsFlagged new.surface) begins lowered;
      coded = subst (StandsFor new.encoder) (sym (rasters_cut settings.size [] done)) coded;
      counted = cuts ∙ ap (λ (n : ℕ). n + 1) is.counted ∙ sym count;
    }

-- ---- pieces

pub piece_is : (settings : Settings) (done : List Line) (piece : List ℕ) →
    pieces settings (rasters_after settings.size [] done ++ raster settings.size done ∷ []) ≡ pieces_after_lines settings done ++ piece ∷ [] → piece ≡ cut_piece settings done
piece_is settings done piece e =
    let before : List (List ℕ) = pieces_after_lines settings done in
    let n : ℕ = length before in
    sym (get_or_at before piece [] [] n refl)
    ∙ ap (λ (l : List (List ℕ)). get_or l n []) (sym e ∙ pieces-append settings (rasters_after settings.size [] done) (raster settings.size done))
    ∙ get_or_at before (cut_piece settings done) [] [] n refl

-- the parameter sets are the stream of no lines
first_is : (settings : Settings) (piece : List ℕ) → pieces settings [] ≡ piece ∷ [] → piece ≡ stream_after settings []
unfolding rasters_after
first_is settings piece e = sym (append-nil piece) ∙ ap joined (sym e)

pub first_so : {V E : Type 0} (items : V → List ℕ) (settings : Settings) (result : Result V E) → IfOk result (λ v. pieces settings [] ≡ items v ∷ []) →
    IfOk result (λ v. items v ≡ stream_after settings [])
first_so items settings (Ok v) e = first_is settings (items v) e
first_so items settings (Err error) e = tt
