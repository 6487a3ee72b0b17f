-- A desk state as its history grows.
use Rattle.std.proofs.Common.{◌≡◌, ℕ, ◌+◌, ◌-◌, ◌<◌, ◌≤◌, List, [], ◌∷◌, ◌++◌, length, map, refl, sym, ap, subst, ◌∙◌, arith}
use Rattle.std.specs.Prelude.{count_by}
use Rattle.std.specs.List.{range_with_len}
use Rattle.std.proofs.lemmas.List.FromFn.{length-map-range_with_len}
use Rattle.recorder_model.specs.declared.entry.Entry.{Entry}
use Rattle.recorder_model.specs.declared.entry.Entry.TheVariants as entry
use Rattle.h265_model.specs.declared.job.Job.{Job}
use Rattle.recorder_model.specs.declared.line.Line.{Line}
use Rattle.recorder_model.specs.Script.{is_cut}
use Rattle.recorder_model.specs.Setting.{Setting}
use Rattle.recorder_model.specs.Painting.{raster, accepted_line, lines_of}
use Rattle.recorder_model.specs.Histories.{IsLawful, cuts, take_numbers, takes, indexes_of, script_length}
use Rattle.recorder_model.specs.Desk.{job_of}
use Rattle.px_plane.specs.Planes.{Shows}
use Rattle.desk_surface.specs.Damage.{Painted}
use Rattle.desk_state.specs.Standing.{StandsFor}
use Rattle.desk_state.specs.Replays.{IsAfter, IsOneMore, job_on}
use Rattle.desk_state.proofs.Entries.{lines_line, lines_take, lawful_none, lawful_line, lawful_take, takes_line, takes_take}
use Rattle.desk_state.proofs.Jobs.{first_job, more_cuts}

abbrev Scripts : Type 0
Scripts = List (List Line)

abbrev pub setting_at : Painted → Scripts → Setting
setting_at surface scripts = record { size = surface.shown.size; scripts = scripts }

-- the definition's words are those of the history's lines
pub after_from_stands : (scripts : Scripts) (h : List Entry) (surface : Painted) (jobs : List Job) (n : ℕ) → StandsFor (setting_at surface scripts) h surface jobs → n ≡ cuts scripts h → IsAfter (lines_of scripts h) (takes h) surface jobs n
unfolding job_of
after_from_stands scripts h surface jobs n is counted = record {
  shows = subst (Shows surface.shown) is.replay.painted is.shows;
  flagged = record { flags = is.replay.flagged };
  waiting = is.replay.waiting;
  counted = counted;
}

pub stands_from_after : (scripts : Scripts) (h : List Entry) (surface : Painted) (jobs : List Job) (n : ℕ) → IsLawful scripts h → IsAfter (lines_of scripts h) (takes h) surface jobs n → StandsFor (setting_at surface scripts) h surface jobs
unfolding job_of
stands_from_after scripts h surface jobs n lawful is = record {
  raster = raster surface.shown.size (lines_of scripts h);
  shows = is.shows;
  replay = record { lawful = lawful; painted = refl; flagged = is.flagged.flags; waiting = is.waiting };
}

pub stands_at_first : (scripts : Scripts) (surface : Painted) (jobs : List Job) (n : ℕ) → IsAfter [] 0 surface jobs n → StandsFor (setting_at surface scripts) [] surface jobs
unfolding lines_of take_numbers
stands_at_first scripts surface jobs n is = stands_from_after scripts [] surface jobs n (lawful_none scripts) is

-- one line more
pub record HasPlayed (scripts : Scripts) (h : List Entry) (surface : Painted) (jobs : List Job) (n : ℕ) : Type 0 where
  pub lawful : IsLawful scripts h
  pub stands : StandsFor (setting_at surface scripts) h surface jobs
  pub taken : takes h ≤ cuts scripts h
  pub counted : n ≡ cuts scripts h

pub played : (scripts : Scripts) (h : List Entry) (client index : ℕ) (old new : Painted) (jobs more : List Job) (n m : ℕ) → StandsFor (setting_at old scripts) h old jobs → n ≡ cuts scripts h → takes h ≤ cuts scripts h
    → index < script_length scripts client → length (indexes_of h client) ≡ index
    → IsOneMore (accepted_line scripts client index) (λ lines taken. IsAfter lines taken old jobs n) (λ lines taken. IsAfter lines taken new more m)
    → HasPlayed scripts (h ++ entry.Line client index ∷ []) new more m
played scripts h client index old new jobs more n m is counted taken there accepted accepts =
    let e : Entry = entry.Line client index in
    let lines = lines_line scripts h client index in
    let same = takes_line h client index in
    let now : IsAfter (lines_of scripts (h ++ e ∷ [])) (takes (h ++ e ∷ [])) new more m =
    subst (λ l. IsAfter l (takes (h ++ e ∷ [])) new more m) (sym lines)
    (subst (λ k. IsAfter (lines_of scripts h ++ accepted_line scripts client index ∷ []) k new more m) (sym same) (accepts (lines_of scripts h) (takes h) taken (after_from_stands scripts h old jobs n is counted))) in
    let lawful = lawful_line scripts h client index is.replay.lawful there accepted in
    let grows : cuts scripts h ≤ cuts scripts (h ++ e ∷ []) = subst (λ l. cuts scripts h ≤ count_by is_cut l) (sym lines) (more_cuts (lines_of scripts h) (accepted_line scripts client index)) in
    record {
      lawful = lawful;
      stands = stands_from_after scripts (h ++ e ∷ []) new more m lawful now;
      taken = omega (arith, same, taken, grows);
      counted = now.counted;
    }

-- one job taken
pub record IsTaken (scripts : Scripts) (h : List Entry) (surface : Painted) (job : Job) (jobs : List Job) (n : ℕ) : Type 0 where
  pub waits : takes h < cuts scripts h
  pub number : job.number ≡ takes h
  pub is : job ≡ job_of (setting_at surface scripts) h (takes h)
  pub after : HasPlayed scripts (h ++ entry.Take job.number ∷ []) surface jobs n

pub taken_first : (scripts : Scripts) (h : List Entry) (surface : Painted) (job : Job) (jobs more : List Job) (n : ℕ) → StandsFor (setting_at surface scripts) h surface jobs → n ≡ cuts scripts h → jobs ≡ job ∷ more
    → IsTaken scripts h surface job more n
unfolding job_of
taken_first scripts h surface job jobs more n is counted first =
    let t : ℕ = takes h in
    let k = first_job (job_of (setting_at surface scripts) h) t _ job more (sym first ∙ is.replay.waiting) in
    let waits : t < cuts scripts h = let left = k.1 in omega arith in
    let number : job.number ≡ t = ap (λ (j : Job). j.number) k.2 in
    let lawful : IsLawful scripts (h ++ entry.Take job.number ∷ []) = subst (λ (a : ℕ). IsLawful scripts (h ++ entry.Take a ∷ [])) (sym number) (lawful_take scripts h is.replay.lawful waits) in
    let lines = lines_take scripts h job.number in
    let grown = takes_take h job.number in
    let left : k.0 ≡ cuts scripts h - (t + 1) = let l = k.1 in omega arith in
    let old = after_from_stands scripts h surface jobs n is counted in
    let now : IsAfter (lines_of scripts h) (t + 1) surface more n = record {
      shows = old.shows;
      flagged = old.flagged;
      waiting = k.3 ∙ ap (λ (a : ℕ). map (job_on surface.shown.size (lines_of scripts h)) (range_with_len (t + 1) a)) left;
      counted = old.counted;
    } in
    let after : IsAfter (lines_of scripts (h ++ entry.Take job.number ∷ [])) (takes (h ++ entry.Take job.number ∷ [])) surface more n =
    subst (λ l. IsAfter l (takes (h ++ entry.Take job.number ∷ [])) surface more n) (sym lines) (subst (λ (a : ℕ). IsAfter (lines_of scripts h) a surface more n) (sym grown) now) in
    record {
      waits = waits;
      number = number;
      is = k.2;
      after = record {
        lawful = lawful;
        stands = stands_from_after scripts (h ++ entry.Take job.number ∷ []) surface more n lawful after;
        taken = subst (λ l. takes (h ++ entry.Take job.number ∷ []) ≤ count_by is_cut l) (sym lines) (omega (arith, grown, waits));
        counted = after.counted;
      };
    }

-- no job waits
pub none_waits : (scripts : Scripts) (h : List Entry) (surface : Painted) (jobs : List Job) → StandsFor (setting_at surface scripts) h surface jobs → takes h < cuts scripts h → 0 < length jobs
none_waits scripts h surface jobs is waits = subst (λ (k : ℕ). 0 < k) (sym (ap length is.replay.waiting ∙ length-map-range_with_len (job_of (setting_at surface scripts) h) (takes h) (cuts scripts h - takes h))) (omega arith)

pub none_taken : (scripts : Scripts) → takes [] ≤ cuts scripts []
unfolding take_numbers
none_taken scripts = omega arith

pub none_cut : (scripts : Scripts) → cuts scripts [] ≡ 0
unfolding lines_of
none_cut scripts = refl
