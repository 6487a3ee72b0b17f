-- What a recorder's pass has seen, turn by turn.
use Rattle.std.proofs.Common.{◌≡◌, ℕ, zero, suc, ◌+◌, ◌<◌, ◌≤◌, if◌then◌else◌, eq-eqb, Bool, List, [], ◌∷◌, ◌++◌, length, take, Some, refl, sym, ap, subst, ◌∙◌, arith, append_assoc, length-append}
use Rattle.std.specs.Prelude.{slice_index_or}
use Rattle.std.specs.List.{range_with_len}
use Rattle.std.proofs.lemmas.List.{append-nil, take-append-le, take_more}
use Rattle.recorder_model.specs.declared.entry.Entry.{Entry}
use Rattle.recorder_model.specs.declared.entry.Entry.TheVariants.{Line, Take}
use Rattle.h265_model.specs.declared.job.Job.{Job}
use Rattle.recorder_model.specs.declared.line.Line as line
use Rattle.h265_model.specs.Plain.{Size}
use Rattle.recorder_model.specs.Setting.{Setting}
use Rattle.h265_model.specs.Raster.{Raster, black_raster, coded_picture}
use Rattle.recorder_model.specs.Painting.{raster, rasters_after, lines_of, pictures}
use Rattle.recorder_model.specs.Histories.{IsLawful, take_numbers, takes, cuts}
use Rattle.recorder_model.specs.Desk.{job_of}
use Rattle.h265_model.specs.Tiles.{job_for}
use Rattle.recorder_laws.proofs.PlayLaws.{raster_of_none, rasters_after-append}
use Rattle.px_plane.specs.Planes.{Planes, Shows}
use Rattle.px_plane.specs.Tiles.{IsJobOf, DiffersOnlyIn}
use Rattle.desk_state.specs.Laws.{shown_at, shown_before}
use Rattle.desk_state.proofs.Entries.{lines_of-append, lines_take, takes_take, lawful_none}
use Rattle.desk_state.proofs.Shown.{length-rasters_after}
use Rattle.desk_state.proofs.Leading.{each_leads_on}
use Rattle.turn_lock.specs.Turns.{Begins, made_by, one_more}
use Rattle.turn_lock.specs.Standing.{Standing}
use Rattle.turn_lock.specs.declared.knowledge.Knowledge.{Knowledge}
use Rattle.turn_lock.proofs.Histories.{begins_same, made_by-here, some_is}
use Rattle.atomic_table.specs.Seated.{TableId}
use Rattle.live_desk.specs.Passes.{fresh_recorder}
use Rattle.live_desk.specs.Turned.{IsKept}
use Rattle.live_desk.specs.Desks.{HasTaken, HasLooked}
use Rattle.picture_encoder.specs.Coded.{StandsFor, TurnsInto, last_of}
use Rattle.recorder.specs.Ends.{HasRecorded, seen_pictures}
use Rattle.recorder.specs.Jobs.{taken_pictures, IsNextJob, IsAsFar}

abbrev Scripts : Type 0
Scripts = List (List line.Line)

pub begins_then : (a b c : List Entry) → Begins a b → Begins b c → Begins a c
begins_then a b c p q = (p.0 ++ q.0, q.1 ∙ ap (λ (l : List Entry). l ++ q.0) p.1 ∙ append_assoc a p.0 q.0)

pub kept_then : (u v w : Knowledge) → IsKept u v → IsKept v w → IsKept u w
kept_then u v w p q = record {
  setting = q.setting ∙ p.setting;
  passes = q.passes ∙ p.passes;
  weight = q.weight ∙ p.weight;
}

-- ---- pictures of histories

-- the pictures of a longer history begin with those of the shorter one
pub pictures_more : (size : Size) (scripts : Scripts) (h whole : List Entry) → Begins h whole → (rest : List Raster) × (pictures size scripts whole ≡ pictures size scripts h ++ rest)
pictures_more size scripts h whole begins = (
  rasters_after size (lines_of scripts h) (lines_of scripts begins.0),
  ap (pictures size scripts) begins.1 ∙ ap (rasters_after size []) (lines_of-append scripts h begins.0)
      ∙ rasters_after-append size [] (lines_of scripts h) (lines_of scripts begins.0),
)

pub count_pictures : (size : Size) (scripts : Scripts) (h : List Entry) → length (pictures size scripts h) ≡ cuts scripts h
count_pictures size scripts h = length-rasters_after size [] (lines_of scripts h)

-- the first ones stay
pub front_kept : (size : Size) (scripts : Scripts) (h whole : List Entry) (k : ℕ) → Begins h whole → k ≤ cuts scripts h → take k (pictures size scripts whole) ≡ take k (pictures size scripts h)
front_kept size scripts h whole k begins few =
    let more = pictures_more size scripts h whole begins in
    ap (take k) more.1 ∙ take-append-le k (pictures size scripts h) more.0 (let n = count_pictures size scripts h in omega (arith, n, few))

-- ---- no picture is taken before it is cut

last_take : (h : List Entry) (front : List ℕ) (n : ℕ) → take_numbers h ≡ front ++ n ∷ [] → (before : List Entry) × (after : List Entry) × (h ≡ before ++ Take n ∷ after)
unfolding take_numbers
last_take [] front n is = absurd (none front n is)
  where
    none : (front : List ℕ) (n : ℕ) → [] ≡ front ++ n ∷ [] → ⊥
    none [] n e = cc
    none (x ∷ front) n e = cc
last_take (Line c i ∷ h) front n is =
    let found = last_take h front n is in
    (Line c i ∷ found.0, found.1, ap (λ (l : List Entry). Line c i ∷ l) found.2)
last_take (Take m ∷ h) [] n is =
    let same : m ≡ n = cc in
    ([], h, ap (λ (k : ℕ). Take k ∷ h) same)
last_take (Take m ∷ h) (x ∷ front) n is =
    let found = last_take h front n cc in
    (Take m ∷ found.0, found.1, ap (λ (l : List Entry). Take m ∷ l) found.2)

cuts_begin : (scripts : Scripts) (h whole : List Entry) → Begins h whole → cuts scripts h ≤ cuts scripts whole
cuts_begin scripts h whole begins =
    let size : Size = record { w = 0; h = 0 } in
    let more = pictures_more size scripts h whole begins in
    let long : length (pictures size scripts whole) ≡ length (pictures size scripts h) + length more.0 = ap length more.1 ∙ length-append (pictures size scripts h) more.0 in
    omega (arith, long, count_pictures size scripts h, count_pictures size scripts whole)

range_more : (a n : ℕ) → range_with_len a (suc n) ≡ range_with_len a n ++ (a + n) ∷ []
range_more a zero = ap (λ (k : ℕ). k ∷ []) (omega arith)
range_more a (suc n) = ap (λ (l : List ℕ). a ∷ l) (range_more (a + 1) n ∙ ap (λ (k : ℕ). range_with_len (a + 1) n ++ k ∷ []) (omega arith))

range_end : (n : ℕ) → range_with_len 0 (suc n) ≡ range_with_len 0 n ++ n ∷ []
range_end n = range_more 0 n ∙ ap (λ (k : ℕ). range_with_len 0 n ++ k ∷ []) (omega arith)

pub few_takes : (scripts : Scripts) (h : List Entry) → IsLawful scripts h → takes h ≤ cuts scripts h
few_takes scripts h is = go (takes h) refl
  where
    go : (n : ℕ) → takes h ≡ n → takes h ≤ cuts scripts h
    go zero e = omega (arith, e)
    go (suc n) e =
        let found = last_take h (range_with_len 0 n) n (is.in_order ∙ ap (range_with_len 0) e ∙ range_end n) in
        let cut : n < cuts scripts found.0 = is.after_cuts found.0 found.1 n found.2 in
        let less = cuts_begin scripts found.0 h (Take n ∷ found.1, found.2) in
        omega (arith, e, cut, less)

-- ---- a pass that takes

abbrev number_of : Standing → ℕ
number_of p = length p.knows.setting.scripts

-- the takes at the turn were those that it had seen
own_base : (first old : Standing) (base : List Entry) → HasRecorded first old → made_by (number_of old) old.knows.made ≡ Some (takes base) → takes base ≡ takes old.knows.seen
own_base first old base is own =
    let n : ℕ = number_of first in
    let here : made_by n ((n, takes old.knows.seen) ∷ []) ≡ Some (takes old.knows.seen) = made_by-here n (n, takes old.knows.seen) [] refl in
    let same : number_of old ≡ n = ap (λ (s : Setting). length s.scripts) is.kept.setting in
    some_is (takes base) (takes old.knows.seen) (sym own ∙ ap (λ (k : ℕ). made_by k old.knows.made) same ∙ ap (made_by n) is.made ∙ here)

-- the pictures that were taken are those of a longer history too
taken_kept : (v : Knowledge) (base : List Entry) (k : ℕ) → Begins v.seen base → k ≤ cuts v.setting.scripts v.seen → take k (pictures v.setting.size v.setting.scripts base) ≡ take k (seen_pictures v)
taken_kept v base k begins few = front_kept v.setting.size v.setting.scripts v.seen base k begins few

few_now : (first old : Standing) → HasRecorded first old → takes old.knows.seen ≤ cuts old.knows.setting.scripts old.knows.seen
few_now first old is = few_takes old.knows.setting.scripts old.knows.seen (subst (λ (s : Setting). IsLawful s.scripts old.knows.seen) (sym is.kept.setting) is.lawful)

seen_is : (v w : Knowledge) (h : List Entry) → w.setting ≡ v.setting → w.seen ≡ h → seen_pictures w ≡ pictures v.setting.size v.setting.scripts h
seen_is v w h setting seen = ap (λ (s : Setting). pictures s.size s.scripts w.seen) setting ∙ ap (pictures v.setting.size v.setting.scripts) seen

-- ---- a turn with no job

pub looked : (first old new : Standing) (entries : ℕ) (mark : Bool) → HasRecorded first old → HasLooked old new entries mark → HasRecorded first new
looked first old new entries mark is turn =
    let seen : new.knows.seen ≡ turn.base = turn.turn.seen ∙ append-nil turn.base in
    let count : takes new.knows.seen ≡ takes old.knows.seen = ap takes seen ∙ own_base first old turn.base is turn.own in
    record {
      table = turn.table ∙ is.table;
      kept = kept_then first.knows old.knows new.knows is.kept turn.turn.kept;
      begins = begins_then first.knows.seen old.knows.seen new.knows.seen is.begins (subst (Begins old.knows.seen) (sym seen) turn.turn.begins);
      lawful = subst (λ (s : Setting). IsLawful s.scripts new.knows.seen) is.kept.setting turn.lawful;
      raised = turn.raised ∙ is.raised;
      made = turn.made ∙ is.made ∙ ap (λ (k : ℕ). (number_of first, k) ∷ []) (sym count);
    }

pub as_far : (first old new : Standing) (entries : ℕ) (mark : Bool) → HasRecorded first old → HasLooked old new entries mark → IsAsFar old.knows new.knows
as_far first old new entries mark is turn =
    let seen : new.knows.seen ≡ turn.base = turn.turn.seen ∙ append-nil turn.base in
    let count : takes new.knows.seen ≡ takes old.knows.seen = ap takes seen ∙ own_base first old turn.base is turn.own in
    record {
      setting = turn.turn.kept.setting;
      count = count;
      same = ap (λ (k : ℕ). take k (seen_pictures new.knows)) count
          ∙ ap (take (takes old.knows.seen)) (seen_is old.knows new.knows turn.base turn.turn.kept.setting seen)
          ∙ taken_kept old.knows turn.base (takes old.knows.seen) turn.turn.begins (few_now first old is);
    }

-- ---- a turn with a job

one_here : (n k : ℕ) → one_more n ((n, k) ∷ []) ≡ (n, k + 1) ∷ []
one_here n k = ap (λ b. if b then (n, k + 1) ∷ [] else ((n, k) ∷ [])) (eq-eqb n n refl)

pub took : (first old new : Standing) (job : Job) → HasRecorded first old → HasTaken old new job → HasRecorded first new
took first old new job is turn =
    let count : takes new.knows.seen ≡ takes old.knows.seen + 1 = ap takes turn.turn.seen ∙ takes_take turn.base (takes turn.base) ∙ ap (λ (k : ℕ). k + 1) (own_base first old turn.base is turn.own) in
    let n : ℕ = number_of first in
    record {
      table = turn.table ∙ is.table;
      kept = kept_then first.knows old.knows new.knows is.kept turn.turn.kept;
      begins = begins_then first.knows.seen old.knows.seen new.knows.seen is.begins
          (subst (Begins old.knows.seen) (sym turn.turn.seen) (begins_then old.knows.seen turn.base (turn.base ++ Take (takes turn.base) ∷ []) turn.turn.begins (Take (takes turn.base) ∷ [], refl)));
      lawful = subst (λ (s : Setting). IsLawful s.scripts new.knows.seen) is.kept.setting turn.lawful;
      raised = turn.raised ∙ is.raised;
      made = turn.made ∙ ap (λ (s : Setting). one_more (length s.scripts) old.knows.made) is.kept.setting ∙ ap (one_more n) is.made ∙ one_here n (takes old.knows.seen) ∙ ap (λ (k : ℕ). (n, k) ∷ []) (sym count);
    }

-- the last of the first pictures of a list
last_front : (d : Raster) (ps : List Raster) (m : ℕ) → suc m ≤ length ps → last_of d (take (suc m) ps) ≡ slice_index_or ps m []
last_front d [] m less = absurd (omega arith)
last_front d (p ∷ []) zero less = refl
last_front d (p ∷ q ∷ ps) zero less = refl
last_front d (p ∷ ps) (suc m) less = last_front p ps m (omega arith)

before_is : (setting : Setting) (h : List Entry) (k : ℕ) → k ≤ cuts setting.scripts h → last_of (black_raster setting.size) (take k (pictures setting.size setting.scripts h)) ≡ shown_before setting h k
before_is setting h zero few = raster_of_none setting.size
before_is setting h (suc m) few = last_front (black_raster setting.size) (pictures setting.size setting.scripts h) m (let n = count_pictures setting.size setting.scripts h in omega (arith, n, few))

job_turns : (setting : Setting) (h : List Entry) (k : ℕ) (last : Planes) (job : Job) → k < cuts setting.scripts h → job ≡ job_of setting h k → last.size ≡ setting.size
    → Shows last (last_of (black_raster setting.size) (take k (pictures setting.size setting.scripts h))) → TurnsInto job last (shown_at setting h k)
job_turns setting h k last job less is sized shows =
    let law = each_leads_on setting h k less in
    let before : Shows last (shown_before setting h k) = subst (Shows last) (before_is setting h k (omega (arith, less))) shows in
    let number : (job_of setting h k).number ≡ k = ap (λ (j : Job). j.number) law.made in
    let made : job_of setting h k ≡ job_for last.size (job_of setting h k).number (job_of setting h k).tiles (shown_at setting h k) =
    law.made ∙ ap (λ (n : ℕ). job_for setting.size n (job_of setting h k).tiles (shown_at setting h k)) (sym number)
    ∙ ap (λ (s : Size). job_for s (job_of setting h k).number (job_of setting h k).tiles (shown_at setting h k)) (sym sized) in
    subst (λ (j : Job). TurnsInto j last (shown_at setting h k)) (sym is)
    record {
      samples = made;
      elsewhere = subst (λ (s : Size). DiffersOnlyIn (job_of setting h k).tiles last (coded_picture s (shown_at setting h k))) (sym sized) (law.differs last sized before);
    }

pub next_job : (first old new : Standing) (job : Job) → HasRecorded first old → HasTaken old new job → IsNextJob old.knows new.knows job
next_job first old new job is turn =
    let v = old.knows in
    let setting = v.setting in
    let k : ℕ = takes v.seen in
    let base : List Entry = turn.base in
    let own : takes base ≡ k = own_base first old base is turn.own in
    let count : takes new.knows.seen ≡ k + 1 = ap takes turn.turn.seen ∙ takes_take base (takes base) ∙ ap (λ (n : ℕ). n + 1) own in
    let less : k < cuts setting.scripts base = subst (λ (n : ℕ). n < cuts setting.scripts base) own turn.waited in
    let ps : List Raster = pictures setting.size setting.scripts base in
    let long : length ps ≡ cuts setting.scripts base = count_pictures setting.size setting.scripts base in
    let seen : seen_pictures new.knows ≡ ps = seen_is v new.knows (base ++ Take (takes base) ∷ []) turn.turn.kept.setting turn.turn.seen ∙ ap (rasters_after setting.size []) (lines_take setting.scripts base (takes base)) in
    let front : take k ps ≡ taken_pictures v = taken_kept v base k turn.turn.begins (few_now first old is) in
    let job_is : job ≡ job_of setting base k = turn.is_job ∙ ap (job_of setting base) own in
    let law = each_leads_on setting base k less in
    record {
      shown = shown_at setting base k;
      count = count;
      more = ap (λ (n : ℕ). take n (seen_pictures new.knows)) count ∙ ap (take (k + 1)) seen ∙ take_more ps k [] (omega (arith, long, less)) ∙ ap (λ (l : List Raster). l ++ shown_at setting base k ∷ []) front;
      whole = subst (IsJobOf setting.size) (sym job_is) law.whole;
      number = ap (λ (j : Job). j.number) (job_is ∙ law.made);
      turns = λ encoder at. job_turns setting base k encoder.last job less job_is (at.sized ∙ at.size)
          (subst (Shows encoder.last) (ap (λ (s : Size). last_of (black_raster s) (taken_pictures v)) at.size ∙ ap (last_of (black_raster setting.size)) (sym front)) at.stands.last);
    }

-- ---- a pass that has seen nothing

none_taken : takes [] ≡ 0
unfolding take_numbers
none_taken = refl

pub fresh_recorded : (p : Standing) (desk : TableId) → p ≡ fresh_recorder desk p.knows.setting → HasRecorded p p
fresh_recorded p desk fresh =
    let none : p.knows.seen ≡ [] = ap (λ (q : Standing). q.knows.seen) fresh in
    record {
      table = refl;
      kept = record { setting = refl; passes = refl; weight = refl };
      begins = begins_same p.knows.seen;
      lawful = subst (IsLawful p.knows.setting.scripts) (sym none) (lawful_none p.knows.setting.scripts);
      raised = refl;
      made = ap (λ (q : Standing). q.knows.made) fresh ∙ ap (λ (k : ℕ). (number_of p, k) ∷ []) (sym (ap takes none ∙ none_taken));
    }

pub fresh_count : (p : Standing) (desk : TableId) → p ≡ fresh_recorder desk p.knows.setting → takes p.knows.seen ≡ 0
unfolding take_numbers
fresh_count p desk fresh = ap (λ (q : Standing). takes q.knows.seen) fresh

pub lawful_now : (p q : Standing) → HasRecorded p q → IsLawful q.knows.setting.scripts q.knows.seen
lawful_now p q is = subst (λ (s : Setting). IsLawful s.scripts q.knows.seen) (sym is.kept.setting) is.lawful

pub recorded_then : (p q r : Standing) → HasRecorded p q → HasRecorded q r → HasRecorded p r
recorded_then p q r a b = record {
  table = b.table ∙ a.table;
  kept = kept_then p.knows q.knows r.knows a.kept b.kept;
  begins = begins_then p.knows.seen q.knows.seen r.knows.seen a.begins b.begins;
  lawful = subst (λ (s : Setting). IsLawful s.scripts r.knows.seen) a.kept.setting b.lawful;
  raised = b.raised ∙ a.raised;
  made = b.made ∙ ap (λ (s : Setting). (length s.scripts, takes r.knows.seen) ∷ []) a.kept.setting;
}

-- ---- turns with no job before one with a job

pub after_waiting : (u v w : Knowledge) (job : Job) → IsAsFar u v → IsNextJob v w job → IsNextJob u w job
after_waiting u v w job far is = record {
  shown = is.shown;
  count = is.count ∙ ap (λ (n : ℕ). n + 1) far.count;
  more = is.more ∙ ap (λ (l : List Raster). l ++ is.shown ∷ []) far.same;
  whole = subst (λ (s : Setting). IsJobOf s.size job) far.setting is.whole;
  number = is.number ∙ far.count;
  turns = λ encoder at. is.turns encoder record {
    size = at.size ∙ ap (λ (s : Setting). s.size) (sym far.setting);
    sized = at.sized;
    stands = subst (StandsFor encoder) (sym far.same) at.stands;
  };
}

pub waiting : (u v w : Knowledge) → IsAsFar u v → IsAsFar v w → IsAsFar u w
waiting u v w a b = record { setting = b.setting ∙ a.setting; count = b.count ∙ a.count; same = b.same ∙ a.same }

pub as_far_itself : (v : Knowledge) → IsAsFar v v
as_far_itself v = record { setting = refl; count = refl; same = refl }
