-- A new board keeps its rule.
use Rattle.std.proofs.Common.{◌≡◌, ℕ, zero, suc, ◌+◌, ◌^◌, ◌<◌, ◌≤◌, List, [], ◌∷◌, map, replicate, length, get_or, Bool, true, false, if◌then◌else◌, Some, None, refl, sym, ap, ◌∙◌, subst, arith, true≢false}
use Rattle.std.specs.Prelude.{slice_index_or, ◌==◌, Option, IfSome}
use Rattle.std.specs.List.{All, AllByRecursion, range_with_len}
use Rattle.std.proofs.lemmas.List.FromFn.{length-map-range_with_len, get_or-map-range_with_len}
use mathlib.Core.Option.{some, some-injective, some-ne-none}
use lib.ListN.{get_elem?}
use Rattle.atomic_table.specs.Table.{opening}
use Rattle.h265_model.specs.Contexts.{AreContexts}
use Rattle.h265_model.specs.Wave.{Jobs, inherited, row_bytes}
use Rattle.h265_model.specs.Board.{Fits, want_of, give_of, row_inherits}
use Rattle.row_core.specs.Plan.{Plan, HandsOn}
use Rattle.row_board.specs.declared.piece.Piece.TheVariants.{Job}
use Rattle.row_board.specs.declared.knowledge.Knowledge.{Knowledge}
use Rattle.row_core.specs.Plans.{no_plan, jobs_of, HaveWidth}
use Rattle.row_board.specs.Rows.{wanted, SeatFits, Kept, job_view, job_fits, width_of, opening_view}

-- what each row hands on and gives, by the two lists
pub want_at : (jobs : Jobs) (n r : ℕ) → r < n → wanted (want_of jobs n) r ≡ jobs.second r (inherited jobs r)
want_at jobs n r less = get_or-map-range_with_len (λ (i : ℕ). jobs.second i (inherited jobs i)) 0 n r r [] less (omega arith)

pub give_at : (jobs : Jobs) (n r : ℕ) → r < n → wanted (give_of jobs n) r ≡ row_bytes jobs r
give_at jobs n r less = get_or-map-range_with_len (row_bytes jobs) 0 n r r [] less (omega arith)

pub inherits_at : (jobs : Jobs) (n r : ℕ) → r ≤ n → row_inherits jobs.width (want_of jobs n) r ≡ inherited jobs r
unfolding inherited
inherits_at jobs n zero less = refl
inherits_at jobs n (suc r) less = ap (λ (x : List ℕ). if jobs.width == 1 then None else Some x) (want_at jobs n r (omega arith))

pub length-want : (jobs : Jobs) (n : ℕ) → length (want_of jobs n) ≡ n
length-want jobs n = length-map-range_with_len (λ (i : ℕ). jobs.second i (inherited jobs i)) 0 n

pub length-give : (jobs : Jobs) (n : ℕ) → length (give_of jobs n) ≡ n
length-give jobs n = length-map-range_with_len (row_bytes jobs) 0 n

pub length-planned : {A B : Type 0} (f : A → B) (xs : List A) → length (map f xs) ≡ length xs
length-planned f [] = refl
length-planned f (x ∷ xs) = ap suc (length-planned f xs)

abbrev pub blanks : ℕ → List ℕ
blanks n = replicate n 0

zeros : (n i : ℕ) → get_or (blanks n) i 0 ≡ 0
zeros zero i = refl
zeros (suc n) zero = refl
zeros (suc n) (suc i) = zeros n i

length-blanks : (n : ℕ) → length (blanks n) ≡ n
length-blanks zero = refl
length-blanks (suc n) = ap suc (length-blanks n)

word : (n r : ℕ) → get_or (0 ∷ blanks n) (r + 1) 0 ≡ 0
word n r = let e : suc r ≡ r + 1 = omega arith in ap (λ (i : ℕ). get_or (0 ∷ blanks n) i 0) (sym e) ∙ zeros n r

earlier : (n r : ℕ) → 0 < r → get_or (0 ∷ blanks n) r 0 ≡ 0
earlier n zero some_row = refl
earlier n (suc r) some_row = zeros n r

one_seat : (P : Knowledge → Type 0) (v : Knowledge) (i : ℕ) (u : Knowledge) → get_elem? (v ∷ []) i ≡ some u → P v → P u
one_seat P v zero u there p = subst P (some-injective v u there) p
one_seat P v (suc i) u there p = absurd (some-ne-none u (sym there))

-- where each row hands on contexts, each inherits contexts, and all hand them on
abbrev HandOn : Jobs → ℕ → Type 0
HandOn jobs n = (r : ℕ) (inherited : Option (List ℕ)) → r < n → IfSome inherited AreContexts → AreContexts (jobs.second r inherited)

one_or_none : {x : List ℕ} (b : Bool) → AreContexts x → IfSome (if b then None else Some x) AreContexts
one_or_none true are = tt
one_or_none false are = are

inherits_contexts : (jobs : Jobs) (n r : ℕ) → HandOn jobs n → r < n → IfSome (inherited jobs r) AreContexts
unfolding inherited
inherits_contexts jobs n zero each low = tt
inherits_contexts jobs n (suc r) each low = one_or_none (jobs.width == 1) (each r (inherited jobs r) (omega arith) (inherits_contexts jobs n r each (omega arith)))

all_contexts : (jobs : Jobs) (n : ℕ) → HandOn jobs n → AllByRecursion AreContexts (want_of jobs n)
all_contexts jobs n each = some_rows 0 n (λ r low. omega arith)
  where
    some_rows : (a k : ℕ) → ((r : ℕ) → r < a + k → r < n) → AllByRecursion AreContexts (map (λ r. jobs.second r (inherited jobs r)) (range_with_len a k))
    some_rows a zero inside = tt
    some_rows a (suc k) inside = (let low : a < n = inside a (omega arith) in each a (inherited jobs a) low (inherits_contexts jobs n a each low), some_rows (a + 1) k (λ r low. inside r (omega arith)))

module _ {J : Type 0} (plan : J → Plan) (begun : J → Bool) where
  hand_on : ((j : J) → HandsOn (plan j)) → (js : List J) (r : ℕ) (inherited : Option (List ℕ)) → r < length (map plan js) → IfSome inherited AreContexts → AreContexts ((slice_index_or (map plan js) r no_plan).second inherited)
  hand_on hands_on [] r inherited low are = absurd (omega arith)
  hand_on hands_on (j ∷ js) zero inherited low are = hands_on j inherited are
  hand_on hands_on (j ∷ js) (suc r) inherited low are = hand_on hands_on js r inherited (omega arith) are

  plan_at : (js : List J) (r : ℕ) (j : J) → get_elem? js r ≡ some j → slice_index_or (map plan js) r no_plan ≡ plan j
  plan_at [] r j at = absurd (some-ne-none j (sym at))
  plan_at (x ∷ xs) zero j at = ap plan (some-injective x j at)
  plan_at (x ∷ xs) (suc r) j at = plan_at xs r j at

  width_at : (width : ℕ) (js : List J) (r : ℕ) (j : J) → get_elem? js r ≡ some j → HaveWidth width (map plan js) → (plan j).width ≡ width
  width_at width [] r j at h = absurd (some-ne-none j (sym at))
  width_at width (x ∷ xs) zero j at h = ap (λ (y : J). (plan y).width) (sym (some-injective x j at)) ∙ h.0
  width_at width (x ∷ xs) (suc r) j at h = width_at width xs r j at h.1

  one_width : (width : ℕ) (js : List J) → 0 < length js → HaveWidth width (map plan js) → width_of (map plan js) ≡ width
  one_width width [] some_job h = absurd (omega arith)
  one_width width (x ∷ xs) some_job h = h.0

  fresh_at : (js : List J) (r : ℕ) (j : J) → get_elem? js r ≡ some j → All (λ x. begun x ≡ false) js → begun j ≡ false
  fresh_at js r j at h = let i = index_at js r j at in subst (λ (x : J). begun x ≡ false) i.1 (h r j i.0)
    where
      index_at : (js : List J) (r : ℕ) (j : J) → get_elem? js r ≡ some j → (r < length js) × (slice_index_or js r j ≡ j)
      index_at [] r j at = absurd (some-ne-none j (sym at))
      index_at (x ∷ xs) zero j at = (omega arith, some-injective x j at)
      index_at (x ∷ xs) (suc r) j at = let i = index_at xs r j at in (let l = i.0 in omega arith, i.1)

  length-pieces : (js : List J) → length (map some (map Job js)) ≡ length js
  length-pieces [] = refl
  length-pieces (x ∷ xs) = ap suc (length-pieces xs)

  piece_at : (js : List J) (r : ℕ) → r < length js → (j : J) × (get_elem? js r ≡ some j) × (get_elem? (map some (map Job js)) r ≡ some (some (Job j)))
  piece_at [] r inside = absurd (omega arith)
  piece_at (x ∷ xs) zero inside = (x, refl, refl)
  piece_at (x ∷ xs) (suc r) inside = piece_at xs r (omega arith)

  abbrev pub planned : List J → Jobs
  planned js = jobs_of (width_of (map plan js)) (map plan js)

  abbrev pub many : List J → ℕ
  many js = length (map plan js)

  -- each job of a new board fits its row
  starts_fit : (js : List J) (r : ℕ) (j : J) → get_elem? js r ≡ some j → r < many js → begun j ≡ false → (plan j).width ≡ width_of (map plan js)
      → Fits (width_of (map plan js)) (want_of (planned js) (many js)) (give_of (planned js) (many js)) r (job_view plan begun j)
  starts_fit js r j at inside fresh same =
      let jobs : Jobs = planned js in
      let before : row_inherits jobs.width (want_of jobs (many js)) r ≡ inherited jobs r = inherits_at jobs (many js) r (omega arith) in
      record {
        fresh = fresh;
        same_width = same;
        hands_on = λ wide. ap (plan j).second before ∙ sym (want_at jobs (many js) r inside ∙ ap (λ (p : Plan). p.second (inherited jobs r)) (plan_at js r j at));
        gives = ap (plan j).bytes before ∙ sym (give_at jobs (many js) r inside ∙ ap (λ (p : Plan). p.bytes (inherited jobs r)) (plan_at js r j at));
      }

  pub opens : ((j : J) → HandsOn (plan j)) → (js : List J) (n : ℕ) → n ≡ length js → 0 < length js → n < 2 ^ 32 → All (λ x. begun x ≡ false) js → (width : ℕ) × HaveWidth width (map plan js)
      → Kept (job_fits plan begun) (opening (0 ∷ blanks n) (map Job js) (opening_view (map plan js)))
  opens hands_on js n count some_job few fresh widths =
      let v : Knowledge = opening_view (map plan js) in
      let same : many js ≡ n = length-planned plan js ∙ sym count in
      let width : ℕ = width_of (map plan js) in
      record {
        rows = n;
        width = v.width;
        want = v.want;
        give = v.give;
        made = record {
          some_row = omega arith;
          few_rows = few;
          want_long = length-want (planned js) (many js) ∙ same;
          give_long = length-give (planned js) (many js) ∙ same;
          want_contexts = all_contexts (planned js) (many js) (λ r. hand_on hands_on js r);
        };
        wide = let l = length-blanks n in omega arith;
        deep = length-pieces js ∙ sym count;
        each = λ i u there alive. one_seat (SeatFits (0 ∷ blanks n) (map some (map Job js)) n v.width v.want v.give) v i u there record {
          same_width = refl;
          same_want = refl;
          same_give = refl;
          met = λ e. absurd (true≢false (sym e));
          claims = λ r c e. absurd (cc);
        };
        gone = λ i u there none_left. one_seat (λ x. x.weight ≡ 0 → x.rows ≡ []) v i u there (λ e. refl) none_left;
        once = λ r low taken. absurd (omega arith);
        not_yet = λ r above. refl;
        outside = λ r above. refl;
        waiting = λ r low above.
            let p = piece_at js r (omega arith) in (
              word n r,
              (λ some_row two. let z = earlier n r some_row in omega arith),
              (p.0, p.2, starts_fit js r p.0 p.1 (let e = same in omega arith) (fresh_at js r p.0 p.1 fresh) (width_at widths.0 js r p.0 p.1 widths.1 ∙ sym (one_width widths.0 js some_job widths.1))),
            );
        shown = λ r low one. absurd (let z = word n r in omega arith);
        taken = λ r low two. absurd (let z = word n r in omega arith);
        each_word = λ r low. let z = word n r in record { low = omega arith; wide = λ some_word _. absurd (omega arith) };
        weighs = omega arith;
        over = omega arith;
      }
