-- Rows that are coded one after another.
use Rattle.std.proofs.Common.{◌≡◌, refl, sym, ◌∙◌, ap, subst, ℕ, suc, ◌+◌, ◌<◌, ◌≤◌, List, [], ◌∷◌, ◌++◌, length, map, Option, Some, None, length-append, Bool, true, false, arith}
use Rattle.std.specs.Prelude.{◌≢◌, slice_index_or, ◌==◌, if◌then◌else◌}
use Rattle.std.specs.List.{All}
use Rattle.std.proofs.lemmas.List.FromFn.{map-range_with_len_more}
use Rattle.std.proofs.lemmas.Bool.{eqb-true, eqb-false}
use Rattle.h265_model.specs.Plain.{below}
use Rattle.h265_model.specs.Wave.{Jobs, inherited, row_bytes}
use Rattle.row_core.specs.Plan.{Plan}
use Rattle.row_core.specs.Plans.{no_plan, jobs_of, HaveWidth, rows_of}

module _ {A : Type 0} where
  -- the element behind a front
  pub at_front : (front : List A) (a : A) (rest : List A) (d : A) → slice_index_or (front ++ a ∷ rest) (length front) d ≡ a
  at_front [] a rest d = refl
  at_front (x ∷ front) a rest d = at_front front a rest d

  pub nothing_left : (list : List A) → length list ≡ 0 → list ≡ []
  nothing_left [] h = refl
  nothing_left (x ∷ list) h = absurd (omega arith)

  pub in_front : (P : A → Type 0) (front : List A) (a : A) (rest all : List A) → front ++ a ∷ rest ≡ all → All P all → P a
  in_front P front a rest all e h =
      let less : length front < length (front ++ a ∷ rest) = omega (arith, length-append front (a ∷ rest)) in
      subst P (at_front front a rest a) (subst (λ (l : List A). All P l) (sym e) h (length front) a less)

  module _ (plan : A → Plan) (width : ℕ) where
    abbrev pub planned : List A → Jobs
    planned jobs = jobs_of width (map plan jobs)

    plan_at : (front : List A) (job : A) (rest : List A) → slice_index_or (map plan (front ++ job ∷ rest)) (length front) no_plan ≡ plan job
    plan_at [] job rest = refl
    plan_at (x ∷ front) job rest = plan_at front job rest

    width_at : (front : List A) (job : A) (rest : List A) → HaveWidth width (map plan (front ++ job ∷ rest)) → (plan job).width ≡ width
    width_at [] job rest h = h.0
    width_at (x ∷ front) job rest h = width_at front job rest h.1

    -- the bytes of the first rows, and what the next one inherits
    pub record AreDone (jobs front : List A) (bytes : List (List ℕ)) (given : Option (List ℕ)) : Type 0 where
      pub rows : bytes ≡ map (row_bytes (planned jobs)) (below (length front))
      pub next : given ≡ inherited (planned jobs) (length front)

    pub none_done : (jobs : List A) → AreDone jobs [] [] None
    unfolding inherited
    none_done jobs = record { rows = refl; next = refl }

    hands_on : (jobs front : List A) (job : A) (rest : List A) (given second : Option (List ℕ)) → front ++ job ∷ rest ≡ jobs → HaveWidth width (map plan jobs)
        → given ≡ inherited (planned jobs) (length front) → 1 ≤ (plan job).width → (2 ≤ (plan job).width → second ≡ Some ((plan job).second given)) → ((plan job).width ≡ 1 → second ≡ None)
        → second ≡ inherited (planned jobs) (suc (length front))
    unfolding inherited
    hands_on jobs front job rest given second e widths is some wide narrow = go (width == 1) refl
      where
        same : (plan job).width ≡ width
        same = width_at front job rest (subst (λ (l : List A). HaveWidth width (map plan l)) (sym e) widths)

        there : slice_index_or (map plan jobs) (length front) no_plan ≡ plan job
        there = ap (λ (l : List A). slice_index_or (map plan l) (length front) no_plan) (sym e) ∙ plan_at front job rest

        go : (b : Bool) → (width == 1) ≡ b → second ≡ if b then None else Some ((planned jobs).second (length front) (inherited (planned jobs) (length front)))
        go true w = narrow (same ∙ eqb-true width 1 w)
        go false w =
            wide (let d : width ≢ 1 = eqb-false width 1 w in let s : (plan job).width ≡ width = same in omega arith)
            ∙ (ap (λ (p : Plan). Some (p.second given)) (sym there)
            ∙ ap (λ (g : Option (List ℕ)). Some ((slice_index_or (map plan jobs) (length front) no_plan).second g)) is)

    pub one_more : (jobs front : List A) (job : A) (rest : List A) (rows : List (List ℕ)) (given second : Option (List ℕ)) (bytes : List ℕ) → front ++ job ∷ rest ≡ jobs
        → HaveWidth width (map plan jobs) → AreDone jobs front rows given → 1 ≤ (plan job).width → bytes ≡ (plan job).bytes given
        → (2 ≤ (plan job).width → second ≡ Some ((plan job).second given)) → ((plan job).width ≡ 1 → second ≡ None)
        → AreDone jobs (front ++ job ∷ []) (rows ++ bytes ∷ []) second
    one_more jobs front job rest rows given second bytes e widths done some coded wide narrow =
        let there : slice_index_or (map plan jobs) (length front) no_plan ≡ plan job = ap (λ (l : List A). slice_index_or (map plan l) (length front) no_plan) (sym e) ∙ plan_at front job rest in
        let more : length (front ++ job ∷ []) ≡ suc (length front) = omega (arith, length-append front (job ∷ [])) in
        let more' : length (front ++ job ∷ []) ≡ length front + 1 = omega (arith, more) in
        let it : bytes ≡ row_bytes (planned jobs) (length front) =
        coded ∙ (ap (λ (p : Plan). p.bytes given) (sym there) ∙ ap (λ (g : Option (List ℕ)). (slice_index_or (map plan jobs) (length front) no_plan).bytes g) done.next) in
        record {
          rows = ap (λ (l : List (List ℕ)). l ++ bytes ∷ []) done.rows
              ∙ (ap (λ (b : List ℕ). map (row_bytes (planned jobs)) (below (length front)) ++ b ∷ []) it
              ∙ (sym (map-range_with_len_more (row_bytes (planned jobs)) 0 (length front) (length front) (omega arith))
              ∙ ap (λ (n : ℕ). map (row_bytes (planned jobs)) (below n)) (sym more')));
          next = hands_on jobs front job rest given second e widths done.next some wide narrow ∙ ap (inherited (planned jobs)) (sym more);
        }

    as_many : (jobs : List A) → length jobs ≡ length (map plan jobs)
    as_many [] = refl
    as_many (job ∷ jobs) = ap suc (as_many jobs)

    -- all rows are done
    pub all_done : (jobs front : List A) (rows : List (List ℕ)) (given : Option (List ℕ)) → front ≡ jobs → AreDone jobs front rows given → rows ≡ rows_of width (map plan jobs)
    all_done jobs front rows given e done =
        done.rows ∙ ap (λ (n : ℕ). map (row_bytes (planned jobs)) (below n)) (ap length e ∙ as_many jobs)
