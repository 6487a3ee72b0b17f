-- However the rows of a wave are scheduled, each finishes with its bytes.
use Rattle.std.proofs.Common.{◌≡◌, refl, sym, ◌∙◌, ap, subst, ℕ, zero, suc, ◌+◌, ◌-◌, ◌<◌, ◌≤◌, Bool, true, false, not, ◌&&◌, ⊎_elim, List, [], ◌∷◌, length, get_or, set, replicate, length-set, get_or-set_same, get_or-set_other, arith}
use Rattle.std.specs.Prelude.{Option, Some, None, ◌==◌, nat_lt, nat_le, fold}
use Rattle.std.proofs.lemmas.Bool.{and_parts, or_cases, eqb-true, ltb-true, leb-true, lt-ltb, le-leb, eq-eqb, ne_eqb, cases_lt, cases_eq, not-true, cond-true, cond-false}
use Rattle.std.proofs.lemmas.List.{length-replicate, get_or_past}
use Rattle.std.proofs.lemmas.List.FromFn.{fill_by_all}
use Rattle.h265_model.specs.Wave.{RowState, Event, Claim, Sync, Code, Publish, Finish, Lose, unclaimed, Wave, new_wave, row_at, must_sync, allows_row, after_event, AreLawful, after_events, Jobs, inherited, row_bytes, RowResults, handed_to, result_after, results}
use Rattle.h265_laws.specs.Laws.{EachScheduleGivesTheBytes}

-- what stands of row r: its state, what it was handed and what it finished with
record IsRow (jobs : Jobs) (must : Bool) (r : ℕ) (s : RowState) (handed finished : Option (List ℕ)) : Type 0 where
  fresh : s.synced ≡ false → handed ≡ None
  synced : s.synced ≡ true → must ≡ true
  given : s.synced ≡ true → handed ≡ inherited jobs r
  coded : 0 < s.coded → must ≡ true → s.synced ≡ true
  published : s.published ≡ true → must ≡ true → s.synced ≡ true
  ended : s.finished ≡ true → finished ≡ Some (row_bytes jobs r)

abbrev finished_of : RowResults → ℕ → Option (List ℕ)
finished_of o r = get_or o.finished r None

record Stands (jobs : Jobs) (rows : ℕ) (w : Wave) (o : RowResults) : Type 0 where
  width : w.width ≡ jobs.width
  many : length w.rows ≡ rows
  handed_many : length o.handed ≡ rows
  finished_many : length o.finished ≡ rows
  each : (r : ℕ) → IsRow jobs (must_sync w r) r (row_at w r) (handed_to o r) (finished_of o r)

-- ---- a row that has all that it needs was handed what it inherits

one_wide : (n : ℕ) → 0 < n → nat_le 2 n ≡ false → (n == 1) ≡ true
one_wide n p f = ⊎_elim (λ less. eq-eqb n 1 (omega arith)) (λ more. absurd (let t : nat_le 2 n ≡ true = le-leb 2 n more in cc)) (cases_lt n 2)

inherits_none : (jobs : Jobs) (w : Wave) (r : ℕ) → 0 < jobs.width → w.width ≡ jobs.width → must_sync w r ≡ false → inherited jobs r ≡ None
unfolding inherited
inherits_none jobs w zero some same e = refl
inherits_none jobs w (suc k) some same e =
    let narrow : nat_le 2 w.width ≡ false = subst (λ (b : Bool). (b && nat_le 2 w.width) ≡ false) (lt-ltb 0 (suc k) (omega arith)) e in
    cond-true (jobs.width == 1) _ _ (one_wide jobs.width some (subst (λ (n : ℕ). nat_le 2 n ≡ false) same narrow))

ready : (jobs : Jobs) (w : Wave) (r : ℕ) (s : RowState) (handed finished : Option (List ℕ)) → 0 < jobs.width → w.width ≡ jobs.width → IsRow jobs (must_sync w r) r s handed finished
    → (must_sync w r ≡ true → s.synced ≡ true) → handed ≡ inherited jobs r
ready jobs w r s handed finished some same is h = go s.synced refl
  where
    not_must : (b : Bool) → s.synced ≡ false → must_sync w r ≡ b → must_sync w r ≡ false
    not_must true e f = absurd (let t : s.synced ≡ true = h f in cc)
    not_must false e f = f

    go : (b : Bool) → s.synced ≡ b → handed ≡ inherited jobs r
    go true e = is.given e
    go false e = is.fresh e ∙ sym (inherits_none jobs w r some same (not_must (must_sync w r) e refl))

-- ---- one event

-- the row of a lawful event is there
is_there : (w : Wave) (q : ℕ) → (row_at w q ≡ unclaimed → ⊥) → q < length w.rows
is_there w q h = ⊎_elim (λ less. less) (λ past. absurd (h (get_or_past w.rows q unclaimed past))) (cases_lt q (length w.rows))

claimed_there : (w : Wave) (q : ℕ) → (row_at w q).claimed ≡ true → q < length w.rows
claimed_there w q h = is_there w q (λ e. let f : (row_at w q).claimed ≡ false = ap (λ (s : RowState). s.claimed) e in cc)

-- the other rows stay, and so does this one where it stands afterwards
stands_after : (jobs : Jobs) (rows q : ℕ) (w : Wave) (o : RowResults) (s : RowState) (o' : RowResults) → Stands jobs rows w o → q < length w.rows
    → length o'.handed ≡ rows → length o'.finished ≡ rows
    → ((r : ℕ) → (r ≡ q → ⊥) → handed_to o' r ≡ handed_to o r) → ((r : ℕ) → (r ≡ q → ⊥) → finished_of o' r ≡ finished_of o r)
    → IsRow jobs (must_sync w q) q s (handed_to o' q) (finished_of o' q)
    → Stands jobs rows (record w { rows = set w.rows q s }) o'
stands_after jobs rows q w o s o' stands there hm fm hs fs here = record {
  width = stands.width;
  many = length-set w.rows q s ∙ stands.many;
  handed_many = hm;
  finished_many = fm;
  each = λ r. ⊎_elim
      (λ e. subst (λ (k : ℕ). IsRow jobs (must_sync w k) k (get_or (set w.rows q s) k unclaimed) (handed_to o' k) (finished_of o' k)) (sym e)
      (subst (λ (t : RowState). IsRow jobs (must_sync w q) q t (handed_to o' q) (finished_of o' q)) (sym (get_or-set_same w.rows q s unclaimed there)) here))
      (λ ne. subst (λ (t : RowState). IsRow jobs (must_sync w r) r t (handed_to o' r) (finished_of o' r)) (sym (get_or-set_other w.rows q r s unclaimed ne))
      (subst (λ (h : Option (List ℕ)). IsRow jobs (must_sync w r) r (row_at w r) h (finished_of o' r)) (sym (hs r ne))
      (subst (λ (f : Option (List ℕ)). IsRow jobs (must_sync w r) r (row_at w r) (handed_to o r) f) (sym (fs r ne)) (stands.each r))))
      (cases_eq r q);
}

same_row : {jobs : Jobs} {must : Bool} {r : ℕ} {handed finished : Option (List ℕ)} (s t : RowState) → t.synced ≡ s.synced → t.coded ≡ s.coded → t.published ≡ s.published → t.finished ≡ s.finished
    → IsRow jobs must r s handed finished → IsRow jobs must r t handed finished
same_row s t a b c d is = record {
  fresh = λ e. is.fresh (sym a ∙ e);
  synced = λ e. is.synced (sym a ∙ e);
  given = λ e. is.given (sym a ∙ e);
  coded = λ p m. a ∙ is.coded (subst (λ (n : ℕ). 0 < n) b p) m;
  published = λ e m. a ∙ is.published (sym c ∙ e) m;
  ended = λ e. is.ended (sym d ∙ e);
}

-- what a row is handed by the row above
sync_gives : (jobs : Jobs) (w : Wave) (o : RowResults) (q : ℕ) → w.width ≡ jobs.width → must_sync w q ≡ true → handed_to o (q - 1) ≡ inherited jobs (q - 1)
    → Some (jobs.second (q - 1) (handed_to o (q - 1))) ≡ inherited jobs q
unfolding inherited
sync_gives jobs w o zero same must above = absurd (cc)
sync_gives jobs w o (suc k) same must above =
    let p = and_parts (nat_lt 0 (suc k)) (nat_le 2 w.width) must in
    let wide : 2 ≤ w.width = leb-true 2 w.width p.1 in
    let one : suc k - 1 ≡ k = omega arith in
    let not_one : (jobs.width == 1) ≡ false = ne_eqb jobs.width 1 (λ e. omega (arith, same, wide, e)) in
    ap (λ (h : Option (List ℕ)). Some (jobs.second (suc k - 1) h)) above
    ∙ (ap (λ (n : ℕ). Some (jobs.second n (inherited jobs n))) one ∙ sym (cond-false (jobs.width == 1) _ _ not_one))

step : (jobs : Jobs) (rows : ℕ) (w : Wave) (o : RowResults) (e : Event) → 0 < jobs.width → Stands jobs rows w o → allows_row w e ≡ true → Stands jobs rows (after_event w e) (result_after jobs o e)
step jobs rows w o (Claim q) some st h =
    let p = and_parts _ _ h in
    let s : RowState = row_at w q in
    stands_after jobs rows q w o (record s { claimed = true }) o st (ltb-true q (length w.rows) p.1) st.handed_many st.finished_many (λ r ne. refl) (λ r ne. refl)
    (same_row s (record s { claimed = true }) refl refl refl refl (st.each q))
step jobs rows w o (Sync q) some st h =
    let p1 = and_parts _ _ h in
    let p2 = and_parts _ _ p1.0 in
    let p3 = and_parts _ _ p2.0 in
    let p4 = and_parts _ _ p3.0 in
    let s : RowState = row_at w q in
    let there : q < length w.rows = claimed_there w q p4.0 in
    let in_handed : q < length o.handed = (let a : length w.rows ≡ rows = st.many in let b : length o.handed ≡ rows = st.handed_many in omega arith) in
    let above : handed_to o (q - 1) ≡ inherited jobs (q - 1) =
    ready jobs w (q - 1) (row_at w (q - 1)) (handed_to o (q - 1)) (finished_of o (q - 1)) some st.width (st.each (q - 1)) ((st.each (q - 1)).published p2.1) in
    let now : Option (List ℕ) = Some (jobs.second (q - 1) (handed_to o (q - 1))) in
    stands_after jobs rows q w o (record s { synced = true }) (record o { handed = set o.handed q now }) st there (length-set o.handed q now ∙ st.handed_many) st.finished_many
    (λ r ne. get_or-set_other o.handed q r now None ne) (λ r ne. refl)
    (record {
      fresh = λ e. absurd (cc);
      synced = λ e. p4.1;
      given = λ e. get_or-set_same o.handed q now None in_handed ∙ sync_gives jobs w o q st.width p4.1 above;
      coded = λ c m. refl;
      published = λ e m. refl;
      ended = (st.each q).ended;
    })
step jobs rows w o (Code q) some st h =
    let p1 = and_parts _ _ h in
    let p2 = and_parts _ _ p1.0 in
    let p3 = and_parts _ _ p2.0 in
    let s : RowState = row_at w q in
    let is : IsRow jobs (must_sync w q) q s (handed_to o q) (finished_of o q) = st.each q in
    let has : must_sync w q ≡ true → s.synced ≡ true = λ m. ⊎_elim (λ n. absurd (let f : must_sync w q ≡ false = not-true (must_sync w q) n in cc)) (λ k. k) (or_cases (not (must_sync w q)) s.synced p3.1) in
    stands_after jobs rows q w o (record s { coded = s.coded + 1 }) o st (claimed_there w q p3.0) st.handed_many st.finished_many (λ r ne. refl) (λ r ne. refl)
    (record { fresh = is.fresh; synced = is.synced; given = is.given; coded = λ c m. has m; published = is.published; ended = is.ended })
step jobs rows w o (Publish q) some st h =
    let p1 = and_parts _ _ h in
    let p2 = and_parts _ _ p1.0 in
    let s : RowState = row_at w q in
    let is : IsRow jobs (must_sync w q) q s (handed_to o q) (finished_of o q) = st.each q in
    let two : s.coded ≡ 2 = eqb-true s.coded 2 p2.0 in
    let there : q < length w.rows = is_there w q (λ e. let z : s.coded ≡ 0 = ap (λ (t : RowState). t.coded) e in omega arith) in
    stands_after jobs rows q w o (record s { published = true }) o st there st.handed_many st.finished_many (λ r ne. refl) (λ r ne. refl)
    (record { fresh = is.fresh; synced = is.synced; given = is.given; coded = is.coded; published = λ e m. is.coded (omega arith) m; ended = is.ended })
step jobs rows w o (Finish q) some st h =
    let p1 = and_parts _ _ h in
    let p2 = and_parts _ _ p1.0 in
    let p3 = and_parts _ _ p2.0 in
    let p4 = and_parts _ _ p3.0 in
    let s : RowState = row_at w q in
    let is : IsRow jobs (must_sync w q) q s (handed_to o q) (finished_of o q) = st.each q in
    let in_finished : q < length o.finished = (let t : q < length w.rows = claimed_there w q p4.0 in let a : length w.rows ≡ rows = st.many in let b : length o.finished ≡ rows = st.finished_many in omega arith) in
    let has : must_sync w q ≡ true → s.synced ≡ true = λ m.
    let wide : nat_le 2 w.width ≡ true = (and_parts (nat_lt 0 q) (nat_le 2 w.width) m).1 in
    ⊎_elim (λ n. absurd (let f : nat_le 2 w.width ≡ false = not-true (nat_le 2 w.width) n in cc)) (λ k. is.published k m) (or_cases (not (nat_le 2 w.width)) s.published p1.1) in
    let now : Option (List ℕ) = Some (jobs.bytes q (handed_to o q)) in
    stands_after jobs rows q w o (record s { finished = true }) (record o { finished = set o.finished q now }) st (claimed_there w q p4.0) st.handed_many (length-set o.finished q now ∙ st.finished_many)
    (λ r ne. refl) (λ r ne. get_or-set_other o.finished q r now None ne)
    (record {
      fresh = is.fresh;
      synced = is.synced;
      given = is.given;
      coded = is.coded;
      published = is.published;
      ended = λ e. get_or-set_same o.finished q now None in_finished ∙ ap (λ (g : Option (List ℕ)). Some (jobs.bytes q g)) (ready jobs w q s (handed_to o q) (finished_of o q) some st.width is has);
    })
step jobs rows w o (Lose q) some st h =
    let p1 = and_parts _ _ h in
    let p2 = and_parts _ _ p1.0 in
    let p3 = and_parts _ _ p2.0 in
    let s : RowState = row_at w q in
    stands_after jobs rows q w o (record s { lost = true }) o st (claimed_there w q p3.0) st.handed_many st.finished_many (λ r ne. refl) (λ r ne. refl)
    (same_row s (record s { lost = true }) refl refl refl refl (st.each q))

-- ---- all events

runs : (jobs : Jobs) (rows : ℕ) (w : Wave) (o : RowResults) (es : List Event) → 0 < jobs.width → Stands jobs rows w o → AreLawful w es → Stands jobs rows (after_events w es) (fold (result_after jobs) o es)
runs jobs rows w o [] some st lawful = st
runs jobs rows w o (e ∷ es) some st lawful = runs jobs rows (after_event w e) (result_after jobs o e) es some (step jobs rows w o e some st lawful.0) lawful.1

all_same : {A : Type 0} (n i : ℕ) (x : A) → get_or (replicate n x) i x ≡ x
all_same zero i x = refl
all_same (suc n) zero x = refl
all_same (suc n) (suc i) x = all_same n i x

starts : (jobs : Jobs) (rows : ℕ) → Stands jobs rows (new_wave rows jobs.width) (record { handed = replicate rows None; finished = replicate rows None })
starts jobs rows = record {
  width = refl;
  many = length-replicate rows unclaimed;
  handed_many = length-replicate rows None;
  finished_many = length-replicate rows None;
  each = λ r.
      subst (λ (s : RowState). IsRow jobs (must_sync (new_wave rows jobs.width) r) r s (get_or (replicate rows None) r None) (get_or (replicate rows None) r None)) (sym (all_same rows r unclaimed))
      (record { fresh = λ e. all_same rows r None; synced = λ e. absurd (cc); given = λ e. absurd (cc); coded = λ c m. absurd (omega arith); published = λ e m. absurd (cc); ended = λ e. absurd (cc) });
}

pub schedules : EachScheduleGivesTheBytes
schedules jobs rows es some lawful finished =
    let st : Stands jobs rows (after_events (new_wave rows jobs.width) es) (results jobs rows es) = runs jobs rows (new_wave rows jobs.width) _ es some (starts jobs rows) lawful in
    fill_by_all (λ r. Some (row_bytes jobs r)) (results jobs rows es).finished rows None st.finished_many
    (λ r less. (st.each r).ended (finished r (let m : length (after_events (new_wave rows jobs.width) es).rows ≡ rows = st.many in omega arith)))
