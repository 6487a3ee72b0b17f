-- Where a board's rule holds, its words and seats show a wave that lawful events lead to.
use Rattle.std.proofs.Common.{◌≡◌, ◌≢◌, ℕ, suc, ◌+◌, ◌-◌, ◌<◌, ◌≤◌, List, [], ◌∷◌, replicate, length, get_or, Bool, true, false, ◌&&◌, ◌||◌, if◌then◌else◌, Some, None, refl, sym, ap, ◌∙◌, subst, ⊎_elim, arith, true≢false}
use Rattle.std.specs.Prelude.{◌==◌, nat_lt}
use Rattle.std.proofs.lemmas.Bool.{and_parts, or_cases, eqb-true, ltb-true, lt-ltb, eq-eqb, ne_eqb}
use mathlib.Core.Logic.{dite}
use mathlib.Core.Option.{some}
use native.Mathlib.Decide.{ℕ_discrete, dec_lt}
use lib.ListN.{get_elem?}
use Rattle.atomic_table.specs.Table.{State}
use Rattle.h265_model.specs.Wave.{RowState, Wave, unclaimed, row_at}
use Rattle.h265_model.specs.Board.{ShowsRow}
use Rattle.row_board.specs.declared.piece.Piece.{Piece}
use Rattle.row_board.specs.declared.knowledge.Stage.{Stage}
use Rattle.row_board.specs.declared.knowledge.Stage.TheVariants.{Open, Published, Lost}
use Rattle.row_board.specs.declared.knowledge.Claimed.{Claimed}
use Rattle.row_board.specs.declared.knowledge.Knowledge.{Knowledge}
use Rattle.row_board.specs.Rows.{total, times, claim_of, ClaimIs, Kept}
use Rattle.row_board.specs.OneWave.{is_published, is_lost, Says, IsOneWave}
use Rattle.row_board.proofs.Claims.{claim-here, claim-later, times-cons}
use Rattle.row_board.proofs.Waves.{Reach, stay, and_both, or_right, in_front, done, with, row_done, claimed_front, upto, length-upto, upto_at, all_claimed, row_next, all_done}

-- ---- who claimed a row

has_claim : (r : ℕ) (cs : List Claimed) → times r cs ≢ 0 → (c : Claimed) × (claim_of r cs ≡ Some c)
has_claim r [] h = absurd (h refl)
has_claim r (c ∷ cs) h = ⊎_elim
    (λ (t : (r ≡ c.row) × (times r (c ∷ cs) ≡ 1 + times r cs)). (c, claim-here r c cs t.0))
    (λ (t : (r ≢ c.row) × (times r (c ∷ cs) ≡ times r cs)). let x = has_claim r cs (λ e. h (t.1 ∙ e)) in (x.0, claim-later r c cs t.0 ∙ x.1))
    (times-cons r c cs)

pub has_claimer : (r : ℕ) (vs : List Knowledge) → total (λ v. times r v.rows) vs ≡ 1 → (j : ℕ) × (v : Knowledge) × (c : Claimed) × (get_elem? vs j ≡ some v) × (claim_of r v.rows ≡ Some c)
has_claimer r [] h = absurd (omega arith)
has_claimer r (v ∷ vs) h = dite (ℕ_discrete (times r v.rows) 0)
    (λ nothing. let x = has_claimer r vs (omega arith) in (suc x.0, x.1, x.2, x.3, x.4))
    (λ some_claim. let c = has_claim r v.rows some_claim in (0, v, c.0, refl, c.1))

-- ---- what a word says

pub not_true : (b : Bool) → (b ≡ true → ⊥) → b ≡ false
not_true true h = absurd (h refl)
not_true false h = refl

or_left : (a b : Bool) → a ≡ true → (a || b) ≡ true
or_left true b h = refl
or_left false b h = absurd (true≢false (sym h))

shown_word : (n : ℕ) → (n == 1 || n == 2) ≡ true → (0 < n) × (n < 3)
shown_word n e = ⊎_elim (λ one. let z = eqb-true n 1 one in (omega arith, omega arith)) (λ two. let z = eqb-true n 2 two in (omega arith, omega arith)) (or_cases (n == 1) (n == 2) e)

word_shows : (n : ℕ) → 0 < n → n < 3 → (n == 1 || n == 2) ≡ true
word_shows n low high = dite (ℕ_discrete n 1) (λ one. or_left (n == 1) (n == 2) (eq-eqb n 1 one)) (λ no. or_right (n == 1) (n == 2) (eq-eqb n 2 (omega arith)))

-- ---- what the words show of a row

abbrev shows_synced : List ℕ → ℕ → Bool
shows_synced ws r = nat_lt 0 r && get_or ws r 0 == 2

abbrev shows_published : List ℕ → ℕ → Bool
shows_published ws r = get_or ws (r + 1) 0 == 1 || get_or ws (r + 1) 0 == 2

abbrev shows_lost : List ℕ → ℕ → Bool
shows_lost ws r = get_or ws (r + 1) 0 == 3

abbrev row_shown : List ℕ → ℕ → RowState
row_shown ws r = record {
  claimed = nat_lt r (get_or ws 0 0);
  synced = shows_synced ws r;
  published = shows_published ws r;
  lost = shows_lost ws r;
  finished = false;
  coded = if shows_published ws r then 2 else 0;
}

pub each_stage : (P : Stage → Type 0) (st : Stage) → (st ≡ Open → P st) → (st ≡ Published → P st) → (st ≡ Lost → P st) → P st
each_stage P Open a b c = a refl
each_stage P Published a b c = b refl
each_stage P Lost a b c = c refl

module _ {J : Type 0} (fits : ℕ → List (List ℕ) → List (List ℕ) → ℕ → J → Type 0) (s : State (Piece J) Knowledge) (k : Kept fits s) where
  abbrev f : ℕ → RowState
  f = row_shown s.words

  -- a row that was claimed, by its seat
  owner : (r : ℕ) → r < k.rows → r < get_or s.words 0 0 → (v : Knowledge) × (c : Claimed) × (c.row ≡ r) × ClaimIs s.words s.homes k.rows v.picked c
  owner r inside taken =
      let x = has_claimer r s.views (k.once r inside taken) in
      dite (ℕ_discrete x.1.weight 0)
      (λ spent. absurd (no_claim (sym (ap (claim_of r) (k.gone x.0 x.1 x.3 spent)) ∙ x.4)))
      (λ lives. let cl = (k.each x.0 x.1 x.3 (omega arith)).claims r x.2 x.4 in (x.1, x.2, cl.0, cl.1))
    where
      no_claim : {c : Claimed} → None ≡ Some c → ⊥
      no_claim e = cc

  claimed_word : (r : ℕ) → r < k.rows → 0 < get_or s.words (r + 1) 0 → r < get_or s.words 0 0
  claimed_word r inside some_word = dite (dec_lt r (get_or s.words 0 0)) (λ less. less) (λ no. absurd (let w = (k.waiting r inside (omega arith)).0 in omega arith))

  -- a published row but the first has synced
  synced_word : (r : ℕ) → r < k.rows → 0 < get_or s.words (r + 1) 0 → get_or s.words (r + 1) 0 < 3 → 0 < r → get_or s.words r 0 ≡ 2
  synced_word r inside low high below =
      let o = owner r inside (claimed_word r inside low) in
      let row : o.1.row ≡ r = o.2 in
      let here : get_or s.words (o.1.row + 1) 0 ≡ get_or s.words (r + 1) 0 = ap (λ (i : ℕ). get_or s.words (i + 1) 0) row in
      each_stage (λ _. get_or s.words r 0 ≡ 2) o.1.stage
      (λ e. absurd (let z = o.3.open_word e in omega arith))
      (λ e. ap (λ (i : ℕ). get_or s.words i 0) (sym row) ∙ (o.3.synced ((o.3.published e).2 (omega arith))).1)
      (λ e. absurd (let z = o.3.lost e in omega arith))

  not_claimed : (n : ℕ) → n < k.rows → get_or s.words 0 0 ≤ n → f n ≡ unclaimed
  not_claimed n inside above =
      let wait = k.waiting n inside above in
      let blank : get_or s.words (n + 1) 0 ≡ 0 = wait.0 in
      let c : nat_lt n (get_or s.words 0 0) ≡ false = not_true _ (λ e. let z = ltb-true n (get_or s.words 0 0) e in omega arith) in
      let y : shows_synced s.words n ≡ false = not_true _ (λ e. let p = and_parts (nat_lt 0 n) (get_or s.words n 0 == 2) e in wait.1 (ltb-true 0 n p.0) (eqb-true (get_or s.words n 0) 2 p.1)) in
      let p : shows_published s.words n ≡ false = not_true _ (λ e. let z = shown_word (get_or s.words (n + 1) 0) e in let z0 = z.0 in omega arith) in
      let l : shows_lost s.words n ≡ false = not_true _ (λ e. let z = eqb-true (get_or s.words (n + 1) 0) 3 e in omega arith) in
      λ i. record { claimed = c i; synced = y i; published = p i; lost = l i; finished = false; coded = if p i then 2 else 0 }

  is_claimed : (n : ℕ) → n < get_or s.words 0 0 → done (shows_synced s.words n) (shows_published s.words n) (shows_lost s.words n) (if shows_published s.words n then 2 else 0) ≡ f n
  is_claimed n taken = let c : nat_lt n (get_or s.words 0 0) ≡ true = lt-ltb n (get_or s.words 0 0) taken in
      λ i. record { claimed = sym c i; synced = shows_synced s.words n; published = shows_published s.words n; lost = shows_lost s.words n; finished = false; coded = if shows_published s.words n then 2 else 0 }

  abbrev back : ℕ → List RowState
  back n = replicate (k.rows - suc n) unclaimed

  may_sync : (n : ℕ) → n < k.rows → shows_synced s.words n ≡ true
      → (0 < length (upto f n)) × (2 ≤ k.width) × ((row_at (with k.width (upto f n) (back n) (done false false false 0)) (length (upto f n) - 1)).published ≡ true)
  may_sync n inside e =
      let p = and_parts (nat_lt 0 n) (get_or s.words n 0 == 2) e in
      let below : 0 < n = ltb-true 0 n p.0 in
      let two : get_or s.words n 0 ≡ 2 = eqb-true (get_or s.words n 0) 2 p.1 in
      let q : ℕ = n - 1 in
      let under : q + 1 ≡ n = omega arith in
      let word : get_or s.words (q + 1) 0 ≡ 2 = ap (λ (i : ℕ). get_or s.words i 0) under ∙ two in
      let long : length (upto f n) ≡ n = length-upto f n in
      let last : length (upto f n) - 1 ≡ q = omega arith in
      let x : RowState = done false false false 0 in (
        omega arith,
        (k.each_word q (omega arith)).wide (omega arith) (omega arith),
        ap (λ (r : RowState). r.published)
            (in_front (upto f n) (x ∷ back n) (length (upto f n) - 1) (omega arith) ∙ (ap (λ (i : ℕ). get_or (upto f n) i unclaimed) last ∙ upto_at f n q (omega arith)))
            ∙ or_right (get_or s.words (q + 1) 0 == 1) (get_or s.words (q + 1) 0 == 2) (eq-eqb (get_or s.words (q + 1) 0) 2 word),
      )

  may_publish : (n : ℕ) → n < k.rows → shows_published s.words n ≡ true → (2 ≤ k.width) × (shows_lost s.words n ≡ false) × (0 < length (upto f n) → shows_synced s.words n ≡ true)
  may_publish n inside e =
      let p = shown_word (get_or s.words (n + 1) 0) e in
      let low = p.0 in
      let high = p.1 in
      let long : length (upto f n) ≡ n = length-upto f n in (
        (k.each_word n inside).wide low high,
        ne_eqb (get_or s.words (n + 1) 0) 3 (λ three. omega arith),
        λ below. and_both (nat_lt 0 n) (get_or s.words n 0 == 2) (lt-ltb 0 n (omega arith)) (eq-eqb (get_or s.words n 0) 2 (synced_word n inside low high (omega arith))),
      )

  one_row : (n : ℕ) → n < k.rows → Reach (with k.width (upto f n) (back n) unclaimed) (with k.width (upto f n) (back n) (f n))
  one_row n inside = dite (dec_lt n (get_or s.words 0 0))
      (λ taken. subst (λ (x : RowState). Reach (with k.width (upto f n) (back n) unclaimed) (with k.width (upto f n) (back n) x)) (is_claimed n taken)
      (row_done k.width (upto f n) (back n) (shows_synced s.words n) (shows_published s.words n) (shows_lost s.words n)
      (claimed_front k.width (upto f n) (k.rows - suc n) (all_claimed f n (λ r less. lt-ltb r (get_or s.words 0 0) (omega arith))))
      (may_sync n inside)
      (may_publish n inside)))
      (λ no. subst (λ (x : RowState). Reach (with k.width (upto f n) (back n) unclaimed) (with k.width (upto f n) (back n) x)) (sym (not_claimed n inside (omega arith))) (stay (with k.width (upto f n) (back n) unclaimed)))

  says : (v : Knowledge) (r : ℕ) (c : Claimed) → c.row ≡ r → ClaimIs s.words s.homes k.rows v.picked c → Says c (f r)
  says v r c row is =
      let here : get_or s.words (r + 1) 0 ≡ get_or s.words (c.row + 1) 0 = ap (λ (i : ℕ). get_or s.words (i + 1) 0) (sym row) in
      let before : get_or s.words r 0 ≡ get_or s.words c.row 0 = ap (λ (i : ℕ). get_or s.words i 0) (sym row) in
      record {
        claimed = lt-ltb r (get_or s.words 0 0) (let t = is.taken in omega arith);
        published = each_stage (λ st. shows_published s.words r ≡ is_published st) c.stage
            (λ e. not_true _ (λ t. let z = is.open_word e in let w = (shown_word (get_or s.words (r + 1) 0) t).0 in omega arith) ∙ ap is_published (sym e))
            (λ e. let z = is.published e in let low = z.0 in let high = z.1 in word_shows (get_or s.words (r + 1) 0) (omega arith) (omega arith) ∙ ap is_published (sym e))
            (λ e. not_true _ (λ t. let z = is.lost e in let w = (shown_word (get_or s.words (r + 1) 0) t).1 in omega arith) ∙ ap is_published (sym e));
        lost = each_stage (λ st. shows_lost s.words r ≡ is_lost st) c.stage
            (λ e. let z = is.open_word e in ne_eqb (get_or s.words (r + 1) 0) 3 (λ t. omega arith) ∙ ap is_lost (sym e))
            (λ e. let z = (is.published e).1 in ne_eqb (get_or s.words (r + 1) 0) 3 (λ t. omega arith) ∙ ap is_lost (sym e))
            (λ e. let z = is.lost e in eq-eqb (get_or s.words (r + 1) 0) 3 (omega arith) ∙ ap is_lost (sym e));
        synced = each_bool (shows_synced s.words r ≡ c.synced) c.synced
            (λ e. let z = is.synced e in let low = z.0 in let two = z.1 in and_both (nat_lt 0 r) (get_or s.words r 0 == 2) (lt-ltb 0 r (omega arith)) (eq-eqb (get_or s.words r 0) 2 (omega arith)) ∙ sym e)
            (λ e. not_true _ (λ t. let p = and_parts (nat_lt 0 r) (get_or s.words r 0 == 2) t in is.unsynced e (let z = ltb-true 0 r p.0 in omega arith) (let z = eqb-true (get_or s.words r 0) 2 p.1 in omega arith)) ∙ sym e);
      }
    where
      each_bool : (P : Type 0) (b : Bool) → (b ≡ true → P) → (b ≡ false → P) → P
      each_bool P true is isnt = is refl
      each_bool P false is isnt = isnt refl

  pub is_one_wave : IsOneWave s
  is_one_wave =
      let wave : Wave = record { width = k.width; rows = upto f k.rows } in
      let shown : (r : ℕ) → r < k.rows → row_at wave r ≡ f r = upto_at f k.rows in
      record {
        rows = k.rows;
        width = k.width;
        wave = wave;
        same_width = refl;
        sized = length-upto f k.rows;
        each_has_a_word = k.wide;
        seats_width = λ j v at live. (k.each j v at live).same_width;
        words = λ r inside. subst (ShowsRow s.words r) (sym (shown r inside)) record { claimed = refl; published = refl; lost = refl; synced = refl };
        seats = λ j v at live r c mine.
            let cl = (k.each j v at live).claims r c mine in
            let inside : r < k.rows = let i = cl.1.inside in let e = cl.0 in omega arith in
            (inside, subst (Says c) (sym (shown r inside)) (says v r c cl.0 cl.1));
        once = λ r inside e. k.once r inside (ltb-true r (get_or s.words 0 0) (sym (ap (λ (x : RowState). x.claimed) (shown r inside)) ∙ e));
        nobody = λ r inside e. dite (dec_lt r (get_or s.words 0 0))
            (λ less. absurd (true≢false (sym (lt-ltb r (get_or s.words 0 0) less) ∙ (sym (ap (λ (x : RowState). x.claimed) (shown r inside)) ∙ e))))
            (λ no. k.not_yet r (omega arith));
        reached = all_done f k.rows k.width (λ n inside. row_next f k.rows k.width n inside (one_row n inside));
      }
