-- Lawful events lead to what a front of rows, a row and the rows behind it show.
use Rattle.std.proofs.Common.{◌≡◌, ℕ, zero, suc, ◌+◌, ◌-◌, ◌<◌, ◌≤◌, List, [], ◌∷◌, ◌++◌, replicate, length, set, get_or, Bool, true, false, not, ◌&&◌, ◌||◌, if◌then◌else◌, refl, sym, ap, ◌∙◌, subst, arith, length-append, append-nil, append_assoc, true≢false}
use Rattle.std.specs.Prelude.{◌==◌, nat_lt, fold, cond}
use Rattle.std.specs.List.{AllByRecursion}
use Rattle.std.proofs.lemmas.Bool.{lt-ltb, le-leb, eq-eqb}
use mathlib.Core.Logic.{dite}
use native.Mathlib.Decide.{ℕ_discrete}
use Rattle.h265_model.specs.Wave.{RowState, Event, Claim, Sync, Code, Publish, Lose, unclaimed, Wave, row_at, claimed_count, must_sync, allows_row, changed, row_of_event, after_event, AreLawful, after_events}

pub and_both : (a b : Bool) → a ≡ true → b ≡ true → (a && b) ≡ true
and_both true b h k = k
and_both false b h k = h

pub or_right : (a b : Bool) → b ≡ true → (a || b) ≡ true
or_right true b h = refl
or_right false b h = h

not_or : (m s : Bool) → (m ≡ true → s ≡ true) → (not m || s) ≡ true
not_or true s h = h refl
not_or false s h = refl

-- ---- lists of events

abbrev pub Reach : Wave → Wave → Type 0
Reach w x = (es : List Event) × AreLawful w es × (after_events w es ≡ x)

lawful_then : (es fs : List Event) (w : Wave) → AreLawful w es → AreLawful (after_events w es) fs → AreLawful w (es ++ fs)
lawful_then [] fs w h k = k
lawful_then (e ∷ es) fs w h k = (h.0, lawful_then es fs (after_event w e) h.1 k)

after_then : (es fs : List Event) (w : Wave) → after_events w (es ++ fs) ≡ after_events (after_events w es) fs
after_then [] fs w = refl
after_then (e ∷ es) fs w = after_then es fs (after_event w e)

pub stay : (w : Wave) → Reach w w
stay w = ([], tt, refl)

happen : (w x : Wave) (e : Event) → allows_row w e ≡ true → after_event w e ≡ x → Reach w x
happen w x e lawful is = (e ∷ [], (lawful, tt), is)

pub go_on : (w x y : Wave) → Reach w x → Reach x y → Reach w y
go_on w x y a b = (a.0 ++ b.0, lawful_then a.0 b.0 w a.1 (subst (λ (u : Wave). AreLawful u b.0) (sym a.2) b.1), after_then a.0 b.0 w ∙ (ap (λ (u : Wave). after_events u b.0) a.2 ∙ b.2))

-- ---- a row behind a front

pub at_front : (front : List RowState) (x : RowState) (back : List RowState) → get_or (front ++ x ∷ back) (length front) unclaimed ≡ x
at_front [] x back = refl
at_front (y ∷ front) x back = at_front front x back

pub in_front : (front rest : List RowState) (r : ℕ) → r < length front → get_or (front ++ rest) r unclaimed ≡ get_or front r unclaimed
in_front [] rest r less = absurd (omega arith)
in_front (y ∷ front) rest zero less = refl
in_front (y ∷ front) rest (suc r) less = in_front front rest r (omega arith)

set_front : (front : List RowState) (x : RowState) (back : List RowState) (y : RowState) → set (front ++ x ∷ back) (length front) y ≡ front ++ y ∷ back
set_front [] x back y = refl
set_front (z ∷ front) x back y = ap (λ (l : List RowState). z ∷ l) (set_front front x back y)

-- ---- how many are claimed

abbrev one_if : Bool → ℕ
one_if b = cond b 1 0

abbrev count : ℕ → RowState → ℕ
count n s = n + one_if s.claimed

count_none : (m n : ℕ) → fold count n (replicate m unclaimed) ≡ n
count_none zero n = refl
count_none (suc m) n = count_none m (n + 0) ∙ omega arith

count_all : (front rest : List RowState) (n : ℕ) → AllByRecursion (λ s. s.claimed ≡ true) front → fold count n (front ++ rest) ≡ fold count (n + length front) rest
count_all [] rest n h = ap (λ (m : ℕ). fold count m rest) (let z : length {A = RowState} [] ≡ 0 = refl in omega arith)
count_all (x ∷ front) rest n h =
    let one : one_if x.claimed ≡ 1 = ap one_if h.0 in
    let more : (n + one_if x.claimed) + length front ≡ n + length (x ∷ front) = let l : length (x ∷ front) ≡ suc (length front) = refl in omega arith in
    count_all front rest (n + one_if x.claimed) h.1 ∙ ap (λ (m : ℕ). fold count m rest) more

pub claimed_front : (width : ℕ) (front : List RowState) (m : ℕ) → AllByRecursion (λ s. s.claimed ≡ true) front → claimed_count record { width = width; rows = front ++ unclaimed ∷ replicate m unclaimed } ≡ length front
claimed_front width front m h = count_all front (unclaimed ∷ replicate m unclaimed) 0 h ∙ (count_none (suc m) (0 + length front) ∙ omega arith)

-- ---- the events of one row

-- a claimed row
abbrev pub done : Bool → Bool → Bool → ℕ → RowState
done s p l n = record { claimed = true; synced = s; published = p; lost = l; finished = false; coded = n }

module _ (width : ℕ) (front back : List RowState) where
  abbrev pub with : RowState → Wave
  with x = record { width = width; rows = front ++ x ∷ back }

  after_here : (x : RowState) (e : Event) → row_of_event e ≡ length front → after_event (with x) e ≡ with (changed x e)
  after_here x e is =
      ap (λ (r : ℕ). record (with x) { rows = set (front ++ x ∷ back) r (changed (get_or (front ++ x ∷ back) r unclaimed) e) }) is
      ∙ (ap (λ (y : RowState). record (with x) { rows = set (front ++ x ∷ back) (length front) (changed y e) }) (at_front front x back)
      ∙ ap (λ (l : List RowState). record (with x) { rows = l }) (set_front front x back (changed x e)))

  claim_it : claimed_count (with unclaimed) ≡ length front → Reach (with unclaimed) (with (done false false false 0))
  claim_it counted = happen (with unclaimed) (with (done false false false 0)) (Claim (length front))
      (and_both _ _ (eq-eqb (length front) (claimed_count (with unclaimed)) (sym counted)) (lt-ltb (length front) (length (front ++ unclaimed ∷ back)) (omega (arith, length-append front (unclaimed ∷ back)))))
      (after_here unclaimed (Claim (length front)) refl)

  sync_it : 0 < length front → 2 ≤ width → (row_at (with (done false false false 0)) (length front - 1)).published ≡ true → Reach (with (done false false false 0)) (with (done true false false 0))
  sync_it below wide above =
      let x : RowState = done false false false 0 in
      happen (with x) (with (done true false false 0)) (Sync (length front))
      (subst (λ (s : RowState). (s.claimed && must_sync (with x) (length front) && s.coded == 0 && (row_at (with x) (length front - 1)).published && not s.synced) ≡ true) (sym (at_front front x back))
      (and_both _ _ (and_both _ _ (and_both _ _ (and_both _ _ refl (and_both _ _ (lt-ltb 0 (length front) below) (le-leb 2 width wide))) refl) above) refl))
      (after_here x (Sync (length front)) refl)

  code_it : (s : Bool) (n : ℕ) → (0 < length front → s ≡ true) → n < width → Reach (with (done s false false n)) (with (done s false false (n + 1)))
  code_it s n ready left =
      let x : RowState = done s false false n in
      happen (with x) (with (done s false false (n + 1))) (Code (length front))
      (subst (λ (y : RowState). (y.claimed && (not (must_sync (with x) (length front)) || y.synced) && not y.lost && nat_lt y.coded width) ≡ true) (sym (at_front front x back))
      (and_both _ _ (and_both _ _ (and_both _ _ refl (not_or (must_sync (with x) (length front)) s (λ m. ready (below m)))) refl) (lt-ltb n width left)))
      (after_here x (Code (length front)) refl)
    where
      below : must_sync (with (done s false false n)) (length front) ≡ true → 0 < length front
      below m = Rattle.std.proofs.lemmas.Bool.ltb-true 0 (length front) (Rattle.std.proofs.lemmas.Bool.and_parts _ _ m).0

  publish_it : (s : Bool) → Reach (with (done s false false 2)) (with (done s true false 2))
  publish_it s =
      let x : RowState = done s false false 2 in
      happen (with x) (with (done s true false 2)) (Publish (length front))
      (subst (λ (y : RowState). (y.coded == 2 && not y.published && not y.lost) ≡ true) (sym (at_front front x back)) refl)
      (after_here x (Publish (length front)) refl)

  lose_it : (s : Bool) → Reach (with (done s false false 0)) (with (done s false true 0))
  lose_it s =
      let x : RowState = done s false false 0 in
      happen (with x) (with (done s false true 0)) (Lose (length front))
      (subst (λ (y : RowState). (y.claimed && not y.published && not y.finished && not y.lost) ≡ true) (sym (at_front front x back)) refl)
      (after_here x (Lose (length front)) refl)

  synced_or_not : (s : Bool) → (s ≡ true → (0 < length front) × (2 ≤ width) × ((row_at (with (done false false false 0)) (length front - 1)).published ≡ true)) → Reach (with (done false false false 0)) (with (done s false false 0))
  synced_or_not true may = let m = may refl in sync_it m.0 m.1 m.2
  synced_or_not false may = stay (with (done false false false 0))

  ended_or_not : (s p l : Bool) → (p ≡ true → (2 ≤ width) × (l ≡ false) × (0 < length front → s ≡ true)) → Reach (with (done s false false 0)) (with (done s p l (if p then 2 else 0)))
  ended_or_not s false false may = stay (with (done s false false 0))
  ended_or_not s false true may = lose_it s
  ended_or_not s true true may = absurd (true≢false (may refl).1)
  ended_or_not s true false may =
      let m = may refl in
      go_on _ (with (done s false false 1)) _ (code_it s 0 m.2 (let w = m.0 in omega arith))
      (go_on _ (with (done s false false 2)) _ (code_it s 1 m.2 (let w = m.0 in omega arith)) (publish_it s))

  pub row_done : (s p l : Bool) → claimed_count (with unclaimed) ≡ length front
      → (s ≡ true → (0 < length front) × (2 ≤ width) × ((row_at (with (done false false false 0)) (length front - 1)).published ≡ true))
      → (p ≡ true → (2 ≤ width) × (l ≡ false) × (0 < length front → s ≡ true))
      → Reach (with unclaimed) (with (done s p l (if p then 2 else 0)))
  row_done s p l counted may_sync may_publish =
      go_on _ (with (done false false false 0)) _ (claim_it counted)
      (go_on _ (with (done s false false 0)) _ (synced_or_not s may_sync) (ended_or_not s p l may_publish))

-- ---- the first rows

abbrev pub upto : (ℕ → RowState) → ℕ → List RowState
upto f zero = []
upto f (suc n) = upto f n ++ f n ∷ []

pub length-upto : (f : ℕ → RowState) (n : ℕ) → length (upto f n) ≡ n
length-upto f zero = refl
length-upto f (suc n) = length-append (upto f n) (f n ∷ []) ∙ (let l = length-upto f n in let o : length (f n ∷ []) ≡ 1 = refl in omega arith)

pub upto_at : (f : ℕ → RowState) (n r : ℕ) → r < n → get_or (upto f n) r unclaimed ≡ f r
upto_at f zero r less = absurd (omega arith)
upto_at f (suc n) r less = dite (ℕ_discrete r n)
    (λ e. ap (λ (i : ℕ). get_or (upto f n ++ f n ∷ []) i unclaimed) (e ∙ sym (length-upto f n)) ∙ (at_front (upto f n) (f n) [] ∙ ap f (sym e)))
    (λ apart. in_front (upto f n) (f n ∷ []) r (let l = length-upto f n in omega arith) ∙ upto_at f n r (omega arith))

all_append : (xs : List RowState) (x : RowState) → AllByRecursion (λ s. s.claimed ≡ true) xs → x.claimed ≡ true → AllByRecursion (λ s. s.claimed ≡ true) (xs ++ x ∷ [])
all_append [] x h k = (k, tt)
all_append (y ∷ xs) x h k = (h.0, all_append xs x h.1 k)

pub all_claimed : (f : ℕ → RowState) (n : ℕ) → ((r : ℕ) → r < n → (f r).claimed ≡ true) → AllByRecursion (λ s. s.claimed ≡ true) (upto f n)
all_claimed f zero h = tt
all_claimed f (suc n) h = all_append (upto f n) (f n) (all_claimed f n (λ r less. h r (omega arith))) (h n (omega arith))

module _ (f : ℕ → RowState) (rows width : ℕ) where
  -- the first rows as f says, and the others as at the start
  abbrev pub first_done : ℕ → Wave
  first_done n = record { width = width; rows = upto f n ++ replicate (rows - n) unclaimed }

  pub row_next : (n : ℕ) → n < rows → Reach (with width (upto f n) (replicate (rows - suc n) unclaimed) unclaimed) (with width (upto f n) (replicate (rows - suc n) unclaimed) (f n)) → Reach (first_done n) (first_done (suc n))
  row_next n less step =
      let e : rows - n ≡ suc (rows - suc n) = omega arith in
      subst (λ (p : Wave × Wave). Reach p.0 p.1)
      (λ i. (
        record { width = width; rows = upto f n ++ replicate (sym e i) unclaimed },
        record { width = width; rows = sym (append_assoc (upto f n) (f n ∷ []) (replicate (rows - suc n) unclaimed)) i },
      ))
      step

  pub all_done : ((n : ℕ) → n < rows → Reach (first_done n) (first_done (suc n))) → Reach (Rattle.h265_model.specs.Wave.new_wave rows width) (record { width = width; rows = upto f rows })
  all_done next =
      let start : rows - 0 ≡ rows = omega arith in
      let nothing : rows - rows ≡ 0 = omega arith in
      subst (λ (p : Wave × Wave). Reach p.0 p.1)
      (λ i. (record { width = width; rows = replicate (start i) unclaimed }, record { width = width; rows = (ap (λ (m : ℕ). upto f rows ++ replicate m unclaimed) nothing ∙ append-nil (upto f rows)) i }))
      (go rows (omega arith))
    where
      go : (n : ℕ) → n ≤ rows → Reach (first_done 0) (first_done n)
      go zero less = stay (first_done 0)
      go (suc n) less = go_on _ (first_done n) _ (go n (omega arith)) (next n (omega arith))
