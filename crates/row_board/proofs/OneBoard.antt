-- The table's rule gives the rule of the board.
use Rattle.std.proofs.lemmas.Bool.Decides.{nat_tests}
use Rattle.std.proofs.lemmas.List.Sums.{sum_by-cons}
use Rattle.std.proofs.lemmas.List.{map-append}
use Rattle.std.proofs.lemmas.Bool.{ltb-true, lt-ltb, eq-eqb, ne_eqb}
use Rattle.std.proofs.Common.{◌≡◌, ◌≢◌, ◌⊎◌, ℕ, zero, suc, ◌+◌, ◌<◌, ◌≤◌, ◌==◌, List, [], ◌∷◌, ◌++◌, map, length, get_or, min, Bool, true, false, nat_lt, if◌then◌else◌, Option, Some, None, refl, sym, ap, ◌∙◌, subst, inl, inr, ⊎_elim, arith, true≢false}
use Rattle.std.specs.Prelude.{sum_by, slice_index_or}
use Rattle.std.specs.List.{AllByRecursion}
use mathlib.Core.Logic.{dite}
use mathlib.Core.Option as maybe
use native.Mathlib.Decide.{ℕ_discrete, dec_lt}
use lib.ListN.{get_elem?}
use Rattle.atomic_table.specs.Table.{State}
use Rattle.h265_model.specs.Board as board
use Rattle.h265_model.specs.Board.{Seat, Slot, Rule, SeatRule, RowRule, SlotOf, SlotOfProgress, find_row, all_rows, claimed_of, has_synced, is_published, progress_published, word_of, word_of_progress, weight_past}
use Rattle.h265_model.proofs.EachOnce.{occurs, occurs-append, permuted}
use Rattle.row_core.specs.Plan.{Plan}
use Rattle.row_board.specs.declared.piece.Piece.{Piece}
use Rattle.row_board.specs.declared.piece.Piece.TheVariants.{Nothing, Job, Shown}
use Rattle.row_board.specs.declared.knowledge.Stage.{Stage}
use Rattle.row_board.specs.declared.knowledge.Stage.TheVariants.{Published}
use Rattle.row_board.specs.declared.knowledge.Claimed.{Claimed}
use Rattle.row_board.specs.declared.knowledge.Knowledge.{Knowledge}
use Rattle.row_board.specs.Rows.{total, times, claim_of, met_weight, ClaimIs, Kept, job_view, job_fits}
use Rattle.row_board.specs.OneBoard.{progress_of, row_of, seat_of, seats_of, slot_of, IsOneBoard}
use Rattle.row_board.proofs.Claims.{claim-here, claim-later, times-cons, same_claim, part-le, claimed-once}
use Rattle.row_board.proofs.OneWave.{has_claimer, each_stage, not_true}

-- ---- the seats with a share

module _ (x : Knowledge) (xs : List Knowledge) where
  skipped : x.weight ≡ 0 → seats_of (x ∷ xs) ≡ seats_of xs
  skipped is = rw (eq-eqb x.weight 0 is) refl

  listed : x.weight ≢ 0 → seats_of (x ∷ xs) ≡ seat_of x ∷ seats_of xs
  listed apart = rw (ne_eqb x.weight 0 apart) refl

abbrev AreGone : List Knowledge → Type 0
AreGone vs = (j : ℕ) (v : Knowledge) → get_elem? vs j ≡ maybe.some v → v.weight ≡ 0 → v.rows ≡ []

seats-all : (P : Seat → Type 0) (vs : List Knowledge) → ((j : ℕ) (v : Knowledge) → get_elem? vs j ≡ maybe.some v → 0 < v.weight → P (seat_of v)) → AllByRecursion P (seats_of vs)
seats-all P [] each = tt
seats-all P (x ∷ xs) each = dite (ℕ_discrete x.weight 0)
    (λ is. rw (skipped x xs is) (seats-all P xs (λ j v at live. each (suc j) v at live)))
    (λ apart. rw (listed x xs apart) (each 0 x refl (omega arith), seats-all P xs (λ j v at live. each (suc j) v at live)))

seats-weight : (vs : List Knowledge) → sum_by (λ s. s.weight) (seats_of vs) ≡ total (λ v. v.weight) vs
seats-weight [] = refl
seats-weight (x ∷ xs) = dite (ℕ_discrete x.weight 0)
    (λ is. rw (skipped x xs is) (let r = seats-weight xs in omega arith))
    (λ apart. rw (listed x xs apart) (sum_by-cons (λ s. s.weight) (seat_of x) (seats_of xs) ∙ (let r = seats-weight xs in omega arith)))

seats-past : (vs : List Knowledge) → sum_by weight_past (seats_of vs) ≡ total met_weight vs
seats-past [] = refl
seats-past (x ∷ xs) = dite (ℕ_discrete x.weight 0)
    (λ is. rw (skipped x xs is) (let r = seats-past xs in let e = light x.met_none x.weight is in omega arith))
    (λ apart. rw (listed x xs apart) (sum_by-cons weight_past (seat_of x) (seats_of xs) ∙ (let r = seats-past xs in omega arith)))
  where
    light : (b : Bool) (n : ℕ) → n ≡ 0 → (if b then n else 0) ≡ 0
    light true n is = is
    light false n is = refl

-- ---- the rows that they claimed

occurs-rows : (a picked : ℕ) (cs : List Claimed) → occurs a (map (λ (c : board.Claimed). c.row) (map (row_of picked) cs)) ≡ times a cs
occurs-rows a picked [] = refl
occurs-rows a picked (c ∷ cs) = ap (λ n. (if a == c.row then 1 else 0) + n) (occurs-rows a picked cs)

occurs-all : (vs : List Knowledge) → AreGone vs → (a : ℕ) → occurs a (map (λ c. c.row) (all_rows (seats_of vs))) ≡ total (λ v. times a v.rows) vs
occurs-all [] gone a = refl
occurs-all (x ∷ xs) gone a = dite (ℕ_discrete x.weight 0)
    (λ is. rw (skipped x xs is) (let r = occurs-all xs (λ j v at. gone (suc j) v at) a in let e : times a x.rows ≡ 0 = ap (times a) (gone 0 x refl is) in omega arith))
    (λ apart. rw (listed x xs apart) (ap (occurs a) (map-append (λ (c : board.Claimed). c.row) (map (row_of x.picked) x.rows) (all_rows (seats_of xs)))
    ∙ occurs-append a (map (λ (c : board.Claimed). c.row) (map (row_of x.picked) x.rows)) (map (λ c. c.row) (all_rows (seats_of xs)))
    ∙ (let r = occurs-all xs (λ j v at. gone (suc j) v at) a in let m = occurs-rows a x.picked x.rows in omega arith)))

-- one of them, among the seat's own rows or behind them
find-front : (picked r : ℕ) (c : Claimed) (cs : List Claimed) (rest : List board.Claimed) → claim_of r cs ≡ Some c → find_row (map (row_of picked) cs ++ rest) r ≡ Some (row_of picked c)
find-front picked r c [] rest e = absurd (cc)
find-front picked r c (d ∷ ds) rest e = dite (ℕ_discrete r d.row)
    (λ is. let it : d ≡ c = same_claim d c (sym (claim-here r d ds is) ∙ e) in rw (eq-eqb d.row r (sym is)) (ap (λ (x : Claimed). Some (row_of picked x)) it))
    (λ apart. rw (ne_eqb d.row r (λ g. apart (sym g))) (find-front picked r c ds rest (sym (claim-later r d ds apart) ∙ e)))

find-behind : (picked r : ℕ) (cs : List Claimed) (rest : List board.Claimed) → times r cs ≡ 0 → find_row (map (row_of picked) cs ++ rest) r ≡ find_row rest r
find-behind picked r [] rest e = refl
find-behind picked r (d ∷ ds) rest e = ⊎_elim
    (λ (t : (r ≡ d.row) × (times r (d ∷ ds) ≡ 1 + times r ds)). absurd (let z = t.1 in omega arith))
    (λ (t : (r ≢ d.row) × (times r (d ∷ ds) ≡ times r ds)). rw (ne_eqb d.row r (λ g. t.0 (sym g))) (find-behind picked r ds rest (let z = t.1 in omega arith)))
    (times-cons r d ds)

find-nobody : (vs : List Knowledge) (r : ℕ) → total (λ v. times r v.rows) vs ≡ 0 → claimed_of (seats_of vs) r ≡ None
find-nobody [] r e = refl
find-nobody (x ∷ xs) r e = dite (ℕ_discrete x.weight 0)
    (λ is. rw (skipped x xs is) (find-nobody xs r (omega arith)))
    (λ apart. rw (listed x xs apart) (find-behind x.picked r x.rows (all_rows (seats_of xs)) (omega arith) ∙ find-nobody xs r (omega arith)))

find-owner : (vs : List Knowledge) (j : ℕ) (v : Knowledge) (r : ℕ) (c : Claimed) → get_elem? vs j ≡ maybe.some v → 0 < v.weight → claim_of r v.rows ≡ Some c → total (λ v. times r v.rows) vs ≤ 1
    → claimed_of (seats_of vs) r ≡ Some (row_of v.picked c)
find-owner [] j v r c at live mine one = absurd (maybe.some-ne-none v (sym at))
find-owner (x ∷ xs) zero v r c at live mine one =
    let is = maybe.some-injective x v at in
    let heavy : x.weight ≢ 0 = λ z. let w : x.weight ≡ v.weight = ap (λ (u : Knowledge). u.weight) is in absurd (omega arith) in
    rw (listed x xs heavy)
    (find-front x.picked r c x.rows (all_rows (seats_of xs)) (ap (λ (u : Knowledge). claim_of r u.rows) is ∙ mine) ∙ ap (λ (u : Knowledge). Some (row_of u.picked c)) is)
find-owner (x ∷ xs) (suc j) v r c at live mine one =
    let a = claimed-once r c v.rows mine in
    let b = part-le (λ u. times r u.rows) xs j v at in
    dite (ℕ_discrete x.weight 0)
    (λ is. rw (skipped x xs is) (find-owner xs j v r c at live mine (omega arith)))
    (λ heavy. rw (listed x xs heavy) (find-behind x.picked r x.rows (all_rows (seats_of xs)) (omega arith) ∙ find-owner xs j v r c at live mine (omega arith)))

-- ---- the table

is_one_or_two : (n : ℕ) → 0 < n → n < 3 → n ≢ 2 → n ≡ 1
is_one_or_two n low high apart = omega arith

abbrev one_if : Bool → ℕ
one_if b = if b then 1 else 0

each_bool : (P : Bool → Type 0) (b : Bool) → (b ≡ true → P b) → (b ≡ false → P b) → P b
each_bool P true is isnt = is refl
each_bool P false is isnt = isnt refl

module _ {J : Type 0} (plan : J → Plan) (begun : J → Bool) (s : State (Piece J) Knowledge) (k : Kept (job_fits plan begun) s) where
  abbrev seats : List Seat
  seats = seats_of s.views

  abbrev slots : List Slot
  slots = map (slot_of plan begun) s.homes

  abbrev word : ℕ → ℕ
  word r = get_or s.words r 0

  slot_at : (homes : List (maybe.Option (Piece J))) (r : ℕ) (o : maybe.Option (Piece J)) → get_elem? homes r ≡ maybe.some o → slice_index_or (map (slot_of plan begun) homes) r board.Away ≡ slot_of plan begun o
  slot_at [] r o at = absurd (maybe.some-ne-none o (sym at))
  slot_at (x ∷ xs) zero o at = ap (slot_of plan begun) (maybe.some-injective x o at)
  slot_at (x ∷ xs) (suc r) o at = slot_at xs r o at

  -- what the seats say of a row: nothing of one that wasn't claimed
  record IsClaimed (r : ℕ) : Type 0 where
    picked : ℕ
    claim : Claimed
    says : claimed_of seats r ≡ Some (row_of picked claim)
    row : claim.row ≡ r
    is : ClaimIs s.words s.homes k.rows picked claim

  record IsUnclaimed (r : ℕ) : Type 0 where
    says : claimed_of seats r ≡ None
    free : r < k.rows → word 0 ≤ r

  tells : (r : ℕ) → IsClaimed r ⊎ IsUnclaimed r
  tells r = dite (dec_lt r k.rows)
      (λ inside. dite (dec_lt r (word 0))
      (λ taken.
      let one = k.once r inside taken in
      let x = has_claimer r s.views one in
      dite (ℕ_discrete x.1.weight 0)
      (λ spent. absurd (no_claim (sym (ap (claim_of r) (k.gone x.0 x.1 x.3 spent)) ∙ x.4)))
      (λ heavy.
      let cl = (k.each x.0 x.1 x.3 (omega arith)).claims r x.2 x.4 in
      inl record { picked = x.1.picked; claim = x.2; says = find-owner s.views x.0 x.1 r x.2 x.3 (omega arith) x.4 (omega arith); row = cl.0; is = cl.1 }))
      (λ not_taken. inr record { says = find-nobody s.views r (k.not_yet r (omega arith)); free = λ _. omega arith }))
      (λ outside. inr record { says = find-nobody s.views r (k.outside r (omega arith)); free = λ inside. absurd (outside inside) })
    where
      no_claim : {c : Claimed} → None ≡ Some c → ⊥
      no_claim e = cc

  abbrev below_synced : ℕ → Bool
  below_synced r = has_synced (claimed_of seats (r + 1))

  -- the word of a row is 2 exactly where the row below has synced
  shown_taken : (r : ℕ) → r < k.rows → below_synced r ≡ true → word (r + 1) ≡ 2
  shown_taken r inside sure = ⊎_elim
      (λ (t : IsClaimed (r + 1)). let e : t.claim.synced ≡ true = sym (ap has_synced t.says) ∙ sure in ap word (sym t.row) ∙ (t.is.synced e).1)
      (λ (t : IsUnclaimed (r + 1)). absurd (true≢false (sym (sym (ap has_synced t.says) ∙ sure))))
      (tells (r + 1))

  shown_left : (r : ℕ) → r < k.rows → below_synced r ≡ false → word (r + 1) ≢ 2
  shown_left r inside unsure two = ⊎_elim
      (λ (t : IsClaimed (r + 1)). let e : t.claim.synced ≡ false = sym (ap has_synced t.says) ∙ unsure in t.is.unsynced e (let z = t.row in omega arith) (ap word t.row ∙ two))
      (λ (t : IsUnclaimed (r + 1)). dite (dec_lt (r + 1) k.rows) (λ low. (k.waiting (r + 1) low (t.free low)).1 (omega arith) two) (λ high. high (k.taken r inside two).0))
      (tells (r + 1))

  -- a row by its claim
  module _ (r : ℕ) (inside : r < k.rows) (t : IsClaimed r) where
    here : word (t.claim.row + 1) ≡ word (r + 1)
    here = ap (λ (i : ℕ). word (i + 1)) t.row

    claimed_word : word (r + 1) ≡ word_of (claimed_of seats r) (below_synced r)
    claimed_word = each_stage (λ _. word (r + 1) ≡ word_of (claimed_of seats r) (below_synced r)) t.claim.stage
        (λ e. sym here ∙ t.is.open_word e ∙ stage_word e)
        (λ e. each_bool (λ b. below_synced r ≡ b → word (r + 1) ≡ word_of (claimed_of seats r) (below_synced r)) (below_synced r)
        (λ sure _. shown_taken r inside sure ∙ ap (λ (b : Bool). if b then 2 else 1) (sym sure) ∙ stage_word e)
        (λ unsure _. let p = t.is.published e in let p0 = p.0 in let p1 = p.1 in is_one_or_two (word (r + 1)) (let z = here in omega arith) (let z = here in omega arith) (shown_left r inside unsure) ∙ ap (λ (b : Bool). if b then 2 else 1) (sym unsure) ∙ stage_word e)
        refl)
        (λ e. sym here ∙ t.is.lost e ∙ stage_word e)
      where
        stage_word : {stage : Stage} → t.claim.stage ≡ stage → word_of_progress (progress_of stage) (below_synced r) ≡ word_of (claimed_of seats r) (below_synced r)
        stage_word e = ap (λ (st : Stage). word_of_progress (progress_of st) (below_synced r)) (sym e) ∙ ap (λ (o : Option board.Claimed). word_of o (below_synced r)) (sym t.says)

    claimed_slot : SlotOf k.width k.want k.give r (claimed_of seats r) (below_synced r) (slice_index_or slots r board.Away)
    claimed_slot = subst (λ (o : Option board.Claimed). SlotOf k.width k.want k.give r o (below_synced r) (slice_index_or slots r board.Away)) (sym t.says)
        (each_stage (λ st. SlotOfProgress k.want it (progress_of st) (below_synced r) slot) t.claim.stage
        (λ e. stage_slot e (dite (ℕ_discrete t.picked (t.claim.row + 1))
        (λ in_hand. slot_is maybe.none (t.is.in_hand e in_hand) ∙ sym (ap (λ (b : Bool). if b then board.Away else board.HomeEmpty) (eq-eqb t.picked (t.claim.row + 1) in_hand)))
        (λ free. slot_is (maybe.some Nothing) (t.is.open_slot e free) ∙ sym (ap (λ (b : Bool). if b then board.Away else board.HomeEmpty) (ne_eqb t.picked (t.claim.row + 1) free)))))
        (λ e. stage_slot e (each_bool (λ b. SlotOfProgress k.want it board.Published b slot) (below_synced r)
        (λ sure. subst (λ (b : Bool). SlotOfProgress k.want it board.Published b slot) (sym sure)
        (⊎_elim (λ away. inl (slot_at s.homes r maybe.none away)) (λ empty. inr (slot_at s.homes r (maybe.some Nothing) empty)) (k.taken r inside (shown_taken r inside sure)).1))
        (λ unsure. subst (λ (b : Bool). SlotOfProgress k.want it board.Published b slot) (sym unsure)
        (let p = t.is.published e in
        let p0 = p.0 in
        let p1 = p.1 in
        let x = k.shown r inside (is_one_or_two (word (r + 1)) (let z = here in omega arith) (let z = here in omega arith) (shown_left r inside unsure)) in
        slot_at s.homes r (maybe.some (Shown x.0)) x.1 ∙ ap (λ (l : List ℕ). board.HomeContexts l) (x.2 ∙ ap (λ (i : ℕ). slice_index_or k.want i []) (sym t.row))))))
        (λ e. stage_slot e (slot_is (maybe.some Nothing) (t.is.lost_slot e))))
      where
        it : board.Claimed
        it = row_of t.picked t.claim

        slot : Slot
        slot = slice_index_or slots r board.Away

        slot_is : (o : maybe.Option (Piece J)) → get_elem? s.homes t.claim.row ≡ maybe.some o → slot ≡ slot_of plan begun o
        slot_is o at = slot_at s.homes r o (ap (get_elem? s.homes) (sym t.row) ∙ at)

        stage_slot : {stage : Stage} → t.claim.stage ≡ stage → SlotOfProgress k.want it (progress_of stage) (below_synced r) slot → SlotOfProgress k.want it (progress_of t.claim.stage) (below_synced r) slot
        stage_slot e h = subst (λ (st : Stage). SlotOfProgress k.want it (progress_of st) (below_synced r) slot) (sym e) h

    -- a published row is at that stage
    is_at_stage : is_published (claimed_of seats r) ≡ true → t.claim.stage ≡ Published
    is_at_stage sure = each_stage (λ st. st ≡ Published) t.claim.stage
        (λ e. absurd (true≢false (sym (sym (ap (λ (st : Stage). progress_published (progress_of st)) e) ∙ (sym (ap is_published t.says) ∙ sure)))))
        (λ e. e)
        (λ e. absurd (true≢false (sym (sym (ap (λ (st : Stage). progress_published (progress_of st)) e) ∙ (sym (ap is_published t.says) ∙ sure)))))

    shows_published : word (r + 1) ≡ 2 → is_published (claimed_of seats r) ≡ true
    shows_published two = ap is_published t.says ∙ each_stage (λ _. progress_published (progress_of t.claim.stage) ≡ true) t.claim.stage
        (λ e. absurd (let z = t.is.open_word e in let y = here in omega arith))
        (λ e. ap (λ (st : Stage). progress_published (progress_of st)) e)
        (λ e. absurd (let z = t.is.lost e in let y = here in omega arith))

  not_published : (r : ℕ) → IsUnclaimed r → is_published (claimed_of seats r) ≡ true → ⊥
  not_published r t sure = true≢false (sym (sym (ap is_published t.says) ∙ sure))

  row_rule : (r : ℕ) → r < k.rows → RowRule k.width k.want k.give seats s.words slots r
  row_rule r inside = ⊎_elim
      (λ (t : IsClaimed r). record {
        word = claimed_word r inside t;
        slot = claimed_slot r inside t;
        above = λ sure. shows_published r inside t (shown_taken r inside sure);
        not_first = λ sure. let z = (t.is.synced (sym (ap has_synced t.says) ∙ sure)).0 in let y = t.row in omega arith;
        two_wide = λ sure. let p = t.is.published (is_at_stage r inside t sure) in let p0 = p.0 in let p1 = p.1 in let z = here r inside t in (k.each_word r inside).wide (omega arith) (omega arith);
        synced = λ low sure. ap has_synced t.says ∙ (t.is.published (is_at_stage r inside t sure)).2 (let y = t.row in omega arith);
      })
      (λ (t : IsUnclaimed r).
      let wait = k.waiting r inside (t.free inside) in
      record {
        word = wait.0 ∙ sym (ap (λ (o : Option board.Claimed). word_of o (below_synced r)) t.says);
        slot = subst (λ (o : Option board.Claimed). SlotOf k.width k.want k.give r o (below_synced r) (slice_index_or slots r board.Away)) (sym t.says) (job_view plan begun wait.2.0, wait.2.2, slot_at s.homes r (maybe.some (Job wait.2.0)) wait.2.1);
        above = λ sure. absurd (let two = shown_taken r inside sure in let z = wait.0 in omega arith);
        not_first = λ sure. absurd (true≢false (sym (sym (ap has_synced t.says) ∙ sure)));
        two_wide = λ sure. absurd (not_published r t sure);
        synced = λ low sure. absurd (not_published r t sure);
      })
      (tells r)

  length-slots : (homes : List (maybe.Option (Piece J))) → length (map (slot_of plan begun) homes) ≡ length homes
  length-slots [] = refl
  length-slots (x ∷ xs) = ap suc (length-slots xs)

  rows_once : (a : ℕ) → total (λ v. times a v.rows) s.views ≡ (if nat_lt a (0 + min (word 0) k.rows) then (if nat_lt a 0 then 0 else 1) else 0)
  rows_once a = dite (dec_lt a (word 0))
      (λ taken. dite (dec_lt a k.rows)
      (λ inside. k.once a inside taken ∙ (sym (ap one_if (lt-ltb a (min (word 0) k.rows) (omega arith))) ∙ below_all (min (word 0) k.rows)))
      (λ outside. k.outside a (omega arith) ∙ (sym (ap one_if (not_lt (omega arith))) ∙ below_all (min (word 0) k.rows))))
      (λ not_taken. k.not_yet a (omega arith) ∙ (sym (ap one_if (not_lt (omega arith))) ∙ below_all (min (word 0) k.rows)))
    where
      not_lt : {n : ℕ} → n ≤ a → nat_lt a n ≡ false
      not_lt {n} le = not_true _ (λ e. let z = ltb-true a n e in omega arith)

      below_all : (n : ℕ) → one_if (nat_lt a n) ≡ (if nat_lt a (0 + n) then (if nat_lt a 0 then 0 else 1) else 0)
      below_all n = grind (arith, nat_tests)

  pub is_one_board : IsOneBoard plan begun s
  is_one_board = record {
    rows = k.rows;
    width = k.width;
    want = k.want;
    give = k.give;
    rule = record {
      plan = k.made;
      words_long = k.wide;
      slots_long = length-slots s.homes ∙ k.deep;
      claimed = permuted (min (word 0) k.rows) 0 _ (λ a. occurs-all s.views k.gone a ∙ rows_once a);
      passed = let o = k.over in let e = seats-past s.views in omega arith;
      weights = seats-weight s.views ∙ k.weighs;
      each_seat = seats-all (SeatRule k.rows k.width k.want k.give s.words) s.views (λ j v at live.
          let f = k.each j v at live in record {
            same_width = f.same_width;
            same_want = f.same_want;
            same_give = f.same_give;
            met = f.met;
            weighs = live;
          });
      each_row = row_rule;
    };
  }
