-- Each step keeps the rule of the board.
use Rattle.std.proofs.Common.{◌≡◌, ◌≢◌, ◌⊎◌, ℕ, ◌+◌, ◌-◌, ◌^◌, ◌%◌, ◌<◌, ◌≤◌, eqb, List, ◌∷◌, length, set, get_or, Bool, true, false, if◌then◌else◌, Some, refl, sym, ap, ◌∙◌, subst, inl, inr, ⊎_elim, arith, length-set, get_or-set_same, get_or-set_other, true≢false}
use mathlib.Core.Logic.{dite}
use mathlib.Core.Option.{some, none, some-injective}
use mathlib.Core.Option as maybe
use native.Mathlib.Decide.{ℕ_discrete, dec_lt}
use lib.ListN.{get_elem?}
use lib.Seq.{set-get_or}
use prog.Atomic.{either}
use Rattle.atomic_table.specs.Table.{State, Me, Act, Valid, carried_after, step, keeps, takes, gives, stepped, Allows, rest}
use Rattle.atomic_table.proofs.Lists.{at_set, exchanged, set_here, set_else}
use Rattle.row_board.specs.declared.piece.Piece.{Piece}
use Rattle.row_board.specs.declared.piece.Piece.TheVariants.{Nothing, Job, Shown}
use Rattle.row_board.specs.declared.knowledge.Stage.TheVariants.{Open, Published, Lost}
use Rattle.row_board.specs.declared.knowledge.Claimed.{Claimed}
use Rattle.row_board.specs.declared.knowledge.Knowledge.{Knowledge}
use Rattle.row_board.specs.Rows.{total, times, claim_of, change, at_stage, in_sync, wanted, ClaimIs, SeatFits, IsWord, IsTaken, met_weight, Kept, finds, claims, meets_none, claimed, laid, picked_up, published, lost, synced}
use Rattle.row_board.specs.Laws.{IsOpen}
use Rattle.row_board.proofs.Claims.{total-set, total-le, claim-here, claim-later, times-cons, times-change, claim-change-same, claim-change-other, alone}

module _ {J : Type 0} where
  -- a claim that a step of another seat, or at another row, does not touch
  pub claim_stays : (words words' : List ℕ) (homes homes' : List (maybe.Option (Piece J))) (rows picked : ℕ) (c : Claimed) → get_or words 0 0 ≤ get_or words' 0 0
      → (get_or words' (c.row + 1) 0 ≡ get_or words (c.row + 1) 0) ⊎ ((get_or words (c.row + 1) 0 ≡ 1) × (get_or words' (c.row + 1) 0 ≡ 2))
      → (0 < c.row → (get_or words' c.row 0 ≡ get_or words c.row 0) ⊎ ((get_or words c.row 0 ≢ 2) × (get_or words' c.row 0 ≢ 2)))
      → (get_or words (c.row + 1) 0 ≢ 1 → get_or words (c.row + 1) 0 ≢ 2 → get_elem? homes' c.row ≡ get_elem? homes c.row)
      → ClaimIs words homes rows picked c → ClaimIs words' homes' rows picked c
  claim_stays words words' homes homes' rows picked c more here above home is = record {
    inside = is.inside;
    taken = let t = is.taken in omega arith;
    open_word = λ e. let z = is.open_word e in ⊎_elim (λ t. t ∙ z) (λ t. absurd (let a = t.0 in omega arith)) here;
    open_slot = λ e p. let z = is.open_word e in home (λ a. omega arith) (λ a. omega arith) ∙ is.open_slot e p;
    in_hand = λ e p. let z = is.open_word e in home (λ a. omega arith) (λ a. omega arith) ∙ is.in_hand e p;
    published = λ e. let z = is.published e in ⊎_elim (λ t. (subst (λ (n : ℕ). 0 < n) (sym t) z.0, subst (λ (n : ℕ). n < 3) (sym t) z.1, z.2)) (λ t. let b = t.1 in (omega arith, omega arith, z.2)) here;
    lost = λ e. let z = is.lost e in ⊎_elim (λ t. t ∙ z) (λ t. absurd (let a = t.0 in omega arith)) here;
    lost_slot = λ e. let z = is.lost e in home (λ a. omega arith) (λ a. omega arith) ∙ is.lost_slot e;
    synced = λ e. let z = is.synced e in (z.0, ⊎_elim (λ t. t ∙ z.1) (λ t. absurd (t.0 z.1)) (above z.0));
    unsynced = λ e p. ⊎_elim (λ t q. is.unsynced e p (sym t ∙ q)) (λ t. t.1) (above p);
  }

  seat_stays : (words words' : List ℕ) (homes homes' : List (maybe.Option (Piece J))) (rows width : ℕ) (want give : List (List ℕ)) (v : Knowledge) → get_or words 0 0 ≤ get_or words' 0 0
      → ((r : ℕ) (c : Claimed) → claim_of r v.rows ≡ Some c → c.row ≡ r → ClaimIs words homes rows v.picked c → ClaimIs words' homes' rows v.picked c)
      → SeatFits words homes rows width want give v → SeatFits words' homes' rows width want give v
  seat_stays words words' homes homes' rows width want give v more claims fits = record {
    same_width = fits.same_width;
    same_want = fits.same_want;
    same_give = fits.same_give;
    met = λ e. let m = fits.met e in omega arith;
    claims = λ r c e. let k = fits.claims r c e in (k.0, claims r c e k.0 k.1);
  }

module _ {J : Type 0} (fits : ℕ → List (List ℕ) → List (List ℕ) → ℕ → J → Type 0) where
  abbrev St : Type 0
  St = State (Piece J) Knowledge

  abbrev Rule : St → Type 0
  Rule = Kept fits

  -- a step of one seat that claims no row
  kept_set : (s : St) (k : Rule s) (words' : List ℕ) (homes' : List (maybe.Option (Piece J))) (id : ℕ) (v w : Knowledge) → get_elem? s.views id ≡ some v → 0 < v.weight
      → length words' ≡ length s.words → length homes' ≡ length s.homes → get_or words' 0 0 ≡ get_or s.words 0 0
      → w.weight ≡ v.weight → w.met_none ≡ v.met_none → ((q : ℕ) → times q w.rows ≡ times q v.rows)
      → SeatFits words' homes' k.rows k.width k.want k.give w
      → ((j : ℕ) (u : Knowledge) → j ≢ id → get_elem? s.views j ≡ some u → SeatFits s.words s.homes k.rows k.width k.want k.give u → SeatFits words' homes' k.rows k.width k.want k.give u)
      → ((r : ℕ) → r < k.rows → get_or s.words 0 0 ≤ r → (get_or words' (r + 1) 0 ≡ get_or s.words (r + 1) 0) × (0 < r → get_or s.words r 0 ≢ 2 → get_or words' r 0 ≢ 2) × (get_elem? homes' r ≡ get_elem? s.homes r))
      → ((r : ℕ) → r < k.rows → get_or words' (r + 1) 0 ≡ 1 → (c : List ℕ) × (get_elem? homes' r ≡ some (some (Shown c))) × (c ≡ wanted k.want r))
      → ((r : ℕ) → r < k.rows → get_or words' (r + 1) 0 ≡ 2 → (r + 1 < k.rows) × IsTaken (get_elem? homes' r))
      → ((r : ℕ) → r < k.rows → IsWord k.width (get_or words' (r + 1) 0))
      → Rule record { words = words'; homes = homes'; views = set s.views id w }
  kept_set s k words' homes' id v w at live wide deep first weight met count mine others waiting shown taken low =
      let sums : (q : ℕ) → total (λ u. times q u.rows) (set s.views id w) ≡ total (λ u. times q u.rows) s.views = λ q. let t = total-set (λ u. times q u.rows) s.views id v w at in let c = count q in omega arith in record {
        rows = k.rows;
        width = k.width;
        want = k.want;
        give = k.give;
        made = k.made;
        wide = wide ∙ k.wide;
        deep = deep ∙ k.deep;
        each = λ j u there alive. ⊎_elim
            (λ (t : (j ≡ id) × (w ≡ u)). subst (SeatFits words' homes' k.rows k.width k.want k.give) t.1 mine)
            (λ (t : (j ≢ id) × (get_elem? s.views j ≡ some u)). others j u t.0 t.1 (k.each j u t.1 alive))
            (at_set s.views id j w u there);
        gone = λ j u there none_left. ⊎_elim
            (λ (t : (j ≡ id) × (w ≡ u)). absurd (let e : w.weight ≡ u.weight = ap (λ (x : Knowledge). x.weight) t.1 in omega arith))
            (λ (t : (j ≢ id) × (get_elem? s.views j ≡ some u)). k.gone j u t.1 none_left)
            (at_set s.views id j w u there);
        once = λ r inside taken. sums r ∙ k.once r inside (let e = first in omega arith);
        not_yet = λ r above. sums r ∙ k.not_yet r (let e = first in omega arith);
        outside = λ r above. sums r ∙ k.outside r above;
        waiting = λ r inside above.
            let old = k.waiting r inside (let e = first in omega arith) in
            let same = waiting r inside (let e = first in omega arith) in
            (same.0 ∙ old.0, (λ p. same.1 p (old.1 p)), (old.2.0, same.2 ∙ old.2.1, old.2.2));
        shown = shown;
        taken = taken;
        each_word = low;
        weighs = let t = total-set (λ u. u.weight) s.views id v w at in let z = k.weighs in omega arith;
        over =
            let t = total-set met_weight s.views id v w at in
            let z = k.over in
            let m : met_weight w ≡ met_weight v = λ i. if met i then weight i else 0 in
            omega arith;
      }

  -- what a store at the word of an open row leaves as it was
  others_stay : (s : St) (k : Rule s) (r new : ℕ) (homes' : List (maybe.Option (Piece J))) (id : ℕ) (v : Knowledge) (c : Claimed) → get_elem? s.views id ≡ some v → claim_of r v.rows ≡ Some c → r < k.rows → r < get_or s.words 0 0
      → get_or s.words (r + 1) 0 ≡ 0 → new ≢ 2 → ((q : ℕ) → q ≢ r → get_elem? homes' q ≡ get_elem? s.homes q)
      → (j : ℕ) (u : Knowledge) → j ≢ id → get_elem? s.views j ≡ some u → SeatFits s.words s.homes k.rows k.width k.want k.give u → SeatFits (set s.words (r + 1) new) homes' k.rows k.width k.want k.give u
  others_stay s k r new homes' id v c at mine inside taken blank not_two homes j u apart there fits' =
      let wide = k.wide in
      let first : get_or (set s.words (r + 1) new) 0 0 ≡ get_or s.words 0 0 = get_or-set_other s.words (r + 1) 0 new 0 (λ e. omega arith) in
      seat_stays s.words (set s.words (r + 1) new) s.homes homes' k.rows k.width k.want k.give u (let e = first in omega arith)
      (λ q d theirs row is.
      let other : q ≢ r = λ e. alone r s.views id v c at mine (let o = k.once r inside taken in omega arith) j u d apart there (ap (λ (z : ℕ). claim_of z u.rows) (sym e) ∙ theirs) in
      claim_stays s.words (set s.words (r + 1) new) s.homes homes' k.rows u.picked d (let e = first in omega arith)
      (inl (get_or-set_other s.words (r + 1) (d.row + 1) new 0 (λ e. other (let f = row in omega arith))))
      (λ p. dite (ℕ_discrete d.row (r + 1))
      (λ e. inr (
        (λ two. let z : get_or s.words d.row 0 ≡ 0 = ap (λ (i : ℕ). get_or s.words i 0) e ∙ blank in omega arith),
        (λ two. not_two (sym (ap (λ (i : ℕ). get_or (set s.words (r + 1) new) i 0) e ∙ get_or-set_same s.words (r + 1) new 0 (omega arith)) ∙ two)),
      ))
      (λ n. inl (get_or-set_other s.words (r + 1) d.row new 0 n)))
      (λ _ _. homes d.row (λ e. other (sym row ∙ e)))
      is)
      fits'

  abbrev M : Type 0
  M = Me (Piece J) Knowledge

  one_row : (r q : ℕ) → r + 1 ≡ q + 1 → r ≡ q
  one_row r q e = omega arith

  -- the seat's own claims after the claim of row r goes from c to f c, where the word of the row becomes new
  own_claims : (s : St) (k : Rule s) (r new picked : ℕ) (homes' : List (maybe.Option (Piece J))) (f : Claimed → Claimed) (same : (d : Claimed) → (f d).row ≡ d.row) (id : ℕ) (v : Knowledge) (c : Claimed)
      → SeatFits s.words s.homes k.rows k.width k.want k.give v → claim_of r v.rows ≡ Some c → get_or s.words (r + 1) 0 ≡ 0 → new ≢ 2 → r < k.rows
      → (picked ≡ 0) → ((v.picked ≡ 0) ⊎ (v.picked ≡ r + 1)) → ((q : ℕ) → q ≢ r → get_elem? homes' q ≡ get_elem? s.homes q)
      → ClaimIs (set s.words (r + 1) new) homes' k.rows picked (f c)
      → (q : ℕ) (d : Claimed) → claim_of q (change r f v.rows) ≡ Some d → (d.row ≡ q) × ClaimIs (set s.words (r + 1) new) homes' k.rows picked d
  own_claims s k r new picked homes' f same id v c fits' mine blank not_two inside none_picked was homes new_claim q d at = dite (ℕ_discrete q r)
      (λ is.
      let it : f c ≡ d = some_is (f c) d (sym (claim-change-same f same r c v.rows mine) ∙ (ap (λ (z : ℕ). claim_of z (change r f v.rows)) (sym is) ∙ at)) in
      let row : (f c).row ≡ r = same c ∙ (fits'.claims r c mine).0 in
      (ap (λ (x : Claimed). x.row) (sym it) ∙ (row ∙ sym is), subst (ClaimIs (set s.words (r + 1) new) homes' k.rows picked) it new_claim))
      (λ apart.
      let o = fits'.claims q d (sym (claim-change-other f same q r v.rows apart) ∙ at) in
      let wide = k.wide in
      let first : get_or (set s.words (r + 1) new) 0 0 ≡ get_or s.words 0 0 = get_or-set_other s.words (r + 1) 0 new 0 (λ e. omega arith) in
      let row = o.0 in
      let stays = claim_stays s.words (set s.words (r + 1) new) s.homes homes' k.rows v.picked d (let e = first in omega arith)
      (inl (get_or-set_other s.words (r + 1) (d.row + 1) new 0 (λ e. apart (let f = row in omega arith))))
      (λ p. dite (ℕ_discrete d.row (r + 1))
      (λ e. inr (
        (λ two. let z : get_or s.words d.row 0 ≡ 0 = ap (λ (i : ℕ). get_or s.words i 0) e ∙ blank in omega arith),
        (λ two. not_two (sym (ap (λ (i : ℕ). get_or (set s.words (r + 1) new) i 0) e ∙ get_or-set_same s.words (r + 1) new 0 (omega arith)) ∙ two)),
      ))
      (λ n. inl (get_or-set_other s.words (r + 1) d.row new 0 n)))
      (λ _ _. homes d.row (λ e. apart (sym row ∙ e)))
      o.1 in
      (row, repick (set s.words (r + 1) new) homes' k.rows v.picked picked d (λ e. ⊎_elim (λ z. omega arith) (λ z. apart (let f = row in omega arith)) was) (λ e. omega arith) stays))
    where
      some_is : (x y : Claimed) → Some x ≡ Some y → x ≡ y
      some_is x y e = cc

      -- another slot in hand, which is not this claim's
      repick : (words : List ℕ) (homes : List (maybe.Option (Piece J))) (rows p p' : ℕ) (d : Claimed) → (p ≡ d.row + 1 → ⊥) → (p' ≡ d.row + 1 → ⊥) → ClaimIs words homes rows p d → ClaimIs words homes rows p' d
      repick words homes rows p p' d free free' is = record {
        inside = is.inside;
        taken = is.taken;
        open_word = is.open_word;
        open_slot = λ e _. is.open_slot e free;
        in_hand = λ _ e. absurd (free' e);
        published = is.published;
        lost = is.lost;
        lost_slot = is.lost_slot;
        synced = is.synced;
        unsynced = is.unsynced;
      }

  -- the word of an open row r becomes new, 1 or 3
  settles : (s : St) (k : Rule s) (r new : ℕ) (homes' : List (maybe.Option (Piece J))) (f : Claimed → Claimed) (same : (d : Claimed) → (f d).row ≡ d.row) (id : ℕ) (v w : Knowledge) (c : Claimed) → get_elem? s.views id ≡ some v → IsOpen v r c
      → w ≡ record v { rows = change r f v.rows; picked = 0 } → ((v.picked ≡ 0) ⊎ (v.picked ≡ r + 1)) → new ≢ 2 → IsWord k.width new → length homes' ≡ length s.homes → ((q : ℕ) → q ≢ r → get_elem? homes' q ≡ get_elem? s.homes q)
      → (new ≡ 1 → (x : List ℕ) × (get_elem? homes' r ≡ some (some (Shown x))) × (x ≡ wanted k.want r))
      → (r < k.rows → r < get_or s.words 0 0 → ClaimIs s.words s.homes k.rows v.picked c → ClaimIs (set s.words (r + 1) new) homes' k.rows 0 (f c))
      → Rule record { words = set s.words (r + 1) new; homes = homes'; views = set s.views id w }
  settles s k r new homes' f same id v w c at is_open is picked not_two small deep homes shows own =
      let fits' = k.each id v at is_open.live in
      let cl = fits'.claims r c is_open.mine in
      let row = cl.0 in
      let inside : r < k.rows = let i = cl.1.inside in omega arith in
      let taken : r < get_or s.words 0 0 = let i = cl.1.taken in omega arith in
      let blank : get_or s.words (r + 1) 0 ≡ 0 = ap (λ (z : ℕ). get_or s.words (z + 1) 0) (sym row) ∙ cl.1.open_word is_open.open_yet in
      let wide = k.wide in
      let first : get_or (set s.words (r + 1) new) 0 0 ≡ get_or s.words 0 0 = get_or-set_other s.words (r + 1) 0 new 0 (λ e. omega arith) in
      let here : get_or (set s.words (r + 1) new) (r + 1) 0 ≡ new = get_or-set_same s.words (r + 1) new 0 (omega arith) in
      kept_set s k (set s.words (r + 1) new) homes' id v w at is_open.live (length-set s.words (r + 1) new) deep first (ap (λ (u : Knowledge). u.weight) is) (ap (λ (u : Knowledge). u.met_none) is)
      (λ q. ap (λ (u : Knowledge). times q u.rows) is ∙ times-change f same q r v.rows)
      (subst (SeatFits (set s.words (r + 1) new) homes' k.rows k.width k.want k.give) (sym is) record {
        same_width = fits'.same_width;
        same_want = fits'.same_want;
        same_give = fits'.same_give;
        met = λ e. let m = fits'.met e in let z = first in omega arith;
        claims = own_claims s k r new 0 homes' f same id v c fits' is_open.mine blank not_two inside refl picked homes (own inside taken cl.1);
      })
      (others_stay s k r new homes' id v c at is_open.mine inside taken blank not_two homes)
      (λ q low above. (
        get_or-set_other s.words (r + 1) (q + 1) new 0 (λ e. omega arith),
        (λ p n. dite (ℕ_discrete q (r + 1))
            (λ e two. not_two (sym (ap (λ (i : ℕ). get_or (set s.words (r + 1) new) i 0) e ∙ here) ∙ two))
            (λ e two. n (sym (get_or-set_other s.words (r + 1) q new 0 e) ∙ two))),
        homes q (λ e. omega arith),
      ))
      (λ q low one. dite (ℕ_discrete q r)
      (λ e.
      let x = shows (sym (ap (λ (i : ℕ). get_or (set s.words (r + 1) new) (i + 1) 0) e ∙ here) ∙ one) in
      (x.0, ap (get_elem? homes') e ∙ x.1, x.2 ∙ ap (wanted k.want) (sym e)))
      (λ e.
      let x = k.shown q low (sym (get_or-set_other s.words (r + 1) (q + 1) new 0 (λ g. e (omega arith))) ∙ one) in
      (x.0, homes q e ∙ x.1, x.2)))
      (λ q low two. dite (ℕ_discrete q r)
      (λ e. absurd (not_two (sym (ap (λ (i : ℕ). get_or (set s.words (r + 1) new) (i + 1) 0) e ∙ here) ∙ two)))
      (λ e.
      let x = k.taken q low (sym (get_or-set_other s.words (r + 1) (q + 1) new 0 (λ g. e (omega arith))) ∙ two) in
      (x.0, subst IsTaken (sym (homes q e)) x.1)))
      (λ q low. dite (ℕ_discrete q r)
      (λ e. subst (IsWord k.width) (sym (ap (λ (i : ℕ). get_or (set s.words (r + 1) new) (i + 1) 0) e ∙ here)) small)
      (λ e. subst (IsWord k.width) (sym (get_or-set_other s.words (r + 1) (q + 1) new 0 (λ g. e (omega arith)))) (k.each_word q low)))

  -- what a store needs of the row
  same_above : (s : St) (r new n : ℕ) → n ≡ r → get_or (set s.words (r + 1) new) n 0 ≡ get_or s.words n 0
  same_above s r new n e = get_or-set_other s.words (r + 1) n new 0 (λ g. omega arith)

  pub publishes : (slots id r : ℕ) (me : M) (c : Claimed) (x : List ℕ) (cs : List (ℕ × Piece J)) → IsOpen me.0 r c → me.0.picked ≡ r + 1 → me.1 ≡ (r, Shown x) ∷ cs → 2 ≤ me.0.width → x ≡ wanted me.0.want r → (0 < r → c.synced ≡ true)
      → Allows Rule slots id me (r + 1) (λ _. 1) (λ _. published (step slots (r + 1) 1 0 none) me 1)
  publishes slots id r me c x cs is_open picked carried two_wide states in_order s k _ at _ =
      let v : Knowledge = me.0 in
      let w : Knowledge = record v { rows = change r (at_stage Published) v.rows; picked = 0 } in
      let fits' = k.each id v at is_open.live in
      let row = (fits'.claims r c is_open.mine).0 in
      let wide = k.wide in
      let homes' : List (maybe.Option (Piece J)) = set s.homes r (some (Shown x)) in (
        w,
        gives,
        tt,
        subst (λ (l : List (ℕ × Piece J)). Rule (stepped s (r + 1) 1 id l w gives)) (sym carried)
            (settles s k r 1 homes' (at_stage Published) (λ _. refl) id v w c at is_open refl (inr picked) (λ e. omega arith) record { low = omega arith; wide = λ _ _. subst (λ (n : ℕ). 2 ≤ n) fits'.same_width two_wide } (length-set s.homes r (some (Shown x))) (λ q e. set_else s.homes r q (some (Shown x)) e)
            (λ _. (x, set_here s.homes r (some (Shown x)) (let i = (fits'.claims r c is_open.mine).1.inside in let d = k.deep in omega arith), states ∙ ap (λ (l : List (List ℕ)). wanted l r) fits'.same_want))
            (λ inside taken is.
            let here : get_or (set s.words (r + 1) 1) (c.row + 1) 0 ≡ 1 = ap (λ (i : ℕ). get_or (set s.words (r + 1) 1) (i + 1) 0) row ∙ get_or-set_same s.words (r + 1) 1 0 (omega arith) in
            let first : get_or (set s.words (r + 1) 1) 0 0 ≡ get_or s.words 0 0 = get_or-set_other s.words (r + 1) 0 1 0 (λ e. omega arith) in
            record {
              inside = is.inside;
              taken = let t = is.taken in omega arith;
              open_word = λ e. absurd (not_open e);
              open_slot = λ e _. absurd (not_open e);
              in_hand = λ e _. absurd (not_open e);
              published = λ _. (omega arith, omega arith, λ p. in_order (omega arith));
              lost = λ e. absurd (not_lost e);
              lost_slot = λ e. absurd (not_lost e);
              synced = λ e. let z = is.synced e in (z.0, same_above s r 1 c.row row ∙ z.1);
              unsynced = λ e p two. is.unsynced e p (sym (same_above s r 1 c.row row) ∙ two);
            })),
        λ q e. let same : r ≡ q = one_row r q e in λ i. (record v { rows = change (same i) (at_stage Published) v.rows; picked = 0 }, rest me.1),
      )
    where
      not_open : Published ≡ Open → ⊥
      not_open e = cc

      not_lost : Published ≡ Lost → ⊥
      not_lost e = cc

  pub loses : (slots id r : ℕ) (me : M) (c : Claimed) → IsOpen me.0 r c → me.0.picked ≡ 0
      → Allows Rule slots id me (r + 1) (λ _. 3) (λ _. lost (step slots (r + 1) 3 0 none) me 3)
  loses slots id r me c is_open picked s k _ at _ =
      let v : Knowledge = me.0 in
      let w : Knowledge = record v { rows = change r (at_stage Lost) v.rows } in
      let fits' = k.each id v at is_open.live in
      let row = (fits'.claims r c is_open.mine).0 in
      let wide = k.wide in (
        w,
        keeps,
        tt,
        settles s k r 3 s.homes (at_stage Lost) (λ _. refl) id v w c at is_open (λ i. record v { rows = change r (at_stage Lost) v.rows; picked = picked i }) (inl picked) (λ e. omega arith) record { low = omega arith; wide = λ _ less. absurd (omega arith) } refl (λ q e. refl)
            (λ e. absurd (omega arith))
            (λ inside taken is.
            let here : get_or (set s.words (r + 1) 3) (c.row + 1) 0 ≡ 3 = ap (λ (i : ℕ). get_or (set s.words (r + 1) 3) (i + 1) 0) row ∙ get_or-set_same s.words (r + 1) 3 0 (omega arith) in
            let first : get_or (set s.words (r + 1) 3) 0 0 ≡ get_or s.words 0 0 = get_or-set_other s.words (r + 1) 0 3 0 (λ e. omega arith) in
            record {
              inside = is.inside;
              taken = let t = is.taken in omega arith;
              open_word = λ e. absurd (not_open e);
              open_slot = λ e _. absurd (not_open e);
              in_hand = λ e _. absurd (not_open e);
              published = λ e. absurd (not_published e);
              lost = λ _. here;
              lost_slot = λ _. is.open_slot is_open.open_yet (λ e. omega arith);
              synced = λ e. let z = is.synced e in (z.0, same_above s r 3 c.row row ∙ z.1);
              unsynced = λ e p two. is.unsynced e p (sym (same_above s r 3 c.row row) ∙ two);
            }),
        λ q e. let same : r ≡ q = one_row r q e in λ i. (record v { rows = change (same i) (at_stage Lost) v.rows }, me.1),
      )
    where
      not_open : Lost ≡ Open → ⊥
      not_open e = cc

      not_published : Lost ≡ Published → ⊥
      not_published e = cc

  -- the slot of an open row goes to the seat's hand, or home
  moves_slot : (s : St) (k : Rule s) (r p : ℕ) (homes' : List (maybe.Option (Piece J))) (id : ℕ) (v : Knowledge) (c : Claimed) → get_elem? s.views id ≡ some v → IsOpen v r c → length homes' ≡ length s.homes
      → ((q : ℕ) → q ≢ r → get_elem? homes' q ≡ get_elem? s.homes q) → ((q : ℕ) → q ≢ r → v.picked ≢ q + 1) → ((p ≡ r + 1) × (get_elem? homes' r ≡ some none)) ⊎ ((p ≡ 0) × (get_elem? homes' r ≡ some (some Nothing)))
      → Rule record { words = s.words; homes = homes'; views = set s.views id (record v { picked = p }) }
  moves_slot s k r p homes' id v c at is_open deep homes free hand =
      let fits' = k.each id v at is_open.live in
      let cl = fits'.claims r c is_open.mine in
      let row = cl.0 in
      let inside : r < k.rows = let i = cl.1.inside in omega arith in
      let taken : r < get_or s.words 0 0 = let i = cl.1.taken in omega arith in
      let blank : get_or s.words (r + 1) 0 ≡ 0 = ap (λ (z : ℕ). get_or s.words (z + 1) 0) (sym row) ∙ cl.1.open_word is_open.open_yet in
      kept_set s k s.words homes' id v (record v { picked = p }) at is_open.live refl deep refl refl refl (λ q. refl)
      record {
        same_width = fits'.same_width;
        same_want = fits'.same_want;
        same_give = fits'.same_give;
        met = fits'.met;
        claims = λ q d e.
            let o = fits'.claims q d e in
            let is = o.1 in (
              o.0,
              record {
                inside = is.inside;
                taken = is.taken;
                open_word = is.open_word;
                open_slot = λ open_yet other. dite (ℕ_discrete d.row r)
                    (λ same. ⊎_elim (λ t. absurd (other (let z = t.0 in omega arith))) (λ t. ap (get_elem? homes') same ∙ t.1) hand)
                    (λ apart. homes d.row apart ∙ is.open_slot open_yet (free d.row apart));
                in_hand = λ _ it. ⊎_elim (λ t. let z = t.0 in let same : d.row ≡ r = omega arith in ap (get_elem? homes') same ∙ t.1) (λ t. absurd (let z = t.0 in omega arith)) hand;
                published = is.published;
                lost = is.lost;
                lost_slot = λ gone. dite (ℕ_discrete d.row r)
                    (λ same. absurd (let z = is.lost gone in let y : get_or s.words (d.row + 1) 0 ≡ 0 = ap (λ (i : ℕ). get_or s.words (i + 1) 0) same ∙ blank in omega arith))
                    (λ apart. homes d.row apart ∙ is.lost_slot gone);
                synced = is.synced;
                unsynced = is.unsynced;
              },
            );
      }
      (λ j u apart there theirs. seat_stays s.words s.words s.homes homes' k.rows k.width k.want k.give u (omega arith)
      (λ q d e is_row is. claim_stays s.words s.words s.homes homes' k.rows u.picked d (omega arith) (inl refl) (λ _. inl refl)
      (λ _ _. homes d.row (λ g. alone r s.views id v c at is_open.mine (let o = k.once r inside taken in omega arith) j u d apart there (ap (λ (z : ℕ). claim_of z u.rows) (sym (sym is_row ∙ g)) ∙ e)))
      is)
      theirs)
      (λ q low above. (refl, (λ _ n. n), homes q (λ e. omega arith)))
      (λ q low one. let x = k.shown q low one in (x.0, homes q (λ e. let z = ap (λ (i : ℕ). get_or s.words (i + 1) 0) e ∙ blank in omega arith) ∙ x.1, x.2))
      (λ q low two. let x = k.taken q low two in (x.0, subst IsTaken (sym (homes q (λ e. let z = ap (λ (i : ℕ). get_or s.words (i + 1) 0) e ∙ blank in omega arith))) x.1))
      k.each_word

  pub lays : (slots id r : ℕ) (me : M) (c : Claimed) (cs : List (ℕ × Piece J)) → IsOpen me.0 r c → me.0.picked ≡ r + 1 → me.1 ≡ (r, Nothing) ∷ cs
      → Allows Rule slots id me 0 (λ n. n) (laid (step slots 0 0 0 none) me)
  lays slots id r me c cs is_open picked carried s k _ at _ =
      let v : Knowledge = me.0 in
      let w : Knowledge = record v { picked = 0 } in
      let i = ((k.each id v at is_open.live).claims r c is_open.mine) in (
        w,
        gives,
        tt,
        subst (λ (l : List (ℕ × Piece J)). Rule (stepped s 0 (get_or s.words 0 0) id l w gives)) (sym carried)
            (subst (λ (ws : List ℕ). Rule record { words = ws; homes = set s.homes r (some Nothing); views = set s.views id w }) (sym (set-get_or s.words 0 0))
            (moves_slot s k r 0 (set s.homes r (some Nothing)) id v c at is_open (length-set s.homes r (some Nothing)) (λ q e. set_else s.homes r q (some Nothing) e) (λ q e z. e (omega arith))
            (inr (refl, set_here s.homes r (some Nothing) (let z = i.0 in let y = i.1.inside in let d = k.deep in omega arith))))),
        refl,
      )

  pub picks : (slots id r : ℕ) (me : M) (c : Claimed) → IsOpen me.0 r c → me.0.picked ≡ 0
      → Allows Rule slots id me (r + 1) (λ n. n) (picked_up (step slots (r + 1) 0 0 none) me)
  picks slots id r me c is_open picked s k _ at _ =
      let v : Knowledge = me.0 in
      let w : Knowledge = record v { picked = r + 1 } in
      let cl = (k.each id v at is_open.live).claims r c is_open.mine in (
        w,
        takes r Nothing,
        ap (get_elem? s.homes) (sym cl.0) ∙ cl.1.open_slot is_open.open_yet (λ e. omega arith),
        subst (λ (ws : List ℕ). Rule record { words = ws; homes = set s.homes r none; views = set s.views id w }) (sym (set-get_or s.words (r + 1) 0))
            (moves_slot s k r (r + 1) (set s.homes r none) id v c at is_open (length-set s.homes r none) (λ q e. set_else s.homes r q none e) (λ q e z. omega arith)
            (inl (refl, set_here s.homes r none (let z = cl.0 in let y = cl.1.inside in let d = k.deep in omega arith)))),
        λ q e. let same : r ≡ q = one_row r q e in λ i. (record v { picked = same i + 1 }, (same i, Nothing) ∷ me.1),
      )

  finds_fit : (words : List ℕ) (homes : List (maybe.Option (Piece J))) (rows width : ℕ) (want give : List (List ℕ)) (v : Knowledge) (place n : ℕ) → SeatFits words homes rows width want give v → SeatFits words homes rows width want give (finds v place n)
  finds_fit words homes rows width want give v place n f = record {
    same_width = f.same_width;
    same_want = f.same_want;
    same_give = f.same_give;
    met = f.met;
    claims = f.claims;
  }

  found_word : (s : St) (k : Rule s) (i id n : ℕ) (cs : List (ℕ × Piece J)) (v : Knowledge) → get_elem? s.views id ≡ some v → 0 < v.weight → Rule (stepped s i (get_or s.words i 0) id cs (finds v i n) keeps)
  found_word s k i id n cs v at live = subst (λ (ws : List ℕ). Rule record { words = ws; homes = s.homes; views = set s.views id (finds v i n) }) (sym (set-get_or s.words i 0))
      (kept_set s k s.words s.homes id v (finds v i n) at live refl refl refl refl refl (λ q. refl) (finds_fit s.words s.homes k.rows k.width k.want k.give v i n (k.each id v at live)) (λ j u _ _ f. f) (λ r _ _. (refl, (λ _ z. z), refl)) k.shown k.taken k.each_word)

  -- the row r takes what the row q above it shows
  takes_over : (s : St) (k : Rule s) (r q id : ℕ) (cs : List (ℕ × Piece J)) (v : Knowledge) (c : Claimed) (x : List ℕ) → get_elem? s.views id ≡ some v → 0 < v.weight → claim_of r v.rows ≡ Some c → c.synced ≡ false → q + 1 ≡ r → get_or s.words r 0 ≡ 1
      → Rule (stepped s r 2 id cs (record (finds v r 1) { rows = change r in_sync v.rows }) (takes q (Shown x)))
  takes_over s k r q id cs v c x at live mine not_yet under one =
      let w : Knowledge = record (finds v r 1) { rows = change r in_sync v.rows } in
      let words' : List ℕ = set s.words r 2 in
      let homes' : List (maybe.Option (Piece J)) = set s.homes q none in
      let fits' = k.each id v at live in
      let cl = fits'.claims r c mine in
      let row = cl.0 in
      let wide = k.wide in
      let inside : r < k.rows = let i = cl.1.inside in omega arith in
      let taken : r < get_or s.words 0 0 = let i = cl.1.taken in omega arith in
      let first : get_or words' 0 0 ≡ get_or s.words 0 0 = get_or-set_other s.words r 0 2 0 (λ e. omega arith) in
      let here : get_or words' r 0 ≡ 2 = get_or-set_same s.words r 2 0 (omega arith) in
      let stays : (p : ℕ) (d : Claimed) → d.row ≢ r → ClaimIs s.words s.homes k.rows p d → ClaimIs words' homes' k.rows p d = λ p d apart is. claim_stays s.words words' s.homes homes' k.rows p d (let e = first in omega arith)
      (dite (ℕ_discrete (d.row + 1) r) (λ e. inr (ap (λ (i : ℕ). get_or s.words i 0) e ∙ one, ap (λ (i : ℕ). get_or words' i 0) e ∙ here)) (λ n. inl (get_or-set_other s.words r (d.row + 1) 2 0 n)))
      (λ _. inl (get_or-set_other s.words r d.row 2 0 apart))
      (λ not_one _. set_else s.homes q d.row none (λ e. not_one (ap (λ (i : ℕ). get_or s.words (i + 1) 0) e ∙ (ap (λ (i : ℕ). get_or s.words i 0) under ∙ one))))
      is in
      kept_set s k words' homes' id v w at live (length-set s.words r 2) (length-set s.homes q none) first refl refl (λ p. times-change in_sync (λ _. refl) p r v.rows)
      record {
        same_width = fits'.same_width;
        same_want = fits'.same_want;
        same_give = fits'.same_give;
        met = λ e. let m = fits'.met e in let z = first in omega arith;
        claims = λ p d e. dite (ℕ_discrete p r)
            (λ is.
            let it : in_sync c ≡ d = some_is (in_sync c) d (sym (claim-change-same in_sync (λ _. refl) r c v.rows mine) ∙ (ap (λ (z : ℕ). claim_of z (change r in_sync v.rows)) (sym is) ∙ e)) in (
              ap (λ (y : Claimed). y.row) (sym it) ∙ (row ∙ sym is),
              subst (ClaimIs words' homes' k.rows v.picked) it record {
                inside = cl.1.inside;
                taken = let t = cl.1.taken in omega arith;
                open_word = λ e. get_or-set_other s.words r (c.row + 1) 2 0 (λ g. omega arith) ∙ cl.1.open_word e;
                open_slot = λ e n. set_else s.homes q c.row none (λ g. omega arith) ∙ cl.1.open_slot e n;
                in_hand = λ e n. set_else s.homes q c.row none (λ g. omega arith) ∙ cl.1.in_hand e n;
                published = λ e. absurd (true≢false (sym ((cl.1.published e).2 (omega arith)) ∙ not_yet));
                lost = λ e. get_or-set_other s.words r (c.row + 1) 2 0 (λ g. omega arith) ∙ cl.1.lost e;
                lost_slot = λ e. set_else s.homes q c.row none (λ g. omega arith) ∙ cl.1.lost_slot e;
                synced = λ _. (omega arith, ap (λ (i : ℕ). get_or words' i 0) row ∙ here);
                unsynced = λ e. absurd (true≢false e);
              },
            ))
            (λ apart. let o = fits'.claims p d (sym (claim-change-other in_sync (λ _. refl) p r v.rows apart) ∙ e) in (o.0, stays v.picked d (λ g. apart (sym o.0 ∙ g)) o.1));
      }
      (λ j u apart there theirs. seat_stays s.words words' s.homes homes' k.rows k.width k.want k.give u (let e = first in omega arith)
      (λ p d e is_row is. stays u.picked d (λ g. alone r s.views id v c at mine (let o = k.once r inside taken in omega arith) j u d apart there (ap (λ (z : ℕ). claim_of z u.rows) (sym (sym is_row ∙ g)) ∙ e)) is)
      theirs)
      (λ p low above. (get_or-set_other s.words r (p + 1) 2 0 (λ e. omega arith), (λ _ n two. n (sym (get_or-set_other s.words r p 2 0 (λ e. omega arith)) ∙ two)), set_else s.homes q p none (λ e. omega arith)))
      (λ p low is_one. dite (ℕ_discrete (p + 1) r)
      (λ e. absurd (let z = ap (λ (i : ℕ). get_or words' i 0) e ∙ here in omega arith))
      (λ n. let y = k.shown p low (sym (get_or-set_other s.words r (p + 1) 2 0 n) ∙ is_one) in (y.0, set_else s.homes q p none (λ e. n (omega arith)) ∙ y.1, y.2)))
      (λ p low is_two. dite (ℕ_discrete (p + 1) r)
      (λ e.
      let here : q ≡ p = omega arith in
      (omega arith, inl (ap (get_elem? homes') (sym here) ∙ set_here s.homes q none (let d = k.deep in omega arith))))
      (λ n. let y = k.taken p low (sym (get_or-set_other s.words r (p + 1) 2 0 n) ∙ is_two) in (y.0, subst IsTaken (sym (set_else s.homes q p none (λ e. n (omega arith)))) y.1)))
      (λ p low. dite (ℕ_discrete (p + 1) r)
      (λ e.
      let was : IsWord k.width 1 = subst (IsWord k.width) (ap (λ (i : ℕ). get_or s.words i 0) e ∙ one) (k.each_word p low) in
      subst (IsWord k.width) (sym (ap (λ (i : ℕ). get_or words' i 0) e ∙ here)) record { low = omega arith; wide = λ _ _. was.wide (omega arith) (omega arith) })
      (λ n. subst (IsWord k.width) (sym (get_or-set_other s.words r (p + 1) 2 0 n)) (k.each_word p low)))
    where
      some_is : (a b : Claimed) → Some a ≡ Some b → a ≡ b
      some_is a b e = cc

  pub syncs : (slots id r : ℕ) (me : M) (c : Claimed) → 0 < me.0.weight → claim_of r me.0.rows ≡ Some c → 0 < r → c.synced ≡ false
      → Allows Rule slots id me r (λ n. either (eqb n 1) 2 n) (synced (step slots r 1 2 none) me)
  syncs slots id r me c live mine below not_yet s k _ at _ =
      let v : Knowledge = me.0 in
      let n : ℕ = get_or s.words r 0 in
      let q : ℕ = r - 1 in
      let under : q + 1 ≡ r = omega arith in
      let fits' = k.each id v at live in
      let cl = fits'.claims r c mine in
      let row = cl.0 in
      let above : q < k.rows = let i = cl.1.inside in omega arith in
      exchanged n 1 2
      (λ (z : ℕ). (w : Knowledge) × (a : Act (Piece J)) × Valid s.homes me.1 a × Rule (stepped s r z id me.1 w a) × synced (step slots r 1 2 none) me n (w, carried_after me.1 a))
      (λ hit.
      let x = k.shown q above (ap (λ (i : ℕ). get_or s.words i 0) under ∙ hit) in (
        record (finds v r 1) { rows = change r in_sync v.rows },
        takes q (Shown x.0),
        x.1,
        takes_over s k r q id me.1 v c x.0 at live mine not_yet under hit,
        (
          (λ _. (x.0, ap (λ (z : ℕ). (record (finds v r z) { rows = change r in_sync v.rows }, (q, Shown x.0) ∷ me.1)) (sym hit), x.2 ∙ ap (λ (l : List (List ℕ)). wanted l q) (sym fits'.same_want))),
          (λ miss. absurd (miss hit)),
        ),
      ))
      (λ miss. (
        finds v r n,
        keeps,
        tt,
        found_word s k r id n me.1 v at live,
        (
          (λ hit. absurd (miss hit)),
          (λ _. (
            refl,
            none_or_lost n (let l = (k.each_word q above).low in let z = ap (λ (i : ℕ). get_or s.words i 0) under in omega arith) miss
                (λ two. cl.1.unsynced not_yet (omega arith) (ap (λ (i : ℕ). get_or s.words i 0) row ∙ two)),
          )),
        ),
      ))
    where
      none_or_lost : (n : ℕ) → n ≤ 3 → n ≢ 1 → n ≢ 2 → (n ≡ 0) ⊎ (n ≡ 3)
      none_or_lost n small a b = dite (ℕ_discrete n 0) (λ e. inl e) (λ e. inr (omega arith))

  small_mod : (n : ℕ) → n + 1 < 2 ^ 64 → (n + 1) % 2 ^ 64 ≡ n + 1
  small_mod n small = omega arith

  -- the seats' own claims, where word 0 grows to new and the row n may go to a hand
  older_claims : (s : St) (k : Rule s) (new : ℕ) (homes' : List (maybe.Option (Piece J))) (p : ℕ) (d : Claimed) → get_or s.words 0 0 ≤ new → ((q : ℕ) → q < get_or s.words 0 0 → get_elem? homes' q ≡ get_elem? s.homes q)
      → ClaimIs s.words s.homes k.rows p d → ClaimIs (set s.words 0 new) homes' k.rows p d
  older_claims s k new homes' p d more homes is =
      let wide = k.wide in
      claim_stays s.words (set s.words 0 new) s.homes homes' k.rows p d (let e = get_or-set_same s.words 0 new 0 (omega arith) in omega arith)
      (inl (get_or-set_other s.words 0 (d.row + 1) new 0 (λ e. omega arith))) (λ q. inl (get_or-set_other s.words 0 d.row new 0 (λ e. omega arith))) (λ _ _. homes d.row is.taken) is

  claims_row : (s : St) (k : Rule s) (n id : ℕ) (cs : List (ℕ × Piece J)) (v : Knowledge) (j : J) → get_elem? s.views id ≡ some v → 0 < v.weight → v.picked ≡ 0 → n ≡ get_or s.words 0 0 → n < k.rows
      → Rule (stepped s 0 (n + 1) id cs (claims (finds v 0 n) n) (takes n (Job j)))
  claims_row s k n id cs v j at live free is inside =
      let w : Knowledge = claims (finds v 0 n) n in
      let words' : List ℕ = set s.words 0 (n + 1) in
      let homes' : List (maybe.Option (Piece J)) = set s.homes n none in
      let fits' = k.each id v at live in
      let wide = k.wide in
      let first : get_or words' 0 0 ≡ n + 1 = get_or-set_same s.words 0 (n + 1) 0 (omega arith) in
      let wait = k.waiting n inside (omega arith) in
      let below : (q : ℕ) → q < get_or s.words 0 0 → get_elem? homes' q ≡ get_elem? s.homes q = λ q l. set_else s.homes n q none (λ e. omega arith) in
      let later : (i : ℕ) → get_or words' (i + 1) 0 ≡ get_or s.words (i + 1) 0 = λ i. get_or-set_other s.words 0 (i + 1) (n + 1) 0 (λ e. omega arith) in
      let sums : (q : ℕ) → total (λ u. times q u.rows) (set s.views id w) + times q v.rows ≡ total (λ u. times q u.rows) s.views + times q w.rows = λ q. total-set (λ u. times q u.rows) s.views id v w at in
      let same_sum : (q : ℕ) → q ≢ n → total (λ u. times q u.rows) (set s.views id w) ≡ total (λ u. times q u.rows) s.views = λ q apart.
      let t = sums q in
      ⊎_elim (λ (z : (q ≡ n) × (times q w.rows ≡ 1 + times q v.rows)). absurd (apart z.0)) (λ (z : (q ≢ n) × (times q w.rows ≡ times q v.rows)). let y = z.1 in omega arith) (times-cons q (record { row = n; stage = Open; synced = false }) v.rows) in
      let one_more : total (λ u. times n u.rows) (set s.views id w) ≡ total (λ u. times n u.rows) s.views + 1 =
      let t = sums n in
      ⊎_elim (λ (z : (n ≡ n) × (times n w.rows ≡ 1 + times n v.rows)). let y = z.1 in omega arith) (λ (z : (n ≢ n) × (times n w.rows ≡ times n v.rows)). absurd (z.0 refl)) (times-cons n (record { row = n; stage = Open; synced = false }) v.rows) in
      record {
        rows = k.rows;
        width = k.width;
        want = k.want;
        give = k.give;
        made = k.made;
        wide = length-set s.words 0 (n + 1) ∙ k.wide;
        deep = length-set s.homes n none ∙ k.deep;
        each = λ i u there alive. ⊎_elim
            (λ (t : (i ≡ id) × (w ≡ u)). subst (SeatFits words' homes' k.rows k.width k.want k.give) t.1 record {
              same_width = fits'.same_width;
              same_want = fits'.same_want;
              same_give = fits'.same_give;
              met = λ e. let m = fits'.met e in omega arith;
              claims = λ r d e. dite (ℕ_discrete r n)
                  (λ here.
                  let it : record { row = n; stage = Open; synced = false } ≡ d = some_is _ d (sym (claim-here r (record { row = n; stage = Open; synced = false }) v.rows here) ∙ e) in (
                    ap (λ (y : Claimed). y.row) (sym it) ∙ sym here,
                    subst (ClaimIs words' homes' k.rows (n + 1)) it record {
                      inside = inside;
                      taken = omega arith;
                      open_word = λ _. later n ∙ wait.0;
                      open_slot = λ _ other. absurd (other refl);
                      in_hand = λ _ _. set_here s.homes n none (let d = k.deep in omega arith);
                      published = λ f. absurd (not_published f);
                      lost = λ f. absurd (not_lost f);
                      lost_slot = λ f. absurd (not_lost f);
                      synced = λ f. absurd (true≢false (sym f));
                      unsynced = λ _ p two. wait.1 p (sym (get_or-set_other s.words 0 n (n + 1) 0 (λ e. omega arith)) ∙ two);
                    },
                  ))
                  (λ other.
                  let o = fits'.claims r d (sym (claim-later r (record { row = n; stage = Open; synced = false }) v.rows other) ∙ e) in
                  let y = older_claims s k (n + 1) homes' v.picked d (omega arith) below o.1 in (
                    o.0,
                    record {
                      inside = y.inside;
                      taken = y.taken;
                      open_word = y.open_word;
                      open_slot = λ f _. y.open_slot f (λ g. omega arith);
                      in_hand = λ _ g. absurd (other (let z = o.0 in omega arith));
                      published = y.published;
                      lost = y.lost;
                      lost_slot = y.lost_slot;
                      synced = y.synced;
                      unsynced = y.unsynced;
                    },
                  ));
            })
            (λ (t : (i ≢ id) × (get_elem? s.views i ≡ some u)). seat_stays s.words words' s.homes homes' k.rows k.width k.want k.give u (omega arith) (λ r d e _ y. older_claims s k (n + 1) homes' u.picked d (omega arith) below y) (k.each i u t.1 alive))
            (at_set s.views id i w u there);
        gone = λ i u there none_left. ⊎_elim
            (λ (t : (i ≡ id) × (w ≡ u)). absurd (let e : v.weight ≡ u.weight = ap (λ (x : Knowledge). x.weight) t.1 in omega arith))
            (λ (t : (i ≢ id) × (get_elem? s.views i ≡ some u)). k.gone i u t.1 none_left)
            (at_set s.views id i w u there);
        once = λ r low taken. dite (ℕ_discrete r n)
            (λ e. let z = k.not_yet n (omega arith) in ap (λ (q : ℕ). total (λ u. times q u.rows) (set s.views id w)) e ∙ (one_more ∙ omega arith))
            (λ e. same_sum r e ∙ k.once r low (let f = first in omega arith));
        not_yet = λ r above. let f = first in same_sum r (λ e. omega arith) ∙ k.not_yet r (omega arith);
        outside = λ r above. same_sum r (λ e. omega arith) ∙ k.outside r above;
        waiting = λ r low above.
            let f = first in
            let old = k.waiting r low (omega arith) in
            (later r ∙ old.0, (λ p two. old.1 p (sym (get_or-set_other s.words 0 r (n + 1) 0 (λ e. omega arith)) ∙ two)), (old.2.0, set_else s.homes n r none (λ e. omega arith) ∙ old.2.1, old.2.2));
        shown = λ r low one. let x = k.shown r low (sym (later r) ∙ one) in (x.0, set_else s.homes n r none (λ e. let z = ap (λ (i : ℕ). get_or s.words (i + 1) 0) e ∙ wait.0 in let y = later r in omega arith) ∙ x.1, x.2);
        taken = λ r low two. let x = k.taken r low (sym (later r) ∙ two) in (x.0, subst IsTaken (sym (set_else s.homes n r none (λ e. let z = ap (λ (i : ℕ). get_or s.words (i + 1) 0) e ∙ wait.0 in let y = later r in omega arith))) x.1);
        each_word = λ r low. subst (IsWord k.width) (sym (later r)) (k.each_word r low);
        weighs = let t = total-set (λ u. u.weight) s.views id v w at in let z = k.weighs in omega arith;
        over = let f = first in omega arith;
      }
    where
      some_is : (a b : Claimed) → Some a ≡ Some b → a ≡ b
      some_is a b e = cc

      not_published : Open ≡ Published → ⊥
      not_published e = cc

      not_lost : Open ≡ Lost → ⊥
      not_lost e = cc

  -- the seat met the end of the rows
  meets_end : (s : St) (k : Rule s) (n id : ℕ) (cs : List (ℕ × Piece J)) (v : Knowledge) → get_elem? s.views id ≡ some v → 0 < v.weight → v.met_none ≡ false → n ≡ get_or s.words 0 0 → k.rows ≤ n
      → Rule (stepped s 0 (n + 1) id cs (meets_none (finds v 0 n)) keeps)
  meets_end s k n id cs v at live not_met is past =
      let w : Knowledge = meets_none (finds v 0 n) in
      let words' : List ℕ = set s.words 0 (n + 1) in
      let fits' = k.each id v at live in
      let wide = k.wide in
      let first : get_or words' 0 0 ≡ n + 1 = get_or-set_same s.words 0 (n + 1) 0 (omega arith) in
      let later : (i : ℕ) → get_or words' (i + 1) 0 ≡ get_or s.words (i + 1) 0 = λ i. get_or-set_other s.words 0 (i + 1) (n + 1) 0 (λ e. omega arith) in
      let same_sum : (q : ℕ) → total (λ u. times q u.rows) (set s.views id w) ≡ total (λ u. times q u.rows) s.views = λ q. let t = total-set (λ u. times q u.rows) s.views id v w at in omega arith in
      let stays : (u : Knowledge) → SeatFits s.words s.homes k.rows k.width k.want k.give u → SeatFits words' s.homes k.rows k.width k.want k.give u = λ u f. seat_stays s.words words' s.homes s.homes k.rows k.width k.want k.give u (omega arith) (λ r d e _ y. older_claims s k (n + 1) s.homes u.picked d (omega arith) (λ q l. refl) y) f in
      record {
        rows = k.rows;
        width = k.width;
        want = k.want;
        give = k.give;
        made = k.made;
        wide = length-set s.words 0 (n + 1) ∙ k.wide;
        deep = k.deep;
        each = λ i u there alive. ⊎_elim
            (λ (t : (i ≡ id) × (w ≡ u)). let f = stays v fits' in subst (SeatFits words' s.homes k.rows k.width k.want k.give) t.1 record {
              same_width = f.same_width;
              same_want = f.same_want;
              same_give = f.same_give;
              met = λ e. omega arith;
              claims = f.claims;
            })
            (λ (t : (i ≢ id) × (get_elem? s.views i ≡ some u)). stays u (k.each i u t.1 alive))
            (at_set s.views id i w u there);
        gone = λ i u there none_left. ⊎_elim
            (λ (t : (i ≡ id) × (w ≡ u)). absurd (let e : v.weight ≡ u.weight = ap (λ (x : Knowledge). x.weight) t.1 in omega arith))
            (λ (t : (i ≢ id) × (get_elem? s.views i ≡ some u)). k.gone i u t.1 none_left)
            (at_set s.views id i w u there);
        once = λ r low taken. same_sum r ∙ k.once r low (omega arith);
        not_yet = λ r above. let f = first in same_sum r ∙ k.not_yet r (omega arith);
        outside = λ r above. same_sum r ∙ k.outside r above;
        waiting = λ r low above. absurd (let f = first in omega arith);
        shown = λ r low one. k.shown r low (sym (later r) ∙ one);
        taken = λ r low two. k.taken r low (sym (later r) ∙ two);
        each_word = λ r low. subst (IsWord k.width) (sym (later r)) (k.each_word r low);
        weighs = let t = total-set (λ u. u.weight) s.views id v w at in let z = k.weighs in omega arith;
        over =
            let f = first in
            let t = total-set met_weight s.views id v w at in
            let z = k.over in
            let m : met_weight v ≡ 0 = ap (λ (b : Bool). if b then v.weight else 0) not_met in
            omega arith;
      }

  met_below : (v : Knowledge) → met_weight v ≤ v.weight
  met_below v = elim v.met_none as (λ b. (if b then v.weight else 0) ≤ v.weight) [ true ↦ omega arith | false ↦ omega arith ]

  pub claims_next : (slots id : ℕ) (me : M) → 0 < me.0.weight → me.0.met_none ≡ false → me.0.picked ≡ 0
      → Allows Rule slots id me 0 (λ n. (n + 1) % 2 ^ 64) (claimed fits (step slots 0 1 0 none) me)
  claims_next slots id me live not_met free s k sized at _ =
      let v : Knowledge = me.0 in
      let n : ℕ = get_or s.words 0 0 in
      let f = k.each id v at live in
      let bound = total-le met_weight (λ u. u.weight) met_below s.views in
      let small : (n + 1) % 2 ^ 64 ≡ n + 1 = small_mod n (let a = k.over in let b = k.weighs in let c = k.made.few_rows in omega arith) in
      let long : slots ≡ k.rows = sym sized ∙ k.deep in
      subst (λ (z : ℕ). (w : Knowledge) × (a : Act (Piece J)) × Valid s.homes me.1 a × Rule (stepped s 0 z id me.1 w a) × claimed fits (step slots 0 1 0 none) me n (w, carried_after me.1 a)) (sym small)
      (dite (dec_lt n k.rows)
      (λ inside.
      let wait = k.waiting n inside (omega arith) in
      let j = wait.2 in (
        claims (finds v 0 n) n,
        takes n (Job j.0),
        j.1,
        claims_row s k n id me.1 v j.0 at live free refl inside,
        ((λ _. (j.0, refl, subst (λ (z : ℕ × List (List ℕ) × List (List ℕ)). fits z.0 z.1 z.2 n j.0) (λ i. (sym f.same_width i, sym f.same_want i, sym f.same_give i)) j.2)), (λ past. absurd (omega arith))),
      ))
      (λ no. (
        meets_none (finds v 0 n),
        keeps,
        tt,
        meets_end s k n id me.1 v at live not_met refl (omega arith),
        ((λ inside. absurd (omega arith)), (λ _. refl)),
      )))

  -- the slot whose contexts were taken goes home, empty
  pub lays_taken : (slots id r : ℕ) (me : M) (c : Claimed) (cs : List (ℕ × Piece J)) → 0 < me.0.weight → claim_of r me.0.rows ≡ Some c → c.synced ≡ true → me.0.picked ≡ 0 → me.1 ≡ (r - 1, Nothing) ∷ cs
      → Allows Rule slots id me 0 (λ n. n) (laid (step slots 0 0 0 none) me)
  lays_taken slots id r me c cs live mine in_time free carried s k _ at _ =
      let v : Knowledge = me.0 in
      let w : Knowledge = record v { picked = 0 } in
      let same : w ≡ v = λ i. record v { picked = sym free i } in
      let q : ℕ = r - 1 in
      let fits' = k.each id v at live in
      let cl = fits'.claims r c mine in
      let row = cl.0 in
      let was = cl.1.synced in_time in
      let above = was.0 in
      let under : q + 1 ≡ r = omega arith in
      let taken : r < get_or s.words 0 0 = let t = cl.1.taken in omega arith in
      let two : get_or s.words (q + 1) 0 ≡ 2 = ap (λ (i : ℕ). get_or s.words i 0) (under ∙ sym row) ∙ was.1 in
      let homes' : List (maybe.Option (Piece J)) = set s.homes q (some Nothing) in
      let stays : (p : ℕ) (d : Claimed) → ClaimIs s.words s.homes k.rows p d → ClaimIs s.words homes' k.rows p d = λ p d is. claim_stays s.words s.words s.homes homes' k.rows p d (omega arith) (inl refl) (λ _. inl refl)
      (λ _ not_two. set_else s.homes q d.row (some Nothing) (λ e. not_two (ap (λ (i : ℕ). get_or s.words (i + 1) 0) e ∙ two))) is in
      let seat : (u : Knowledge) → SeatFits s.words s.homes k.rows k.width k.want k.give u → SeatFits s.words homes' k.rows k.width k.want k.give u = λ u f. seat_stays s.words s.words s.homes homes' k.rows k.width k.want k.give u (omega arith) (λ p d e _ is. stays u.picked d is) f in (
        w,
        gives,
        tt,
        subst (λ (l : List (ℕ × Piece J)). Rule (stepped s 0 (get_or s.words 0 0) id l w gives)) (sym carried)
            (subst (λ (ws : List ℕ). Rule record { words = ws; homes = homes'; views = set s.views id w }) (sym (set-get_or s.words 0 0))
            (kept_set s k s.words homes' id v w at live refl (length-set s.homes q (some Nothing)) refl refl refl (λ p. refl) (subst (SeatFits s.words homes' k.rows k.width k.want k.give) (sym same) (seat v fits')) (λ j u _ _ f. seat u f)
            (λ p low past. (refl, (λ _ n. n), set_else s.homes q p (some Nothing) (λ e. omega arith)))
            (λ p low one. let x = k.shown p low one in (x.0, set_else s.homes q p (some Nothing) (λ e. let z = ap (λ (i : ℕ). get_or s.words (i + 1) 0) e ∙ two in omega arith) ∙ x.1, x.2))
            (λ p low is_two. dite (ℕ_discrete p q)
            (λ e. let y = k.taken p low is_two in (y.0, inr (ap (get_elem? homes') e ∙ set_here s.homes q (some Nothing) (let d = k.deep in omega arith))))
            (λ n. let y = k.taken p low is_two in (y.0, subst IsTaken (sym (set_else s.homes q p (some Nothing) n)) y.1)))
            k.each_word)),
        refl,
      )
