-- A row seat is cut in two, two are joined, and the last one closes the board.
use Rattle.std.proofs.Common.{◌≡◌, ◌≢◌, ◌⊎◌, ℕ, suc, ◌+◌, ◌-◌, ◌^◌, ◌<◌, ◌≤◌, ◌||◌, List, [], ◌∷◌, ◌++◌, length, set, Bool, true, false, if◌then◌else◌, Some, refl, sym, ap, ◌∙◌, subst, inl, inr, ⊎_elim, arith}
use mathlib.Core.Logic.{dite}
use mathlib.Core.Option.{some}
use native.Mathlib.Decide.{ℕ_discrete}
use lib.ListN.{get_elem?}
use Rattle.atomic_table.specs.Table.{State, Splits, Joins, Final, Seen}
use Rattle.atomic_table.proofs.Lists.{at_set, at_snoc, set_else}
use Rattle.row_board.specs.declared.piece.Piece.{Piece}
use Rattle.row_board.specs.declared.knowledge.Claimed.{Claimed}
use Rattle.row_board.specs.declared.knowledge.Knowledge.{Knowledge}
use Rattle.row_board.specs.Rows.{total, times, claim_of, ClaimIs, SeatFits, met_weight, Kept, newcomer, lighter, merged, spent, AllClaimed}
use Rattle.row_board.proofs.Claims.{total-set, part-le, claim-here, claim-later}

total-snoc : (f : Knowledge → ℕ) (vs : List Knowledge) (w : Knowledge) → total f (vs ++ w ∷ []) ≡ total f vs + f w
total-snoc f [] w = omega arith
total-snoc f (x ∷ xs) w = let r = total-snoc f xs w in omega arith

times-append : (r : ℕ) (xs ys : List Claimed) → times r (xs ++ ys) ≡ times r xs + times r ys
times-append r [] ys = omega arith
times-append r (x ∷ xs) ys = let t = times-append r xs ys in omega arith

claim-append : (r : ℕ) (c : Claimed) (xs ys : List Claimed) → claim_of r (xs ++ ys) ≡ Some c → (claim_of r xs ≡ Some c) ⊎ (claim_of r ys ≡ Some c)
claim-append r c [] ys e = inr e
claim-append r c (x ∷ xs) ys e = dite (ℕ_discrete r x.row)
    (λ is. inl (claim-here r x xs is ∙ (sym (claim-here r x (xs ++ ys) is) ∙ e)))
    (λ apart. ⊎_elim (λ f. inl (claim-later r x xs apart ∙ f)) (λ f. inr f) (claim-append r c xs ys (sym (claim-later r x (xs ++ ys) apart) ∙ e)))

or_either : (a b : Bool) → (a || b) ≡ true → (a ≡ true) ⊎ (b ≡ true)
or_either true b e = inl refl
or_either false b e = inr e

joint_weight : (a b : Bool) (m n : ℕ) → (if a then m else 0) + (if b then n else 0) ≤ (if (a || b) then (m + n) else 0)
joint_weight true true m n = omega arith
joint_weight true false m n = omega arith
joint_weight false true m n = omega arith
joint_weight false false m n = omega arith

split_weight : (a : Bool) (m : ℕ) → 0 < m → (if a then (m - 1) else 0) + (if a then 1 else 0) ≡ (if a then m else 0)
split_weight true m some_weight = omega arith
split_weight false m some_weight = omega arith

module _ {J : Type 0} (fits : ℕ → List (List ℕ) → List (List ℕ) → ℕ → J → Type 0) where
  abbrev St : Type 0
  St = State (Piece J) Knowledge

  abbrev Rule : St → Type 0
  Rule = Kept fits

  -- other seats at the same words and slots
  with_seats : (s : St) (k : Rule s) (vs : List Knowledge)
      → ((j : ℕ) (v : Knowledge) → get_elem? vs j ≡ some v → 0 < v.weight → SeatFits s.words s.homes k.rows k.width k.want k.give v)
      → ((j : ℕ) (v : Knowledge) → get_elem? vs j ≡ some v → v.weight ≡ 0 → v.rows ≡ [])
      → ((r : ℕ) → total (λ v. times r v.rows) vs ≡ total (λ v. times r v.rows) s.views) → total (λ v. v.weight) vs ≡ total (λ v. v.weight) s.views → total met_weight s.views ≤ total met_weight vs
      → Rule record { words = s.words; homes = s.homes; views = vs }
  with_seats s k vs each gone sums weight met = record {
    rows = k.rows;
    width = k.width;
    want = k.want;
    give = k.give;
    made = k.made;
    wide = k.wide;
    deep = k.deep;
    each = each;
    gone = gone;
    once = λ r a b. sums r ∙ k.once r a b;
    not_yet = λ r a. sums r ∙ k.not_yet r a;
    outside = λ r a. sums r ∙ k.outside r a;
    waiting = k.waiting;
    shown = k.shown;
    taken = k.taken;
    each_word = k.each_word;
    weighs = weight ∙ k.weighs;
    over = let o = k.over in omega arith;
  }

  pub splits : (id : ℕ) (v : Knowledge) → 2 ≤ v.weight → Splits Rule id v (lighter v) (newcomer v)
  splits id v heavy s k at =
      let f = k.each id v at (omega arith) in
      let left : List Knowledge = set s.views id (lighter v) in
      let of_left : SeatFits s.words s.homes k.rows k.width k.want k.give (lighter v) = record { same_width = f.same_width; same_want = f.same_want; same_give = f.same_give; met = f.met; claims = f.claims } in
      let of_right : SeatFits s.words s.homes k.rows k.width k.want k.give (newcomer v) = record { same_width = f.same_width; same_want = f.same_want; same_give = f.same_give; met = f.met; claims = λ r c e. absurd (cc) } in
      let either_seat : (P : Knowledge → Type 0) → P (lighter v) → P (newcomer v) → ((i : ℕ) (u : Knowledge) → get_elem? s.views i ≡ some u → P u) → (j : ℕ) (u : Knowledge) → get_elem? (left ++ newcomer v ∷ []) j ≡ some u → P u = λ P a b c j u there. ⊎_elim
      (λ (t : get_elem? left j ≡ some u). ⊎_elim (λ (z : (j ≡ id) × (lighter v ≡ u)). subst P z.1 a) (λ (z : (j ≢ id) × (get_elem? s.views j ≡ some u)). c j u z.1) (at_set s.views id j (lighter v) u t))
      (λ (t : newcomer v ≡ u). subst P t b)
      (at_snoc left (newcomer v) u j there) in
      with_seats s k (left ++ newcomer v ∷ [])
      (λ j u there alive. either_seat (λ x. 0 < x.weight → SeatFits s.words s.homes k.rows k.width k.want k.give x) (λ _. of_left) (λ _. of_right) (λ i x e. k.each i x e) j u there alive)
      (λ j u there none_left. either_seat (λ x. x.weight ≡ 0 → x.rows ≡ []) (λ e. absurd (omega arith)) (λ _. refl) (λ i x e. k.gone i x e) j u there none_left)
      (λ r. let t = total-set (λ u. times r u.rows) s.views id v (lighter v) at in let u = total-snoc (λ u. times r u.rows) left (newcomer v) in omega arith)
      (let t = total-set (λ u. u.weight) s.views id v (lighter v) at in let u = total-snoc (λ u. u.weight) left (newcomer v) in omega arith)
      (let t = total-set met_weight s.views id v (lighter v) at in let u = total-snoc met_weight left (newcomer v) in let w = split_weight v.met_none v.weight (omega arith) in omega arith)

  pub joins : (id other : ℕ) (v w : Knowledge) → 0 < v.weight → 0 < w.weight → v.picked ≡ 0 → w.picked ≡ 0 → Joins Rule id v other w (merged v w) spent
  joins id other v w live alive idle idle' s k at apart there =
      let both : Knowledge = merged v w in
      let left : List Knowledge = set s.views id both in
      let there' : get_elem? s.views other ≡ some w = sym (set_else s.views id other both apart) ∙ there in
      let f = k.each id v at live in
      let g = k.each other w there' alive in
      let of_both : SeatFits s.words s.homes k.rows k.width k.want k.give both = record {
        same_width = f.same_width;
        same_want = f.same_want;
        same_give = f.same_give;
        met = λ e. ⊎_elim (λ (t : v.met_none ≡ true). f.met t) (λ (t : w.met_none ≡ true). g.met t) (or_either v.met_none w.met_none e);
        claims = λ r c e. ⊎_elim (λ (t : claim_of r v.rows ≡ Some c). f.claims r c t)
            (λ (t : claim_of r w.rows ≡ Some c). let z = g.claims r c t in (z.0, subst (λ (p : ℕ). ClaimIs s.words s.homes k.rows p c) (idle' ∙ sym idle) z.1))
            (claim-append r c v.rows w.rows e);
      } in
      let either_seat : (P : Knowledge → Type 0) → P both → P spent → ((i : ℕ) (u : Knowledge) → get_elem? s.views i ≡ some u → P u) → (j : ℕ) (u : Knowledge) → get_elem? (set left other spent) j ≡ some u → P u = λ P a b c j u e. ⊎_elim
      (λ (z : (j ≡ other) × (spent ≡ u)). subst P z.1 b)
      (λ (z : (j ≢ other) × (get_elem? left j ≡ some u)). ⊎_elim (λ (y : (j ≡ id) × (both ≡ u)). subst P y.1 a) (λ (y : (j ≢ id) × (get_elem? s.views j ≡ some u)). c j u y.1) (at_set s.views id j both u z.1))
      (at_set left other j spent u e) in
      with_seats s k (set left other spent)
      (λ j u e lives. either_seat (λ x. 0 < x.weight → SeatFits s.words s.homes k.rows k.width k.want k.give x) (λ _. of_both) (λ z. absurd (omega arith)) (λ i x p. k.each i x p) j u e lives)
      (λ j u e none_left. either_seat (λ x. x.weight ≡ 0 → x.rows ≡ []) (λ z. absurd (omega arith)) (λ _. refl) (λ i x p. k.gone i x p) j u e none_left)
      (λ r. let t = total-set (λ u. times r u.rows) s.views id v both at in let u = total-set (λ u. times r u.rows) left other w spent there in let y = times-append r v.rows w.rows in omega arith)
      (let t = total-set (λ u. u.weight) s.views id v both at in let u = total-set (λ u. u.weight) left other w spent there in omega arith)
      (let t = total-set met_weight s.views id v both at in let u = total-set met_weight left other w spent there in let y = joint_weight v.met_none w.met_none v.weight w.weight in omega arith)

  -- a seat with all the weight, which met the end, claimed each row once
  pub closes : (id : ℕ) (v : Knowledge) (ws : List ℕ) (xs : List (Piece J)) → Final (Seen Rule id v) ws xs → v.weight ≡ 2 ^ 32 → v.met_none ≡ true → AllClaimed v
  closes id v ws xs final whole met =
      let s = final.0 in
      let k = final.1.0 in
      let at = final.1.1 in
      let f = k.each id v at (omega arith) in
      let past = f.met met in
      let long : length v.want ≡ k.rows = ap length f.same_want ∙ k.made.want_long in
      record {
        once = λ r low.
            let one = k.once r (omega arith) (omega arith) in
            let t = total-set (λ u. times r u.rows) s.views id v spent at in
            let y = total-set (λ u. u.weight) s.views id v spent at in
            let z = k.weighs in
            let none_left = nothing r (set s.views id spent) (λ j u e. others s k id j u e) (omega arith) in
            omega arith;
        no_other = λ r above. let p = part-le (λ u. times r u.rows) s.views id v at in let o = k.outside r (omega arith) in omega arith;
      }
    where
      others : (s : St) (k : Rule s) (id j : ℕ) (u : Knowledge) → get_elem? (set s.views id spent) j ≡ some u → u.weight ≡ 0 → u.rows ≡ []
      others s k id j u e zero_weight = ⊎_elim (λ (z : (j ≡ id) × (spent ≡ u)). ap (λ (x : Knowledge). x.rows) (sym z.1)) (λ (z : (j ≢ id) × (get_elem? s.views j ≡ some u)). k.gone j u z.1 zero_weight) (at_set s.views id j spent u e)

      nothing : (r : ℕ) (vs : List Knowledge) → ((j : ℕ) (u : Knowledge) → get_elem? vs j ≡ some u → u.weight ≡ 0 → u.rows ≡ []) → total (λ u. u.weight) vs ≡ 0 → total (λ u. times r u.rows) vs ≡ 0
      nothing r [] gone light = refl
      nothing r (x ∷ xs) gone light =
          let here : times r x.rows ≡ 0 = ap (times r) (gone 0 x refl (omega arith)) in
          let later = nothing r xs (λ j u e. gone (suc j) u e) (omega arith) in
          omega arith
