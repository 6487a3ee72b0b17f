-- A pass is cut in two, two are joined, and the last one closes the turn.
use Rattle.std.proofs.lemmas.Bool.Decides.{nat_tests}
use Rattle.std.proofs.Common.{nat_lt, ◌≡◌, ◌≢◌, ◌⊎◌, ℕ, zero, suc, ◌+◌, ◌*◌, ◌^◌, ◌<◌, ◌≤◌, ◌||◌, ◌==◌, eq-eqb, ne_eqb, List, [], ◌∷◌, ◌++◌, length, set, get_or, Bool, true, false, if◌then◌else◌, Option, Some, refl, sym, ap, ◌∙◌, subst, inl, inr, ⊎_elim, arith, length-set, true≢false}
use mathlib.Core.Logic.{dite}
use mathlib.Core.Option.{some, none, some-injective, some-ne-none}
use native.Mathlib.Decide.{ℕ_discrete}
use lib.ListN.{get_elem?}
use Rattle.atomic_table.specs.Table.{State, Me, step, keeps, Allows, Splits, Joins, Final, Seen, opening}
use Rattle.atomic_table.proofs.Lists.{at_set, set_else, at_longer, at_last}
use Rattle.recorder_model.specs.declared.entry.Entry.{Entry}
use Rattle.recorder_model.specs.Setting.{Setting}
use Rattle.recorder_model.specs.Turn.{entries_by}
use Rattle.turn_lock.specs.declared.knowledge.Knowledge.{Knowledge}
use Rattle.turn_lock.specs.Turns.{made_by, none_made, times_in, tail_of, head_of, total_weight, longer, shorter, Fits, Agree, Kept, opening_view, without_first, only_first, lighter, noted, merged, spent, finds, compared, HasClosed, Begins}
use Rattle.turn_lock.proofs.Histories.{begins_nil, begins_of, between, some_is, made_by-here, made_by-later, made_by-append, made_by-left, made_by-right, times_in-append, none_made-zero, none_made-has, none_made-times, longer_begins, shorter_begins, shorter_le, both_begin}
use Rattle.turn_lock.proofs.Views.{total_weight-set, total_weight-snoc, times-set, times-snoc, set_there}
use Rattle.turn_lock.proofs.Steps.{unmoved}

at_snoc : (vs : List Knowledge) (w u : Knowledge) (i : ℕ) → get_elem? (vs ++ w ∷ []) i ≡ some u → (get_elem? vs i ≡ some u) ⊎ ((i ≡ length vs) × (w ≡ u))
at_snoc [] w u zero e = inr (refl, some-injective w u e)
at_snoc [] w u (suc i) e = absurd (some-ne-none u (sym e))
at_snoc (x ∷ xs) w u zero e = inl e
at_snoc (x ∷ xs) w u (suc i) e = ⊎_elim (λ f. inl f) (λ t. inr (ap suc t.0, t.1)) (at_snoc xs w u i e)

below : (vs : List Knowledge) (i : ℕ) (u : Knowledge) → get_elem? vs i ≡ some u → i < length vs
below [] i u e = absurd (some-ne-none u (sym e))
below (x ∷ xs) zero u e = omega arith
below (x ∷ xs) (suc i) u e = let b = below xs i u e in omega arith

weight_below : (vs : List Knowledge) (i : ℕ) (u : Knowledge) → get_elem? vs i ≡ some u → u.weight ≤ total_weight vs
weight_below [] i u e = absurd (some-ne-none u (sym e))
weight_below (x ∷ xs) zero u e = let same : x.weight ≡ u.weight = ap (λ (v : Knowledge). v.weight) (some-injective x u e) in omega arith
weight_below (x ∷ xs) (suc i) u e = let b = weight_below xs i u e in omega arith

or_left : (a b : Bool) → a ≡ true → (a || b) ≡ true
or_left true b e = refl
or_left false b e = absurd (cc)

or_right : (a b : Bool) → b ≡ true → (a || b) ≡ true
or_right true b e = refl
or_right false b e = e

or_either : (a b : Bool) → (a || b) ≡ true → (a ≡ true) ⊎ (b ≡ true)
or_either true b e = inl refl
or_either false b e = inr e

module _ (setting : Setting) (passes : ℕ) (log : List Entry) (mark held : Bool) (holder : ℕ) where
  abbrev F : (ℕ → ℕ) → ℕ → Knowledge → Type 0
  F owner i u = Fits setting passes log mark held holder owner i u

  -- the same knowledge under another account of who has which number
  reowned : (owner owner' : ℕ → ℕ) (i : ℕ) (u : Knowledge) → ((a k : ℕ) → made_by a u.made ≡ Some k → owner a ≡ i → owner' a ≡ i) → F owner i u → F owner' i u
  reowned owner owner' i u own g = record {
    same_setting = g.same_setting;
    same_passes = g.same_passes;
    has_seen = g.has_seen;
    has_heard = g.has_heard;
    own = λ a k e. let o = g.own a k e in (own a k e o.0, o.1, o.2);
    saw_mark = g.saw_mark;
    holding = g.holding;
  }

  -- a view is cut in two
  agree_split : (owner owner' : ℕ → ℕ) (vs : List Knowledge) (j : ℕ) (v v' w : Knowledge) → Agree setting passes log mark held holder owner vs → get_elem? vs j ≡ some v → 0 < v'.weight → 0 < w.weight → v'.weight + w.weight ≡ v.weight → v'.holds ≡ v.holds → v'.raised ≡ v.raised
      → ((i : ℕ) (u : Knowledge) → i ≢ j → i < length vs → F owner i u → F owner' i u) → F owner' j v' → F owner' (length vs) w
      → ((a k : ℕ) → made_by a v.made ≡ Some k → ((owner' a ≡ j) × ((k' : ℕ) × (made_by a v'.made ≡ Some k'))) ⊎ ((owner' a ≡ length vs) × (0 < w.weight) × ((k' : ℕ) × (made_by a w.made ≡ Some k'))))
      → ((a : ℕ) → a < passes → owner a ≢ j → owner' a ≡ owner a)
      → ((a : ℕ) → times_in a v'.made + times_in a w.made ≡ times_in a v.made)
      → Agree setting passes log mark held holder owner' (set vs j v' ++ w ∷ [])
  agree_split owner owner' vs j v v' w a at live alive weight holds raised others mine new numbers elsewhere shared =
      let long : length (set vs j v') ≡ length vs = length-set vs j v' in
      let vs' : List Knowledge = set vs j v' in
      let keeps_at : (i : ℕ) (u : Knowledge) → i ≢ j → get_elem? vs i ≡ some u → get_elem? (vs' ++ w ∷ []) i ≡ some u = λ i u apart there. at_longer vs' (w ∷ []) i u (set_else vs j i v' apart ∙ there) in
      let mine_at : get_elem? (vs' ++ w ∷ []) j ≡ some v' = at_longer vs' (w ∷ []) j v' (set_there vs j v v' at) in
      let new_at : get_elem? (vs' ++ w ∷ []) (length vs) ≡ some w = at_last vs' w (length vs) long in record {
        each = λ i u there alive. ⊎_elim
            (λ (t : get_elem? vs' i ≡ some u). ⊎_elim
            (λ (s : (i ≡ j) × (v' ≡ u)). subst (λ (x : ℕ × Knowledge). F owner' x.0 x.1) (λ k. (sym s.0 k, s.1 k)) mine)
            (λ (s : (i ≢ j) × (get_elem? vs i ≡ some u)). others i u s.0 (below vs i u s.1) (a.each i u s.1 alive))
            (at_set vs j i v' u t))
            (λ (t : (i ≡ length vs') × (w ≡ u)). subst (λ (x : ℕ × Knowledge). F owner' x.0 x.1) (λ k. (sym (t.0 ∙ long) k, t.1 k)) new)
            (at_snoc vs' w u i there);
        owned = λ n less.
            let o = a.owned n less in
            dite (ℕ_discrete (owner n) j)
            (λ same.
            let is : o.0 ≡ v = some-injective o.0 v (sym o.2 ∙ (ap (get_elem? vs) same ∙ at)) in
            ⊎_elim
            (λ (t : (owner' n ≡ j) × ((k' : ℕ) × (made_by n v'.made ≡ Some k'))). (v', t.1.0, ap (get_elem? (vs' ++ w ∷ [])) t.0 ∙ mine_at, live, t.1.1))
            (λ (t : (owner' n ≡ length vs) × (0 < w.weight) × ((k' : ℕ) × (made_by n w.made ≡ Some k'))). (w, t.2.0, ap (get_elem? (vs' ++ w ∷ [])) t.0 ∙ new_at, t.1, t.2.1))
            (numbers n o.1 (ap (λ (u : Knowledge). made_by n u.made) (sym is) ∙ o.4)))
            (λ apart. (o.0, o.1, ap (get_elem? (vs' ++ w ∷ [])) (elsewhere n less apart) ∙ keeps_at (owner n) o.0 apart o.2, o.3, o.4));
        out = λ h.
            let o = a.out h in
            dite (ℕ_discrete holder j)
            (λ same. let is : o.0 ≡ v = some-injective o.0 v (sym o.1 ∙ (ap (get_elem? vs) same ∙ at)) in (v', ap (get_elem? (vs' ++ w ∷ [])) same ∙ mine_at, live, holds ∙ (ap (λ (u : Knowledge). u.holds) (sym is) ∙ o.3)))
            (λ apart. (o.0, keeps_at holder o.0 apart o.1, o.2, o.3));
        marked = λ h.
            let o = a.marked h in
            dite (ℕ_discrete o.0 j)
            (λ same. let is : o.1 ≡ v = some-injective o.1 v (sym o.2 ∙ (ap (get_elem? vs) same ∙ at)) in (j, v', mine_at, live, raised ∙ (ap (λ (u : Knowledge). u.raised) (sym is) ∙ o.4)))
            (λ apart. (o.0, o.1, keeps_at o.0 o.1 apart o.2, o.3, o.4));
        weighs = let t = total_weight-set vs j v v' at in let u = total_weight-snoc vs' w in let z = a.weighs in omega arith;
        gone = λ i u there nothing. ⊎_elim
            (λ (t : get_elem? vs' i ≡ some u). ⊎_elim
            (λ (s : (i ≡ j) × (v' ≡ u)). let e : v'.weight ≡ u.weight = ap (λ (x : Knowledge). x.weight) s.1 in absurd (omega arith))
            (λ (s : (i ≢ j) × (get_elem? vs i ≡ some u)). a.gone i u s.1 nothing)
            (at_set vs j i v' u t))
            (λ (t : (i ≡ length vs') × (w ≡ u)). let e : w.weight ≡ u.weight = ap (λ (x : Knowledge). x.weight) t.1 in absurd (omega arith))
            (at_snoc vs' w u i there);
        once = λ n. let t = times-set n vs j v v' at in let u = times-snoc n vs' w in let e = shared n in let z = a.once n in omega arith;
      }

  -- one pass or note takes in another
  abbrev moved : (ℕ → ℕ) → ℕ → ℕ → ℕ → ℕ
  moved owner j i a = if owner a == i then j else owner a

  moved_there : (owner : ℕ → ℕ) (j i a : ℕ) → owner a ≡ i → moved owner j i a ≡ j
  moved_there owner j i a e = rw (eq-eqb (owner a) i e) refl

  moved_else : (owner : ℕ → ℕ) (j i a : ℕ) → owner a ≢ i → moved owner j i a ≡ owner a
  moved_else owner j i a e = rw (ne_eqb (owner a) i e) refl

  merged_fits : (owner : ℕ → ℕ) (j i : ℕ) (v w : Knowledge) → i ≢ j → F owner j v → F owner i w → F (moved owner j i) j (merged v w)
  merged_fits owner j i v w apart f g = record {
    same_setting = f.same_setting;
    same_passes = f.same_passes;
    has_seen = longer_begins v.seen w.seen log f.has_seen g.has_seen;
    has_heard = shorter_begins v.seen w.seen log f.has_seen g.has_seen;
    own = λ a k e. ⊎_elim
        (λ (t : made_by a v.made ≡ Some k). let o = f.own a k t in (moved_else owner j i a (λ is. apart (sym is ∙ o.0)) ∙ o.0, o.1, counts v.seen a k (left_begins v.seen w.seen f.has_seen g.has_seen) o.2 o.1))
        (λ (t : made_by a w.made ≡ Some k). let o = g.own a k t in (moved_there owner j i a o.0, o.1, counts w.seen a k (right_begins v.seen w.seen f.has_seen g.has_seen) o.2 o.1))
        (made_by-append a k v.made w.made e);
    saw_mark = λ e. ⊎_elim (λ (t : v.saw ≡ true). f.saw_mark t) (λ (t : w.saw ≡ true). g.saw_mark t) (or_either v.saw w.saw e);
    holding = f.holding;
  }
    where
      left_begins : (xs ys : List Entry) → Begins xs log → Begins ys log → Begins xs (longer xs ys)
      left_begins xs ys b c = (both_begin xs ys (begins_of (shorter xs ys) (longer xs ys) log (shorter_begins xs ys log b c) (longer_begins xs ys log b c) (shorter_le xs ys))).0

      right_begins : (xs ys : List Entry) → Begins xs log → Begins ys log → Begins ys (longer xs ys)
      right_begins xs ys b c = (both_begin xs ys (begins_of (shorter xs ys) (longer xs ys) log (shorter_begins xs ys log b c) (longer_begins xs ys log b c) (shorter_le xs ys))).1

      counts : (seen : List Entry) (a k : ℕ) → Begins seen (longer v.seen w.seen) → entries_by passes a seen ≡ k → entries_by passes a log ≡ k → entries_by passes a (longer v.seen w.seen) ≡ k
      counts seen a k b low high = between passes a k seen (longer v.seen w.seen) log b (longer_begins v.seen w.seen log f.has_seen g.has_seen) low high

  agree_join : (owner : ℕ → ℕ) (vs : List Knowledge) (j i : ℕ) (v w : Knowledge) → Agree setting passes log mark held holder owner vs → i ≢ j → get_elem? vs j ≡ some v → get_elem? vs i ≡ some w → 0 < v.weight → 0 < w.weight → w.holds ≡ false
      → Agree setting passes log mark held holder (moved owner j i) (set (set vs j (merged v w)) i spent)
  agree_join owner vs j i v w a apart at there live alive idle =
      let both : Knowledge = merged v w in
      let vs' : List Knowledge = set vs j both in
      let after : List Knowledge = set vs' i spent in
      let there' : get_elem? vs' i ≡ some w = set_else vs j i both apart ∙ there in
      let back : j ≢ i = λ e. apart (sym e) in
      let both_at : get_elem? after j ≡ some both = set_else vs' i j spent back ∙ set_there vs j v both at in
      let keeps_at : (k : ℕ) (u : Knowledge) → k ≢ i → k ≢ j → get_elem? vs k ≡ some u → get_elem? after k ≡ some u = λ k u p q e. set_else vs' i k spent p ∙ (set_else vs j k both q ∙ e) in
      let at_j : (k : ℕ) (u : Knowledge) → get_elem? vs k ≡ some u → k ≡ j → u ≡ v = λ k u e same. some-injective u v (sym e ∙ (ap (get_elem? vs) same ∙ at)) in
      let at_i : (k : ℕ) (u : Knowledge) → get_elem? vs k ≡ some u → k ≡ i → u ≡ w = λ k u e same. some-injective u w (sym e ∙ (ap (get_elem? vs) same ∙ there)) in
      let joint : 0 < v.weight + w.weight = omega arith in record {
        each = λ k u e living. ⊎_elim
            (λ (t : (k ≡ i) × (spent ≡ u)). absurd (nothing u t.1 living))
            (λ (t : (k ≢ i) × (get_elem? vs' k ≡ some u)). ⊎_elim
            (λ (s : (k ≡ j) × (both ≡ u)). subst (λ (x : ℕ × Knowledge). F (moved owner j i) x.0 x.1) (λ n. (sym s.0 n, s.1 n)) (merged_fits owner j i v w apart (a.each j v at live) (a.each i w there alive)))
            (λ (s : (k ≢ j) × (get_elem? vs k ≡ some u)). reowned owner (moved owner j i) k u (λ n m _ is. moved_else owner j i n (λ z. t.0 (sym is ∙ z)) ∙ is) (a.each k u s.1 living))
            (at_set vs j k both u t.1))
            (at_set vs' i k spent u e);
        owned = λ n less.
            let o = a.owned n less in
            dite (ℕ_discrete (owner n) i)
            (λ same.
            let is = at_i (owner n) o.0 o.2 same in
            let r = made_by-right n o.1 v.made w.made (ap (λ (u : Knowledge). made_by n u.made) (sym is) ∙ o.4) in
            (both, r.0, ap (get_elem? after) (moved_there owner j i n same) ∙ both_at, joint, r.1))
            (λ other. dite (ℕ_discrete (owner n) j)
            (λ same.
            let is = at_j (owner n) o.0 o.2 same in
            (both, o.1, ap (get_elem? after) (moved_else owner j i n other ∙ same) ∙ both_at, joint, made_by-left n o.1 v.made w.made (ap (λ (u : Knowledge). made_by n u.made) (sym is) ∙ o.4)))
            (λ other'. (o.0, o.1, ap (get_elem? after) (moved_else owner j i n other) ∙ keeps_at (owner n) o.0 other other' o.2, o.3, o.4)));
        out = λ h.
            let o = a.out h in
            dite (ℕ_discrete holder i)
            (λ same. absurd (true≢false (sym o.3 ∙ (ap (λ (u : Knowledge). u.holds) (at_i holder o.0 o.1 same) ∙ idle))))
            (λ other. dite (ℕ_discrete holder j)
            (λ same. (both, ap (get_elem? after) same ∙ both_at, joint, ap (λ (u : Knowledge). u.holds) (sym (at_j holder o.0 o.1 same)) ∙ o.3))
            (λ other'. (o.0, keeps_at holder o.0 other other' o.1, o.2, o.3)));
        marked = λ h.
            let o = a.marked h in
            dite (ℕ_discrete o.0 i)
            (λ same. (j, both, both_at, joint, or_right v.raised w.raised (ap (λ (u : Knowledge). u.raised) (sym (at_i o.0 o.1 o.2 same)) ∙ o.4)))
            (λ other. dite (ℕ_discrete o.0 j)
            (λ same. (j, both, both_at, joint, or_left v.raised w.raised (ap (λ (u : Knowledge). u.raised) (sym (at_j o.0 o.1 o.2 same)) ∙ o.4)))
            (λ other'. (o.0, o.1, keeps_at o.0 o.1 other other' o.2, o.3, o.4)));
        weighs = let t = total_weight-set vs j v both at in let u = total_weight-set vs' i w spent there' in let z = a.weighs in omega arith;
        gone = λ k u e nothing. ⊎_elim
            (λ (t : (k ≡ i) × (spent ≡ u)). ap (λ (x : Knowledge). x.made) (sym t.1))
            (λ (t : (k ≢ i) × (get_elem? vs' k ≡ some u)). ⊎_elim
            (λ (s : (k ≡ j) × (both ≡ u)). let z : v.weight + w.weight ≡ u.weight = ap (λ (x : Knowledge). x.weight) s.1 in absurd (omega arith))
            (λ (s : (k ≢ j) × (get_elem? vs k ≡ some u)). a.gone k u s.1 nothing)
            (at_set vs j k both u t.1))
            (at_set vs' i k spent u e);
        once = λ n.
            let t = times-set n vs j v both at in
            let u = times-set n vs' i w spent there' in
            let e = times_in-append n v.made w.made in
            let z = a.once n in
            omega arith;
      }
    where
      nothing : (u : Knowledge) → spent ≡ u → 0 < u.weight → ⊥
      nothing u is living = let e : 0 ≡ u.weight = ap (λ (x : Knowledge). x.weight) is in omega arith

module _ {S : Type 0} (setting_of : S → Setting) (history_of : S → List Entry) (mark_of : S → Bool) where
  abbrev St : Type 0
  St = State (Option S) Knowledge

  abbrev Rule : St → Type 0
  Rule = Kept setting_of history_of mark_of

  -- the rule with other views, and another account of who has which number
  with_views : (s : St) (r : Rule s) (owner : ℕ → ℕ) (vs : List Knowledge) → Agree r.setting r.passes r.log r.mark r.held r.holder owner vs → Rule record { words = s.words; homes = s.homes; views = vs }
  with_views s r owner vs agree = record {
    setting = r.setting;
    passes = r.passes;
    log = r.log;
    mark = r.mark;
    held = r.held;
    holder = r.holder;
    owner = owner;
    one_word = r.one_word;
    one_slot = r.one_slot;
    word = r.word;
    away = r.away;
    at_home = r.at_home;
    agree = agree;
  }

  pub notes : (id : ℕ) (v : Knowledge) → 2 ≤ v.weight → Splits Rule id v (lighter v) (noted v)
  notes id v heavy s r at =
      let f = r.agree.each id v at (omega arith) in
      with_views s r r.owner (set s.views id (lighter v) ++ noted v ∷ []) (agree_split r.setting r.passes r.log r.mark r.held r.holder r.owner r.owner s.views id v (lighter v) (noted v) r.agree at (omega arith) (omega arith) (omega arith) refl refl
      (λ i u _ _ g. g)
      record {
        same_setting = f.same_setting;
        same_passes = f.same_passes;
        has_seen = f.has_seen;
        has_heard = f.has_heard;
        own = f.own;
        saw_mark = f.saw_mark;
        holding = f.holding;
      }
      record {
        same_setting = f.same_setting;
        same_passes = f.same_passes;
        has_seen = f.has_seen;
        has_heard = begins_nil r.log;
        own = λ a k e. absurd (cc);
        saw_mark = f.saw_mark;
        holding = λ e. absurd (true≢false (sym e));
      }
      (λ a k e. inl ((f.own a k e).0, (k, e)))
      (λ a _ _. refl)
      (λ a. omega arith))

  -- who has the numbers, once the number a went to the seat j
  abbrev given : (ℕ → ℕ) → ℕ → ℕ → ℕ → ℕ
  given owner a j b = if b == a then j else owner b

  given_here : (owner : ℕ → ℕ) (a j b : ℕ) → b ≡ a → given owner a j b ≡ j
  given_here owner a j b e = rw (eq-eqb b a e) refl

  given_else : (owner : ℕ → ℕ) (a j b : ℕ) → b ≢ a → given owner a j b ≡ owner b
  given_else owner a j b e = rw (ne_eqb b a e) refl

  one_number : (a b k : ℕ) → made_by b ((a, 0) ∷ []) ≡ Some k → (b ≡ a) × (k ≡ 0)
  one_number a b k e = dite (ℕ_discrete b a)
      (λ is. (is, sym (some_is 0 k (sym (made_by-here b (a, 0) [] is) ∙ e))))
      (λ apart. absurd (none_is k (sym (made_by-later b (a, 0) [] apart) ∙ e)))
    where
      none_is : (k : ℕ) → made_by k [] ≡ Some k → ⊥
      none_is k e = cc

  times_in-cut : (b : ℕ) (xs : List (ℕ × ℕ)) → times_in b (tail_of xs) + times_in b (head_of xs) ≡ times_in b xs
  times_in-cut b [] = refl
  times_in-cut b (x ∷ xs) = omega arith

  pub hands_out : (id a m : ℕ) (v : Knowledge) → v.made ≡ none_made a (suc m) → 2 ^ 32 < v.weight → v.holds ≡ false → Splits Rule id v (without_first v) (only_first v)
  hands_out id a m v numbers heavy idle s r at =
      let f = r.agree.each id v at (omega arith) in
      let there = below s.views id v at in
      let len : ℕ = length s.views in
      let owner' : ℕ → ℕ = given r.owner a len in
      let first : made_by a v.made ≡ Some 0 = ap (made_by a) numbers ∙ none_made-has a a (suc m) (omega arith) (omega arith) in
      let tail : (without_first v).made ≡ none_made (suc a) m = ap Rattle.turn_lock.specs.Turns.tail_of numbers in
      let head : (only_first v).made ≡ (a, 0) ∷ [] = ap Rattle.turn_lock.specs.Turns.head_of numbers in
      let own_a = f.own a 0 first in
      let later : (b k : ℕ) → made_by b (without_first v).made ≡ Some k → (b ≢ a) × (made_by b v.made ≡ Some k) = λ b k e.
      let e' = sym (ap (made_by b) tail) ∙ e in
      let z = none_made-zero b (suc a) m k e' in
      let apart : b ≢ a = λ is. let low = z.1 in omega arith in
      (apart, ap (made_by b) numbers ∙ (made_by-later b (a, 0) (none_made (suc a) m) apart ∙ e')) in
      with_views s r owner' (set s.views id (without_first v) ++ only_first v ∷ []) (agree_split r.setting r.passes r.log r.mark r.held r.holder r.owner owner' s.views id v (without_first v) (only_first v) r.agree at (omega arith) (omega arith) (omega arith) refl refl
      (λ i u apart inside g. reowned r.setting r.passes r.log r.mark r.held r.holder r.owner owner' i u (λ b k e is. given_else r.owner a len b (λ same. apart (sym is ∙ (ap r.owner same ∙ own_a.0))) ∙ is) g)
      record {
        same_setting = f.same_setting;
        same_passes = f.same_passes;
        has_seen = f.has_seen;
        has_heard = f.has_heard;
        own = λ b k e. let l = later b k e in let o = f.own b k l.1 in (given_else r.owner a len b l.0 ∙ o.0, o.1, o.2);
        saw_mark = f.saw_mark;
        holding = f.holding;
      }
      record {
        same_setting = f.same_setting;
        same_passes = f.same_passes;
        has_seen = begins_nil r.log;
        has_heard = begins_nil r.log;
        own = λ b k e.
            let o = one_number a b k (sym (ap (made_by b) head) ∙ e) in
            (given_here r.owner a len b o.0, ap (λ (z : ℕ). entries_by r.passes z r.log) o.0 ∙ (own_a.1 ∙ sym o.1), sym o.1);
        saw_mark = λ e. absurd (true≢false (sym e));
        holding = λ e. absurd (true≢false (sym e));
      }
      (λ b k e. dite (ℕ_discrete b a)
      (λ is. inr (given_here r.owner a len b is, omega arith, (0, ap (made_by b) head ∙ made_by-here b (a, 0) [] is)))
      (λ apart. inl (given_else r.owner a len b apart ∙ (f.own b k e).0, (k, ap (made_by b) tail ∙ (sym (made_by-later b (a, 0) (none_made (suc a) m) apart) ∙ (sym (ap (made_by b) numbers) ∙ e))))))
      (λ b _ apart. given_else r.owner a len b (λ is. apart (ap r.owner is ∙ own_a.0)))
      (λ b. times_in-cut b v.made))

  pub joins : (id other : ℕ) (v w : Knowledge) → 0 < v.weight → 0 < w.weight → w.holds ≡ false → Joins Rule id v other w (merged v w) spent
  joins id other v w live alive idle s r at apart there =
      let there' : get_elem? s.views other ≡ some w = sym (set_else s.views id other (merged v w) apart) ∙ there in
      with_views s r (moved r.setting r.passes r.log r.mark r.held r.holder r.owner id other) (set (set s.views id (merged v w)) other spent)
      (agree_join r.setting r.passes r.log r.mark r.held r.holder r.owner s.views id other v w r.agree apart at there' live alive idle)

  pub compares : (slots id : ℕ) (me : Me (Option S) Knowledge) → 0 < me.0.weight → Allows Rule slots id me 0 (λ n. n) (compared (step slots 0 0 0 none) me)
  compares slots id me live s r _ at _ =
      let v : Knowledge = me.0 in
      let n : ℕ = get_or s.words 0 0 in
      let f = r.agree.each id v at live in (
        record (finds v n) { heard = [] },
        keeps,
        tt,
        unmoved setting_of history_of mark_of s id me.1 v (record (finds v n) { heard = [] }) r at live refl refl refl refl record {
          same_setting = f.same_setting;
          same_passes = f.same_passes;
          has_seen = f.has_seen;
          has_heard = begins_nil r.log;
          own = f.own;
          saw_mark = f.saw_mark;
          holding = f.holding;
        },
        (refl, λ l. begins_of v.heard v.seen r.log f.has_heard f.has_seen l),
      )

  pub opens : (passes : ℕ) (x : S) → 0 < passes → history_of x ≡ [] → mark_of x ≡ false → Rule (opening (0 ∷ []) (Some x ∷ []) (opening_view (setting_of x) passes))
  opens passes x some_passes empty unmarked =
      let v : Knowledge = opening_view (setting_of x) passes in record {
        setting = setting_of x;
        passes = passes;
        log = [];
        mark = false;
        held = false;
        holder = 0;
        owner = λ _. 0;
        one_word = refl;
        one_slot = refl;
        word = refl;
        away = λ e. absurd (true≢false (sym e));
        at_home = λ _. (x, refl, refl, empty, unmarked);
        agree = record {
          each = each;
          owned = λ a less. (v, 0, refl, omega arith, none_made-has a 0 passes (omega arith) (omega arith));
          out = λ e. absurd (true≢false (sym e));
          marked = λ e. absurd (true≢false (sym e));
          weighs = omega arith;
          gone = gone;
          once = λ a. once_each a (none_made-times a 0 passes);
        };
      }
    where
      once_each : (a : ℕ) → times_in a (none_made 0 passes) ≡ (if nat_lt a (0 + passes) then (if nat_lt a 0 then 0 else 1) else 0) → times_in a (none_made 0 passes) + 0 ≡ (if nat_lt a passes then 1 else 0)
      once_each a is = grind (arith, nat_tests, is)

      gone : (j : ℕ) (u : Knowledge) → get_elem? (opening_view (setting_of x) passes ∷ []) j ≡ some u → u.weight ≡ 0 → u.made ≡ []
      gone zero u e nothing = let z : 2 ^ 32 * passes ≡ u.weight = ap (λ (w : Knowledge). w.weight) (some-injective (opening_view (setting_of x) passes) u e) in absurd (omega arith)
      gone (suc j) u e nothing = absurd (some-ne-none u (sym e))

      each : (j : ℕ) (u : Knowledge) → get_elem? (opening_view (setting_of x) passes ∷ []) j ≡ some u → 0 < u.weight → Fits (setting_of x) passes [] false false 0 (λ _. 0) j u
      each zero u e alive = subst (Fits (setting_of x) passes [] false false 0 (λ _. 0) 0) (some-injective (opening_view (setting_of x) passes) u e) record {
        same_setting = refl;
        same_passes = refl;
        has_seen = begins_nil [];
        has_heard = begins_nil [];
        own = λ a k e. let z = none_made-zero a 0 passes k e in (refl, sym z.0, sym z.0);
        saw_mark = λ e. absurd (true≢false (sym e));
        holding = λ e. absurd (true≢false (sym e));
      }
      each (suc j) u e alive = absurd (some-ne-none u (sym e))

  -- a pass with every share knows all, once the table is closed
  pub closes : (id : ℕ) (v : Knowledge) (ws : List ℕ) (xs : List (Option S)) → Final (Seen Rule id v) ws xs → 0 < v.weight → v.weight ≡ 2 ^ 32 * v.passes → v.holds ≡ false
      → (x : S) × (get_elem? xs 0 ≡ some (Some x)) × HasClosed setting_of history_of mark_of v x
  closes id v ws xs final live whole idle =
      let s = final.0 in
      let r = final.1.0 in
      let at = final.1.1 in
      let f = r.agree.each id v at live in
      let none_left : (i : ℕ) (u : Knowledge) → get_elem? s.views i ≡ some u → 0 < u.weight → i ≡ id = λ i u there alive. dite (ℕ_discrete i id)
      (λ is. is)
      (λ apart.
      let t = total_weight-set s.views id v spent at in
      let b = weight_below (set s.views id spent) i u (set_else s.views id i spent apart ∙ there) in
      let z = r.agree.weighs in
      let n = f.same_passes in
      absurd (omega arith)) in
      let is_v : (i : ℕ) (u : Knowledge) → get_elem? s.views i ≡ some u → i ≡ id → u ≡ v = λ i u there is. some-injective u v (sym there ∙ (ap (get_elem? s.views) is ∙ at)) in
      let free : r.held ≡ false = not_held r.held (λ h. let o = r.agree.out h in true≢false (sym o.3 ∙ (ap (λ (u : Knowledge). u.holds) (is_v r.holder o.0 o.1 (none_left r.holder o.0 o.1 o.2)) ∙ idle))) in
      let home = r.at_home free in (
        home.0,
        final.4 0 (Some home.0) home.1,
        record {
          setting = home.2 ∙ sym f.same_setting;
          begins = subst (Begins v.seen) (sym home.3) f.has_seen;
          own = λ a less.
              let o = r.agree.owned a (let n = f.same_passes in omega arith) in
              let is = is_v (r.owner a) o.0 o.2 (none_left (r.owner a) o.0 o.2 o.3) in
              let mine : made_by a v.made ≡ Some o.1 = ap (λ (u : Knowledge). made_by a u.made) (sym is) ∙ o.4 in
              mine ∙ ap Some (sym (ap (λ (p : ℕ × List Entry). entries_by p.0 a p.1) (λ i. (f.same_passes i, home.3 i)) ∙ (f.own a o.1 mine).1));
          saw = λ e. home.4 ∙ f.saw_mark e;
          raised = λ e.
              let o = r.agree.marked (sym home.4 ∙ e) in
              ap (λ (u : Knowledge). u.raised) (sym (is_v o.0 o.1 o.2 (none_left o.0 o.1 o.2 o.3))) ∙ o.4;
        },
      )
    where
      not_held : (b : Bool) → (b ≡ true → ⊥) → b ≡ false
      not_held true h = absurd (h refl)
      not_held false h = refl

  -- the same, of what was found in the slot
  pub closes_as : (id : ℕ) (v : Knowledge) (ws : List ℕ) (xs : List (Option S)) (o : Option S) → Final (Seen Rule id v) ws xs → get_elem? xs 0 ≡ some o → 0 < v.weight → v.weight ≡ 2 ^ 32 * v.passes → v.holds ≡ false
      → (x : S) × (o ≡ Some x) × HasClosed setting_of history_of mark_of v x
  closes_as id v ws xs o final slot live whole idle =
      let r = closes id v ws xs final live whole idle in
      (r.0, some-injective o (Some r.0) (sym slot ∙ r.1), r.2)
