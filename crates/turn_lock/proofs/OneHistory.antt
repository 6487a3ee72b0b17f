-- The table's rule gives the rule of the turn.
use Rattle.std.proofs.lemmas.Bool.Decides.{nat_tests}
use Rattle.std.proofs.lemmas.List.Sums.{sum_by-cons}
use Rattle.std.proofs.lemmas.List.{map-append}
use Rattle.std.proofs.Common.{◌≡◌, ◌≢◌, ◌⊎◌, ℕ, zero, suc, ◌+◌, ◌<◌, ◌≤◌, ◌==◌, eq-eqb, ne_eqb, nat_lt, if◌then◌else◌, List, [], ◌∷◌, map, slice_index, Bool, true, false, Option, Some, None, refl, sym, ap, ◌∙◌, inl, inr, arith, true≢false}
use Rattle.std.specs.Prelude.{flat_map, filter, count_by, sum_by, is_some, IfSome}
use Rattle.std.specs.List.{AllByRecursion}
use mathlib.Core.Logic.{dite}
use mathlib.Core.Option as maybe
use native.Mathlib.Decide.{ℕ_discrete}
use lib.ListN.{get_elem?}
use Rattle.atomic_table.specs.Table as table
use Rattle.h265_model.proofs.EachOnce.{occurs, occurs-append, permuted}
use Rattle.recorder_model.specs.declared.entry.Entry.{Entry}
use Rattle.recorder_model.specs.Setting.{Setting}
use Rattle.recorder_model.specs.Turn.{State, Held, Own, View, IsInRule, IsExact, IsAtHome, IsHeld, holds_it}
use Rattle.turn_lock.specs.declared.knowledge.Knowledge.{Knowledge}
use Rattle.turn_lock.specs.Turns.{made_by, times_in, times, total_weight, Kept}
use Rattle.turn_lock.specs.OneHistory.{own_of, view_of, views_of, home_of, IsOneHistory}
use Rattle.turn_lock.proofs.Histories.{made_by-here, made_by-later}

abbrev pub one_if : Bool → ℕ
one_if b = if b then 1 else 0

-- ---- the views of those with a share

abbrev numbers_in : List (ℕ × ℕ) → List ℕ
numbers_in made = map (λ (o : Own). o.number) (map own_of made)

occurs-made : (a : ℕ) (made : List (ℕ × ℕ)) → occurs a (numbers_in made) ≡ times_in a made
occurs-made a [] = refl
occurs-made a (x ∷ xs) = ap (λ n. (if a == x.0 then 1 else 0) + n) (occurs-made a xs)

-- what the views of those with a share say, by cases of the share
module _ (x : Knowledge) (xs : List Knowledge) where
  skipped : x.weight ≡ 0 → views_of (x ∷ xs) ≡ views_of xs
  skipped is = rw (eq-eqb x.weight 0 is) refl

  listed : x.weight ≢ 0 → views_of (x ∷ xs) ≡ view_of x ∷ views_of xs
  listed apart = rw (ne_eqb x.weight 0 apart) refl

-- a fact of each with a share
views-all : (P : View → Type 0) (vs : List Knowledge) → ((j : ℕ) (v : Knowledge) → get_elem? vs j ≡ maybe.some v → 0 < v.weight → P (view_of v)) → AllByRecursion P (views_of vs)
views-all P [] each = tt
views-all P (x ∷ xs) each = dite (ℕ_discrete x.weight 0)
    (λ is. rw (skipped x xs is) (views-all P xs (λ j v at live. each (suc j) v at live)))
    (λ apart. rw (listed x xs apart) (each 0 x refl (omega arith), views-all P xs (λ j v at live. each (suc j) v at live)))

views-weight : (vs : List Knowledge) → sum_by (λ v. v.weight) (views_of vs) ≡ total_weight vs
views-weight [] = refl
views-weight (x ∷ xs) = dite (ℕ_discrete x.weight 0)
    (λ is. rw (skipped x xs is) (let r = views-weight xs in omega arith))
    (λ apart. rw (listed x xs apart) (sum_by-cons (λ v. v.weight) (view_of x) (views_of xs) ∙ (let r = views-weight xs in omega arith)))

views-numbers : (vs : List Knowledge) → ((j : ℕ) (v : Knowledge) → get_elem? vs j ≡ maybe.some v → v.weight ≡ 0 → v.made ≡ [])
    → (a : ℕ) → occurs a (map (λ o. o.number) (flat_map (λ v. v.owns) (views_of vs))) ≡ times a vs
views-numbers [] gone a = refl
views-numbers (x ∷ xs) gone a = dite (ℕ_discrete x.weight 0)
    (λ is. rw (skipped x xs is) (let r = views-numbers xs (λ j v at. gone (suc j) v at) a in let e : times_in a x.made ≡ 0 = ap (times_in a) (gone 0 x refl is) in omega arith))
    (λ apart. rw (listed x xs apart) (ap (occurs a) (map-append (λ (o : Own). o.number) (map own_of x.made) (flat_map (λ v. v.owns) (views_of xs)))
    ∙ occurs-append a (numbers_in x.made) (map (λ o. o.number) (flat_map (λ v. v.owns) (views_of xs)))
    ∙ (let r = views-numbers xs (λ j v at. gone (suc j) v at) a in let m = occurs-made a x.made in omega arith)))

views-nobody : (vs : List Knowledge) → ((j : ℕ) (v : Knowledge) → get_elem? vs j ≡ maybe.some v → 0 < v.weight → v.holds ≡ false) → count_by holds_it (views_of vs) ≡ 0
views-nobody [] idle = refl
views-nobody (x ∷ xs) idle = dite (ℕ_discrete x.weight 0)
    (λ is. rw (skipped x xs is) (views-nobody xs (λ j v at. idle (suc j) v at)))
    (λ apart. rw (listed x xs apart) (sum_by-cons (λ v. one_if (holds_it v)) (view_of x) (views_of xs)
    ∙ (let r = views-nobody xs (λ j v at. idle (suc j) v at) in let h = idle 0 x refl (omega arith) in let e = none_held x h in omega arith)))
  where
    none_held : (v : Knowledge) → v.holds ≡ false → one_if (holds_it (view_of v)) ≡ 0
    none_held v h = rw h refl

views-raised : (vs : List Knowledge) (j : ℕ) (v : Knowledge) → get_elem? vs j ≡ maybe.some v → 0 < v.weight → v.raised ≡ true → 0 < count_by (λ v. v.raised_mark) (views_of vs)
views-raised [] j v at live up = absurd (maybe.some-ne-none v (sym at))
views-raised (x ∷ xs) zero v at live up =
    let is = maybe.some-injective x v at in
    let heavy : x.weight ≢ 0 = λ z. let w : x.weight ≡ v.weight = ap (λ (u : Knowledge). u.weight) is in absurd (omega arith) in
    let e : x.raised ≡ true = ap (λ (u : Knowledge). u.raised) is ∙ up in
    rw (listed x xs heavy) (let s = sum_by-cons (λ v. one_if v.raised_mark) (view_of x) (views_of xs) in let one : one_if x.raised ≡ 1 = rw e refl in omega arith)
views-raised (x ∷ xs) (suc j) v at live up = dite (ℕ_discrete x.weight 0)
    (λ is. rw (skipped x xs is) (views-raised xs j v at live up))
    (λ apart. rw (listed x xs apart) (let r = views-raised xs j v at live up in let s = sum_by-cons (λ v. one_if v.raised_mark) (view_of x) (views_of xs) in omega arith))

-- exactly one holds
abbrev holds_in : List Knowledge → List (Option Held)
holds_in vs = filter is_some (map (λ v. v.holds) (views_of vs))

none_hold : (vs : List Knowledge) → ((j : ℕ) (v : Knowledge) → get_elem? vs j ≡ maybe.some v → 0 < v.weight → v.holds ≡ false) → holds_in vs ≡ []
none_hold [] idle = refl
none_hold (x ∷ xs) idle = dite (ℕ_discrete x.weight 0)
    (λ is. rw (skipped x xs is) (none_hold xs (λ j v at. idle (suc j) v at)))
    (λ apart. rw (listed x xs apart) (rw (idle 0 x refl (omega arith)) (none_hold xs (λ j v at. idle (suc j) v at))))

one_holds : (vs : List Knowledge) (j : ℕ) (v : Knowledge) → get_elem? vs j ≡ maybe.some v → 0 < v.weight → v.holds ≡ true
    → ((i : ℕ) (u : Knowledge) → i ≢ j → get_elem? vs i ≡ maybe.some u → 0 < u.weight → u.holds ≡ false) → holds_in vs ≡ Some (record { base = v.base; mark = v.base_mark }) ∷ []
one_holds [] j v at live holds idle = absurd (maybe.some-ne-none v (sym at))
one_holds (x ∷ xs) zero v at live holds idle =
    let is = maybe.some-injective x v at in
    let heavy : x.weight ≢ 0 = λ z. let w : x.weight ≡ v.weight = ap (λ (u : Knowledge). u.weight) is in absurd (omega arith) in
    let e : x.holds ≡ true = ap (λ (u : Knowledge). u.holds) is ∙ holds in
    rw (listed x xs heavy) (rw e (rw (none_hold xs (λ i u there. idle (suc i) u (λ z. absurd (omega arith)) there)) (ap (λ (u : Knowledge). Some (record { base = u.base; mark = u.base_mark }) ∷ []) is)))
one_holds (x ∷ xs) (suc j) v at live holds idle = dite (ℕ_discrete x.weight 0)
    (λ is. rw (skipped x xs is) (one_holds xs j v at live holds (λ i u apart there. idle (suc i) u (λ z. apart (omega arith)) there)))
    (λ heavy. rw (listed x xs heavy) (rw (idle 0 x (λ z. absurd (omega arith)) refl (omega arith)) (one_holds xs j v at live holds (λ i u apart there. idle (suc i) u (λ z. apart (omega arith)) there))))

-- ---- each number of a view with what was made under it

pub own-each : (made : List (ℕ × ℕ)) (P : Own → Type 0) → ((a : ℕ) → times_in a made ≤ 1) → ((a k : ℕ) → made_by a made ≡ Some k → P (record { number = a; made = k })) → AllByRecursion P (map own_of made)
own-each [] P once each = tt
own-each (x ∷ xs) P once each = (
  each x.0 x.1 (made_by-here x.0 x xs refl),
  own-each xs P
      (λ a. later (one_if (a == x.0)) (times_in a xs) (once a))
      (λ a k at. each a k (made_by-later a x xs (other a k at) ∙ at)),
)
  where
    later : (n m : ℕ) → n + m ≤ 1 → m ≤ 1
    later n m le = omega arith

    found : (a k : ℕ) (ys : List (ℕ × ℕ)) → made_by a ys ≡ Some k → 0 < times_in a ys
    found a k [] at = absurd (cc)
    found a k (y ∷ ys) at = dite (ℕ_discrete a y.0)
        (λ is. let e = eq-eqb a y.0 is in rw e (omega arith))
        (λ apart. let r = found a k ys (sym (made_by-later a y ys apart) ∙ at) in omega arith)

    other : (a k : ℕ) → made_by a xs ≡ Some k → a ≢ x.0
    other a k at is = let o : one_if (a == x.0) + times_in a xs ≤ 1 = once a in let f = found a k xs at in let e : one_if (a == x.0) ≡ 1 = rw (eq-eqb a x.0 is) refl in absurd (omega arith)

times-part : (a : ℕ) (vs : List Knowledge) (j : ℕ) (v : Knowledge) → get_elem? vs j ≡ maybe.some v → times_in a v.made ≤ times a vs
times-part a [] j v at = absurd (maybe.some-ne-none v (sym at))
times-part a (x ∷ xs) zero v at = let e : times_in a x.made ≡ times_in a v.made = ap (λ (u : Knowledge). times_in a u.made) (maybe.some-injective x v at) in omega arith
times-part a (x ∷ xs) (suc j) v at = let r = times-part a xs j v at in omega arith

at_most_one : (b : Bool) (n m : ℕ) → n ≤ m → m ≡ (if b then 1 else 0) → n ≤ 1
at_most_one true n m le is = omega arith
at_most_one false n m le is = omega arith

-- ---- the law

module _ {S : Type 0} (setting_of : S → Setting) (history_of : S → List Entry) (mark_of : S → Bool) where
  module _ (s : table.State (Option S) Knowledge) (r : Kept setting_of history_of mark_of s) where
    in_rule : (j : ℕ) (v : Knowledge) → get_elem? s.views j ≡ maybe.some v → 0 < v.weight → IsInRule r.setting r.passes r.log r.mark (view_of v)
    in_rule j v at live =
        let f = r.agree.each j v at live in record {
          begins = f.has_seen;
          exact = own-each v.made (IsExact r.passes r.log v.seen)
              (λ a. at_most_one (nat_lt a r.passes) (times_in a v.made) (times a s.views) (times-part a s.views j v at) (r.agree.once a))
              (λ a k mine. let o = f.own a k mine in record { all = o.1; seen_all = o.2 });
          same_setting = f.same_setting;
          same_passes = f.same_passes;
          saw = f.saw_mark;
          weighs = live;
        }

    idle : r.held ≡ false → (j : ℕ) (v : Knowledge) → get_elem? s.views j ≡ maybe.some v → 0 < v.weight → v.holds ≡ false
    idle free j v at live = not_true v.holds (λ h. true≢false (sym ((r.agree.each j v at live).holding h).0 ∙ free))
      where
        not_true : (b : Bool) → (b ≡ true → ⊥) → b ≡ false
        not_true true h = absurd (h refl)
        not_true false h = refl

    idle_else : (i : ℕ) (u : Knowledge) → i ≢ r.holder → get_elem? s.views i ≡ maybe.some u → 0 < u.weight → u.holds ≡ false
    idle_else i u apart at live = not_true u.holds (λ h. apart (sym ((r.agree.each i u at live).holding h).1))
      where
        not_true : (b : Bool) → (b ≡ true → ⊥) → b ≡ false
        not_true true h = absurd (h refl)
        not_true false h = refl

    first_home : (homes : List (maybe.Option (Option S))) (x : S) → get_elem? homes 0 ≡ maybe.some (maybe.some (Some x)) → home_of setting_of history_of mark_of homes ≡ Some (record { setting = setting_of x; history = history_of x; mark = mark_of x })
    first_home [] x at = absurd (maybe.some-ne-none _ (sym at))
    first_home (o ∷ os) x at = rw (maybe.some-injective o (maybe.some (Some x)) at) refl

    no_home : (homes : List (maybe.Option (Option S))) → get_elem? homes 0 ≡ maybe.some maybe.none → home_of setting_of history_of mark_of homes ≡ None
    no_home [] at = refl
    no_home (o ∷ os) at = rw (maybe.some-injective o maybe.none at) refl

    place : (held : Bool) → r.held ≡ held
        → IsAtHome (slice_index s.words 0) (home_of setting_of history_of mark_of s.homes) (views_of s.views) r.log r.mark ⊎ IsHeld (slice_index s.words 0) (home_of setting_of history_of mark_of s.homes) (views_of s.views) r.log r.mark
    place false free =
        let home = r.at_home free in
        let x : S = home.0 in
        inl record {
          here = rw (first_home s.homes x home.1) (home.3, home.4);
          nobody = views-nobody s.views (idle free);
          even = r.word ∙ rw free (omega arith);
        }
    place true held =
        let o = r.agree.out held in
        let h = (r.agree.each r.holder o.0 o.1 o.2).holding o.3 in
        inr record {
          away = no_home s.homes (r.away held);
          one = one_holds s.views r.holder o.0 o.1 o.2 o.3 idle_else ∙ (λ i. Some (record { base = h.2 i; mark = h.3 i }) ∷ []);
          odd = r.word ∙ rw held refl;
        }

    home_setting : (held : Bool) → r.held ≡ held → IfSome (home_of setting_of history_of mark_of s.homes) (λ (t : State). t.setting ≡ r.setting)
    home_setting false free = let home = r.at_home free in rw (first_home s.homes home.0 home.1) home.2
    home_setting true held = rw (no_home s.homes (r.away held)) tt

    pub is_one_history : IsOneHistory setting_of history_of mark_of s
    is_one_history = record {
      setting = r.setting;
      passes = r.passes;
      history = r.log;
      mark = r.mark;
      rule = record {
        place = place r.held refl;
        home_setting = home_setting r.held refl;
        each = views-all (IsInRule r.setting r.passes r.log r.mark) s.views in_rule;
        numbers = permuted r.passes 0 (map (λ o. o.number) (flat_map (λ v. v.owns) (views_of s.views))) (λ a. views-numbers s.views r.agree.gone a ∙ (r.agree.once a ∙ below_all a));
        raised = λ up. let m = r.agree.marked up in views-raised s.views m.0 m.1 m.2 m.3 m.4;
        weights = views-weight s.views ∙ r.agree.weighs;
      };
    }
      where
        below_all : (a : ℕ) → one_if (nat_lt a r.passes) ≡ (if nat_lt a (0 + r.passes) then (if nat_lt a 0 then 0 else 1) else 0)
        below_all a = grind (arith, nat_tests)
