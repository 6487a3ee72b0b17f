-- What the passes and notes know keeps fitting one history.
use Rattle.std.proofs.Common.{◌≡◌, ◌≢◌, ◌⊎◌, ℕ, zero, suc, ◌+◌, ◌*◌, ◌^◌, ◌<◌, List, [], ◌∷◌, ◌++◌, set, Bool, true, Some, refl, sym, ap, ◌∙◌, subst, ⊎_elim, arith}
use mathlib.Core.Logic.{dite}
use mathlib.Core.Option.{some, some-injective, some-ne-none}
use native.Mathlib.Decide.{ℕ_discrete}
use lib.ListN.{get_elem?}
use Rattle.atomic_table.proofs.Lists.{at_set, set_else}
use Rattle.recorder_model.specs.declared.entry.Entry.{Entry}
use Rattle.recorder_model.specs.Setting.{Setting}
use Rattle.turn_lock.specs.declared.knowledge.Knowledge.{Knowledge}
use Rattle.turn_lock.specs.Turns.{made_by, times_in, times, total_weight, Fits, Agree}

pub total_weight-set : (vs : List Knowledge) (j : ℕ) (v w : Knowledge) → get_elem? vs j ≡ some v → total_weight (set vs j w) + v.weight ≡ total_weight vs + w.weight
total_weight-set [] j v w at = absurd (some-ne-none v (sym at))
total_weight-set (x ∷ xs) zero v w at = let e : x.weight ≡ v.weight = ap (λ (u : Knowledge). u.weight) (some-injective x v at) in omega arith
total_weight-set (x ∷ xs) (suc j) v w at = let r = total_weight-set xs j v w at in omega arith

pub total_weight-snoc : (vs : List Knowledge) (w : Knowledge) → total_weight (vs ++ w ∷ []) ≡ total_weight vs + w.weight
total_weight-snoc [] w = omega arith
total_weight-snoc (x ∷ xs) w = omega (arith, total_weight-snoc xs w)

pub times-set : (a : ℕ) (vs : List Knowledge) (j : ℕ) (v w : Knowledge) → get_elem? vs j ≡ some v → times a (set vs j w) + times_in a v.made ≡ times a vs + times_in a w.made
times-set a [] j v w at = absurd (some-ne-none v (sym at))
times-set a (x ∷ xs) zero v w at = let e : times_in a x.made ≡ times_in a v.made = ap (λ (u : Knowledge). times_in a u.made) (some-injective x v at) in omega arith
times-set a (x ∷ xs) (suc j) v w at = let r = times-set a xs j v w at in omega arith

pub times-snoc : (a : ℕ) (vs : List Knowledge) (w : Knowledge) → times a (vs ++ w ∷ []) ≡ times a vs + times_in a w.made
times-snoc a [] w = omega arith
times-snoc a (x ∷ xs) w = omega (arith, times-snoc a xs w)

pub set_there : (vs : List Knowledge) (j : ℕ) (v w : Knowledge) → get_elem? vs j ≡ some v → get_elem? (set vs j w) j ≡ some w
set_there [] j v w at = absurd (some-ne-none v (sym at))
set_there (x ∷ xs) zero v w at = refl
set_there (x ∷ xs) (suc j) v w at = set_there xs j v w at

-- where a fact of one view goes over to the view that takes its place, it goes over for all
pub still : (P : Knowledge → Type 0) (vs : List Knowledge) (j : ℕ) (v w : Knowledge) → get_elem? vs j ≡ some v → (P v → P w) → (i : ℕ) (u : Knowledge) → get_elem? vs i ≡ some u → P u → (u' : Knowledge) × (get_elem? (set vs j w) i ≡ some u') × P u'
still P vs j v w at goes i u there p = dite (ℕ_discrete i j)
    (λ same. let is : u ≡ v = some-injective u v (sym there ∙ (ap (get_elem? vs) same ∙ at)) in
    (w, ap (get_elem? (set vs j w)) same ∙ set_there vs j v w at, goes (subst P is p)))
    (λ apart. (u, set_else vs j i w apart ∙ there, p))

module _ (setting : Setting) (passes : ℕ) (owner : ℕ → ℕ) where
  -- one pass or note knows something else, and the others still fit
  pub agree_set : (log log' : List Entry) (mark mark' held held' : Bool) (holder holder' : ℕ) (vs : List Knowledge) (j : ℕ) (v w : Knowledge)
      → Agree setting passes log mark held holder owner vs → get_elem? vs j ≡ some v → 0 < w.weight → total_weight (set vs j w) ≡ 2 ^ 32 * passes
      → ((i : ℕ) (u : Knowledge) → i ≢ j → Fits setting passes log mark held holder owner i u → Fits setting passes log' mark' held' holder' owner i u)
      → Fits setting passes log' mark' held' holder' owner j w
      → ((a k : ℕ) → made_by a v.made ≡ Some k → (k' : ℕ) × (made_by a w.made ≡ Some k'))
      → (held' ≡ true → ((holder' ≡ j) × (w.holds ≡ true)) ⊎ ((held ≡ true) × (holder' ≡ holder) × (v.holds ≡ true → w.holds ≡ true)))
      → (mark' ≡ true → (w.raised ≡ true) ⊎ (mark ≡ true))
      → (v.raised ≡ true → w.raised ≡ true)
      → ((a : ℕ) → times_in a w.made ≡ times_in a v.made)
      → Agree setting passes log' mark' held' holder' owner (set vs j w)
  agree_set log log' mark mark' held held' holder holder' vs j v w a at live weighs others mine numbers out marked raised same_numbers = record {
    each = λ i u there alive. ⊎_elim
        (λ (t : (i ≡ j) × (w ≡ u)). subst (λ (x : ℕ × Knowledge). Fits setting passes log' mark' held' holder' owner x.0 x.1) (λ k. (sym t.0 k, t.1 k)) mine)
        (λ (t : (i ≢ j) × (get_elem? vs i ≡ some u)). others i u t.0 (a.each i u t.1 alive))
        (at_set vs j i w u there);
    owned = λ n less.
        let o = a.owned n less in
        let s = still (λ u. (0 < u.weight) × ((k : ℕ) × (made_by n u.made ≡ Some k))) vs j v w at (λ p. (live, numbers n p.1.0 p.1.1)) (owner n) o.0 o.2 (o.3, (o.1, o.4)) in
        (s.0, s.2.1.0, s.1, s.2.0, s.2.1.1);
    out = λ h. ⊎_elim
        (λ (t : (holder' ≡ j) × (w.holds ≡ true)). (w, ap (get_elem? (set vs j w)) t.0 ∙ set_there vs j v w at, live, t.1))
        (λ (t : (held ≡ true) × (holder' ≡ holder) × (v.holds ≡ true → w.holds ≡ true)).
        let o = a.out t.0 in
        let s = still (λ u. (0 < u.weight) × (u.holds ≡ true)) vs j v w at (λ p. (live, t.2 p.1)) holder o.0 o.1 (o.2, o.3) in
        (s.0, ap (get_elem? (set vs j w)) t.1 ∙ s.1, s.2.0, s.2.1))
        (out h);
    marked = λ h. ⊎_elim
        (λ (t : w.raised ≡ true). (j, w, set_there vs j v w at, live, t))
        (λ (t : mark ≡ true).
        let o = a.marked t in
        let s = still (λ u. (0 < u.weight) × (u.raised ≡ true)) vs j v w at (λ p. (live, raised p.1)) o.0 o.1 o.2 (o.3, o.4) in
        (o.0, s.0, s.1, s.2.0, s.2.1))
        (marked h);
    weighs = weighs;
    gone = λ i u there nothing. ⊎_elim
        (λ (t : (i ≡ j) × (w ≡ u)). let e : w.weight ≡ u.weight = ap (λ (x : Knowledge). x.weight) t.1 in absurd (omega arith))
        (λ (t : (i ≢ j) × (get_elem? vs i ≡ some u)). a.gone i u t.1 nothing)
        (at_set vs j i w u there);
    once = λ n. let t = times-set n vs j v w at in let e = same_numbers n in let o = a.once n in omega arith;
  }
