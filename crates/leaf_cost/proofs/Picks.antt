-- The cheapest of some modes, one after another.
use Rattle.std.proofs.Common.{◌≡◌, refl, ap, ◌∙◌, ℕ, ◌+◌, ◌<◌, ◌≤◌, List, length, get_or, Option, Some, None, inl, inr, arith}
use Rattle.std.proofs.lemmas.Bool.{cases_lt}
use Rattle.h265_model.specs.declared.leaf.Kind.TheVariants.{Intra}
use Rattle.leaf_cost.specs.declared.best.Best.{Best}
use Rattle.leaf_cost.specs.Costs.{IsBest, IsBestSoFar}

-- the next mode is cheaper
pub cheaper_next : (best : Option Best) (bound limit : ℕ) (f : ℕ → ℕ) (modes : List ℕ) (n cost : ℕ) → IsBestSoFar best bound limit f modes n
    → cost ≡ f (get_or modes n 0) → f (get_or modes n 0) < bound
    → IsBestSoFar (Some (record { cost = cost; kind = Intra (get_or modes n 0) })) cost limit f modes (n + 1)
cheaper_next None bound limit f modes n cost is e less = (
  refl,
  record {
    at = n;
    within = omega arith;
    kind = refl;
    cost = e;
    below = let b = is.0 in omega arith;
    before = λ i h. let d = is.1.each i h in let b = is.0 in omega arith;
    least = λ i h. elim (cases_lt i n) [
      | inl before ↦ let d = is.1.each i before in let b = is.0 in omega arith
      | inr last ↦ let s : n ≡ i = omega arith in let q : f (get_or modes n 0) ≡ f (get_or modes i 0) = ap (λ (k : ℕ). f (get_or modes k 0)) s in omega arith
    ];
  },
)
cheaper_next (Some b) bound limit f modes n cost is e less = (
  refl,
  record {
    at = n;
    within = omega arith;
    kind = refl;
    cost = e;
    below = let c = is.0 in let d = is.1.below in omega arith;
    before = λ i h. let d = is.1.least i h in let c = is.0 in omega arith;
    least = λ i h. elim (cases_lt i n) [
      | inl before ↦ let d = is.1.least i before in let c = is.0 in omega arith
      | inr last ↦ let s : n ≡ i = omega arith in let q : f (get_or modes n 0) ≡ f (get_or modes i 0) = ap (λ (k : ℕ). f (get_or modes k 0)) s in omega arith
    ];
  },
)

-- the next mode isn't
pub dear_next : (best : Option Best) (bound limit : ℕ) (f : ℕ → ℕ) (modes : List ℕ) (n : ℕ) → IsBestSoFar best bound limit f modes n
    → bound ≤ f (get_or modes n 0) → IsBestSoFar best bound limit f modes (n + 1)
dear_next None bound limit f modes n is more = (
  is.0,
  record {
    each = λ i h. elim (cases_lt i n) [
      | inl before ↦ is.1.each i before
      | inr last ↦ let b = is.0 in let s : n ≡ i = omega arith in let q : f (get_or modes n 0) ≡ f (get_or modes i 0) = ap (λ (k : ℕ). f (get_or modes k 0)) s in omega arith
    ];
  },
)
dear_next (Some b) bound limit f modes n is more = (
  is.0,
  record {
    at = is.1.at;
    within = let w = is.1.within in omega arith;
    kind = is.1.kind;
    cost = is.1.cost;
    below = is.1.below;
    before = is.1.before;
    least = λ i h. elim (cases_lt i n) [
      | inl before ↦ is.1.least i before
      | inr last ↦ let c = is.0 in let s : n ≡ i = omega arith in let q : f (get_or modes n 0) ≡ f (get_or modes i 0) = ap (λ (k : ℕ). f (get_or modes k 0)) s in omega arith
    ];
  },
)

pub so_far_all : (best : Option Best) (bound limit : ℕ) (f : ℕ → ℕ) (modes : List ℕ) (n : ℕ) → IsBestSoFar best bound limit f modes n → n ≡ length modes → IsBest best limit f modes
so_far_all None bound limit f modes n is e = record { each = λ i h. is.1.each i (omega arith) }
so_far_all (Some b) bound limit f modes n is e = record {
  at = is.1.at;
  within = let w = is.1.within in omega arith;
  kind = is.1.kind;
  cost = is.1.cost;
  below = is.1.below;
  before = is.1.before;
  least = λ i h. is.1.least i (omega arith);
}

-- costs that are the same give the same answer
pub best_same : (best : Option Best) (limit : ℕ) (f g : ℕ → ℕ) (modes : List ℕ) → ((mode : ℕ) → f mode ≡ g mode) → IsBest best limit f modes → IsBest best limit g modes
best_same None limit f g modes same is = record { each = λ i h. let d = is.each i h in let e = same (get_or modes i 0) in omega arith }
best_same (Some b) limit f g modes same is = record {
  at = is.at;
  within = is.within;
  kind = is.kind;
  cost = is.cost ∙ same (get_or modes is.at 0);
  below = is.below;
  before = λ i h. let d = is.before i h in let e = same (get_or modes i 0) in omega arith;
  least = λ i h. let d = is.least i h in let e = same (get_or modes i 0) in omega arith;
}
