-- Contexts stay contexts.
use Rattle.std.proofs.Common.{◌≡◌, refl, ◌∙◌, ℕ, zero, suc, ◌<◌, List, [], ◌∷◌, Bool, true, false, get_or, set, length-set, arith}
use Rattle.std.specs.Prelude.{nat_lt, Option, Some, None, IfSome}
use Rattle.std.specs.Option.{option_map_or}
use Rattle.std.specs.List.{AllByRecursion, list_all}
use Rattle.std.proofs.lemmas.Bool.{agree_below, agree_below_at, and_parts, ltb-true}
use Rattle.h265_model.specs.declared.leaf.SliceKind.{SliceKind}
use Rattle.h265_model.specs.declared.leaf.SliceKind.TheVariants.{I, P}
use Rattle.h265_model.specs.Contexts.{start, next, step, AreContexts}

next_fits : Bool → ℕ → Bool
unfolding next
next_fits value byte = nat_lt (next byte value) 126

next_all_fit : (value : Bool) → agree_below (next_fits value) (λ byte. true) 126 ≡ true
unfolding next_fits
next_all_fit true = refl
next_all_fit false = refl

pub next_bound : (byte : ℕ) (value : Bool) → byte < 126 → next byte value < 126
unfolding next_fits
next_bound byte value h = ltb-true _ _ (agree_below_at (next_fits value) (λ b. true) 126 byte (next_all_fit value) h)

pub all_states : (xs : List ℕ) (n : ℕ) → AllByRecursion (λ byte. byte < 126) xs → get_or xs n 0 < 126
all_states [] n h = omega arith
all_states (x ∷ xs) zero h = h.0
all_states (x ∷ xs) (suc n) h = all_states xs n h.1

bytes_from : (list : List ℕ) → list_all (λ b. nat_lt b 126) list ≡ true → AllByRecursion (λ b. b < 126) list
bytes_from [] h = tt
bytes_from (b ∷ list) h = let p = and_parts (nat_lt b 126) (list_all (λ c. nat_lt c 126) list) h in (ltb-true b 126 p.0, bytes_from list p.1)

pub start_is : (kind : SliceKind) → AreContexts (start kind)
unfolding start
start_is I = record { many = refl; each = bytes_from (start I) refl }
start_is P = record { many = refl; each = bytes_from (start P) refl }

set_is : (xs : List ℕ) (n v : ℕ) → v < 126 → AllByRecursion (λ b. b < 126) xs → AllByRecursion (λ b. b < 126) (set xs n v)
set_is [] n v h k = k
set_is (x ∷ xs) zero v h k = (h, k.1)
set_is (x ∷ xs) (suc n) v h k = (k.0, set_is xs n v h k.1)

pub step_is : (contexts : List ℕ) (n : ℕ) (bin : Bool) → AreContexts contexts → AreContexts (step contexts n bin)
step_is contexts n bin are = record {
  many = length-set contexts n (next (get_or contexts n 0) bin) ∙ are.many;
  each = set_is contexts n (next (get_or contexts n 0) bin) (next_bound (get_or contexts n 0) bin (all_states contexts n are.each)) are.each;
}

-- what a row starts from, where it inherits contexts or none
pub inherited_are : (kind : SliceKind) (inherited : Option (List ℕ)) → IfSome inherited AreContexts → AreContexts (option_map_or (λ contexts. contexts) inherited (start kind))
inherited_are kind None are = start_is kind
inherited_are kind (Some contexts) are = are
