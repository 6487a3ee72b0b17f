-- The tables by their rules.
use Rattle.std.proofs.Common.{◌≡◌, refl, ap, ◌∙◌, ℕ, zero, suc, ◌+◌, ◌*◌, ◌/◌, ◌^◌, ◌<◌, ◌≤◌, Bool, true, false, List, [], ◌∷◌, get_or, bit_and, arith, inl, inr}
use Rattle.std.specs.List.{AllByRecursion}
use Rattle.std.specs.Prelude.{◌==◌, ◌&&◌, nat_le, nat_lt}
use Rattle.std.proofs.Math.Nat.{eq-or-lt_of_le}
use Rattle.std.proofs.lemmas.Bool.{eqb-true, leb-true, ltb-true}
use Rattle.h265_model.specs.Contexts.{lps_range, next, start, AreContexts}
use Rattle.h265_model.specs.Bits.{digit}
use Rattle.h265_model.specs.declared.leaf.SliceKind.TheVariants.{I, P}
use Rattle.cabac_tables.specs.declared.tables.TheConstants.{LPS, NEXT, START_I, START_P}
use Rattle.cabac_tables.specs.States.{AreStates}

-- a test of every number below n
abbrev all_below : ℕ → (ℕ → Bool) → Bool
all_below zero f = true
all_below (suc n) f = f n && all_below n f

and_left : (a b : Bool) → a && b ≡ true → a ≡ true
and_left true b h = refl
and_left false b h = h

and_right : (a b : Bool) → a && b ≡ true → b ≡ true
and_right true b h = h
and_right false b h = absurd (cc)

rule : (n : ℕ) (f : ℕ → Bool) → all_below n f ≡ true → (k : ℕ) → k < n → f k ≡ true
rule zero f h k l = absurd (omega arith)
rule (suc n) f h k l = let m : k ≤ n = omega arith in elim (eq-or-lt_of_le m) [
  | inl same ↦ ap f same ∙ and_left (f n) (all_below n f) h
  | inr less ↦ rule n f (and_right (f n) (all_below n f) h) k less
]

-- ---- the share of the less probable value

abbrev lps_test : ℕ → ℕ → Bool
lps_test byte quarter =
    let v : ℕ = bit_and (get_or LPS (byte / 2) 0 / 2 ^ (8 * quarter)) 255 in
    v == lps_range byte quarter && (nat_le 6 v && nat_le v 240)

pub record Share (v byte quarter : ℕ) : Type 0 where
  pub is : v ≡ lps_range byte quarter
  pub from : 6 ≤ v
  pub to : v ≤ 240

all_shares : all_below 126 (λ byte. all_below 4 (λ quarter. lps_test byte quarter)) ≡ true
unfolding lps_range
all_shares = refl

pub share : (byte quarter : ℕ) → byte < 126 → quarter < 4 → Share (bit_and (get_or LPS (byte / 2) 0 / 2 ^ (8 * quarter)) 255) byte quarter
share byte quarter h k =
    let t : lps_test byte quarter ≡ true = rule 4 (λ quarter. lps_test byte quarter) (rule 126 (λ byte. all_below 4 (λ quarter. lps_test byte quarter)) all_shares byte h) quarter k in
    let v : ℕ = bit_and (get_or LPS (byte / 2) 0 / 2 ^ (8 * quarter)) 255 in
    let both = and_right (v == lps_range byte quarter) (nat_le 6 v && nat_le v 240) t in
    record {
      is = eqb-true v (lps_range byte quarter) (and_left (v == lps_range byte quarter) (nat_le 6 v && nat_le v 240) t);
      from = leb-true 6 v (and_left (nat_le 6 v) (nat_le v 240) both);
      to = leb-true v 240 (and_right (nat_le 6 v) (nat_le v 240) both);
    }

-- ---- the byte after a bin

abbrev next_test : ℕ → Bool
next_test byte =
    let zero_bin : ℕ = get_or NEXT (2 * byte + 0) 0 in
    let one_bin : ℕ = get_or NEXT (2 * byte + 1) 0 in
    (zero_bin == next byte false && nat_lt zero_bin 126) && (one_bin == next byte true && nat_lt one_bin 126)

all_next : all_below 126 next_test ≡ true
unfolding next
all_next = refl

pub record After (v byte : ℕ) (bin : Bool) : Type 0 where
  pub is : v ≡ next byte bin
  pub below : v < 126

half : (v w : ℕ) → (v == w && nat_lt v 126) ≡ true → (v ≡ w) × (v < 126)
half v w t = (eqb-true v w (and_left (v == w) (nat_lt v 126) t), ltb-true v 126 (and_right (v == w) (nat_lt v 126) t))

pub after : (byte : ℕ) (bin : Bool) → byte < 126 → After (get_or NEXT (2 * byte + digit bin) 0) byte bin
after byte false h =
    let zero_bin : ℕ = get_or NEXT (2 * byte + 0) 0 in
    let one_bin : ℕ = get_or NEXT (2 * byte + 1) 0 in
    let t = half zero_bin (next byte false) (and_left (zero_bin == next byte false && nat_lt zero_bin 126) (one_bin == next byte true && nat_lt one_bin 126) (rule 126 next_test all_next byte h)) in
    record { is = t.0; below = t.1 }
after byte true h =
    let zero_bin : ℕ = get_or NEXT (2 * byte + 0) 0 in
    let one_bin : ℕ = get_or NEXT (2 * byte + 1) 0 in
    let t = half one_bin (next byte true) (and_right (zero_bin == next byte false && nat_lt zero_bin 126) (one_bin == next byte true && nat_lt one_bin 126) (rule 126 next_test all_next byte h)) in
    record { is = t.0; below = t.1 }

-- ---- starts

abbrev all_small : List ℕ → Bool
all_small [] = true
all_small (x ∷ xs) = nat_lt x 126 && all_small xs

small : (xs : List ℕ) → all_small xs ≡ true → (n : ℕ) → get_or xs n 0 < 126
small [] h n = omega arith
small (x ∷ xs) h zero = ltb-true x 126 (and_left (nat_lt x 126) (all_small xs) h)
small (x ∷ xs) h (suc n) = small xs (and_right (nat_lt x 126) (all_small xs) h) n

pub states_I : AreStates START_I
states_I = record { many = refl; each = small START_I refl }

pub states_P : AreStates START_P
states_P = record { many = refl; each = small START_P refl }

pub start_I : START_I ≡ start I
unfolding start
start_I = refl

pub start_P : START_P ≡ start P
unfolding start
start_P = refl

-- ---- what contexts are

all_states : (bytes : List ℕ) → ((n : ℕ) → get_or bytes n 0 < 126) → AllByRecursion (λ byte. byte < 126) bytes
all_states [] h = tt
all_states (x ∷ bytes) h = (h zero, all_states bytes (λ n. h (suc n)))

pub are_contexts : (bytes : List ℕ) → AreStates bytes → AreContexts bytes
are_contexts bytes s = record { many = s.many; each = all_states bytes s.each }
