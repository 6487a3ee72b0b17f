-- How often a range doubles, by its leading zeros (9.3.4.3.3).
use Rattle.std.proofs.Common.{◌≡◌, refl, ℕ, ◌*◌, ◌-◌, ◌^◌, ◌<◌, ◌≤◌, Bool, true, false}
use Rattle.std.proofs.lemmas.Bool.{agree_below, agree_below_at, and_parts, le-ltb, leb-true, eqb-true}
use Rattle.std.specs.Int.Count.{count_leading_zeros}
use Rattle.std.specs.Prelude.{◌==◌, ◌&&◌, ◌||◌, nat_lt, nat_le}
use Rattle.h265_model.specs.Engine.{doublings}
use Rattle.h265_model.specs.Bits.{digits_up_to}

abbrev zeros_of : ℕ → ℕ
zeros_of r = count_leading_zeros 32 r

abbrev doubles_well : ℕ → Bool
doubles_well r = nat_lt r 4 || (nat_le 23 (zeros_of r) && ((zeros_of r - 23 == doublings r) && (nat_le (doublings r) 6 && (nat_le 256 (r * 2 ^ doublings r) && nat_le (r * 2 ^ doublings r) 510))))

all_double_well : agree_below doubles_well (λ r. true) 511 ≡ true
unfolding doublings digits_up_to count_leading_zeros
all_double_well = refl

pub record Doubled (r : ℕ) : Type 0 where
  pub enough : 23 ≤ count_leading_zeros 32 r
  pub is : count_leading_zeros 32 r - 23 ≡ doublings r
  pub few : doublings r ≤ 6
  pub least : 256 ≤ r * 2 ^ doublings r
  pub most : r * 2 ^ doublings r ≤ 510

pub doubled : (r : ℕ) → 4 ≤ r → r < 511 → Doubled r
doubled r low high =
    let e : doubles_well r ≡ true = agree_below_at doubles_well (λ r. true) 511 r all_double_well high in
    let t : nat_lt r 4 ≡ false = le-ltb r 4 low in
    let a = and_parts _ _ (rw t at e) in
    let b = and_parts _ _ a.1 in
    let d = and_parts _ _ b.1 in
    let f = and_parts _ _ d.1 in
    record { enough = leb-true _ _ a.0; is = eqb-true _ _ b.0; few = leb-true _ _ d.0; least = leb-true _ _ f.0; most = leb-true _ _ f.1 }
