-- A byte stream has no more NAL units than bytes.
use Rattle.std.proofs.Common.{◌≡◌, sym, subst, ℕ, zero, suc, ◌+◌, ◌≤◌, Bool, true, false, List, [], ◌∷◌, length, drop, Option, None, Some, Result, Ok, Err, refl, arith}
use Rattle.std.specs.Prelude.{◌&&◌, nat_lt, if◌then◌else◌}
use Rattle.h265_model.specs.Bits.{◌>>-◌}
use Rattle.h265_model.specs.NalUnits.{NalUnit, units, units_within, next_start, nal_unit_of, payload, only_zeros}

-- the units after a start code
abbrev units_after : ℕ → Option (ℕ × List ℕ) → Result (List NalUnit) ℕ
units_after n start =
    elim start [
      | None ↦ Ok []
      | Some found ↦
          let p : List ℕ = payload found.1 in
          nal_unit_of found.0 p >>- λ first.
          units_within n (found.0 + length p) (drop (length p) found.1) >>- λ others.
          Ok (first ∷ others)
    ]

few_others : (n : ℕ) (us : List NalUnit) (first : NalUnit) (r : Result (List NalUnit) ℕ) → ((l : List NalUnit) → r ≡ Ok l → length l ≤ n) → (r >>- λ others. Ok (first ∷ others)) ≡ Ok us → length us ≤ n + 1
few_others n us first (Err x) h e = absurd (cc)
few_others n us first (Ok others) h e = let is : us ≡ first ∷ others = cc in subst (λ (l : List NalUnit). length l ≤ n + 1) (sym is) (omega (arith, h others refl))

few_one : (n : ℕ) (us : List NalUnit) (r : Result NalUnit ℕ) (others : Result (List NalUnit) ℕ) → ((l : List NalUnit) → others ≡ Ok l → length l ≤ n) →
    (r >>- λ first. others >>- λ others. Ok (first ∷ others)) ≡ Ok us → length us ≤ n + 1
few_one n us (Err x) others h e = absurd (cc)
few_one n us (Ok first) others h e = few_others n us first others h e

few_started : (n : ℕ) (us : List NalUnit) (r : Result (Option (ℕ × List ℕ)) ℕ) → ((at : ℕ) (bytes : List ℕ) (l : List NalUnit) → units_within n at bytes ≡ Ok l → length l ≤ n) →
    (r >>- units_after n) ≡ Ok us → length us ≤ n + 1
few_started n us (Err x) h e = absurd (cc)
few_started n us (Ok None) h e = let is : us ≡ [] = cc in subst (λ (l : List NalUnit). length l ≤ n + 1) (sym is) (omega arith)
few_started n us (Ok (Some found)) h e =
    few_one n us (nal_unit_of found.0 (payload found.1)) (units_within n (found.0 + length (payload found.1)) (drop (length (payload found.1)) found.1))
    (h (found.0 + length (payload found.1)) (drop (length (payload found.1)) found.1)) e

few_within : (n at : ℕ) (bytes : List ℕ) (us : List NalUnit) → units_within n at bytes ≡ Ok us → length us ≤ n
unfolding units_within
few_within zero at bytes us e = let is : us ≡ [] = cc in subst (λ (l : List NalUnit). length l ≤ 0) (sym is) (omega arith)
few_within (suc n) at bytes us e = omega (arith, few_started n us (next_start at 0 bytes) (few_within n) e)

pub few_units : (bytes : List ℕ) (us : List NalUnit) → units bytes ≡ Ok us → length us ≤ length bytes
unfolding units
few_units bytes us e = at (nat_lt 0 (length bytes) && only_zeros bytes) e
  where
    at : (b : Bool) → (if b then Err (length bytes) else units_within (length bytes) 0 bytes) ≡ Ok us → length us ≤ length bytes
    at true e = absurd (cc)
    at false e = few_within (length bytes) 0 bytes us e
