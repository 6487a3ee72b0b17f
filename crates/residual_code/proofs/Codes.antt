-- The code of a remaining level as one number, computed for each value and Rice parameter that occurs.
use Rattle.std.proofs.Common.{◌≡◌, refl, ◌∙◌, ap, ℕ, zero, suc, ◌+◌, ◌*◌, ◌/◌, ◌≤◌, Bool, true, false, ◌&&◌, List, [], ◌∷◌, get_or, bit_and, arith}
use Rattle.std.specs.Prelude.{nat_le}
use Rattle.std.specs.Bool.{beq}
use Rattle.std.proofs.lemmas.Bool.{agree_below, agree_below_at, and_parts, leb-true}
use Rattle.h265_model.specs.Bits.{u}
use Rattle.residual_code.specs.declared.remaining.TheConstants.{CODES}
use Rattle.h265_model.specs.Binarise.{fl, remaining}

same : List Bool → List Bool → Bool
same [] [] = true
same [] (b ∷ bs) = false
same (a ∷ as_) [] = false
same (a ∷ as_) (b ∷ bs) = beq a b && same as_ bs

beq_is : (a b : Bool) → beq a b ≡ true → a ≡ b
beq_is true true h = refl
beq_is true false h = absurd (cc)
beq_is false true h = absurd (cc)
beq_is false false h = refl

same_is : (a b : List Bool) → same a b ≡ true → a ≡ b
unfolding same
same_is [] [] h = refl
same_is [] (b ∷ bs) h = absurd (cc)
same_is (a ∷ as_) [] h = absurd (cc)
same_is (a ∷ as_) (b ∷ bs) h =
    let p = and_parts _ _ h in ap (λ x. x ∷ as_) (beq_is a b p.0) ∙ ap (λ l. b ∷ l) (same_is as_ bs p.1)

-- the entry of the table
abbrev pub entry_of : ℕ → ℕ → ℕ
entry_of rice value = get_or CODES (256 * rice + value) 0

is_code : ℕ → ℕ → Bool
is_code rice value = nat_le (bit_and (entry_of rice value) 255) 32 && same (fl (bit_and (entry_of rice value) 255) (entry_of rice value / 256)) (remaining rice value)

all_codes : (rice : ℕ) → rice ≤ 4 → agree_below (is_code rice) (λ v. true) 256 ≡ true
unfolding is_code same u
all_codes zero h = refl
all_codes (suc zero) h = refl
all_codes (suc (suc zero)) h = refl
all_codes (suc (suc (suc zero))) h = refl
all_codes (suc (suc (suc (suc zero)))) h = refl
all_codes (suc (suc (suc (suc (suc n))))) h = absurd (omega arith)

pub record Coded (rice value : ℕ) : Type 0 where
  pub few : bit_and (entry_of rice value) 255 ≤ 32
  pub digits : fl (bit_and (entry_of rice value) 255) (entry_of rice value / 256) ≡ remaining rice value

pub coded : (rice value : ℕ) → rice ≤ 4 → value ≤ 255 → Coded rice value
unfolding is_code
coded rice value low high =
    let a = and_parts _ _ (agree_below_at (is_code rice) (λ v. true) 256 value (all_codes rice low) (omega arith)) in
    record { few = leb-true _ _ a.0; digits = same_is _ _ a.1 }
