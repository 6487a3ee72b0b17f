-- The bins of a mode, by its place in the list of candidates.
use Rattle.std.proofs.Common.{◌≡◌, refl, sym, ◌∙◌, ap, ℕ, List, [], ◌∷◌, false, get_or}
use Rattle.std.proofs.lemmas.Bool.{cond-true, cond-false, eq-eqb, ne_eqb}
use Rattle.h265_model.specs.Plain.{context_bin}
use Rattle.h265_model.specs.SyntaxElements.{prev_intra_luma_pred_flag}
use Rattle.h265_model.specs.Binarise.{fl, bypass_bins}
use Rattle.h265_model.specs.Modes.{mode_items, index_items, remainder_of}
use Rattle.h265_model.specs.Modes.{AreThree}

pub first_is : (mode : ℕ) (list : List ℕ) → mode ≡ get_or list 0 0 → mode_items mode list ≡ index_items 0
unfolding mode_items
first_is mode list e = cond-true _ _ _ (eq-eqb _ _ e)

pub second_is : (mode : ℕ) (list : List ℕ) → (mode ≡ get_or list 0 0 → ⊥) → mode ≡ get_or list 1 0 → mode_items mode list ≡ index_items 1
unfolding mode_items
second_is mode list n e = cond-false _ _ _ (ne_eqb _ _ n) ∙ cond-true _ _ _ (eq-eqb _ _ e)

pub third_is : (mode : ℕ) (list : List ℕ) → (mode ≡ get_or list 0 0 → ⊥) → (mode ≡ get_or list 1 0 → ⊥) → mode ≡ get_or list 2 0 → mode_items mode list ≡ index_items 2
unfolding mode_items
third_is mode list n m e = cond-false _ _ _ (ne_eqb _ _ n) ∙ (cond-false _ _ _ (ne_eqb _ _ m) ∙ cond-true _ _ _ (eq-eqb _ _ e))

three_whole : (list : List ℕ) (a b c : ℕ) → list ≡ a ∷ b ∷ c ∷ [] → get_or list 0 0 ∷ get_or list 1 0 ∷ get_or list 2 0 ∷ [] ≡ list
three_whole list a b c e = rw e refl

pub other_is : (mode : ℕ) (list : List ℕ) (a b c r : ℕ) → AreThree list → a ≡ get_or list 0 0 → b ≡ get_or list 1 0 → c ≡ get_or list 2 0
    → (mode ≡ a → ⊥) → (mode ≡ b → ⊥) → (mode ≡ c → ⊥) → r ≡ remainder_of mode (a ∷ b ∷ c ∷ []) → mode_items mode list ≡ context_bin false prev_intra_luma_pred_flag ∷ bypass_bins (fl 5 r)
unfolding mode_items
other_is mode list a b c r t ea eb ec n m k e =
    let whole : a ∷ b ∷ c ∷ [] ≡ list = rw (ea, eb, ec) (three_whole list t.first t.second t.third t.is) in
    let same : r ≡ remainder_of mode list = e ∙ ap (remainder_of mode) whole in
    cond-false _ _ _ (ne_eqb _ _ (λ h. n (h ∙ sym ea))) ∙ (cond-false _ _ _ (ne_eqb _ _ (λ h. m (h ∙ sym eb))) ∙ (cond-false _ _ _ (ne_eqb _ _ (λ h. k (h ∙ sym ec)))
    ∙ ap (λ (v : ℕ). context_bin false prev_intra_luma_pred_flag ∷ bypass_bins (fl 5 v)) (sym same)))
