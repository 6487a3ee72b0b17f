-- The code of a list in parts.
use Rattle.std.proofs.Common.{◌≡◌, refl, sym, ◌∙◌, ap, ℕ, List, [], ◌∷◌, ◌++◌, append_assoc, append-nil}
use Rattle.std.specs.Prelude.{map}
use Rattle.h265_model.specs.declared.Item.{Item}
use Rattle.h265_model.specs.declared.Item.TheVariants as items
use Rattle.h265_model.specs.Code.{Coding, coding, fresh, put}

pub coding_append : (a b : List Item) (c : Coding) → coding (a ++ b) c ≡ coding b (coding a c)
coding_append [] b c = refl
coding_append (item ∷ a) b c = coding_append a b (put item c)

pub coding_samples : (xs done contexts : List ℕ) → coding (map (λ x. items.Sample x) xs) (fresh done contexts) ≡ fresh (done ++ xs) contexts
coding_samples [] done contexts = ap (λ (d : List ℕ). fresh d contexts) (sym (append-nil done))
coding_samples (x ∷ xs) done contexts = coding_samples xs (done ++ x ∷ []) contexts ∙ ap (λ (d : List ℕ). fresh d contexts) (append_assoc done (x ∷ []) xs)
