-- The plans of a row, one after another.
use Rattle.std.proofs.Common.{◌≡◌, refl, sym, subst, ℕ, zero, suc, ◌+◌, ◌<◌, List, [], ◌∷◌, ◌++◌, length, get_or, arith, ⊎_elim}
use Rattle.std.specs.Prelude.{Option, Some, None, MatchOption, IfSome}
use Rattle.std.proofs.lemmas.Bool.{cases_lt}
use Rattle.arrayvec.specs.ArrayVec.{ArrayVec}
use Rattle.h265_model.specs.declared.leaf.Leaf.{Leaf}
use Rattle.h265_model.specs.declared.leaf.SliceKind.{SliceKind}
use Rattle.h265_model.specs.declared.leaf.SliceKind.TheVariants.{I, P}
use Rattle.h265_model.specs.Plain.{Size, Picture}
use Rattle.h265_model.specs.Choice.{choice}
use Rattle.h265_model.specs.Tree.{IsLawfulTree, AreAllowed}
use Rattle.h265_laws.proofs.ChoiceLaw.{choice_is_lawful, chosen_at, lawful_alone}
use Rattle.row_coder.specs.Rows.{leaves_of}

module _ (T : ℕ → List Leaf → Type 0) where
  kept_at : (lists : List (ArrayVec Leaf)) (new : ArrayVec Leaf) (k : ℕ) → k < length lists → get_or (leaves_of (lists ++ new ∷ [])) k [] ≡ get_or (leaves_of lists) k []
  kept_at [] new k h = absurd (omega arith)
  kept_at (l ∷ lists) new zero h = refl
  kept_at (l ∷ lists) new (suc k) h = kept_at lists new k (omega arith)

  new_at : (lists : List (ArrayVec Leaf)) (new : ArrayVec Leaf) (k : ℕ) → k ≡ length lists → get_or (leaves_of (lists ++ new ∷ [])) k [] ≡ new.items
  new_at [] new zero h = refl
  new_at [] new (suc k) h = absurd (omega arith)
  new_at (l ∷ lists) new zero h = absurd (omega arith)
  new_at (l ∷ lists) new (suc k) h = new_at lists new k (omega arith)

  -- one more that has it
  pub each_more : (lists next : List (ArrayVec Leaf)) (new : ArrayVec Leaf) (i : ℕ) → next ≡ lists ++ new ∷ [] → length lists ≡ i
      → ((k : ℕ) → k < i → T k (get_or (leaves_of lists) k [])) → T i new.items → (k : ℕ) → k < i + 1 → T k (get_or (leaves_of next) k [])
  each_more lists next new i e long each here k h =
      subst (λ (l : List (ArrayVec Leaf)). T k (get_or (leaves_of l) k [])) (sym e)
      (⊎_elim
      (λ less. subst (T k) (sym (kept_at lists new k (omega arith))) (each k less))
      (λ more. let same : k ≡ i = omega arith in subst (T k) (sym (new_at lists new k (omega arith))) (subst (λ (n : ℕ). T n new.items) (sym same) here))
      (cases_lt k i))

all_P : (leaves : List Leaf) → AreAllowed P leaves
all_P [] = tt
all_P (leaf ∷ leaves) = (tt, all_P leaves)

module _ {A : Type 0} (pictures : A → Picture) (now : Picture) (size : Size) (effort ctu : ℕ) (leaves : List Leaf) where
  pub lawful : (o : Option A) → MatchOption o (leaves ≡ choice None now size effort ctu) (λ p. leaves ≡ choice (Some (pictures p)) now size effort ctu) → IsLawfulTree size ctu leaves
  lawful None e = subst (λ (l : List Leaf). IsLawfulTree size ctu l) (sym e) (choice_is_lawful None now size effort ctu)
  lawful (Some p) e = subst (λ (l : List Leaf). IsLawfulTree size ctu l) (sym e) (choice_is_lawful (Some (pictures p)) now size effort ctu)

  alone : (kind : SliceKind) → AreAllowed kind (choice None now size effort ctu)
  alone I = subst (λ (l : List Leaf). AreAllowed I l) (chosen_at None now size effort (suc ctu) ctu (omega arith)) ((lawful_alone now size effort (suc ctu)).allowed ctu (omega arith))
  alone P = all_P (choice None now size effort ctu)

  pub allowed : (kind : SliceKind) (o : Option A) → IfSome o (λ p. kind ≡ P) → MatchOption o (leaves ≡ choice None now size effort ctu) (λ p. leaves ≡ choice (Some (pictures p)) now size effort ctu) → AreAllowed kind leaves
  allowed kind None h e = subst (λ (l : List Leaf). AreAllowed kind l) (sym e) (alone kind)
  allowed kind (Some p) h e = subst (λ (k : SliceKind). AreAllowed k leaves) (sym h) (all_P leaves)
