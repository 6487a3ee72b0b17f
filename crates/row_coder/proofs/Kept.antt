-- A grid with the leaves of a list, which are set one by one.
use Rattle.std.proofs.Common.{◌≡◌, sym, subst, ℕ, zero, suc, ◌+◌, ◌<◌, ◌≤◌, List, [], ◌∷◌, ◌++◌, length, take, get_or, ap, ◌∙◌, arith}
use Rattle.std.specs.List.{AllByRecursion}
use Rattle.std.proofs.lemmas.List.{take_all}
use Rattle.h265_model.specs.declared.leaf.Leaf.{Leaf}
use Rattle.h265_model.proofs.ListParts.{take_more}
use Rattle.pu_code.specs.Cells.{Cells, StandsFor}

pub one_more : (now next : Cells) (leaves : List Leaf) (n : ℕ) (d : Leaf) → n < length leaves
    → ((before : List Leaf) → StandsFor now before → StandsFor next (before ++ get_or leaves n d ∷ [])) → StandsFor now (take n leaves) → StandsFor next (take (n + 1) leaves)
one_more now next leaves n d less set so =
    let one : n + 1 ≡ suc n = omega arith in
    subst (StandsFor next) (sym (ap (λ (k : ℕ). take k leaves) one ∙ take_more leaves n d less)) (set (take n leaves) so)

pub all_kept : (now : Cells) (leaves : List Leaf) (n : ℕ) → length leaves ≤ n → StandsFor now (take n leaves) → StandsFor now leaves
all_kept now leaves n many so = subst (StandsFor now) (take_all n leaves many) so

pub all_at : {A : Type 0} (T : A → Type 0) (list : List A) (n : ℕ) (d : A) → n < length list → AllByRecursion T list → T (get_or list n d)
all_at T [] n d h all = absurd (omega arith)
all_at T (x ∷ list) zero d h all = all.0
all_at T (x ∷ list) (suc n) d h all = all_at T list n d (omega arith) all.1
