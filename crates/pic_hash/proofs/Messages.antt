-- The message of three digests, put together part by part.
use Rattle.std.proofs.Common.{◌≡◌, sym, ◌∙◌, ap, ℕ, List, [], ◌∷◌, ◌++◌, append_assoc, append-nil}
use Rattle.md5.specs.Md5.{md5}
use Rattle.h265_model.specs.Hash.{hash_of_planes}

pub message_is : (g b r first second third items : List ℕ) → first ≡ md5 g → second ≡ md5 b → third ≡ md5 r
    → items ≡ ((((132 ∷ 49 ∷ 0 ∷ []) ++ first) ++ second) ++ third) ++ 128 ∷ [] → items ≡ hash_of_planes (g ∷ b ∷ r ∷ [])
unfolding hash_of_planes
message_is g b r first second third items ef es et is =
    let head : List ℕ = 132 ∷ 49 ∷ 0 ∷ [] in
    is
    ∙ (ap (λ (l : List ℕ). l ++ 128 ∷ [])
    (append_assoc (head ++ first) second third ∙ (append_assoc head first (second ++ third)
    ∙ (ap (λ (l : List ℕ). head ++ (first ++ (second ++ l))) (sym (append-nil third))
    ∙ (ap (λ (l : List ℕ). head ++ (l ++ (second ++ (third ++ [])))) ef
    ∙ (ap (λ (l : List ℕ). head ++ (md5 g ++ (l ++ (third ++ [])))) es ∙ ap (λ (l : List ℕ). head ++ (md5 g ++ (md5 b ++ (l ++ [])))) et))))))
