-- Laws of the high level syntax: what was written is read back.
use Rattle.std.proofs.Common.{◌≡◌, ℕ, true, false, cond, List, [], ◌∷◌, ◌++◌, length, refl, ap, arith}
use Rattle.std.specs.Prelude.{◌&&◌, ◌==◌, nat_le, Some}
use Rattle.std.proofs.lemmas.Bool.Decides.{nat_tests}
use Rattle.h265_model.specs.NalUnits.{escape_after, unescape_after, escape, unescape}
use Rattle.h265_model.specs.Slice.{cut_after, with_front, substreams}

-- a byte that needs no prevention isn't taken for one
plain : (p q b : ℕ) → (p == 0 && q == 0 && nat_le b 3) ≡ false → (p == 0 && q == 0 && b == 3) ≡ false
plain p q b h = grind (arith, nat_tests)

marked : (p q b : ℕ) → (p == 0 && q == 0 && nat_le b 3) ≡ true → (p == 0 && q == 0 && 3 == 3) ≡ true
marked p q b h = grind (arith, nat_tests)

after_mark : (q b : ℕ) → (q == 0 && 3 == 0 && b == 3) ≡ false
after_mark q b = grind (arith, nat_tests)

pub unescape-escape : (p q : ℕ) (bytes : List ℕ) → unescape_after p q (escape_after p q bytes) ≡ bytes
unfolding unescape_after escape_after
unescape-escape p q [] = refl
unescape-escape p q (b ∷ bytes) =
    elim (p == 0 && q == 0 && nat_le b 3) as (λ v. (p == 0 && q == 0 && nat_le b 3) ≡ v →
    unescape_after p q (cond v (3 ∷ b ∷ escape_after 3 b bytes) (b ∷ escape_after q b bytes)) ≡ b ∷ bytes) [
      | true ↦ λ is. rw (marked p q b is, after_mark q b) (ap (λ l. b ∷ l) (unescape-escape 3 b bytes))
      | false ↦ λ is. rw (plain p q b is) (ap (λ l. b ∷ l) (unescape-escape q b bytes))
    ] refl

-- a substream is cut off by its length with its emulation prevention
pub cut-escape : (p q : ℕ) (bytes rest : List ℕ) → cut_after p q (length (escape_after p q bytes)) (bytes ++ rest) ≡ Some (bytes, rest)
unfolding cut_after escape_after
cut-escape p q [] rest = refl
cut-escape p q (b ∷ bytes) rest =
    elim (p == 0 && q == 0 && nat_le b 3) as (λ v. (p == 0 && q == 0 && nat_le b 3) ≡ v →
    cut_after p q (length (cond v (3 ∷ b ∷ escape_after 3 b bytes) (b ∷ escape_after q b bytes))) (b ∷ (bytes ++ rest)) ≡ Some (b ∷ bytes, rest)) [
      | true ↦ λ is. rw is (ap (with_front b) (cut-escape 3 b bytes rest))
      | false ↦ λ is. rw is (ap (with_front b) (cut-escape q b bytes rest))
    ] refl

pub escape_is_undone : (list : List ℕ) → unescape (escape list) ≡ list
escape_is_undone list = unescape-escape 255 255 list

pub substreams-escape : (list rest : List ℕ) → substreams (length (escape list) ∷ []) (list ++ rest) ≡ Some (list ∷ rest ∷ [])
unfolding substreams
substreams-escape list rest = rw (cut-escape 255 255 list rest) refl
