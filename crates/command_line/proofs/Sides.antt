-- A word, cut at its `x`.
use Rattle.std.proofs.Common.{◌≡◌, ℕ, ◌<◌, Bool, ◌==◌, List, [], ◌∷◌, length, refl, ap, ◌∙◌, arith}
use Rattle.std.specs.Prelude.{None}
use Rattle.std.specs.List.{slice_split, position_or_len, before_first, after_first}
use Rattle.std.proofs.lemmas.List.Splits.{slice_split_none, slice_split_first, length-slice_split}
use Rattle.std.proofs.lemmas.List.Sums.{fails_before_first}
use Rattle.command_line.specs.Words.{size_parts}

abbrev is_x : ℕ → Bool
is_x c = c == 120

-- where the word is cut, into these two parts
abbrev pub IsCutInto : List ℕ → List ℕ → List ℕ → Type 0
IsCutInto word w h = (position_or_len is_x word < length word) × (w ≡ before_first is_x word) × (h ≡ after_first is_x word)

lone : (word : List ℕ) → position_or_len is_x word ≡ length word → slice_split is_x word ≡ word ∷ []
lone word e = slice_split_none is_x word (λ k d h. fails_before_first is_x word k d (omega arith))

cut : (word w h : List ℕ) → IsCutInto word w h → slice_split is_x word ≡ w ∷ slice_split is_x h
cut word w h c = rw (c.1, c.2) (slice_split_first is_x word 0 c.0)

pub no_x : (word : List ℕ) → position_or_len is_x word ≡ length word → size_parts (slice_split is_x word) ≡ None
no_x word e = ap size_parts (lone word e)

pub one_x : (word w h : List ℕ) → IsCutInto word w h → position_or_len is_x h ≡ length h → slice_split is_x word ≡ w ∷ h ∷ []
one_x word w h c e = cut word w h c ∙ ap (λ parts. w ∷ parts) (lone h e)

three_parts : (w h : List ℕ) (parts : List (List ℕ)) → 0 < length parts → size_parts (w ∷ h ∷ parts) ≡ None
three_parts w h [] l = absurd (omega arith)
three_parts w h (part ∷ parts) l = refl

pub two_x : (word w h x y : List ℕ) → IsCutInto word w h → IsCutInto h x y → size_parts (slice_split is_x word) ≡ None
two_x word w h x y c d =
    ap size_parts (cut word w h c ∙ ap (λ parts. w ∷ parts) (cut h x y d))
    ∙ three_parts w x (slice_split is_x y) (omega (arith, length-slice_split is_x y))
