-- A text, cut at its first separator.
use Rattle.std.proofs.Common.{◌≡◌, ◌≢◌, ℕ, ◌+◌, ◌<◌, ◌≤◌, Bool, true, false, ◌==◌, List, [], ◌∷◌, ◌++◌, length, get_or, take, drop, refl, sym, ap, ◌∙◌, arith, cond}
use Rattle.std.proofs.lemmas.List.{take-append-drop, drop_more, get_or-take, length-take-le, get_or_default}
use Rattle.std.proofs.lemmas.List.Splits.{slice_split_at, slice_split_none}
use Rattle.std.proofs.lemmas.Bool.{eq-eqb, ne_eqb}
use Rattle.std.specs.List.{All, slice_split, onto_first}
use Rattle.paint_script.specs.Paint.{has_paint_words, has_copy_words}

-- no separator stands below i
abbrev pub IsFreeBelow : ℕ → List ℕ → ℕ → Type 0
IsFreeBelow separator text i = (k : ℕ) → k < i → get_or text k 0 ≢ separator

free_front : (separator : ℕ) (text : List ℕ) (i : ℕ) → i ≤ length text → IsFreeBelow separator text i → All (λ c. (c == separator) ≡ false) (take i text)
free_front separator text i within free k d h =
    let n : length (take i text) ≡ i = length-take-le i text within in
    let below : k < i = omega arith in
    let reads : get_or (take i text) k d ≡ get_or text k 0 = get_or-take i text k d below ∙ get_or_default text k d 0 (omega arith) in
    ne_eqb _ separator (λ e. free k below (sym reads ∙ e))

pub split-at : (separator : ℕ) (text : List ℕ) (i : ℕ) → i < length text → IsFreeBelow separator text i → get_or text i 0 ≡ separator → slice_split (λ c. c == separator) text ≡ take i text ∷ slice_split (λ c. c == separator) (drop (i + 1) text)
split-at separator text i h free e =
    let whole : text ≡ take i text ++ get_or text i 0 ∷ drop (i + 1) text = sym (take-append-drop i text) ∙ ap (λ r. take i text ++ r) (drop_more text i 0 h) in
    ap (slice_split (λ c. c == separator)) whole ∙ slice_split_at (λ c. c == separator) (take i text) (get_or text i 0) (drop (i + 1) text) (free_front separator text i (omega arith) free) (eq-eqb _ _ e)

pub split-none : (separator : ℕ) (text : List ℕ) → IsFreeBelow separator text (length text) → slice_split (λ c. c == separator) text ≡ text ∷ []
split-none separator text free =
    slice_split_none (λ c. c == separator) text (λ k d h. ne_eqb _ separator (λ e. free k h (get_or_default text k 0 d h ∙ e)))

-- there is always a first piece
pub record HasFirst (pieces : List (List ℕ)) : Type 0 where
  pub first : List ℕ
  pub others : List (List ℕ)
  pub is : pieces ≡ first ∷ others

onto_first-first : (x : ℕ) (pieces : List (List ℕ)) → HasFirst (onto_first x pieces)
onto_first-first x [] = record { first = x ∷ []; others = []; is = refl }
onto_first-first x (part ∷ parts) = record { first = x ∷ part; others = parts; is = refl }

pub split-first : (p : ℕ → Bool) (text : List ℕ) → HasFirst (slice_split p text)
split-first p [] = record { first = []; others = []; is = refl }
split-first p (x ∷ xs) = elim (p x) as (λ b. HasFirst (cond b ([] ∷ slice_split p xs) (onto_first x (slice_split p xs)))) [
  | true ↦ record { first = []; others = slice_split p xs; is = refl }
  | false ↦ onto_first-first x (slice_split p xs)
]

pub paint_words-six : (x y w h last : List ℕ) (others : List (List ℕ)) → HasFirst others → has_paint_words (x ∷ y ∷ w ∷ h ∷ last ∷ others) ≡ false
paint_words-six x y w h last others more = ap (λ ws. has_paint_words (x ∷ y ∷ w ∷ h ∷ last ∷ ws)) more.is

-- a text of at least six pieces
pub split-six : (p : ℕ → Bool) (t rest more x y w h last : List ℕ) → slice_split p t ≡ x ∷ y ∷ w ∷ h ∷ slice_split p rest → slice_split p rest ≡ last ∷ slice_split p more
    → has_paint_words (slice_split p t) ≡ false
split-six p t rest more x y w h last e f =
    ap has_paint_words (e ∙ ap (λ r. x ∷ y ∷ w ∷ h ∷ r) f) ∙ paint_words-six x y w h last (slice_split p more) (split-first p more)

copy_words-seven : (x y w h to_x to_y : List ℕ) (others : List (List ℕ)) → HasFirst others → has_copy_words (x ∷ y ∷ w ∷ h ∷ to_x ∷ to_y ∷ others) ≡ false
copy_words-seven x y w h to_x to_y others more = ap (λ ws. has_copy_words (x ∷ y ∷ w ∷ h ∷ to_x ∷ to_y ∷ ws)) more.is

-- a text of at least seven pieces
pub split-seven : (p : ℕ → Bool) (t rest last more x y w h to_x to_y : List ℕ) → slice_split p t ≡ x ∷ y ∷ w ∷ h ∷ slice_split p rest → slice_split p rest ≡ to_x ∷ slice_split p last → slice_split p last ≡ to_y ∷ slice_split p more
    → has_copy_words (slice_split p t) ≡ false
split-seven p t rest last more x y w h to_x to_y e f g =
    ap has_copy_words (e ∙ ap (λ r. x ∷ y ∷ w ∷ h ∷ r) (f ∙ ap (λ r. to_x ∷ r) g)) ∙ copy_words-seven x y w h to_x to_y (slice_split p more) (split-first p more)
