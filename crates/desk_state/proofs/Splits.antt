-- The parts of a list between the elements that pass, when one element comes.
use Rattle.std.proofs.Common.{◌≡◌, ℕ, zero, suc, ◌+◌, ◌<◌, Bool, true, false, List, [], ◌∷◌, ◌++◌, length, refl, sym, ap, ◌∙◌, arith, get_or}
use Rattle.std.specs.Prelude.{count_by}
use Rattle.std.specs.List.{slice_split, onto_first}
use Rattle.std.proofs.lemmas.List.Splits.{slice_split-cons_yes, slice_split-cons_no, length-slice_split}

-- an element behind the last part
abbrev onto_last : {X : Type 0} → X → List (List X) → List (List X)
onto_last x [] = (x ∷ []) ∷ []
onto_last x (part ∷ []) = (part ++ x ∷ []) ∷ []
onto_last x (part ∷ next ∷ parts) = part ∷ onto_last x (next ∷ parts)

onto_last-behind : {X : Type 0} (x : X) (part : List X) (parts : List (List X)) → 0 < length parts → onto_last x (part ∷ parts) ≡ part ∷ onto_last x parts
onto_last-behind x part [] some = absurd (omega arith)
onto_last-behind x part (next ∷ parts) some = refl

onto_both : {X : Type 0} (x y : X) (parts : List (List X)) → 0 < length parts → onto_first x (onto_last y parts) ≡ onto_last y (onto_first x parts)
onto_both x y [] some = absurd (omega arith)
onto_both x y (part ∷ []) some = refl
onto_both x y (part ∷ next ∷ parts) some = refl

some_part : {X : Type 0} (p : X → Bool) (xs : List X) → 0 < length (slice_split p xs)
some_part p xs = omega (arith, length-slice_split p xs)

-- one that doesn't pass goes into the last part
split_grows : {X : Type 0} (p : X → Bool) (xs : List X) (y : X) → p y ≡ false → slice_split p (xs ++ y ∷ []) ≡ onto_last y (slice_split p xs)
split_grows p [] y fails = slice_split-cons_no p y [] fails
split_grows p (x ∷ xs) y fails = go (p x) refl (split_grows p xs y fails)
  where
    go : (b : Bool) → p x ≡ b → slice_split p (xs ++ y ∷ []) ≡ onto_last y (slice_split p xs) → slice_split p (x ∷ xs ++ y ∷ []) ≡ onto_last y (slice_split p (x ∷ xs))
    go true e rest =
        slice_split-cons_yes p x (xs ++ y ∷ []) e ∙ ap (λ l. [] ∷ l) rest
        ∙ sym (ap (onto_last y) (slice_split-cons_yes p x xs e) ∙ onto_last-behind y [] (slice_split p xs) (some_part p xs))
    go false e rest =
        slice_split-cons_no p x (xs ++ y ∷ []) e ∙ ap (onto_first x) rest
        ∙ onto_both x y (slice_split p xs) (some_part p xs) ∙ sym (ap (onto_last y) (slice_split-cons_no p x xs e))

-- one that passes begins a part
split_cut : {X : Type 0} (p : X → Bool) (xs : List X) (y : X) → p y ≡ true → slice_split p (xs ++ y ∷ []) ≡ slice_split p xs ++ [] ∷ []
split_cut p [] y passes = slice_split-cons_yes p y [] passes
split_cut p (x ∷ xs) y passes = go (p x) refl (split_cut p xs y passes)
  where
    onto_first-append : (parts more : List (List _)) → 0 < length parts → onto_first x (parts ++ more) ≡ onto_first x parts ++ more
    onto_first-append [] more some = absurd (omega arith)
    onto_first-append (part ∷ parts) more some = refl

    go : (b : Bool) → p x ≡ b → slice_split p (xs ++ y ∷ []) ≡ slice_split p xs ++ [] ∷ [] → slice_split p (x ∷ xs ++ y ∷ []) ≡ slice_split p (x ∷ xs) ++ [] ∷ []
    go true e rest =
        slice_split-cons_yes p x (xs ++ y ∷ []) e ∙ ap (λ l. [] ∷ l) rest
        ∙ sym (ap (λ l. l ++ [] ∷ []) (slice_split-cons_yes p x xs e))
    go false e rest =
        slice_split-cons_no p x (xs ++ y ∷ []) e ∙ ap (onto_first x) rest
        ∙ onto_first-append (slice_split p xs) ([] ∷ []) (some_part p xs) ∙ sym (ap (λ l. l ++ [] ∷ []) (slice_split-cons_no p x xs e))

last_before : {X : Type 0} (y : X) (parts : List (List X)) (n : ℕ) → n + 1 < length parts → get_or (onto_last y parts) n [] ≡ get_or parts n []
last_before y [] n less = absurd (omega arith)
last_before y (part ∷ []) n less = absurd (omega arith)
last_before y (part ∷ next ∷ parts) zero less = refl
last_before y (part ∷ next ∷ parts) (suc n) less = last_before y (next ∷ parts) n (omega arith)

last_at : {X : Type 0} (y : X) (parts : List (List X)) (n : ℕ) → length parts ≡ n + 1 → get_or (onto_last y parts) n [] ≡ get_or parts n [] ++ y ∷ []
last_at y [] n is = absurd (omega arith)
last_at y (part ∷ []) zero is = refl
last_at y (part ∷ []) (suc n) is = absurd (omega arith)
last_at y (part ∷ next ∷ parts) zero is = absurd (omega arith)
last_at y (part ∷ next ∷ parts) (suc n) is = last_at y (next ∷ parts) n (omega arith)

nothing_more : {X : Type 0} (parts : List (List X)) (n : ℕ) → get_or (parts ++ [] ∷ []) n [] ≡ get_or parts n []
nothing_more [] zero = refl
nothing_more [] (suc n) = refl
nothing_more (part ∷ parts) zero = refl
nothing_more (part ∷ parts) (suc n) = nothing_more parts n

-- the parts before the last stay
pub part_before : {X : Type 0} (p : X → Bool) (xs : List X) (y : X) (n : ℕ) → p y ≡ false → n < count_by p xs → get_or (slice_split p (xs ++ y ∷ [])) n [] ≡ get_or (slice_split p xs) n []
part_before p xs y n fails less = ap (λ l. get_or l n []) (split_grows p xs y fails) ∙ last_before y (slice_split p xs) n (omega (arith, length-slice_split p xs))

-- the last part grows
pub part_grows : {X : Type 0} (p : X → Bool) (xs : List X) (y : X) → p y ≡ false → get_or (slice_split p (xs ++ y ∷ [])) (count_by p xs) [] ≡ get_or (slice_split p xs) (count_by p xs) [] ++ y ∷ []
part_grows p xs y fails = ap (λ l. get_or l (count_by p xs) []) (split_grows p xs y fails) ∙ last_at y (slice_split p xs) (count_by p xs) (length-slice_split p xs)

-- where one passes, all parts stay
pub part_kept : {X : Type 0} (p : X → Bool) (xs : List X) (y : X) (n : ℕ) → p y ≡ true → get_or (slice_split p (xs ++ y ∷ [])) n [] ≡ get_or (slice_split p xs) n []
part_kept p xs y n passes = ap (λ l. get_or l n []) (split_cut p xs y passes) ∙ nothing_more (slice_split p xs) n

past : {X : Type 0} (parts : List (List X)) (n : ℕ) → length parts ≡ n → get_or parts n [] ≡ []
past [] zero is = refl
past [] (suc n) is = absurd (omega arith)
past (part ∷ parts) zero is = absurd (omega arith)
past (part ∷ parts) (suc n) is = past parts n (omega arith)

-- and the next one is empty
pub part_begins : {X : Type 0} (p : X → Bool) (xs : List X) (y : X) → p y ≡ true → get_or (slice_split p (xs ++ y ∷ [])) (count_by p xs + 1) [] ≡ []
part_begins p xs y passes = part_kept p xs y (count_by p xs + 1) passes ∙ past (slice_split p xs) (count_by p xs + 1) (length-slice_split p xs)
