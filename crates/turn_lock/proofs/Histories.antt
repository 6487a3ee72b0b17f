-- Histories that begin one another, and the numbers of a pass with their counts.
use Rattle.std.proofs.lemmas.Bool.Decides.{nat_tests}
use Rattle.std.proofs.lemmas.List.Sums.{sum_by-append}
use Rattle.std.proofs.Common.{◌≡◌, ◌≢◌, ◌⊎◌, ℕ, zero, suc, ◌+◌, ◌<◌, ◌≤◌, if◌then◌else◌, List, [], ◌∷◌, ◌++◌, length, true, false, Some, refl, sym, ap, ◌∙◌, inl, inr, ⊎_elim, arith, append_assoc, ◌==◌, eq-eqb, ne_eqb, nat_lt}
use mathlib.Core.Logic.{dite}
use native.Mathlib.Decide.{ℕ_discrete}
use Rattle.recorder_model.specs.declared.entry.Entry.{Entry}
use Rattle.recorder_model.specs.Turn.{author, entries_by}
use Rattle.turn_lock.specs.Turns.{made_by, one_more, times_in, none_made, longer, shorter, Begins}

pub begins_same : (xs : List Entry) → Begins xs xs
begins_same xs = ([], sym (append-nil xs))
  where
    append-nil : (xs : List Entry) → xs ++ [] ≡ xs
    append-nil [] = refl
    append-nil (x ∷ xs) = ap (λ ys. x ∷ ys) (append-nil xs)

pub begins_nil : (xs : List Entry) → Begins [] xs
begins_nil xs = (xs, refl)

pub begins_more : (xs ys zs : List Entry) → Begins xs ys → Begins xs (ys ++ zs)
begins_more xs ys zs b = (b.0 ++ zs, ap (λ l. l ++ zs) b.1 ∙ append_assoc xs b.0 zs)

-- of two beginnings of one history the one that is no longer begins the other
pub begins_of : (xs ys log : List Entry) → Begins xs log → Begins ys log → length xs ≤ length ys → Begins xs ys
begins_of [] ys log b c l = begins_nil ys
begins_of (x ∷ xs) [] log b c l = absurd (omega arith)
begins_of (x ∷ xs) (y ∷ ys) [] b c l = absurd (cc (b.1))
begins_of (x ∷ xs) (y ∷ ys) (z ∷ zs) b c l =
    let r : Begins xs ys = begins_of xs ys zs (b.0, cc (b.1)) (c.0, cc (c.1)) (omega arith) in
    let same : x ≡ y = cc (b.1, c.1) in
    (r.0, λ i. sym same i ∷ r.1 i)

pub entries_by-append : (n a : ℕ) (xs ys : List Entry) → entries_by n a (xs ++ ys) ≡ entries_by n a xs + entries_by n a ys
entries_by-append n a xs ys = sum_by-append (λ e. if author n e == a then 1 else 0) xs ys

pub entries_by-snoc : (n a : ℕ) (xs : List Entry) (e : Entry) → entries_by n a (xs ++ e ∷ []) ≡ entries_by n a xs + entries_by n a (e ∷ [])
entries_by-snoc n a xs e = entries_by-append n a xs (e ∷ [])

pub by_itself : (n a : ℕ) (e : Entry) → author n e ≡ a → entries_by n a (e ∷ []) ≡ 1
by_itself n a e is = rw (eq-eqb _ _ is) refl

pub by_another : (n a : ℕ) (e : Entry) → author n e ≢ a → entries_by n a (e ∷ []) ≡ 0
by_another n a e apart = rw (ne_eqb _ _ apart) refl

-- a history between two that have equally many entries of an author has as many
pub between : (n a k : ℕ) (xs ys zs : List Entry) → Begins xs ys → Begins ys zs → entries_by n a xs ≡ k → entries_by n a zs ≡ k → entries_by n a ys ≡ k
between n a k xs ys zs b c low high =
    let p : entries_by n a ys ≡ entries_by n a xs + entries_by n a b.0 = ap (entries_by n a) b.1 ∙ entries_by-append n a xs b.0 in
    let q : entries_by n a zs ≡ entries_by n a ys + entries_by n a c.0 = ap (entries_by n a) c.1 ∙ entries_by-append n a ys c.0 in
    omega arith

pub some_is : (x y : ℕ) → Some x ≡ Some y → x ≡ y
some_is x y e = cc

pub made_by-here : (a : ℕ) (x : ℕ × ℕ) (xs : List (ℕ × ℕ)) → a ≡ x.0 → made_by a (x ∷ xs) ≡ Some x.1
made_by-here a x xs is = rw (eq-eqb a x.0 is) refl

pub made_by-later : (a : ℕ) (x : ℕ × ℕ) (xs : List (ℕ × ℕ)) → a ≢ x.0 → made_by a (x ∷ xs) ≡ made_by a xs
made_by-later a x xs apart = rw (ne_eqb a x.0 apart) refl

pub one_more-same : (a k : ℕ) (xs : List (ℕ × ℕ)) → made_by a xs ≡ Some k → made_by a (one_more a xs) ≡ Some (k + 1)
one_more-same a k [] e = absurd (cc)
one_more-same a k (x ∷ xs) e = dite (ℕ_discrete a x.0)
    (λ is. rw (eq-eqb a x.0 is) (made_by-here a (x.0, x.1 + 1) xs is ∙ ap (λ n. Some (n + 1)) (some_is x.1 k (sym (made_by-here a x xs is) ∙ e))))
    (λ apart. rw (ne_eqb a x.0 apart) (made_by-later a x (one_more a xs) apart ∙ one_more-same a k xs (sym (made_by-later a x xs apart) ∙ e)))

pub one_more-other : (a b : ℕ) (xs : List (ℕ × ℕ)) → a ≢ b → made_by a (one_more b xs) ≡ made_by a xs
one_more-other a b [] apart = refl
one_more-other a b (x ∷ xs) apart = dite (ℕ_discrete b x.0)
    (λ is. let other : a ≢ x.0 = λ e. apart (e ∙ sym is) in rw (eq-eqb b x.0 is) (made_by-later a (x.0, x.1 + 1) xs other ∙ sym (made_by-later a x xs other)))
    (λ no. rw (ne_eqb b x.0 no) (dite (ℕ_discrete a x.0)
    (λ e. made_by-here a x (one_more b xs) e ∙ sym (made_by-here a x xs e))
    (λ e. made_by-later a x (one_more b xs) e ∙ (one_more-other a b xs apart ∙ sym (made_by-later a x xs e)))))

-- a number of two lists put together is a number of one of them
pub made_by-append : (a k : ℕ) (xs ys : List (ℕ × ℕ)) → made_by a (xs ++ ys) ≡ Some k → (made_by a xs ≡ Some k) ⊎ (made_by a ys ≡ Some k)
made_by-append a k [] ys e = inr e
made_by-append a k (x ∷ xs) ys e = dite (ℕ_discrete a x.0)
    (λ is. inl (made_by-here a x xs is ∙ (sym (made_by-here a x (xs ++ ys) is) ∙ e)))
    (λ apart. ⊎_elim (λ f. inl (made_by-later a x xs apart ∙ f)) (λ f. inr f) (made_by-append a k xs ys (sym (made_by-later a x (xs ++ ys) apart) ∙ e)))

pub made_by-left : (a k : ℕ) (xs ys : List (ℕ × ℕ)) → made_by a xs ≡ Some k → made_by a (xs ++ ys) ≡ Some k
made_by-left a k [] ys e = absurd (cc)
made_by-left a k (x ∷ xs) ys e = dite (ℕ_discrete a x.0)
    (λ is. made_by-here a x (xs ++ ys) is ∙ (sym (made_by-here a x xs is) ∙ e))
    (λ apart. made_by-later a x (xs ++ ys) apart ∙ made_by-left a k xs ys (sym (made_by-later a x xs apart) ∙ e))

pub made_by-right : (a k : ℕ) (xs ys : List (ℕ × ℕ)) → made_by a ys ≡ Some k → (j : ℕ) × (made_by a (xs ++ ys) ≡ Some j)
made_by-right a k [] ys e = (k, e)
made_by-right a k (x ∷ xs) ys e = dite (ℕ_discrete a x.0)
    (λ is. (x.1, made_by-here a x (xs ++ ys) is))
    (λ apart. let r = made_by-right a k xs ys e in (r.0, made_by-later a x (xs ++ ys) apart ∙ r.1))

pub snoc_same : (xs : List Entry) (e f : Entry) → xs ++ e ∷ [] ≡ xs ++ f ∷ [] → e ≡ f
snoc_same [] e f same = cc
snoc_same (x ∷ xs) e f same = snoc_same xs e f (cc)

-- with one entry more under the number b, each number has its entries of the longer history
pub own_more : (n b k0 : ℕ) (made : List (ℕ × ℕ)) (log : List Entry) (e : Entry) → author n e ≡ b → made_by b made ≡ Some k0
    → ((a k : ℕ) → made_by a made ≡ Some k → entries_by n a log ≡ k) → (a k : ℕ) → made_by a (one_more b made) ≡ Some k → (entries_by n a (log ++ e ∷ []) ≡ k) × ((j : ℕ) × (made_by a made ≡ Some j))
own_more n b k0 made log e by mine own a k at = dite (ℕ_discrete a b)
    (λ is.
    let more : k0 + 1 ≡ k = some_is (k0 + 1) k (sym (one_more-same b k0 made mine) ∙ (ap (λ (z : ℕ). made_by z (one_more b made)) (sym is) ∙ at)) in
    let mine' : made_by a made ≡ Some k0 = ap (λ (z : ℕ). made_by z made) is ∙ mine in
    let old = own a k0 mine' in
    let one = by_itself n a e (by ∙ sym is) in
    (entries_by-snoc n a log e ∙ omega arith, (k0, mine')))
    (λ apart.
    let same = sym (one_more-other a b made apart) ∙ at in
    let old = own a k same in
    let none_new = by_another n a e (λ is. apart (sym is ∙ by)) in
    (entries_by-snoc n a log e ∙ omega arith, (k, same)))

pub numbers_more : (b : ℕ) (made : List (ℕ × ℕ)) (a k : ℕ) → made_by a made ≡ Some k → (j : ℕ) × (made_by a (one_more b made) ≡ Some j)
numbers_more b made a k at = dite (ℕ_discrete a b)
    (λ is. (k + 1, ap (λ (z : ℕ). made_by a (one_more z made)) (sym is) ∙ one_more-same a k made at))
    (λ apart. (k, one_more-other a b made apart ∙ at))

pub none_made-zero : (a s n k : ℕ) → made_by a (none_made s n) ≡ Some k → (k ≡ 0) × (s ≤ a)
none_made-zero a s zero k e = absurd (cc)
none_made-zero a s (suc n) k e = dite (ℕ_discrete a s)
    (λ is. (sym (some_is 0 k (sym (made_by-here a (s, 0) (none_made (suc s) n) is) ∙ e)), omega arith))
    (λ apart. let r = none_made-zero a (suc s) n k (sym (made_by-later a (s, 0) (none_made (suc s) n) apart) ∙ e) in (r.0, let l = r.1 in omega arith))

pub none_made-has : (a s n : ℕ) → s ≤ a → a < s + n → made_by a (none_made s n) ≡ Some 0
none_made-has a s zero low high = absurd (omega arith)
none_made-has a s (suc n) low high = dite (ℕ_discrete a s)
    (λ is. made_by-here a (s, 0) (none_made (suc s) n) is)
    (λ apart. made_by-later a (s, 0) (none_made (suc s) n) apart ∙ none_made-has a (suc s) n (omega arith) (omega arith))

-- numbers in front of others, and one entry more, by how often each stands there
pub times_in-append : (a : ℕ) (xs ys : List (ℕ × ℕ)) → times_in a (xs ++ ys) ≡ times_in a xs + times_in a ys
times_in-append a [] ys = omega arith
times_in-append a (x ∷ xs) ys = omega (arith, times_in-append a xs ys)

pub times_in-more : (a b : ℕ) (xs : List (ℕ × ℕ)) → times_in a (one_more b xs) ≡ times_in a xs
times_in-more a b [] = refl
times_in-more a b (x ∷ xs) = dite (ℕ_discrete b x.0)
    (λ is. rw (eq-eqb b x.0 is) refl)
    (λ apart. rw (ne_eqb b x.0 apart) (ap (λ n. (if a == x.0 then 1 else 0) + n) (times_in-more a b xs)))

pub none_made-times : (a s n : ℕ) → times_in a (none_made s n) ≡ (if nat_lt a (s + n) then (if nat_lt a s then 0 else 1) else 0)
none_made-times a s zero = grind (arith, nat_tests)
none_made-times a s (suc n) = let r = none_made-times a (suc s) n in dite (ℕ_discrete a s)
    (λ is. rw (eq-eqb a s is) (grind (arith, nat_tests)))
    (λ apart. rw (ne_eqb a s apart) (grind (arith, nat_tests)))

pub longer_begins : (xs ys log : List Entry) → Begins xs log → Begins ys log → Begins (longer xs ys) log
longer_begins xs ys log b c = elim (nat_lt (length xs) (length ys)) as (λ t. Begins (if t then ys else xs) log) [ true ↦ c | false ↦ b ]

pub shorter_begins : (xs ys log : List Entry) → Begins xs log → Begins ys log → Begins (shorter xs ys) log
shorter_begins xs ys log b c = elim (nat_lt (length xs) (length ys)) as (λ t. Begins (if t then xs else ys) log) [ true ↦ b | false ↦ c ]

pub shorter_le : (xs ys : List Entry) → length (shorter xs ys) ≤ length (longer xs ys)
shorter_le xs ys = grind (arith, nat_tests)

-- where the shorter one begins the longer one, both do
pub both_begin : (xs ys : List Entry) → Begins (shorter xs ys) (longer xs ys) → Begins xs (longer xs ys) × Begins ys (longer xs ys)
both_begin xs ys = elim (nat_lt (length xs) (length ys)) as (λ t. Begins (if t then xs else ys) (if t then ys else xs) → Begins xs (if t then ys else xs) × Begins ys (if t then ys else xs))
    [ true ↦ λ b. (b, begins_same ys) | false ↦ λ b. (begins_same xs, b) ]
