-- The sizes of a sub-block's levels other than 0, one after another.
use Rattle.std.proofs.Common.{◌≡◌, refl, sym, ◌∙◌, ap, ℕ, zero, suc, ◌+◌, ◌-◌, ◌<◌, ◌≤◌, min, Bool, true, false, cond, ◌||◌, List, [], ◌∷◌, ◌++◌, length, map, drop, get_or, replicate, arith}
use Rattle.std.specs.Prelude.{ℤ, pos, negsuc, nat_abs, nat_lt, nat_le}
use Rattle.std.proofs.lemmas.List.{drop_more, drop-map}
use Rattle.std.proofs.lemmas.Bool.Decides.{nat_tests}
use Rattle.std.proofs.lemmas.Bool.{ltb-true, ltb-false}
use Rattle.h265_model.specs.declared.Item.{Item}
use Rattle.h265_model.specs.Plain.{context_bin}
use Rattle.h265_model.specs.Binarise.{bypass_bins, remaining}
use Rattle.h265_model.specs.Residual.{greater1_flags, greater2_of, greater1_items, greater1_context, greater2_items, greater2_context, has_flag, counted, Known, known, known_later, known_of, rice_after, rest_items, nonzero, AreLevels}
use Rattle.residual_code.specs.Parts.{rests_from, least_of}

abbrev pub sizes_of : List ℤ → List ℕ
sizes_of values = map nat_abs values

-- the sizes from number i on
pub sizes_more : (values : List ℤ) (i : ℕ) → i < length values → drop i (sizes_of values) ≡ nat_abs (get_or values i (pos 0)) ∷ drop (i + 1) (sizes_of values)
sizes_more values i h =
    drop-map nat_abs i values ∙ (ap sizes_of (drop_more values i (pos 0) h) ∙ ap (λ l. nat_abs (get_or values i (pos 0)) ∷ l) (sym (drop-map nat_abs (i + 1) values)))

pub sizes_done : (values : List ℤ) (i : ℕ) → length values ≤ i → drop i (sizes_of values) ≡ []
sizes_done values i h = drop-map nat_abs i values ∙ ap sizes_of (nothing values i h)
  where
    nothing : (l : List ℤ) (k : ℕ) → length l ≤ k → drop k l ≡ []
    nothing [] zero h = refl
    nothing [] (suc k) h = refl
    nothing (v ∷ l) zero h = absurd (omega arith)
    nothing (v ∷ l) (suc k) h = nothing l k (omega arith)

flags_first : (left size : ℕ) (sizes : List ℕ) → 0 < left → greater1_flags left (size ∷ sizes) ≡ nat_lt 1 size ∷ greater1_flags (left - 1) sizes
flags_first zero size sizes h = absurd (omega arith)
flags_first (suc n) size sizes h = let e : suc n - 1 ≡ n = omega arith in rw e refl

large_first : (left size : ℕ) (sizes : List ℕ) → 0 < left → greater2_of left (size ∷ sizes) ≡ cond (nat_lt 1 size) (nat_lt 2 size) (greater2_of (left - 1) sizes)
large_first zero size sizes h = absurd (omega arith)
large_first (suc n) size sizes h = let e : suc n - 1 ≡ n = omega arith in rw e refl

-- the flags of the first eight from number i on
pub flags_more : (values : List ℤ) (i : ℕ) → i < min (length values) 8 →
    greater1_flags (8 - i) (drop i (sizes_of values)) ≡ nat_lt 1 (nat_abs (get_or values i (pos 0))) ∷ greater1_flags (8 - (i + 1)) (drop (i + 1) (sizes_of values))
flags_more values i h =
    let e : 8 - i - 1 ≡ 8 - (i + 1) = omega arith in
    ap (greater1_flags (8 - i)) (sizes_more values i (omega arith)) ∙ (flags_first (8 - i) _ _ (omega arith)
    ∙ ap (λ n. nat_lt 1 (nat_abs (get_or values i (pos 0))) ∷ greater1_flags n (drop (i + 1) (sizes_of values))) e)

pub large_more : (values : List ℤ) (i : ℕ) → i < min (length values) 8 →
    greater2_of (8 - i) (drop i (sizes_of values)) ≡ cond (nat_lt 1 (nat_abs (get_or values i (pos 0)))) (nat_lt 2 (nat_abs (get_or values i (pos 0)))) (greater2_of (8 - (i + 1)) (drop (i + 1) (sizes_of values)))
large_more values i h =
    let e : 8 - i - 1 ≡ 8 - (i + 1) = omega arith in
    ap (greater2_of (8 - i)) (sizes_more values i (omega arith)) ∙ (large_first (8 - i) _ _ (omega arith)
    ∙ ap (λ n. cond (nat_lt 1 (nat_abs (get_or values i (pos 0)))) (nat_lt 2 (nat_abs (get_or values i (pos 0)))) (greater2_of n (drop (i + 1) (sizes_of values)))) e)

pub flags_done : (values : List ℤ) (i : ℕ) → min (length values) 8 ≤ i → greater1_flags (8 - i) (drop i (sizes_of values)) ≡ []
flags_done values i h = go (8 - i) refl
  where
    go : (left : ℕ) → left ≡ 8 - i → greater1_flags left (drop i (sizes_of values)) ≡ []
    go zero e = refl
    go (suc n) e = let d : drop i (sizes_of values) ≡ [] = sizes_done values i (omega arith) in rw d refl

-- ---- tests of numbers

pub lt_true : (a b : ℕ) → a < b → nat_lt a b ≡ true
lt_true a b h = grind (arith, nat_tests)

pub lt_false : (a b : ℕ) → b ≤ a → nat_lt a b ≡ false
lt_false a b h = grind (arith, nat_tests)

pub le_true : (a b : ℕ) → a ≤ b → nat_le a b ≡ true
le_true a b h = grind (arith, nat_tests)

pub le_false : (a b : ℕ) → b < a → nat_le a b ≡ false
le_false a b h = grind (arith, nat_tests)

-- ---- the loops over flags

-- a size above 1 among the first eight, and none before it
pub large_found : (values : List ℤ) (i size : ℕ) → i < min (length values) 8 → size ≡ nat_abs (get_or values i (pos 0)) → 1 < size →
    has_flag (greater1_flags 8 (sizes_of values)) ≡ has_flag (greater1_flags (8 - i) (drop i (sizes_of values))) → true ≡ has_flag (greater1_flags 8 (sizes_of values))
large_found values i size h e large k =
    let t : nat_lt 1 (nat_abs (get_or values i (pos 0))) ≡ true = rw (← e) (lt_true 1 size large) in
    sym (k ∙ (ap has_flag (flags_more values i h) ∙ rw t refl))

pub large_size : (values : List ℤ) (i size : ℕ) → i < min (length values) 8 → size ≡ nat_abs (get_or values i (pos 0)) → 1 < size →
    greater2_of 8 (sizes_of values) ≡ greater2_of (8 - i) (drop i (sizes_of values)) → nat_lt 2 size ≡ greater2_of 8 (sizes_of values)
large_size values i size h e large k =
    let t : nat_lt 1 (nat_abs (get_or values i (pos 0))) ≡ true = rw (← e) (lt_true 1 size large) in
    sym (k ∙ (large_more values i h ∙ rw (t, ← e) refl))

pub flag_passed : (values : List ℤ) (i size : ℕ) → i < min (length values) 8 → size ≡ nat_abs (get_or values i (pos 0)) → size ≤ 1 →
    has_flag (greater1_flags 8 (sizes_of values)) ≡ has_flag (greater1_flags (8 - i) (drop i (sizes_of values)))
    → has_flag (greater1_flags 8 (sizes_of values)) ≡ has_flag (greater1_flags (8 - (i + 1)) (drop (i + 1) (sizes_of values)))
flag_passed values i size h e small k =
    let t : nat_lt 1 (nat_abs (get_or values i (pos 0))) ≡ false = rw (← e) (lt_false 1 size small) in
    k ∙ (ap has_flag (flags_more values i h) ∙ rw t refl)

pub size_passed : (values : List ℤ) (i size : ℕ) → i < min (length values) 8 → size ≡ nat_abs (get_or values i (pos 0)) → size ≤ 1 →
    greater2_of 8 (sizes_of values) ≡ greater2_of (8 - i) (drop i (sizes_of values))
    → greater2_of 8 (sizes_of values) ≡ greater2_of (8 - (i + 1)) (drop (i + 1) (sizes_of values))
size_passed values i size h e small k =
    let t : nat_lt 1 (nat_abs (get_or values i (pos 0))) ≡ false = rw (← e) (lt_false 1 size small) in
    k ∙ (large_more values i h ∙ rw t refl)

pub greater1_more : (component set counter after context : ℕ) (values : List ℤ) (i size : ℕ) → i < min (length values) 8 → size ≡ nat_abs (get_or values i (pos 0))
    → context ≡ greater1_context component set counter → after ≡ counted counter (nat_lt 1 size) →
    greater1_items component set counter (greater1_flags (8 - i) (drop i (sizes_of values)))
    ≡ context_bin (nat_lt 1 size) context ∷ greater1_items component set after (greater1_flags (8 - (i + 1)) (drop (i + 1) (sizes_of values)))
greater1_more component set counter after context values i size h e c a =
    rw (c, a, e) (ap (greater1_items component set counter) (flags_more values i h))

pub greater2_is : (component set context size : ℕ) (values : List ℤ) → true ≡ has_flag (greater1_flags 8 (sizes_of values)) → nat_lt 2 size ≡ greater2_of 8 (sizes_of values)
    → context ≡ greater2_context component set →
    context_bin (nat_lt 2 size) context ∷ [] ≡ greater2_items component set (greater1_flags 8 (sizes_of values)) (greater2_of 8 (sizes_of values))
greater2_is component set context size values h e c = rw (c, ← e, ← h) refl

-- ---- rests

abbrev known_at : Bool → ℕ → List ℕ → ℕ → List Known
known_at true left sizes more = known_later (greater1_flags left sizes) ++ replicate more (record { base = 1; has_remaining = true })
known_at false left sizes more = known (greater2_of left sizes) (greater1_flags left sizes) ++ replicate more (record { base = 1; has_remaining = true })

abbrev AreSome : List ℕ → Type 0
AreSome [] = Unit {0}
AreSome (size ∷ sizes) = (1 ≤ size) × AreSome sizes

none_left : (rice : ℕ) (ks : List Known) → rest_items rice ks [] ≡ []
none_left rice [] = refl
none_left rice (k ∷ ks) = refl

-- a level without greater1 flag
past_eight : (seen later : Bool) (size : ℕ) (sizes : List ℕ) (more : ℕ) → known_at seen 0 (size ∷ sizes) (suc more) ≡ record { base = 1; has_remaining = true } ∷ known_at later 0 sizes more
past_eight true true size sizes more = refl
past_eight true false size sizes more = refl
past_eight false true size sizes more = refl
past_eight false false size sizes more = refl

abbrev stepped : ℕ → ℕ → Bool → ℕ → ℕ → List ℕ → ℕ → List Item
stepped rice base later left size sizes more =
    cond (nat_le base size) (bypass_bins (remaining rice (size - base)) ++ rest_items (rice_after rice size) (known_at later left sizes more) sizes)
    (rest_items rice (known_at later left sizes more) sizes)

rests_step : (rice base : ℕ) (seen later : Bool) (left size : ℕ) (sizes : List ℕ) (more after : ℕ) → base ≡ least_of left seen → later ≡ (seen || nat_lt 1 size) → 1 ≤ size
    → more ≡ suc (length sizes) - left → after ≡ length sizes - (left - 1)
    → rest_items rice (known_at seen left (size ∷ sizes) more) (size ∷ sizes) ≡ stepped rice base later (left - 1) size sizes after
rests_step rice base seen later zero size sizes more after b l some m a =
    let t : nat_le base size ≡ true = rw b (le_true 1 size some) in
    let s : more ≡ suc after = omega arith in
    rw (t, b, s) (ap (λ (ks : List Known). rest_items rice ks (size ∷ sizes)) (past_eight seen later size sizes after))
rests_step rice base true later (suc left) size sizes more after b l some m a = go (nat_lt 1 size) refl (omega arith)
  where
    go : (f : Bool) → nat_lt 1 size ≡ f → more ≡ after → rest_items rice (known_at true (suc left) (size ∷ sizes) more) (size ∷ sizes) ≡ stepped rice base later (suc left - 1) size sizes after
    go true e s = let t : nat_le base size ≡ true = rw b (le_true 2 size (ltb-true _ _ e)) in let n : suc left - 1 ≡ left = omega arith in rw (t, b, l, n, e, s) refl
    go false e s = let t : nat_le base size ≡ false = rw b (le_false 2 size (let k : size ≤ 1 = ltb-false _ _ e in omega arith)) in let n : suc left - 1 ≡ left = omega arith in rw (t, l, n, e, s) refl
rests_step rice base false later (suc left) size sizes more after b l some m a = go (nat_lt 1 size) refl (nat_lt 2 size) refl (omega arith)
  where
    go : (f : Bool) → nat_lt 1 size ≡ f → (g : Bool) → nat_lt 2 size ≡ g → more ≡ after
        → rest_items rice (known_at false (suc left) (size ∷ sizes) more) (size ∷ sizes) ≡ stepped rice base later (suc left - 1) size sizes after
    go true e true f s = let t : nat_le base size ≡ true = rw b (le_true 3 size (ltb-true _ _ f)) in let n : suc left - 1 ≡ left = omega arith in rw (t, b, l, n, e, f, s) refl
    go true e false f s = let t : nat_le base size ≡ false = rw b (le_false 3 size (let k : size ≤ 2 = ltb-false _ _ f in omega arith)) in let n : suc left - 1 ≡ left = omega arith in rw (t, l, n, e, f, s) refl
    go false e g f s = let t : nat_le base size ≡ false = rw b (le_false 3 size (let k : size ≤ 1 = ltb-false _ _ e in omega arith)) in let n : suc left - 1 ≡ left = omega arith in rw (t, l, n, e, s) refl

rests_as : (rice : ℕ) (seen : Bool) (left : ℕ) (sizes : List ℕ) (more : ℕ) → AreSome sizes → more ≡ length sizes - left → rest_items rice (known_at seen left sizes more) sizes ≡ rests_from rice seen left sizes
rests_as rice seen left [] more h m = none_left rice (known_at seen left [] more)
rests_as rice seen left (size ∷ sizes) more h m =
    rests_step rice (least_of left seen) seen (seen || nat_lt 1 size) left size sizes more (length sizes - (left - 1)) refl refl h.0 m refl
    ∙ go (nat_le (least_of left seen) size) (λ r. rests_as r (seen || nat_lt 1 size) (left - 1) sizes (length sizes - (left - 1)) h.1 refl)
  where
    go : (b : Bool) → ((r : ℕ) → rest_items r (known_at (seen || nat_lt 1 size) (left - 1) sizes (length sizes - (left - 1))) sizes ≡ rests_from r (seen || nat_lt 1 size) (left - 1) sizes)
        → cond b (bypass_bins (remaining rice (size - least_of left seen)) ++ rest_items (rice_after rice size) (known_at (seen || nat_lt 1 size) (left - 1) sizes (length sizes - (left - 1))) sizes)
        (rest_items rice (known_at (seen || nat_lt 1 size) (left - 1) sizes (length sizes - (left - 1))) sizes)
        ≡ cond b (bypass_bins (remaining rice (size - least_of left seen))) [] ++ rests_from (cond b (rice_after rice size) rice) (seen || nat_lt 1 size) (left - 1) sizes
    go true later = ap (λ l. bypass_bins (remaining rice (size - least_of left seen)) ++ l) (later (rice_after rice size))
    go false later = later rice

length-nonzero : (values : List ℤ) → length (nonzero values) ≤ length values
length-nonzero [] = omega arith
length-nonzero (pos zero ∷ values) = let k = length-nonzero values in omega arith
length-nonzero (pos (suc n) ∷ values) = let k = length-nonzero values in omega arith
length-nonzero (negsuc n ∷ values) = let k = length-nonzero values in omega arith

tail_of : List ℤ → List ℤ
tail_of [] = []
tail_of (v ∷ values) = values

some_sizes : (values : List ℤ) → nonzero values ≡ values → AreSome (sizes_of values)
unfolding tail_of
some_sizes [] h = tt
some_sizes (pos zero ∷ values) h = absurd (let k = length-nonzero values in let e : length (nonzero values) ≡ suc (length values) = ap length h in omega arith)
some_sizes (pos (suc n) ∷ values) h = (omega arith, some_sizes values (ap tail_of h))
some_sizes (negsuc n ∷ values) h = (omega arith, some_sizes values (ap tail_of h))

length-sizes : (values : List ℤ) → length (sizes_of values) ≡ length values
length-sizes [] = refl
length-sizes (v ∷ values) = ap suc (length-sizes values)

pub rests_are : (values : List ℤ) → nonzero values ≡ values →
    rest_items 0 (known_of (length values) (greater1_flags 8 (sizes_of values)) (greater2_of 8 (sizes_of values))) (sizes_of values) ≡ rests_from 0 false 8 (sizes_of values)
rests_are values h = rests_as 0 false 8 (sizes_of values) (length values - 8) (some_sizes values h) (ap (λ n. n - 8) (sym (length-sizes values)))

pub rests_more : (values : List ℤ) (rice base after : ℕ) (seen : Bool) (i size : ℕ) → i < length values → size ≡ nat_abs (get_or values i (pos 0)) → base ≡ least_of (8 - i) seen
    → after ≡ cond (nat_le base size) (rice_after rice size) rice →
    rests_from rice seen (8 - i) (drop i (sizes_of values))
    ≡ cond (nat_le base size) (bypass_bins (remaining rice (size - base))) [] ++ rests_from after (seen || nat_lt 1 size) (8 - (i + 1)) (drop (i + 1) (sizes_of values))
rests_more values rice base after seen i size h e b a =
    let n : 8 - i - 1 ≡ 8 - (i + 1) = omega arith in
    rw (a, b, e, ← n) (ap (rests_from rice seen (8 - i)) (sizes_more values i h))

pub size_high : (values : List ℤ) (i : ℕ) → AreLevels values → nat_abs (get_or values i (pos 0)) ≤ 255
size_high [] i h = omega arith
size_high (v ∷ values) zero h = h.0
size_high (v ∷ values) (suc i) h = size_high values i h.1
