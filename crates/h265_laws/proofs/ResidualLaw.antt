-- A residual that was written is read.
use Rattle.std.proofs.Common.{◌≡◌, refl, sym, ◌∙◌, ap, subst, ℕ, zero, suc, ◌+◌, ◌-◌, ◌*◌, ◌/◌, ◌%◌, ◌^◌, ◌<◌, ◌≤◌, List, [], ◌∷◌, ◌++◌, Bool, true, false, cond, not, ◌&&◌, ◌||◌, length, replicate, append_assoc, arith, add-zero}
use Rattle.std.specs.Prelude.{Some, nat_le, nat_lt, map, min, ◌==◌, ℤ, pos, negsuc, nat_abs}
use Rattle.std.specs.List.{list_any, list_all}
use Rattle.std.proofs.lemmas.Bool.{agree_below, agree_below_at, and_parts, cond-true, eqb-true, leb-true, ltb-true, ltb-false, le-leb}
use Rattle.h265_model.specs.declared.Place.{Place}
use Rattle.h265_model.specs.declared.Item.{Item}
use Rattle.h265_model.specs.declared.Place.TheVariants.{Context, Bypass}
use Rattle.h265_model.specs.declared.Item.TheVariants as items
use Rattle.h265_model.specs.Plain.{context_bin, bypass_bin}
use Rattle.h265_model.specs.Engine.{Engine, bin, Part, One, parts_of, Gives, Reader, ◌>>=◌, give, refuse, Reads}
use Rattle.h265_model.specs.Binarise.{tr, fl, remaining, bypass_bins, context_bins, tr_read, fl_read, remaining_read}
use Rattle.h265_model.specs.Residual.{Shape, Sub, is_zero, is_negative, cbf, sig_at, is_implied, sig_items, sig_read, counted, greater1_flags, ended_at_zero, Known, known, known_later, known_of, rice_after, greater1_items, greater1_context, greater2_context, has_flag, greater2_items, greater2_read, rest_items, greater2_of, value_items, nonzero, greater1_read, signs_read, rests_read, signed, signed_all, values_read, spread, many_of, levels_read, set_of, sub_items, subs_read, sub_at, flag_context, zeros, suffix_base, prefix_of, suffix_bits, swapped, last_items, place_of, from_last, without_leading_zeros, from_subs, coordinate_read, last_read, residual_from, residual_read, in_rows, scan, last_context, place_at, number_of, sub_scan, side, IsSide, eight, sixteen, thirty_two, AreLevels}
use Rattle.h265_laws.proofs.Parts.{GivesBoth, gives_both}
use Rattle.h265_laws.proofs.Reading.{reads_as, reads_bin, reads_map, reads_give, reads_remaining, reads_fl, reads_tr, placed, placed-context}
use Rattle.h265_model.specs.Bits.{◌>>=◌ as and_then}

-- ---- items that are bins

abbrev pub AreBins : List Item → Type 0
AreBins [] = Unit {0}
AreBins (items.Bin b ∷ list) = AreBins list
AreBins (items.Sample x ∷ list) = ⊥

pub bins-append : (front back : List Item) → AreBins front → AreBins back → AreBins (front ++ back)
bins-append [] back f b = b
bins-append (items.Bin x ∷ front) back f b = bins-append front back f b
bins-append (items.Sample x ∷ front) back f b = elim f [ ]

parts_of-bins : (front back : List Item) → AreBins front → parts_of (front ++ back) ≡ parts_of front ++ parts_of back
parts_of-bins [] back f = refl
parts_of-bins (items.Bin x ∷ front) back f = ap (λ (ps : List Part). One x ∷ ps) (parts_of-bins front back f)
parts_of-bins (items.Sample x ∷ front) back f = elim f [ ]

pub reads_then : {A B : Type 0} (read : Reader A) (f : A → Reader B) (front back : List Item) (a : A) (b : B)
    → AreBins front → Reads read front a → Reads (f a) back b → Reads (read >>= f) (front ++ back) b
reads_then read f front back a b bins first second = record {
  from = λ e left h.
      let r : GivesBoth (parts_of front) (parts_of back) e left =
      gives_both (parts_of front) (parts_of back) e left (subst (λ (ps : List Part). Gives ps e left) (parts_of-bins front back bins) h) in
      ap (λ o. and_then o (λ found. f found.0 found.1)) (first.from e r.between r.first) ∙ second.from r.between left r.second;
}

-- a value that the last reader gives of what was read
reads_last : {A B : Type 0} (read : Reader A) (f : A → Reader B) (list : List Item) (a : A) (b : B) → Reads read list a → f a ≡ give b → Reads (read >>= f) list b
reads_last read f list a b r e = record { from = λ d left h. ap (λ o. and_then o (λ found. f found.0 found.1)) (r.from d left h) ∙ ap (λ (g : Reader _). g left) e }

pub bypass_are : (bits : List Bool) → AreBins (bypass_bins bits)
bypass_are [] = tt
bypass_are (b ∷ bits) = bypass_are bits

pub context_are : (number : ℕ → ℕ) (i : ℕ) (bits : List Bool) → AreBins (context_bins number i bits)
context_are number i [] = tt
context_are number i (b ∷ bits) = context_are number (suc i) bits

-- ---- greater1 flags and signs

greater1_are : (component set counter : ℕ) (flags : List Bool) → AreBins (greater1_items component set counter flags)
greater1_are component set counter [] = tt
greater1_are component set counter (flag ∷ flags) = greater1_are component set (counted counter flag) flags

reads_greater1 : (component set counter : ℕ) (flags : List Bool)
    → Reads (greater1_read component set counter (length flags)) (greater1_items component set counter flags) flags
reads_greater1 component set counter [] = reads_give []
reads_greater1 component set counter (flag ∷ flags) =
    reads_bin (Context (greater1_context component set counter)) flag (λ f. greater1_read component set (counted counter f) (length flags) >>= λ fs. give (f ∷ fs))
    (greater1_items component set (counted counter flag) flags) (flag ∷ flags)
    (reads_map (greater1_read component set (counted counter flag) (length flags)) (λ fs. flag ∷ fs) _ flags (reads_greater1 component set (counted counter flag) flags))

abbrev sign_items : List ℤ → List Item
sign_items values = map (λ v. bypass_bin (is_negative v)) values

signs_are : (values : List ℤ) → AreBins (sign_items values)
signs_are [] = tt
signs_are (v ∷ values) = signs_are values

reads_signs : (values : List ℤ) → Reads (signs_read (length values)) (sign_items values) (map is_negative values)
reads_signs [] = reads_give []
reads_signs (v ∷ values) =
    reads_bin Bypass (is_negative v) (λ s. signs_read (length values) >>= λ ss. give (s ∷ ss)) (sign_items values) (map is_negative (v ∷ values))
    (reads_map (signs_read (length values)) (λ ss. is_negative v ∷ ss) _ (map is_negative values) (reads_signs values))

-- ---- rests

-- what the flags say is so
abbrev pub Agree : List Known → List ℕ → Type 0
Agree [] [] = Unit {0}
Agree [] (size ∷ sizes) = ⊥
Agree (k ∷ ks) [] = ⊥
Agree (k ∷ ks) (size ∷ sizes) = (k.base ≤ size) × (k.has_remaining ≡ false → size ≡ k.base) × (size ≤ 255) × Agree ks sizes

rests_are : (r : ℕ) (ks : List Known) (sizes : List ℕ) → AreBins (rest_items r ks sizes)
rests_are r [] sizes = tt
rests_are r (k ∷ ks) [] = tt
rests_are r (k ∷ ks) (size ∷ sizes) = go (rests_are (rice_after r size) ks sizes) (rests_are r ks sizes) k.has_remaining
  where
    go : AreBins (rest_items (rice_after r size) ks sizes) → AreBins (rest_items r ks sizes) → (b : Bool)
        → AreBins (cond b (bypass_bins (remaining r (size - k.base)) ++ rest_items (rice_after r size) ks sizes) (rest_items r ks sizes))
    go x y true = bins-append (bypass_bins (remaining r (size - k.base))) _ (bypass_are (remaining r (size - k.base))) x
    go x y false = y

abbrev rest_of : ℕ → Known → Reader ℕ
rest_of r k = cond k.has_remaining (remaining_read r) (give 0)

abbrev after_rest : ℕ → Known → List Known → ℕ → Reader (List ℕ)
after_rest r k ks rest = rests_read (cond k.has_remaining (rice_after r (k.base + rest)) r) ks >>= λ sizes. give ((k.base + rest) ∷ sizes)

reads_rests : (r : ℕ) (ks : List Known) (sizes : List ℕ) → Agree ks sizes → Reads (rests_read r ks) (rest_items r ks sizes) sizes
reads_rests r [] [] h = reads_give []
reads_rests r [] (size ∷ sizes) h = elim h [ ]
reads_rests r (k ∷ ks) [] h = elim h [ ]
reads_rests r (k ∷ ks) (size ∷ sizes) h =
    go k.base k.has_remaining h (reads_rests (rice_after r size) ks sizes h.3) (reads_rests r ks sizes h.3)
  where
    go : (base : ℕ) (b : Bool) → Agree (record { base = base; has_remaining = b } ∷ ks) (size ∷ sizes)
        → Reads (rests_read (rice_after r size) ks) (rest_items (rice_after r size) ks sizes) sizes → Reads (rests_read r ks) (rest_items r ks sizes) sizes
        → Reads (rests_read r (record { base = base; has_remaining = b } ∷ ks)) (rest_items r (record { base = base; has_remaining = b } ∷ ks) (size ∷ sizes)) (size ∷ sizes)
    go base true a x y =
        let f : ℕ → Reader (List ℕ) = λ rest. rests_read (rice_after r (base + rest)) ks >>= λ ss. give ((base + rest) ∷ ss) in
        let at_least : base ≤ size = a.0 in
        let at_most : size ≤ 255 = a.2 in
        let same : base + (size - base) ≡ size = omega arith in
        reads_then (remaining_read r) f (bypass_bins (remaining r (size - base))) (rest_items (rice_after r size) ks sizes) (size - base) (size ∷ sizes)
        (bypass_are (remaining r (size - base))) (reads_remaining r (size - base) (omega arith))
        (subst (λ (n : ℕ). Reads (rests_read (rice_after r n) ks >>= λ ss. give (n ∷ ss)) (rest_items (rice_after r size) ks sizes) (size ∷ sizes)) (sym same)
        (reads_map (rests_read (rice_after r size) ks) (λ ss. size ∷ ss) _ sizes x))
    go base false a x y =
        let same : size ≡ base + 0 = a.1 refl ∙ sym (add-zero base) in
        let r' : Reads (rests_read r ks >>= λ ss. give ((base + 0) ∷ ss)) (rest_items r ks sizes) (size ∷ sizes) =
        subst (λ (n : ℕ). Reads (rests_read r ks >>= λ ss. give (n ∷ ss)) (rest_items r ks sizes) (size ∷ sizes)) same (reads_map (rests_read r ks) (λ ss. size ∷ ss) _ sizes y) in
        record { from = r'.from }

-- ---- what the flags say of sizes

abbrev pub AreSizes : List ℕ → Type 0
AreSizes [] = Unit {0}
AreSizes (size ∷ sizes) = (1 ≤ size) × (size ≤ 255) × AreSizes sizes

abbrev past_eight : Known
past_eight = record { base = 1; has_remaining = true }

agree_past : (sizes : List ℕ) → AreSizes sizes → Agree (replicate (length sizes) past_eight) sizes
agree_past [] h = tt
agree_past (size ∷ sizes) h = (h.0, λ e. absurd (cc), h.1, agree_past sizes h.2)

agree_later : (n : ℕ) (sizes : List ℕ) (m : ℕ) → m ≡ length sizes - n → AreSizes sizes → Agree (known_later (greater1_flags n sizes) ++ replicate m past_eight) sizes
agree_later zero sizes m long h = let e : length sizes ≡ m = omega arith in subst (λ (k : ℕ). Agree (replicate k past_eight) sizes) e (agree_past sizes h)
agree_later (suc n) [] m long h = let e : 0 ≡ m = omega arith in subst (λ (k : ℕ). Agree (replicate k past_eight) []) e tt
agree_later (suc n) (size ∷ sizes) m long h = go (nat_lt 1 size) refl (agree_later n sizes m (omega arith) h.2)
  where
    go : (b : Bool) → nat_lt 1 size ≡ b → Agree (known_later (greater1_flags n sizes) ++ replicate m past_eight) sizes
        → Agree (known_later (b ∷ greater1_flags n sizes) ++ replicate m past_eight) (size ∷ sizes)
    go true e rest = (ltb-true 1 size e, λ k. absurd (cc), h.1, rest)
    go false e rest = (h.0, λ k. let low : 1 ≤ size = h.0 in let high : size ≤ 1 = ltb-false 1 size e in omega arith, h.1, rest)

agree : (n : ℕ) (sizes : List ℕ) (m : ℕ) → m ≡ length sizes - n → AreSizes sizes → Agree (known (greater2_of n sizes) (greater1_flags n sizes) ++ replicate m past_eight) sizes
agree zero sizes m long h = let e : length sizes ≡ m = omega arith in subst (λ (k : ℕ). Agree (replicate k past_eight) sizes) e (agree_past sizes h)
agree (suc n) [] m long h = let e : 0 ≡ m = omega arith in subst (λ (k : ℕ). Agree (replicate k past_eight) []) e tt
agree (suc n) (size ∷ sizes) m long h = go (nat_lt 1 size) refl (nat_lt 2 size) refl (agree n sizes m (omega arith) h.2) (agree_later n sizes m (omega arith) h.2)
  where
    go : (b : Bool) → nat_lt 1 size ≡ b → (c : Bool) → nat_lt 2 size ≡ c
        → Agree (known (greater2_of n sizes) (greater1_flags n sizes) ++ replicate m past_eight) sizes
        → Agree (known_later (greater1_flags n sizes) ++ replicate m past_eight) sizes
        → Agree (known (cond b c (greater2_of n sizes)) (b ∷ greater1_flags n sizes) ++ replicate m past_eight) (size ∷ sizes)
    go true e true f first later = (ltb-true 2 size f, λ k. absurd (cc), h.1, later)
    go true e false f first later = (ltb-true 1 size e, λ k. let low : 1 < size = ltb-true 1 size e in let high : size ≤ 2 = ltb-false 2 size f in omega arith, h.1, later)
    go false e c f first later = (h.0, λ k. let low : 1 ≤ size = h.0 in let high : size ≤ 1 = ltb-false 1 size e in omega arith, h.1, first)

-- no flag, no greater2
no_greater2 : (n : ℕ) (sizes : List ℕ) → has_flag (greater1_flags n sizes) ≡ false → greater2_of n sizes ≡ false
no_greater2 zero sizes h = refl
no_greater2 (suc n) [] h = refl
no_greater2 (suc n) (size ∷ sizes) h = go (nat_lt 1 size) h (no_greater2 n sizes)
  where
    go : (b : Bool) → has_flag (b ∷ greater1_flags n sizes) ≡ false → (has_flag (greater1_flags n sizes) ≡ false → greater2_of n sizes ≡ false)
        → cond b (nat_lt 2 size) (greater2_of n sizes) ≡ false
    go true k rest = absurd (cc)
    go false k rest = rest k

length-flags : (n : ℕ) (sizes : List ℕ) → length (greater1_flags n sizes) ≡ min n (length sizes)
length-flags zero sizes = omega arith
length-flags (suc n) [] = omega arith
length-flags (suc n) (size ∷ sizes) = omega (arith, length-flags n sizes)

-- ---- the levels other than 0 of a sub-block

-- levels other than 0, within the bounds
abbrev pub AreValues : List ℤ → Type 0
AreValues values = AreSizes (map nat_abs values)

length-map : {A B : Type 0} (f : A → B) (xs : List A) → length (map f xs) ≡ length xs
length-map f [] = refl
length-map f (x ∷ xs) = ap suc (length-map f xs)

signed_back : (v : ℤ) → 1 ≤ nat_abs v → signed (is_negative v) (nat_abs v) ≡ v
signed_back (pos n) h = refl
signed_back (negsuc n) h = refl

signed_all_back : (values : List ℤ) → AreValues values → signed_all (map is_negative values) (map nat_abs values) ≡ values
signed_all_back [] h = refl
signed_all_back (v ∷ values) h = ap (λ (w : ℤ). w ∷ signed_all (map is_negative values) (map nat_abs values)) (signed_back v h.0) ∙ ap (λ (l : List ℤ). v ∷ l) (signed_all_back values h.2)

all_small : (sizes : List ℕ) → AreSizes sizes → list_all (λ size. nat_le size 255) sizes ≡ true
all_small [] h = refl
all_small (size ∷ sizes) h = ap (λ (b : Bool). b && list_all (λ (s : ℕ). nat_le s 255) sizes) (le-leb size 255 h.1) ∙ all_small sizes h.2

greater2_are : (component set : ℕ) (flags : List Bool) (greater2 : Bool) → AreBins (greater2_items component set flags greater2)
greater2_are component set flags greater2 = go (has_flag flags)
  where
    go : (b : Bool) → AreBins (cond b (context_bin greater2 (greater2_context component set) ∷ []) [])
    go true = tt
    go false = tt

reads_greater2 : (component set n : ℕ) (sizes : List ℕ)
    → Reads (greater2_read component set (greater1_flags n sizes)) (greater2_items component set (greater1_flags n sizes) (greater2_of n sizes)) (greater2_of n sizes)
reads_greater2 component set n sizes = go (has_flag (greater1_flags n sizes)) refl
  where
    c : Place
    c = Context (greater2_context component set)

    go : (b : Bool) → has_flag (greater1_flags n sizes) ≡ b
        → Reads (cond b (bin c) (give false)) (cond b (context_bin (greater2_of n sizes) (greater2_context component set) ∷ []) []) (greater2_of n sizes)
    go true e = record { from = λ d left h. h.1 ∙ ap (λ (x : Engine). Some (greater2_of n sizes, x)) h.2 }
    go false e = reads_as (give false) [] [] false (greater2_of n sizes) refl (sym (no_greater2 n sizes e)) (reads_give false)

pub reads_values : (component set : ℕ) (values : List ℤ) → AreValues values
    → Reads (values_read component set (length values)) (value_items component set values) values
reads_values component set values h =
    let sizes : List ℕ = map nat_abs values in
    let flags : List Bool = greater1_flags 8 sizes in
    let greater2 : Bool = greater2_of 8 sizes in
    let long : length sizes ≡ length values = length-map nat_abs values in
    let n : ℕ = length values in
    let many : length flags ≡ min 8 n = length-flags 8 sizes ∙ ap (λ (k : ℕ). min 8 k) long in
    let ks : List Known = known_of n flags greater2 in
    let signs : List Bool = map is_negative values in
    let last : List Bool → List ℕ → Reader (List ℤ) = λ ss szs. cond (list_all (λ size. nat_le size 255) szs) (give (signed_all ss szs)) refuse in
    let after_signs : Bool → List Bool → List Bool → Reader (List ℤ) = λ g fs ss. rests_read 0 (known_of n fs g) >>= λ szs. last ss szs in
    let after_greater2 : List Bool → Bool → Reader (List ℤ) = λ fs g. signs_read n >>= λ ss. after_signs g fs ss in
    let after_flags : List Bool → Reader (List ℤ) = λ fs. greater2_read component set fs >>= λ g. after_greater2 fs g in
    let agreed : Agree ks sizes = agree 8 sizes (n - 8) (ap (λ (k : ℕ). k - 8) (sym long)) h in
    let ends : last signs sizes ≡ give values = cond-true (list_all (λ (size : ℕ). nat_le size 255) sizes) _ _ (all_small sizes h) ∙ ap (λ (l : List ℤ). give l) (signed_all_back values h) in
    let at_rests : Reads (after_signs greater2 flags signs) (rest_items 0 ks sizes) values =
    reads_last (rests_read 0 ks) (λ szs. last signs szs) (rest_items 0 ks sizes) sizes values (reads_rests 0 ks sizes agreed) ends in
    let at_signs : Reads (after_greater2 flags greater2) (sign_items values ++ rest_items 0 ks sizes) values =
    reads_then (signs_read n) (λ ss. after_signs greater2 flags ss) (sign_items values) (rest_items 0 ks sizes) signs values (signs_are values) (reads_signs values) at_rests in
    let at_greater2 : Reads (after_flags flags) (greater2_items component set flags greater2 ++ (sign_items values ++ rest_items 0 ks sizes)) values =
    reads_then (greater2_read component set flags) (λ g. after_greater2 flags g) (greater2_items component set flags greater2) (sign_items values ++ rest_items 0 ks sizes) greater2 values
    (greater2_are component set flags greater2) (reads_greater2 component set 8 sizes) at_signs in
    reads_then (greater1_read component set 1 (min 8 n)) after_flags (greater1_items component set 1 flags) (greater2_items component set flags greater2 ++ (sign_items values ++ rest_items 0 ks sizes)) flags values
    (greater1_are component set 1 flags)
    (subst (λ (k : ℕ). Reads (greater1_read component set 1 k) (greater1_items component set 1 flags) flags) many (reads_greater1 component set 1 flags))
    at_greater2

-- ---- sig_coeff_flag

abbrev flag_of : ℤ → Bool
flag_of v = not (is_zero v)

flag_first : Bool → ℕ → Bool → List Item
flag_first implied context flag = cond implied [] (context_bin flag context ∷ [])

pub sig_are : (s : Shape) (sub : Sub) (inner found : Bool) (levels : List ℤ) → AreBins (sig_items s sub inner found levels)
sig_are s sub inner found [] = tt
sig_are s sub inner found (v ∷ levels) = go (is_implied inner found (length levels)) (sig_are s sub inner (found || flag_of v) levels)
  where
    go : (b : Bool) → AreBins (sig_items s sub inner (found || flag_of v) levels)
        → AreBins (cond b [] (context_bin (flag_of v) (sig_at s sub (length levels)) ∷ []) ++ sig_items s sub inner (found || flag_of v) levels)
    go true h = h
    go false h = h

-- a level is still to come where the last flag may be implied
abbrev Comes : Bool → Bool → List ℤ → Type 0
Comes inner found levels = inner ≡ true → found ≡ false → cbf levels ≡ true

comes_later : (inner found : Bool) (v : ℤ) (levels : List ℤ) → Comes inner found (v ∷ levels) → Comes inner (found || flag_of v) levels
unfolding cbf
comes_later inner found v levels h i = go found (flag_of v) (h i)
  where
    go : (f b : Bool) → (f ≡ false → (b || list_any (λ w. not (is_zero w)) levels) ≡ true) → (f || b) ≡ false → list_any (λ w. not (is_zero w)) levels ≡ true
    go true b k e = absurd (cc)
    go false true k e = absurd (cc)
    go false false k e = k refl

implied_flag : (inner found : Bool) (v : ℤ) (levels : List ℤ) → Comes inner found (v ∷ levels) → is_implied inner found (length levels) ≡ true → flag_of v ≡ true
unfolding cbf
implied_flag true false v [] h e = go (flag_of v) (h refl refl)
  where
    go : (b : Bool) → (b || false) ≡ true → b ≡ true
    go true k = refl
    go false k = k
implied_flag true false v (w ∷ levels) h e = absurd (let n : suc (length levels) ≡ 0 = eqb-true _ _ e in omega arith)
implied_flag true true v levels h e = absurd (cc)
implied_flag false found v levels h e = absurd (cc)

reads_sig : (s : Shape) (sub : Sub) (inner found : Bool) (levels : List ℤ) → Comes inner found levels
    → Reads (sig_read s sub inner found (length levels)) (sig_items s sub inner found levels) (map flag_of levels)
reads_sig s sub inner found [] h = reads_give []
reads_sig s sub inner found (v ∷ levels) h =
    go (is_implied inner found (length levels)) refl (reads_sig s sub inner (found || flag_of v) levels (comes_later inner found v levels h))
  where
    f : Bool → Reader (List Bool)
    f flag = sig_read s sub inner (found || flag) (length levels) >>= λ flags. give (flag ∷ flags)

    rest : List Item
    rest = sig_items s sub inner (found || flag_of v) levels

    go : (b : Bool) → is_implied inner found (length levels) ≡ b
        → Reads (sig_read s sub inner (found || flag_of v) (length levels)) rest (map flag_of levels)
        → Reads (cond b (give true) (bin (Context (sig_at s sub (length levels)))) >>= f)
        (cond b [] (context_bin (flag_of v) (sig_at s sub (length levels)) ∷ []) ++ rest) (flag_of v ∷ map flag_of levels)
    go true e later =
        let r : Reads (f (flag_of v)) rest (flag_of v ∷ map flag_of levels) = reads_map (sig_read s sub inner (found || flag_of v) (length levels)) (λ flags. flag_of v ∷ flags) _ (map flag_of levels) later in
        let t : Reads (f true) rest (flag_of v ∷ map flag_of levels) = subst (λ (b : Bool). Reads (f b) rest (flag_of v ∷ map flag_of levels)) (implied_flag inner found v levels h e) r in
        record { from = t.from }
    go false e later = reads_bin (Context (sig_at s sub (length levels))) (flag_of v) f rest (flag_of v ∷ map flag_of levels)
        (reads_map (sig_read s sub inner (found || flag_of v) (length levels)) (λ flags. flag_of v ∷ flags) _ (map flag_of levels) later)

-- ---- the levels of a sub-block

values_of : (levels : List ℤ) → AreLevels levels → AreValues (nonzero levels)
values_of [] h = tt
values_of (pos zero ∷ levels) h = values_of levels h.1
values_of (pos (suc n) ∷ levels) h = (omega arith, h.0, values_of levels h.1)
values_of (negsuc n ∷ levels) h = (omega arith, h.0, values_of levels h.1)

many_nonzero : (levels : List ℤ) → many_of (map flag_of levels) ≡ length (nonzero levels)
many_nonzero [] = refl
many_nonzero (pos zero ∷ levels) = many_nonzero levels
many_nonzero (pos (suc n) ∷ levels) = ap suc (many_nonzero levels)
many_nonzero (negsuc n ∷ levels) = ap suc (many_nonzero levels)

spread_back : (levels : List ℤ) → spread (map flag_of levels) (nonzero levels) ≡ levels
spread_back [] = refl
spread_back (pos zero ∷ levels) = ap (λ (l : List ℤ). pos 0 ∷ l) (spread_back levels)
spread_back (pos (suc n) ∷ levels) = ap (λ (l : List ℤ). pos (suc n) ∷ l) (spread_back levels)
spread_back (negsuc n ∷ levels) = ap (λ (l : List ℤ). negsuc n ∷ l) (spread_back levels)

pub value_are : (component set : ℕ) (values : List ℤ) → AreBins (value_items component set values)
value_are component set values =
    let sizes : List ℕ = map nat_abs values in
    bins-append (greater1_items component set 1 (greater1_flags 8 sizes)) _ (greater1_are component set 1 (greater1_flags 8 sizes))
    (bins-append (greater2_items component set (greater1_flags 8 sizes) (greater2_of 8 sizes)) _ (greater2_are component set (greater1_flags 8 sizes) (greater2_of 8 sizes))
    (bins-append (sign_items values) _ (signs_are values) (rests_are 0 (known_of (length values) (greater1_flags 8 sizes) (greater2_of 8 sizes)) sizes)))

-- after flags that are known
reads_levels : (s : Shape) (sub : Sub) (inner found ended : Bool) (known_flags : List Bool) (levels whole : List ℤ)
    → not (many_of known_flags == 0) ≡ found → known_flags ++ map flag_of levels ≡ map flag_of whole → AreLevels whole → Comes inner found levels
    → Reads (levels_read s sub inner ended known_flags (length levels))
    (sig_items s sub inner found levels ++ value_items s.component (set_of s sub.number ended) (nonzero whole)) whole
reads_levels s sub inner found ended known_flags levels whole known_is flags_are bounds comes =
    let set : ℕ = set_of s sub.number ended in
    let last : List Bool → List ℤ → Reader (List ℤ) = λ more vs. give (spread (known_flags ++ more) vs) in
    let f : List Bool → Reader (List ℤ) = λ more. values_read s.component set (many_of (known_flags ++ more)) >>= λ vs. last more vs in
    let many : length (nonzero whole) ≡ many_of (known_flags ++ map flag_of levels) = sym (ap many_of flags_are ∙ many_nonzero whole) in
    let back : spread (known_flags ++ map flag_of levels) (nonzero whole) ≡ whole = ap (λ (fs : List Bool). spread fs (nonzero whole)) flags_are ∙ spread_back whole in
    let at_values : Reads (f (map flag_of levels)) (value_items s.component set (nonzero whole)) whole =
    reads_last (values_read s.component set (many_of (known_flags ++ map flag_of levels))) (λ vs. last (map flag_of levels) vs) (value_items s.component set (nonzero whole)) (nonzero whole) whole
    (subst (λ (n : ℕ). Reads (values_read s.component set n) (value_items s.component set (nonzero whole)) (nonzero whole)) many (reads_values s.component set (nonzero whole) (values_of whole bounds)))
    (ap (λ (l : List ℤ). give l) back) in
    subst (λ (b : Bool). Reads (sig_read s sub inner b (length levels) >>= f) (sig_items s sub inner found levels ++ value_items s.component set (nonzero whole)) whole) (sym known_is)
    (reads_then (sig_read s sub inner found (length levels)) f (sig_items s sub inner found levels) (value_items s.component set (nonzero whole)) (map flag_of levels) whole
    (sig_are s sub inner found levels) (reads_sig s sub inner found levels comes) at_values)

-- ---- the sub-blocks below the last

abbrev pub AreSubs : List (List ℤ) → Type 0
AreSubs [] = Unit {0}
AreSubs (levels ∷ subs) = (length levels ≡ 16) × AreLevels levels × AreSubs subs

pub no_levels : (levels : List ℤ) → cbf levels ≡ false → levels ≡ replicate (length levels) (pos 0)
unfolding cbf
no_levels [] h = refl
no_levels (pos zero ∷ levels) h = ap (λ (l : List ℤ). pos 0 ∷ l) (no_levels levels h)
no_levels (pos (suc n) ∷ levels) h = absurd (cc)
no_levels (negsuc n ∷ levels) h = absurd (cc)

pub sub_are : (s : Shape) (flags : List Bool) (ended : Bool) (subs : List (List ℤ)) → AreBins (sub_items s flags ended subs)
sub_are s flags ended [] = tt
sub_are s flags ended (levels ∷ subs) =
    go (not (length subs == 0)) (not (not (length subs == 0)) || cbf levels) (λ b. sub_are s (b ∷ flags) (ended_at_zero ended (nonzero levels)) subs)
  where
    sub : Sub
    sub = sub_at s (length subs) flags

    body : Bool → List Item
    body inner = sig_items s sub inner false levels ++ value_items s.component (set_of s (length subs) ended) (nonzero levels)

    body_are : (inner : Bool) → AreBins (body inner)
    body_are inner = bins-append (sig_items s sub inner false levels) _ (sig_are s sub inner false levels) (value_are s.component (set_of s (length subs) ended) (nonzero levels))

    go : (inner coded : Bool) → ((b : Bool) → AreBins (sub_items s (b ∷ flags) (ended_at_zero ended (nonzero levels)) subs))
        → AreBins (cond inner (context_bin coded (flag_context s sub) ∷ []) [] ++ (cond coded (body inner) [] ++ sub_items s (coded ∷ flags) (ended_at_zero ended (nonzero levels)) subs))
    go true true later = bins-append (body true) _ (body_are true) (later true)
    go true false later = later false
    go false true later = bins-append (body false) _ (body_are false) (later true)
    go false false later = later false

reads_subs : (s : Shape) (flags : List Bool) (ended : Bool) (subs : List (List ℤ)) → AreSubs subs
    → Reads (subs_read s flags ended (length subs)) (sub_items s flags ended subs) subs
reads_subs s flags ended [] h = reads_give []
reads_subs s flags ended (levels ∷ subs) h =
    go (not (length subs == 0)) (cbf levels) refl (λ b. reads_subs s (b ∷ flags) (ended_at_zero ended (nonzero levels)) subs h.2)
  where
    sub : Sub
    sub = sub_at s (length subs) flags

    set : ℕ
    set = set_of s (length subs) ended

    body : Bool → List Item
    body inner = sig_items s sub inner false levels ++ value_items s.component set (nonzero levels)

    later_items : Bool → List Item
    later_items coded = sub_items s (coded ∷ flags) (ended_at_zero ended (nonzero levels)) subs

    last : Bool → List ℤ → Reader (List (List ℤ))
    last coded ls = subs_read s (coded ∷ flags) (ended_at_zero ended (nonzero ls)) (length subs) >>= λ ss. give (ls ∷ ss)

    f : Bool → Bool → Reader (List (List ℤ))
    f inner coded = cond coded (levels_read s sub inner ended [] 16) (give zeros) >>= last coded

    Later : Type 0
    Later = (b : Bool) → Reads (subs_read s (b ∷ flags) (ended_at_zero ended (nonzero levels)) (length subs)) (later_items b) subs

    ends : Later → (b : Bool) → Reads (last b levels) (later_items b) (levels ∷ subs)
    ends later b = reads_map (subs_read s (b ∷ flags) (ended_at_zero ended (nonzero levels)) (length subs)) (λ ss. levels ∷ ss) (later_items b) subs (later b)

    at_body : Later → (inner : Bool) → (inner ≡ true → cbf levels ≡ true) → Reads (f inner true) (body inner ++ later_items true) (levels ∷ subs)
    at_body later inner comes =
        reads_then (levels_read s sub inner ended [] 16) (last true) (body inner) (later_items true) levels (levels ∷ subs)
        (bins-append (sig_items s sub inner false levels) _ (sig_are s sub inner false levels) (value_are s.component set (nonzero levels)))
        (subst (λ (n : ℕ). Reads (levels_read s sub inner ended [] n) (body inner) levels) h.0
        (reads_levels s sub inner false ended [] levels levels refl refl h.1 (λ i k. comes i)))
        (ends later true)

    go : (inner coded : Bool) → cbf levels ≡ coded → Later
        → Reads (cond inner (bin (Context (flag_context s sub))) (give true) >>= f inner)
        (cond inner (context_bin (not inner || coded) (flag_context s sub) ∷ []) [] ++ (cond (not inner || coded) (body inner) [] ++ later_items (not inner || coded)))
        (levels ∷ subs)
    go true true e later = reads_bin (Context (flag_context s sub)) true (f true) (body true ++ later_items true) (levels ∷ subs) (at_body later true (λ i. e))
    go true false e later =
        let all_zero : levels ≡ zeros = no_levels levels e ∙ ap (λ (n : ℕ). replicate n (pos 0)) h.0 in
        let r : Reads (last false zeros) (later_items false) (levels ∷ subs) = subst (λ (ls : List ℤ). Reads (last false ls) (later_items false) (levels ∷ subs)) all_zero (ends later false) in
        reads_bin (Context (flag_context s sub)) false (f true) (later_items false) (levels ∷ subs) (record { from = r.from })
    go false coded e later = let r : Reads (f false true) (body false ++ later_items true) (levels ∷ subs) = at_body later false (λ i. absurd (cc)) in record { from = r.from }

-- ---- the place of the last level

-- a prefix and a suffix give the coordinate back
splits_well : ℕ → Bool
splits_well v = nat_le (suffix_base (prefix_of v)) v && nat_lt (v - suffix_base (prefix_of v)) (2 ^ suffix_bits (prefix_of v))

splits_below : agree_below splits_well (λ v. true) 32 ≡ true
unfolding splits_well
splits_below = refl

prefix_fits : ℕ → ℕ → Bool
prefix_fits log2 v = nat_le (prefix_of v) (2 * log2 - 1)

prefixes_8 : agree_below (prefix_fits 3) (λ v. true) 8 ≡ true
unfolding prefix_fits
prefixes_8 = refl

prefixes_16 : agree_below (prefix_fits 4) (λ v. true) 16 ≡ true
unfolding prefix_fits
prefixes_16 = refl

prefixes_32 : agree_below (prefix_fits 5) (λ v. true) 32 ≡ true
unfolding prefix_fits
prefixes_32 = refl

prefix_bound : (log2 v : ℕ) → IsSide log2 → v < 2 ^ log2 → prefix_of v ≤ 2 * log2 - 1
unfolding prefix_fits
prefix_bound _ v eight h = leb-true _ _ (agree_below_at (prefix_fits 3) (λ w. true) 8 v prefixes_8 h)
prefix_bound _ v sixteen h = leb-true _ _ (agree_below_at (prefix_fits 4) (λ w. true) 16 v prefixes_16 h)
prefix_bound _ v thirty_two h = leb-true _ _ (agree_below_at (prefix_fits 5) (λ w. true) 32 v prefixes_32 h)

side_fits : (log2 v : ℕ) → IsSide log2 → v < 2 ^ log2 → v < 32
side_fits _ v eight h = omega arith
side_fits _ v sixteen h = omega arith
side_fits _ v thirty_two h = h

reads_coordinate : (v : ℕ) → v < 32 → Reads (coordinate_read (prefix_of v)) (bypass_bins (fl (suffix_bits (prefix_of v)) (v - suffix_base (prefix_of v)))) v
unfolding splits_well
reads_coordinate v h =
    let base : ℕ = suffix_base (prefix_of v) in
    let both : (nat_le base v && nat_lt (v - base) (2 ^ suffix_bits (prefix_of v))) ≡ true = agree_below_at splits_well (λ w. true) 32 v splits_below h in
    let p : (nat_le base v ≡ true) × (nat_lt (v - base) (2 ^ suffix_bits (prefix_of v)) ≡ true) = and_parts _ _ both in
    let at_least : base ≤ v = leb-true _ _ p.0 in
    let whole : base + (v - base) ≡ v = omega arith in
    reads_as (coordinate_read (prefix_of v)) _ _ (base + (v - base)) v refl whole
    (reads_map (fl_read (suffix_bits (prefix_of v))) (λ suffix. base + suffix) (bypass_bins (fl (suffix_bits (prefix_of v)) (v - base))) (v - base)
    (reads_fl (suffix_bits (prefix_of v)) (v - base) (ltb-true _ _ p.1)))

reads_prefix : (number : ℕ → ℕ) (limit x : ℕ) → x ≤ limit → Reads (tr_read (λ i. Context (number i)) limit) (context_bins number 0 (tr limit x)) x
reads_prefix number limit x h =
    reads_as (tr_read (λ i. Context (number i)) limit) (placed (λ i. Context (number i)) 0 (tr limit x)) _ (0 + x) x (placed-context number 0 (tr limit x)) (omega arith) (reads_tr (λ i. Context (number i)) 0 limit x h)

swapped_twice : (kind : ℕ) (p : ℕ × ℕ) → swapped kind ((swapped kind p).0, (swapped kind p).1) ≡ p
swapped_twice kind p = go (kind == 2)
  where
    go : (b : Bool) → cond b ((cond b (p.1, p.0) p).1, (cond b (p.1, p.0) p).0) ((cond b (p.1, p.0) p).0, (cond b (p.1, p.0) p).1) ≡ p
    go true = refl
    go false = refl

swapped_below : (kind n : ℕ) (p : ℕ × ℕ) → p.0 < n → p.1 < n → ((swapped kind p).0 < n) × ((swapped kind p).1 < n)
swapped_below kind n p h k = go (kind == 2)
  where
    go : (b : Bool) → ((cond b (p.1, p.0) p).0 < n) × ((cond b (p.1, p.0) p).1 < n)
    go true = (k, h)
    go false = (h, k)

reads_last_place : (s : Shape) (place : ℕ × ℕ) → IsSide s.log2 → place.0 < 2 ^ s.log2 → place.1 < 2 ^ s.log2
    → Reads (last_read s) (last_items s place) place
reads_last_place s place is_side hx hy =
    let q : ℕ × ℕ = swapped s.scan place in
    let below : (q.0 < 2 ^ s.log2) × (q.1 < 2 ^ s.log2) = swapped_below s.scan (2 ^ s.log2) place hx hy in
    let xp : ℕ = prefix_of q.0 in
    let yp : ℕ = prefix_of q.1 in
    let limit : ℕ = 2 * s.log2 - 1 in
    let x_items : List Item = context_bins (last_context s.component s.log2 false) 0 (tr limit xp) in
    let y_items : List Item = context_bins (last_context s.component s.log2 true) 0 (tr limit yp) in
    let xs_items : List Item = bypass_bins (fl (suffix_bits xp) (q.0 - suffix_base xp)) in
    let ys_items : List Item = bypass_bins (fl (suffix_bits yp) (q.1 - suffix_base yp)) in
    let at_y : ℕ → ℕ → Reader (ℕ × ℕ) = λ yp' x. coordinate_read yp' >>= λ y. give (swapped s.scan (x, y)) in
    let at_x : ℕ → ℕ → Reader (ℕ × ℕ) = λ xp' yp'. coordinate_read xp' >>= λ x. at_y yp' x in
    let at_yp : ℕ → Reader (ℕ × ℕ) = λ xp'. tr_read (λ i. Context (last_context s.component s.log2 true i)) limit >>= λ yp'. at_x xp' yp' in
    let r_y : Reads (at_y yp q.0) ys_items place =
    reads_last (coordinate_read yp) (λ y. give (swapped s.scan (q.0, y))) ys_items q.1 place (reads_coordinate q.1 (side_fits s.log2 q.1 is_side below.1)) (ap (λ (p : ℕ × ℕ). give p) (swapped_twice s.scan place)) in
    let r_x : Reads (at_x xp yp) (xs_items ++ ys_items) place =
    reads_then (coordinate_read xp) (λ x. at_y yp x) xs_items ys_items q.0 place (bypass_are (fl (suffix_bits xp) (q.0 - suffix_base xp))) (reads_coordinate q.0 (side_fits s.log2 q.0 is_side below.0)) r_y in
    let r_yp : Reads (at_yp xp) (y_items ++ (xs_items ++ ys_items)) place =
    reads_then (tr_read (λ i. Context (last_context s.component s.log2 true i)) limit) (λ yp'. at_x xp yp') y_items (xs_items ++ ys_items) yp place
    (context_are (last_context s.component s.log2 true) 0 (tr limit yp)) (reads_prefix (last_context s.component s.log2 true) limit yp (prefix_bound s.log2 q.1 is_side below.1)) r_x in
    reads_then (tr_read (λ i. Context (last_context s.component s.log2 false i)) limit) at_yp x_items (y_items ++ (xs_items ++ ys_items)) xp place
    (context_are (last_context s.component s.log2 false) 0 (tr limit xp)) (reads_prefix (last_context s.component s.log2 false) limit xp (prefix_bound s.log2 q.0 is_side below.0)) r_yp

-- ---- places and their numbers

scan_fits : ℕ → ℕ → ℕ → Bool
unfolding scan
scan_fits kind log2 i =
    let p : ℕ × ℕ = place_at (scan kind log2) i in
    number_of p.0 p.1 (scan kind log2) == i && (nat_lt p.0 (2 ^ log2) && nat_lt p.1 (2 ^ log2))

-- 2, 4 or 8 sub-blocks a side
pub data IsSubSide : ℕ → Type 0 where
  two : IsSubSide 1
  four : IsSubSide 2
  eight_subs : IsSubSide 3

scans_fit : (kind log2 : ℕ) → IsSubSide log2 → agree_below (scan_fits kind log2) (λ i. true) (4 ^ log2) ≡ true
unfolding scan_fits
scans_fit zero _ two = refl
scans_fit zero _ four = refl
scans_fit zero _ eight_subs = refl
scans_fit (suc zero) _ two = refl
scans_fit (suc zero) _ four = refl
scans_fit (suc zero) _ eight_subs = refl
scans_fit (suc (suc kind)) _ two = refl
scans_fit (suc (suc kind)) _ four = refl
scans_fit (suc (suc kind)) _ eight_subs = refl

pub record IsAt (kind log2 i : ℕ) : Type 0 where
  pub number : number_of (place_at (scan kind log2) i).0 (place_at (scan kind log2) i).1 (scan kind log2) ≡ i
  pub x : (place_at (scan kind log2) i).0 < 2 ^ log2
  pub y : (place_at (scan kind log2) i).1 < 2 ^ log2

at_scan : (kind log2 i : ℕ) → IsSubSide log2 → i < 4 ^ log2 → IsAt kind log2 i
unfolding scan_fits
at_scan kind log2 i side h =
    let fits : scan_fits kind log2 i ≡ true = agree_below_at (scan_fits kind log2) (λ k. true) (4 ^ log2) i (scans_fit kind log2 side) h in
    let p : ((number_of (place_at (scan kind log2) i).0 (place_at (scan kind log2) i).1 (scan kind log2) == i) ≡ true) × ((nat_lt (place_at (scan kind log2) i).0 (2 ^ log2) && nat_lt (place_at (scan kind log2) i).1 (2 ^ log2)) ≡ true) = and_parts _ _ fits in
    let q : (nat_lt (place_at (scan kind log2) i).0 (2 ^ log2) ≡ true) × (nat_lt (place_at (scan kind log2) i).1 (2 ^ log2) ≡ true) = and_parts _ _ p.1 in
    record { number = eqb-true _ _ p.0; x = ltb-true _ _ q.0; y = ltb-true _ _ q.1 }

sub_side : (log2 : ℕ) → IsSide log2 → IsSubSide (log2 - 2)
sub_side _ eight = two
sub_side _ sixteen = four
sub_side _ thirty_two = eight_subs

four_times : (log2 : ℕ) → IsSide log2 → 2 ^ log2 ≡ 4 * 2 ^ (log2 - 2)
four_times _ eight = refl
four_times _ sixteen = refl
four_times _ thirty_two = refl

-- ---- from the last level on

-- what is read after the last place
abbrev residual_with : Shape → ℕ → ℕ → Reader (List ℤ)
residual_with s number k =
    levels_read s (sub_at s number []) false false (replicate (15 - k) false ++ true ∷ []) k >>= λ levels.
    subs_read s (true ∷ []) (ended_at_zero false (nonzero levels)) number >>= λ subs.
    give (in_rows s (replicate (length (sub_scan s) - number - 1) zeros ++ levels ∷ subs))

one_flag : (m : ℕ) → many_of (replicate m false ++ true ∷ []) ≡ 1
one_flag zero = refl
one_flag (suc m) = one_flag m

nonzero_after : (m : ℕ) (levels : List ℤ) → nonzero (replicate m (pos 0) ++ levels) ≡ nonzero levels
nonzero_after zero levels = refl
nonzero_after (suc m) levels = nonzero_after m levels

flags_after : (m : ℕ) (levels : List ℤ) → map flag_of (replicate m (pos 0) ++ levels) ≡ replicate m false ++ map flag_of levels
flags_after zero levels = refl
flags_after (suc m) levels = ap (λ (l : List Bool). false ∷ l) (flags_after m levels)

nonzero_head : (v : ℤ) (levels : List ℤ) → flag_of v ≡ true → nonzero (v ∷ levels) ≡ v ∷ nonzero levels
nonzero_head (pos zero) levels h = absurd (cc)
nonzero_head (pos (suc n)) levels h = refl
nonzero_head (negsuc n) levels h = refl

reads_after_last : (s : Shape) (v : ℤ) (levels full : List ℤ) (subs : List (List ℤ)) → flag_of v ≡ true
    → full ≡ replicate (15 - length levels) (pos 0) ++ v ∷ levels → AreLevels full → AreSubs subs
    → Reads (residual_with s (length subs) (length levels))
    ((sig_items s (sub_at s (length subs) []) false true levels ++ value_items s.component (set_of s (length subs) false) (v ∷ nonzero levels))
    ++ sub_items s (true ∷ []) (ended_at_zero false (v ∷ nonzero levels)) subs)
    (in_rows s (replicate (length (sub_scan s) - length subs - 1) zeros ++ full ∷ subs))
reads_after_last s v levels full subs nonzero_v whole bounds subs_are =
    let number : ℕ = length subs in
    let sub : Sub = sub_at s number [] in
    let m : ℕ = 15 - length levels in
    let known_flags : List Bool = replicate m false ++ true ∷ [] in
    let set : ℕ = set_of s number false in
    let values_are : nonzero full ≡ v ∷ nonzero levels = ap nonzero whole ∙ (nonzero_after m (v ∷ levels) ∙ nonzero_head v levels nonzero_v) in
    let known_is : not (many_of known_flags == 0) ≡ true = ap (λ (n : ℕ). not (n == 0)) (one_flag m) in
    let flags_are : known_flags ++ map flag_of levels ≡ map flag_of full =
    append_assoc (replicate m false) (true ∷ []) (map flag_of levels)
    ∙ (ap (λ (b : Bool). replicate m false ++ b ∷ map flag_of levels) (sym nonzero_v) ∙ (sym (flags_after m (v ∷ levels)) ∙ ap (map flag_of) (sym whole))) in
    let last : List ℤ → List (List ℤ) → Reader (List ℤ) = λ ls ss. give (in_rows s (replicate (length (sub_scan s) - number - 1) zeros ++ ls ∷ ss)) in
    let f : List ℤ → Reader (List ℤ) = λ ls. subs_read s (true ∷ []) (ended_at_zero false (nonzero ls)) number >>= λ ss. last ls ss in
    let value : List ℤ = in_rows s (replicate (length (sub_scan s) - number - 1) zeros ++ full ∷ subs) in
    let first : Reads (levels_read s sub false false known_flags (length levels)) (sig_items s sub false true levels ++ value_items s.component set (v ∷ nonzero levels)) full =
    subst (λ (vs : List ℤ). Reads (levels_read s sub false false known_flags (length levels)) (sig_items s sub false true levels ++ value_items s.component set vs) full) values_are
    (reads_levels s sub false true false known_flags levels full known_is flags_are bounds (λ i. absurd (cc))) in
    let later : Reads (f full) (sub_items s (true ∷ []) (ended_at_zero false (v ∷ nonzero levels)) subs) value =
    subst (λ (vs : List ℤ). Reads (f full) (sub_items s (true ∷ []) (ended_at_zero false vs) subs) value) values_are
    (reads_map (subs_read s (true ∷ []) (ended_at_zero false (nonzero full)) number) (λ ss. in_rows s (replicate (length (sub_scan s) - number - 1) zeros ++ full ∷ ss)) _ subs
    (reads_subs s (true ∷ []) (ended_at_zero false (nonzero full)) subs subs_are)) in
    reads_then (levels_read s sub false false known_flags (length levels)) f _ _ full value
    (bins-append (sig_items s sub false true levels) _ (sig_are s sub false true levels) (value_are s.component set (v ∷ nonzero levels)))
    first later

pub last_are : (s : Shape) (place : ℕ × ℕ) → AreBins (last_items s place)
last_are s place =
    let p : ℕ × ℕ = swapped s.scan place in
    let x : ℕ = prefix_of p.0 in
    let y : ℕ = prefix_of p.1 in
    bins-append (context_bins (last_context s.component s.log2 false) 0 (tr (2 * s.log2 - 1) x)) _ (context_are (last_context s.component s.log2 false) 0 (tr (2 * s.log2 - 1) x))
    (bins-append (context_bins (last_context s.component s.log2 true) 0 (tr (2 * s.log2 - 1) y)) _ (context_are (last_context s.component s.log2 true) 0 (tr (2 * s.log2 - 1) y))
    (bins-append (bypass_bins (fl (suffix_bits x) (p.0 - suffix_base x))) _ (bypass_are (fl (suffix_bits x) (p.0 - suffix_base x))) (bypass_are (fl (suffix_bits y) (p.1 - suffix_base y)))))

in_fours : (a b : ℕ) → b < 4 → ((4 * a + b) / 4 ≡ a) × ((4 * a + b) % 4 ≡ b)
in_fours a b h = (omega arith, omega arith)

reads_from_last : (s : Shape) (v : ℤ) (levels full : List ℤ) (subs : List (List ℤ)) → IsSide s.log2 → length subs < 4 ^ (s.log2 - 2) → length levels < 16 → flag_of v ≡ true
    → full ≡ replicate (15 - length levels) (pos 0) ++ v ∷ levels → AreLevels full → AreSubs subs
    → Reads (residual_read s) (from_last s (v ∷ levels) subs) (in_rows s (replicate (length (sub_scan s) - length subs - 1) zeros ++ full ∷ subs))
unfolding residual_read
reads_from_last s v levels full subs is_side few short nonzero_v whole bounds subs_are =
    let n : ℕ = length subs in
    let k : ℕ = length levels in
    let sub_is : IsAt s.scan (s.log2 - 2) n = at_scan s.scan (s.log2 - 2) n (sub_side s.log2 is_side) few in
    let in_sub : IsAt s.scan 2 k = at_scan s.scan 2 k four short in
    let a : ℕ × ℕ = place_at (sub_scan s) n in
    let p : ℕ × ℕ = place_at (scan s.scan 2) k in
    let place : ℕ × ℕ = place_of s n k in
    let fx : ((4 * a.0 + p.0) / 4 ≡ a.0) × ((4 * a.0 + p.0) % 4 ≡ p.0) = in_fours a.0 p.0 in_sub.x in
    let fy : ((4 * a.1 + p.1) / 4 ≡ a.1) × ((4 * a.1 + p.1) % 4 ≡ p.1) = in_fours a.1 p.1 in_sub.y in
    let wide : 2 ^ s.log2 ≡ 4 * 2 ^ (s.log2 - 2) = four_times s.log2 is_side in
    let px : p.0 < 4 = in_sub.x in
    let py : p.1 < 4 = in_sub.y in
    let ax : a.0 < 2 ^ (s.log2 - 2) = sub_is.x in
    let ay : a.1 < 2 ^ (s.log2 - 2) = sub_is.y in
    let sub_number : number_of (place.0 / 4) (place.1 / 4) (sub_scan s) ≡ n =
    ap (λ (x : ℕ). number_of x (place.1 / 4) (sub_scan s)) fx.0 ∙ (ap (λ (y : ℕ). number_of a.0 y (sub_scan s)) fy.0 ∙ sub_is.number) in
    let number : number_of (place.0 % 4) (place.1 % 4) (scan s.scan 2) ≡ k =
    ap (λ (x : ℕ). number_of x (place.1 % 4) (scan s.scan 2)) fx.1 ∙ (ap (λ (y : ℕ). number_of p.0 y (scan s.scan 2)) fy.1 ∙ in_sub.number) in
    let value : List ℤ = in_rows s (replicate (length (sub_scan s) - n - 1) zeros ++ full ∷ subs) in
    let items_after : List Item = (sig_items s (sub_at s n []) false true levels ++ value_items s.component (set_of s n false) (v ∷ nonzero levels)) ++ sub_items s (true ∷ []) (ended_at_zero false (v ∷ nonzero levels)) subs in
    let r : Reads (residual_with s n k) items_after value = reads_after_last s v levels full subs nonzero_v whole bounds subs_are in
    let same : residual_with s n k ≡ residual_from s place =
    sym (ap (λ (i : ℕ). residual_with s i (number_of (place.0 % 4) (place.1 % 4) (scan s.scan 2))) sub_number ∙ ap (λ (i : ℕ). residual_with s n i) number) in
    reads_then (last_read s) (residual_from s) (last_items s place) items_after place value (last_are s place)
    (reads_last_place s place is_side (omega arith) (omega arith))
    (subst (λ (m : Reader (List ℤ)). Reads m items_after value) same r)

-- ---- from the sub-blocks on

-- the first level other than 0, and the zeros before it
record Following (levels : List ℤ) : Type 0 where
  v : ℤ
  rest : List ℤ
  m : ℕ
  is : without_leading_zeros levels ≡ v ∷ rest
  flag : flag_of v ≡ true
  whole : levels ≡ replicate m (pos 0) ++ v ∷ rest
  long : length levels ≡ m + suc (length rest)

first_nonzero : (levels : List ℤ) → cbf levels ≡ true → Following levels
unfolding cbf
first_nonzero [] h = absurd (cc)
first_nonzero (pos zero ∷ levels) h = let b : Following levels = first_nonzero levels h in
    record {
      v = b.v;
      rest = b.rest;
      m = suc b.m;
      is = b.is;
      flag = b.flag;
      whole = ap (λ (l : List ℤ). pos 0 ∷ l) b.whole;
      long = let e : length levels ≡ b.m + suc (length b.rest) = b.long in omega arith;
    }
first_nonzero (pos (suc n) ∷ levels) h = record { v = pos (suc n); rest = levels; m = 0; is = refl; flag = refl; whole = refl; long = omega arith }
first_nonzero (negsuc n ∷ levels) h = record { v = negsuc n; rest = levels; m = 0; is = refl; flag = refl; whole = refl; long = omega arith }

abbrev pub has_levels : List (List ℤ) → Bool
has_levels subs = list_any cbf subs

one_more_zeros : (m : ℕ) (subs : List (List ℤ)) → replicate (suc m) zeros ++ subs ≡ replicate m zeros ++ zeros ∷ subs
one_more_zeros zero subs = refl
one_more_zeros (suc m) subs = ap (λ (l : List (List ℤ)). zeros ∷ l) (one_more_zeros m subs)

pub reads_from_subs : (s : Shape) (subs : List (List ℤ)) → IsSide s.log2 → length subs ≤ 4 ^ (s.log2 - 2) → length (sub_scan s) ≡ 4 ^ (s.log2 - 2) → AreSubs subs → has_levels subs ≡ true
    → Reads (residual_read s) (from_subs s subs) (in_rows s (replicate (length (sub_scan s) - length subs) zeros ++ subs))
reads_from_subs s [] is_side few scan_is subs_are some = absurd (cc)
reads_from_subs s (levels ∷ subs) is_side few scan_is subs_are some =
    go (cbf levels) refl (reads_from_subs s subs is_side (omega arith) scan_is subs_are.2)
  where
    n : ℕ
    n = length subs

    go : (b : Bool) → cbf levels ≡ b
        → (has_levels subs ≡ true → Reads (residual_read s) (from_subs s subs) (in_rows s (replicate (length (sub_scan s) - n) zeros ++ subs)))
        → Reads (residual_read s) (cond b (from_last s (without_leading_zeros levels) subs) (from_subs s subs)) (in_rows s (replicate (length (sub_scan s) - suc n) zeros ++ levels ∷ subs))
    go true e later =
        let b : Following levels = first_nonzero levels e in
        let long : length levels ≡ b.m + suc (length b.rest) = b.long in
        let sixteen_long : length levels ≡ 16 = subs_are.0 in
        let m_is : b.m ≡ 15 - length b.rest = omega arith in
        let full_is : levels ≡ replicate (15 - length b.rest) (pos 0) ++ b.v ∷ b.rest = b.whole ∙ ap (λ (m : ℕ). replicate m (pos 0) ++ b.v ∷ b.rest) m_is in
        let few' : suc n ≤ 4 ^ (s.log2 - 2) = few in
        let zeros_are : length (sub_scan s) - n - 1 ≡ length (sub_scan s) - suc n = omega arith in
        reads_as (residual_read s) (from_last s (b.v ∷ b.rest) subs) (from_last s (without_leading_zeros levels) subs) _ _
        (ap (λ (l : List ℤ). from_last s l subs) (sym b.is))
        (ap (λ (m : ℕ). in_rows s (replicate m zeros ++ levels ∷ subs)) zeros_are)
        (reads_from_last s b.v b.rest levels subs is_side few' (omega arith) b.flag full_is subs_are.1 subs_are.2)
    go false e later =
        let all_zero : levels ≡ zeros = no_levels levels e ∙ ap (λ (k : ℕ). replicate k (pos 0)) subs_are.0 in
        let few' : suc n ≤ 4 ^ (s.log2 - 2) = few in
        let one_less : length (sub_scan s) - n ≡ suc (length (sub_scan s) - suc n) = omega arith in
        let some' : has_levels subs ≡ true = ap (λ (b : Bool). b || has_levels subs) (sym e) ∙ some in
        reads_as (residual_read s) (from_subs s subs) (from_subs s subs) _ _ refl
        (ap (λ (m : ℕ). in_rows s (replicate m zeros ++ subs)) one_less
        ∙ (ap (in_rows s) (one_more_zeros (length (sub_scan s) - suc n) subs)
        ∙ ap (λ (l : List ℤ). in_rows s (replicate (length (sub_scan s) - suc n) zeros ++ l ∷ subs)) (sym all_zero)))
        (later some')
