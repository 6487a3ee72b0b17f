-- What is written of blocks of levels and of coding units: bins in range, and samples after a terminating bin 1.
use Rattle.std.proofs.Common.{◌≡◌, sym, subst, ℕ, zero, suc, ◌+◌, ◌-◌, ◌*◌, ◌/◌, ◌^◌, ◌<◌, ◌≤◌, min, List, [], ◌∷◌, ◌++◌, Bool, true, false, cond, not, ◌&&◌, ◌||◌, length, map, append_assoc, arith, div-le_self}
use Rattle.std.specs.Prelude.{get_or, nat_lt, ◌==◌, ℤ, nat_abs}
use Rattle.std.specs.List.{AllByRecursion}
use Rattle.h265_model.specs.declared.Place.{Place}
use Rattle.h265_model.specs.declared.Item.{Item}
use Rattle.h265_model.specs.declared.Place.TheVariants.{Context, Bypass, Terminate}
use Rattle.h265_model.specs.declared.Item.TheVariants as items
use Rattle.h265_model.specs.Bits.{digit}
use Rattle.h265_model.specs.Plain.{context_bin, bypass_bin}
use Rattle.h265_model.specs.Code.{Plain, Filled, GoesOn}
use Rattle.h265_model.specs.Binarise.{tr, fl, remaining, bypass_bins, context_bins}
use Rattle.h265_model.specs.Modes.{mode_items, index_items, remainder_of}
use Rattle.h265_model.specs.Residual.{Shape, Sub, Known, is_zero, is_negative, cbf, sig_at, sig_context, sig_within, sig_added, by_distance, is_implied, sig_items, greater1_items, greater1_context, greater1_flags, greater2_items, greater2_context, greater2_of, has_flag, counted, rest_items, rice_after, known_of, value_items, nonzero, set_of, sub_items, sub_at, flag_context, sub_block_context, ended_at_zero, last_items, last_context, prefix_of, suffix_bits, suffix_base, swapped, place_of, from_last, without_leading_zeros, from_subs, residual_items, in_coding_order}
use Rattle.h265_model.proofs.ListParts.{all_append}

-- ---- bins that end nothing

abbrev pub IsFineAt : Place → Bool → Type 0
IsFineAt (Context n) value = n < 130
IsFineAt Bypass value = Unit {0}
IsFineAt Terminate value = value ≡ false

-- a bin in range that isn't a terminating 1
abbrev pub IsFine : Item → Type 0
IsFine (items.Bin b) = IsFineAt b.place b.value
IsFine (items.Sample x) = ⊥

abbrev pub AreFine : List Item → Type 0
AreFine list = AllByRecursion IsFine list

pub fine_append : (a b : List Item) → AreFine a → AreFine b → AreFine (a ++ b)
fine_append a b h k = all_append IsFine a b h k

pub fine_bypass : (bits : List Bool) → AreFine (bypass_bins bits)
fine_bypass [] = tt
fine_bypass (b ∷ bits) = (tt, fine_bypass bits)

fine_contexts : (number : ℕ → ℕ) (i n : ℕ) (bits : List Bool) → i + length bits ≤ n → ((k : ℕ) → k < n → number k < 130) → AreFine (context_bins number i bits)
fine_contexts number i n [] h f = tt
fine_contexts number i n (b ∷ bits) h f = (f i (omega arith), fine_contexts number (suc i) n bits (omega arith) f)

pub length_tr : (limit v : ℕ) → length (tr limit v) ≤ limit
length_tr zero v = omega arith
length_tr (suc limit) zero = omega arith
length_tr (suc limit) (suc v) = let h : length (tr limit v) ≤ limit = length_tr limit v in omega arith

-- ---- the numbers of contexts

over : (i k : ℕ) → i / 2 ^ k ≤ i
over i k = div-le_self i (2 ^ k)

last_small : (component log2 : ℕ) (vertical : Bool) (i : ℕ) → log2 ≤ 5 → i < 9 → last_context component log2 vertical i < 130
unfolding last_context
last_small component log2 vertical i h k = go vertical (component == 0)
  where
    luma : 3 * (log2 - 2) + (log2 - 1) / 4 + i / 2 ^ ((log2 + 1) / 4) ≤ 30
    luma = let a : i / 2 ^ ((log2 + 1) / 4) ≤ i = over i ((log2 + 1) / 4) in omega arith

    chroma : 15 + i / 2 ^ (log2 - 2) ≤ 30
    chroma = let a : i / 2 ^ (log2 - 2) ≤ i = over i (log2 - 2) in omega arith

    go : (v c : Bool) → cond v 31 13 + cond c (3 * (log2 - 2) + (log2 - 1) / 4 + i / 2 ^ ((log2 + 1) / 4)) (15 + i / 2 ^ (log2 - 2)) < 130
    go true true = omega (arith, luma)
    go true false = omega (arith, chroma)
    go false true = omega (arith, luma)
    go false false = omega (arith, chroma)

distance_small : (n : ℕ) → by_distance n ≤ 2
distance_small zero = omega arith
distance_small (suc zero) = omega arith
distance_small (suc (suc n)) = omega arith

within_small : (right below : Bool) (x y : ℕ) → sig_within right below x y ≤ 2
within_small false false x y = go (x + y == 0) (nat_lt (x + y) 3)
  where
    go : (a b : Bool) → cond a 2 (cond b 1 0) ≤ 2
    go true b = omega arith
    go false true = omega arith
    go false false = omega arith
within_small true false x y = distance_small y
within_small false true x y = distance_small x
within_small true true x y = omega arith

added_small : (component log2 scan : ℕ) (first : Bool) → sig_added component log2 scan first ≤ 24
added_small zero log2 scan first = go first (log2 == 3) (scan == 0)
  where
    go : (a b c : Bool) → cond a 0 3 + cond b (cond c 9 15) 21 ≤ 24
    go true true true = omega arith
    go true true false = omega arith
    go true false c = omega arith
    go false true true = omega arith
    go false true false = omega arith
    go false false c = omega arith
added_small (suc n) log2 scan first = go (log2 == 3)
  where
    go : (a : Bool) → cond a 9 12 ≤ 24
    go true = omega arith
    go false = omega arith

sig_small : (component log2 scan sub_x sub_y x y : ℕ) (right below : Bool) → sig_context component log2 scan sub_x sub_y x y right below < 130
unfolding sig_context
sig_small component log2 scan sub_x sub_y x y right below =
    go (component == 0) (sub_x + sub_y + x + y == 0) (within_small right below x y) (added_small component log2 scan (sub_x + sub_y == 0))
  where
    go : {m n : ℕ} (a b : Bool) → m ≤ 2 → n ≤ 24 → cond a 53 80 + cond b 0 (m + n) < 130
    go true true h k = omega arith
    go true false h k = omega arith
    go false true h k = omega arith
    go false false h k = omega arith

greater1_small : (component set counter : ℕ) → set ≤ 3 → greater1_context component set counter < 130
unfolding greater1_context
greater1_small component set counter h = go (component == 0)
  where
    go : (a : Bool) → 95 + 4 * set + min 3 counter + cond a 0 16 < 130
    go true = omega arith
    go false = omega arith

greater2_small : (component set : ℕ) → set ≤ 3 → greater2_context component set < 130
unfolding greater2_context
greater2_small component set h = go (component == 0)
  where
    go : (a : Bool) → 119 + set + cond a 0 4 < 130
    go true = omega arith
    go false = omega arith

sub_block_small : (component : ℕ) (right below : Bool) → sub_block_context component right below < 130
unfolding sub_block_context
sub_block_small component right below = go (component == 0) (digit right + digit below)
  where
    go : (a : Bool) (n : ℕ) → 49 + min 1 n + cond a 0 2 < 130
    go true n = omega arith
    go false n = omega arith

set_small : (s : Shape) (number : ℕ) (ended : Bool) → set_of s number ended ≤ 3
set_small s number ended = go (s.component == 0 && not (number == 0)) ended
  where
    go : (a b : Bool) → cond a 2 0 + digit b ≤ 3
    go true true = omega arith
    go true false = omega arith
    go false true = omega arith
    go false false = omega arith

-- ---- the items of a block

sig_fine : (s : Shape) (sub : Sub) (inner found : Bool) (levels : List ℤ) → AreFine (sig_items s sub inner found levels)
sig_fine s sub inner found [] = tt
sig_fine s sub inner found (v ∷ levels) = go (is_implied inner found (length levels)) (sig_fine s sub inner (found || not (is_zero v)) levels)
  where
    go : (b : Bool) → AreFine (sig_items s sub inner (found || not (is_zero v)) levels)
        → AreFine (cond b [] (context_bin (not (is_zero v)) (sig_at s sub (length levels)) ∷ []) ++ sig_items s sub inner (found || not (is_zero v)) levels)
    go true h = h
    go false h = (sig_small s.component s.log2 s.scan _ _ _ _ sub.right sub.below, h)

greater1_fine : (component set counter : ℕ) (flags : List Bool) → set ≤ 3 → AreFine (greater1_items component set counter flags)
greater1_fine component set counter [] h = tt
greater1_fine component set counter (flag ∷ flags) h = (greater1_small component set counter h, greater1_fine component set (counted counter flag) flags h)

greater2_fine : (component set : ℕ) (flags : List Bool) (greater2 : Bool) → set ≤ 3 → AreFine (greater2_items component set flags greater2)
greater2_fine component set flags greater2 h = go (has_flag flags)
  where
    go : (b : Bool) → AreFine (cond b (context_bin greater2 (greater2_context component set) ∷ []) [])
    go true = (greater2_small component set h, tt)
    go false = tt

signs_fine : (values : List ℤ) → AreFine (map (λ v. bypass_bin (is_negative v)) values)
signs_fine [] = tt
signs_fine (v ∷ values) = (tt, signs_fine values)

rests_fine : (r : ℕ) (ks : List Known) (sizes : List ℕ) → AreFine (rest_items r ks sizes)
rests_fine r [] sizes = tt
rests_fine r (k ∷ ks) [] = tt
rests_fine r (k ∷ ks) (size ∷ sizes) = go (rests_fine (rice_after r size) ks sizes) (rests_fine r ks sizes) k.has_remaining
  where
    go : AreFine (rest_items (rice_after r size) ks sizes) → AreFine (rest_items r ks sizes) → (b : Bool)
        → AreFine (cond b (bypass_bins (remaining r (size - k.base)) ++ rest_items (rice_after r size) ks sizes) (rest_items r ks sizes))
    go a b true = fine_append (bypass_bins (remaining r (size - k.base))) _ (fine_bypass (remaining r (size - k.base))) a
    go a b false = b

value_fine : (component set : ℕ) (values : List ℤ) → set ≤ 3 → AreFine (value_items component set values)
value_fine component set values h =
    let sizes : List ℕ = map nat_abs values in
    fine_append (greater1_items component set 1 (greater1_flags 8 sizes)) _ (greater1_fine component set 1 (greater1_flags 8 sizes) h)
    (fine_append (greater2_items component set (greater1_flags 8 sizes) (greater2_of 8 sizes)) _ (greater2_fine component set (greater1_flags 8 sizes) (greater2_of 8 sizes) h)
    (fine_append (map (λ v. bypass_bin (is_negative v)) values) _ (signs_fine values) (rests_fine 0 (known_of (length values) (greater1_flags 8 sizes) (greater2_of 8 sizes)) sizes)))

sub_fine : (s : Shape) (flags : List Bool) (ended : Bool) (subs : List (List ℤ)) → AreFine (sub_items s flags ended subs)
sub_fine s flags ended [] = tt
sub_fine s flags ended (levels ∷ subs) =
    go (not (length subs == 0)) (not (not (length subs == 0)) || cbf levels) (λ b. sub_fine s (b ∷ flags) (ended_at_zero ended (nonzero levels)) subs)
  where
    sub : Sub
    sub = sub_at s (length subs) flags

    body : Bool → List Item
    body inner = sig_items s sub inner false levels ++ value_items s.component (set_of s (length subs) ended) (nonzero levels)

    body_fine : (inner : Bool) → AreFine (body inner)
    body_fine inner = fine_append (sig_items s sub inner false levels) _ (sig_fine s sub inner false levels) (value_fine s.component (set_of s (length subs) ended) (nonzero levels) (set_small s (length subs) ended))

    go : (inner coded : Bool) → ((b : Bool) → AreFine (sub_items s (b ∷ flags) (ended_at_zero ended (nonzero levels)) subs))
        → AreFine (cond inner (context_bin coded (flag_context s sub) ∷ []) [] ++ (cond coded (body inner) [] ++ sub_items s (coded ∷ flags) (ended_at_zero ended (nonzero levels)) subs))
    go true true later = (sub_block_small s.component sub.right sub.below, fine_append (body true) _ (body_fine true) (later true))
    go true false later = (sub_block_small s.component sub.right sub.below, later false)
    go false true later = fine_append (body false) _ (body_fine false) (later true)
    go false false later = later false

prefix_fine : (component log2 v : ℕ) (vertical : Bool) → log2 ≤ 5 → AreFine (context_bins (last_context component log2 vertical) 0 (tr (2 * log2 - 1) v))
prefix_fine component log2 v vertical h =
    fine_contexts (last_context component log2 vertical) 0 9 (tr (2 * log2 - 1) v) (let k : length (tr (2 * log2 - 1) v) ≤ 2 * log2 - 1 = length_tr (2 * log2 - 1) v in omega arith)
    (λ i k. last_small component log2 vertical i h k)

last_fine : (s : Shape) (place : ℕ × ℕ) → s.log2 ≤ 5 → AreFine (last_items s place)
last_fine s place h =
    let p : ℕ × ℕ = swapped s.scan place in
    let x : ℕ = prefix_of p.0 in
    let y : ℕ = prefix_of p.1 in
    fine_append (context_bins (last_context s.component s.log2 false) 0 (tr (2 * s.log2 - 1) x)) _ (prefix_fine s.component s.log2 x false h)
    (fine_append (context_bins (last_context s.component s.log2 true) 0 (tr (2 * s.log2 - 1) y)) _ (prefix_fine s.component s.log2 y true h)
    (fine_append (bypass_bins (fl (suffix_bits x) (p.0 - suffix_base x))) _ (fine_bypass (fl (suffix_bits x) (p.0 - suffix_base x))) (fine_bypass (fl (suffix_bits y) (p.1 - suffix_base y)))))

from_fine : (s : Shape) (subs : List (List ℤ)) → s.log2 ≤ 5 → AreFine (from_subs s subs)
from_fine s [] h = tt
from_fine s (levels ∷ subs) h = go (cbf levels) (from_fine s subs h)
  where
    last_level : (ls : List ℤ) → AreFine (from_last s ls subs)
    last_level [] = tt
    last_level (v ∷ rest) =
        fine_append (last_items s (place_of s (length subs) (length rest))) _ (last_fine s (place_of s (length subs) (length rest)) h)
        (fine_append (sig_items s (sub_at s (length subs) []) false true rest ++ value_items s.component (set_of s (length subs) false) (v ∷ nonzero rest)) _
        (fine_append (sig_items s (sub_at s (length subs) []) false true rest) _ (sig_fine s (sub_at s (length subs) []) false true rest)
        (value_fine s.component (set_of s (length subs) false) (v ∷ nonzero rest) (set_small s (length subs) false)))
        (sub_fine s (true ∷ []) (ended_at_zero false (v ∷ nonzero rest)) subs))

    go : (b : Bool) → AreFine (from_subs s subs) → AreFine (cond b (from_last s (without_leading_zeros levels) subs) (from_subs s subs))
    go true k = last_level (without_leading_zeros levels)
    go false k = k

pub residual_fine : (s : Shape) (block : List ℤ) → s.log2 ≤ 5 → AreFine (residual_items s block)
unfolding residual_items
residual_fine s block h = from_fine s (in_coding_order s block) h

-- ---- modes

pub mode_fine : (mode : ℕ) (l : List ℕ) → AreFine (mode_items mode l)
unfolding mode_items
mode_fine mode l = go (mode == get_or l 0 0) (mode == get_or l 1 0) (mode == get_or l 2 0)
  where
    nine : 9 < 130
    nine = omega arith

    other : List Item
    other = context_bin false 9 ∷ bypass_bins (fl 5 (remainder_of mode l))

    go : (a b c : Bool) → AreFine (cond a (index_items 0) (cond b (index_items 1) (cond c (index_items 2) other)))
    go true b c = (nine, fine_bypass (tr 2 0))
    go false true c = (nine, fine_bypass (tr 2 1))
    go false false true = (nine, fine_bypass (tr 2 2))
    go false false false = (nine, fine_bypass (fl 5 (remainder_of mode l)))

-- ---- lists that go on

-- a list after which a well formed list goes on
pub record Continues (list : List Item) : Type 0 where
  pub plain : (rest : List Item) → GoesOn Plain rest → GoesOn Filled rest → GoesOn Plain (list ++ rest)
  pub filled : (rest : List Item) → GoesOn Plain rest → GoesOn Filled rest → GoesOn Filled (list ++ rest)

pub continues_none : Continues []
continues_none = record { plain = λ rest p f. p; filled = λ rest p f. f }

pub continues_append : (a b : List Item) → Continues a → Continues b → Continues (a ++ b)
continues_append a b h k = record {
  plain = λ rest p f. subst (λ (l : List Item). GoesOn Plain l) (sym (append_assoc a b rest)) (h.plain (b ++ rest) (k.plain rest p f) (k.filled rest p f));
  filled = λ rest p f. subst (λ (l : List Item). GoesOn Filled l) (sym (append_assoc a b rest)) (h.filled (b ++ rest) (k.plain rest p f) (k.filled rest p f));
}

bin_plain : (place : Place) (value : Bool) (rest : List Item) → IsFineAt place value → GoesOn Plain rest → GoesOn Plain (items.Bin (record { value = value; place = place }) ∷ rest)
bin_plain (Context n) value rest h k = (h, k)
bin_plain Bypass value rest h k = (tt, k)
bin_plain Terminate true rest h k = absurd (cc)
bin_plain Terminate false rest h k = (tt, k)

bin_filled : (place : Place) (value : Bool) (rest : List Item) → IsFineAt place value → GoesOn Plain rest → GoesOn Filled (items.Bin (record { value = value; place = place }) ∷ rest)
bin_filled (Context n) value rest h k = (h, k)
bin_filled Bypass value rest h k = (tt, k)
bin_filled Terminate true rest h k = absurd (cc)
bin_filled Terminate false rest h k = (tt, k)

pub continues_fine : (list : List Item) → AreFine list → Continues list
continues_fine [] h = continues_none
continues_fine (items.Bin b ∷ list) h =
    let c : Continues list = continues_fine list h.1 in
    record { plain = λ rest p f. bin_plain b.place b.value (list ++ rest) h.0 (c.plain rest p f); filled = λ rest p f. bin_filled b.place b.value (list ++ rest) h.0 (c.plain rest p f) }
continues_fine (items.Sample x ∷ list) h = elim h.0 [ ]
