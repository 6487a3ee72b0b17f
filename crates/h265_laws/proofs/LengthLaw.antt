-- How long codes can get: entry points fit their fields.
use Rattle.std.proofs.Common.{◌≡◌, refl, ◌∙◌, ap, ℕ, zero, suc, ◌+◌, ◌-◌, ◌*◌, ◌/◌, ◌%◌, ◌^◌, ◌<◌, ◌≤◌, min, List, [], ◌∷◌, ◌++◌, Bool, true, false, cond, not, ◌&&◌, ◌||◌, length, get_or, take, map, reverse, length-append, arith}
use Rattle.std.specs.Prelude.{nat_le, nat_lt, ◌==◌, ℤ, nat_abs}
use Rattle.std.specs.List.{AllByRecursion, flat_map, range_with_len, list_all}
use Rattle.std.specs.Bool.{beq}
use Rattle.std.proofs.lemmas.Bool.{and_parts, ltb-true, leb-true, agree_below, agree_below_at}
use Rattle.std.proofs.lemmas.List.{length-map, length-reverse}
use Rattle.h265_model.specs.declared.Place.{Place}
use Rattle.h265_model.specs.declared.Item.{Item}
use Rattle.h265_model.specs.declared.Place.TheVariants.{Context, Bypass, Terminate}
use Rattle.h265_model.specs.declared.Item.TheVariants as items
use Rattle.h265_model.specs.declared.leaf.SliceKind.{SliceKind}
use Rattle.h265_model.specs.declared.leaf.SliceKind.TheVariants.{I, P}
use Rattle.h265_model.specs.declared.leaf.Kind.{Kind}
use Rattle.h265_model.specs.declared.leaf.Kind.TheVariants.{Skip, Pcm, Intra}
use Rattle.h265_model.specs.declared.leaf.Leaf.{Leaf}
use Rattle.h265_model.specs.Plain.{block_at, Size, ctus, context_bin, bypass_bin, terminate_bin, ctu_x, ctu_y, joined}
use Rattle.h265_model.specs.Contexts.{lps_range, mps, step}
use Rattle.h265_model.specs.Engine.{doublings}
use Rattle.h265_model.specs.Code.{Coding, bytes_of, closing, fresh, scaled, put, put_bin, coding, code}
use Rattle.h265_model.specs.Binarise.{tr, fl, eg_within, eg, remaining, bypass_bins, context_bins}
use Rattle.h265_model.specs.Modes.{mode_items, index_items, remainder_of}
use Rattle.h265_model.specs.NalUnits.{escape_after, escape}
use Rattle.h265_model.specs.Residual.{Shape, Sub, Known, IsSide, eight, sixteen, thirty_two, scan, sub_scan, level_at, is_zero, is_negative, cbf, sig_at, is_implied, sig_items, greater1_items, greater1_flags, greater2_items, greater2_context, greater2_of, has_flag, counted, rest_items, rice_after, known_of, value_items, nonzero, set_of, sub_items, sub_at, flag_context, ended_at_zero, last_items, last_context, prefix_of, suffix_bits, suffix_base, swapped, place_at, place_of, from_last, without_leading_zeros, from_subs, residual_items, in_coding_order}
use Rattle.h265_model.specs.Predict.{is_inside}
use Rattle.h265_model.specs.Tree.{leaf_block, leaf_units, Source, IsSource, is_skipped, skip_context, split_context, candidates_at, shape_of, residual_if, content_items, in_P, coding_unit_items, Walk, walk_on, and_walk, quarters, coding_unit_walk, no_walk, is_whole, is_next, tree_walk, ctu_items, ctu_with_flag, is_last, items_of_row, ctus_items}
use Rattle.h265_model.proofs.BitLaws.{length-u}
use Rattle.h265_laws.proofs.FormLaw.{length_tr}
use Rattle.h265_laws.proofs.CoverLaw.{HaveSides, AllHaveSides}

-- ---- bytes of items

abbrev weight : Coding → ℕ
weight c = 8 * length c.done + c.count

few_doublings : (range : ℕ) → doublings range ≤ 9
unfolding doublings
few_doublings range = few 9 _
  where
    few : (a b : ℕ) → a - b ≤ a
    few a b = omega arith

length_bytes : (n v : ℕ) → length (bytes_of n v) ≡ n
length_bytes zero v = refl
length_bytes (suc n) v = ap suc (length_bytes n v)

length_closing : (low count : ℕ) → length (closing low count) ≡ (count + 16) / 8
unfolding closing
length_closing low count = length_bytes _ _

bin_weight : (place : Place) (value : Bool) (c : Coding) → weight (put_bin place value c) ≤ weight c + 16
unfolding put_bin
bin_weight (Context n) value c = go (beq value (mps (get_or c.contexts n 0)))
  where
    after : Coding
    after = record c { contexts = step c.contexts n value }

    small : ℕ
    small = lps_range (get_or c.contexts n 0) (c.range / 64 % 4)

    go : (b : Bool) → weight (cond b (scaled after c.low (c.range - small)) (scaled after (c.low + (c.range - small)) small)) ≤ weight c + 16
    go true = omega (arith, few_doublings (c.range - small))
    go false = omega (arith, few_doublings small)
bin_weight Bypass value c = omega arith
bin_weight Terminate true c =
    let e = length-append c.done (closing (c.low + (c.range - 2)) c.count) in
    let f = length_closing (c.low + (c.range - 2)) c.count in
    omega (arith, e, f)
bin_weight Terminate false c = omega (arith, few_doublings (c.range - 2))

put_weight : (item : Item) (c : Coding) → weight (put item c) ≤ weight c + 16
put_weight (items.Bin b) c = bin_weight b.place b.value c
put_weight (items.Sample x) c = omega (arith, length-append c.done (x ∷ []))

coding_weight : (list : List Item) (c : Coding) → weight (coding list c) ≤ weight c + 16 * length list
coding_weight [] c = omega arith
coding_weight (item ∷ list) c = omega (arith, coding_weight list (put item c), put_weight item c)

pub code_length : (list : List Item) (contexts : List ℕ) → length (code list contexts) ≤ 2 * length list
unfolding code
code_length list contexts = omega (arith, coding_weight list (fresh [] contexts))

pub escape_length : (p q : ℕ) (list : List ℕ) → length (escape_after p q list) ≤ 2 * length list
unfolding escape_after
escape_length p q [] = omega arith
escape_length p q (x ∷ list) = go (p == 0 && q == 0 && nat_le x 3) (escape_length 3 x list) (escape_length q x list)
  where
    go : (b : Bool) → length (escape_after 3 x list) ≤ 2 * length list → length (escape_after q x list) ≤ 2 * length list
        → length (cond b (3 ∷ x ∷ escape_after 3 x list) (x ∷ escape_after q x list)) ≤ 2 * suc (length list)
    go true h k = omega arith
    go false h k = omega arith

-- ---- items of levels

pub length_bypass : (bits : List Bool) → length (bypass_bins bits) ≡ length bits
length_bypass bits = length-map bits bypass_bin

length_contexts : (number : ℕ → ℕ) (i : ℕ) (bits : List Bool) → length (context_bins number i bits) ≡ length bits
length_contexts number i [] = refl
length_contexts number i (b ∷ bits) = ap suc (length_contexts number (suc i) bits)

pub length_eg : (ones k v : ℕ) → length (eg_within ones k v) ≤ 2 * ones + k + 1
length_eg zero k v = omega (arith, length-u k v)
length_eg (suc ones) k v = go (nat_le (2 ^ k) v) (length_eg ones (suc k) (v - 2 ^ k))
  where
    go : (b : Bool) → length (eg_within ones (suc k) (v - 2 ^ k)) ≤ 2 * ones + suc k + 1 → length (cond b (true ∷ eg_within ones (suc k) (v - 2 ^ k)) (false ∷ fl k v)) ≤ 2 * suc ones + k + 1
    go true h = omega arith
    go false h = omega (arith, length-u k v)

length_remaining : (r v : ℕ) → r ≤ 4 → length (remaining r v) ≤ 40
length_remaining r v h = go (nat_lt (v / 2 ^ r) 4)
  where
    go : (b : Bool) → length (tr 4 (v / 2 ^ r) ++ cond b (fl r v) (eg (suc r) (v - 4 * 2 ^ r))) ≤ 40
    go true = omega (arith, length-append (tr 4 (v / 2 ^ r)) (fl r v), length_tr 4 (v / 2 ^ r), length-u r v)
    go false = omega (arith, length-append (tr 4 (v / 2 ^ r)) (eg (suc r) (v - 4 * 2 ^ r)), length_tr 4 (v / 2 ^ r), length_eg 15 (suc r) (v - 4 * 2 ^ r))

rice_small : (r size : ℕ) → r ≤ 4 → rice_after r size ≤ 4
rice_small r size h = go (nat_lt (3 * 2 ^ r) size)
  where
    go : (b : Bool) → cond b (min 4 (r + 1)) r ≤ 4
    go true = omega arith
    go false = h

length_rests : (r : ℕ) (ks : List Known) (sizes : List ℕ) → r ≤ 4 → length (rest_items r ks sizes) ≤ 40 * length sizes
length_rests r [] sizes h = omega arith
length_rests r (k ∷ ks) [] h = omega arith
length_rests r (k ∷ ks) (size ∷ sizes) h = go (length_rests (rice_after r size) ks sizes (rice_small r size h)) (length_rests r ks sizes h) k.has_remaining
  where
    go : length (rest_items (rice_after r size) ks sizes) ≤ 40 * length sizes → length (rest_items r ks sizes) ≤ 40 * length sizes → (b : Bool)
        → length (cond b (bypass_bins (remaining r (size - k.base)) ++ rest_items (rice_after r size) ks sizes) (rest_items r ks sizes)) ≤ 40 * suc (length sizes)
    go a b true =
        omega (arith, length-append (bypass_bins (remaining r (size - k.base))) (rest_items (rice_after r size) ks sizes), length_bypass (remaining r (size - k.base)), length_remaining r (size - k.base) h)
    go a b false = omega arith

length_flags : (n : ℕ) (sizes : List ℕ) → length (greater1_flags n sizes) ≤ n
length_flags zero sizes = omega arith
length_flags (suc n) [] = omega arith
length_flags (suc n) (size ∷ sizes) = omega (arith, length_flags n sizes)

length_greater1 : (component set counter : ℕ) (flags : List Bool) → length (greater1_items component set counter flags) ≡ length flags
length_greater1 component set counter [] = refl
length_greater1 component set counter (flag ∷ flags) = ap suc (length_greater1 component set (counted counter flag) flags)

length_greater2 : (component set : ℕ) (flags : List Bool) (greater2 : Bool) → length (greater2_items component set flags greater2) ≤ 1
length_greater2 component set flags greater2 = go (has_flag flags)
  where
    go : (b : Bool) → length (cond b (context_bin greater2 (greater2_context component set) ∷ []) []) ≤ 1
    go true = omega arith
    go false = omega arith

length_values : (component set : ℕ) (values : List ℤ) → length (value_items component set values) ≤ 9 + 41 * length values
length_values component set values =
    let sizes : List ℕ = map nat_abs values in
    let flags : List Bool = greater1_flags 8 sizes in
    let a : List Item = greater1_items component set 1 flags in
    let b : List Item = greater2_items component set flags (greater2_of 8 sizes) in
    let c : List Item = map (λ v. bypass_bin (is_negative v)) values in
    let d : List Item = rest_items 0 (known_of (length values) flags (greater2_of 8 sizes)) sizes in
    omega (
      arith,
      length-append a (b ++ (c ++ d)),
      length-append b (c ++ d),
      length-append c d,
      length_greater1 component set 1 flags,
      length_flags 8 sizes,
      length_greater2 component set flags (greater2_of 8 sizes),
      length-map values (λ v. bypass_bin (is_negative v)),
      length-map values nat_abs,
      length_rests 0 (known_of (length values) flags (greater2_of 8 sizes)) sizes (omega arith),
    )

length_sig : (s : Shape) (sub : Sub) (inner found : Bool) (levels : List ℤ) → length (sig_items s sub inner found levels) ≤ length levels
length_sig s sub inner found [] = omega arith
length_sig s sub inner found (v ∷ levels) = go (is_implied inner found (length levels)) (length_sig s sub inner (found || not (is_zero v)) levels)
  where
    go : (b : Bool) → length (sig_items s sub inner (found || not (is_zero v)) levels) ≤ length levels
        → length (cond b [] (context_bin (not (is_zero v)) (sig_at s sub (length levels)) ∷ []) ++ sig_items s sub inner (found || not (is_zero v)) levels) ≤ suc (length levels)
    go true h = omega arith
    go false h = omega arith

length_nonzero : (levels : List ℤ) → length (nonzero levels) ≤ length levels
length_nonzero [] = omega arith
length_nonzero (v ∷ levels) = go (not (is_zero v)) (length_nonzero levels)
  where
    go : (b : Bool) → length (nonzero levels) ≤ length levels → length (cond b (v ∷ nonzero levels) (nonzero levels)) ≤ suc (length levels)
    go true h = omega arith
    go false h = omega arith

abbrev AreSixteen : List (List ℤ) → Type 0
AreSixteen subs = AllByRecursion (λ levels. length levels ≡ 16) subs

length_subs : (s : Shape) (flags : List Bool) (ended : Bool) (subs : List (List ℤ)) → AreSixteen subs → length (sub_items s flags ended subs) ≤ 700 * length subs
length_subs s flags ended [] h = omega arith
length_subs s flags ended (levels ∷ subs) h =
    go (not (length subs == 0)) (not (not (length subs == 0)) || cbf levels) (λ b. length_subs s (b ∷ flags) (ended_at_zero ended (nonzero levels)) subs h.1)
  where
    sub : Sub
    sub = sub_at s (length subs) flags

    body : Bool → List Item
    body inner = sig_items s sub inner false levels ++ value_items s.component (set_of s (length subs) ended) (nonzero levels)

    body_short : (inner : Bool) → length (body inner) ≤ 681
    body_short inner =
        let l : length levels ≡ 16 = h.0 in
        omega (
          arith,
          length-append (sig_items s sub inner false levels) (value_items s.component (set_of s (length subs) ended) (nonzero levels)),
          length_sig s sub inner false levels,
          length_values s.component (set_of s (length subs) ended) (nonzero levels),
          length_nonzero levels,
        )

    more : Bool → List Item
    more b = sub_items s (b ∷ flags) (ended_at_zero ended (nonzero levels)) subs

    go : (inner coded : Bool) → ((b : Bool) → length (more b) ≤ 700 * length subs)
        → length (cond inner (context_bin coded (flag_context s sub) ∷ []) [] ++ (cond coded (body inner) [] ++ more coded)) ≤ 700 * suc (length subs)
    go true true later = omega (arith, length-append (body true) (more true), body_short true, later true)
    go true false later = omega (arith, later false)
    go false true later = omega (arith, length-append (body false) (more true), body_short false, later true)
    go false false later = omega (arith, later false)

-- ---- the last place

abbrev is_near : ℕ × ℕ → Bool
is_near p = nat_lt p.0 8 && nat_lt p.1 8

near_at : (places : List (ℕ × ℕ)) (i : ℕ) → list_all is_near places ≡ true → ((place_at places i).0 < 8) × ((place_at places i).1 < 8)
near_at [] i h = (omega arith, omega arith)
near_at (p ∷ places) zero h = let q = and_parts _ _ h in let r = and_parts _ _ q.0 in (ltb-true _ _ r.0, ltb-true _ _ r.1)
near_at (p ∷ places) (suc i) h = let q = and_parts _ _ h in near_at places i q.1

-- a scan of 2, 4 or 8 a side
record IsScan (places : List (ℕ × ℕ)) : Type 0 where
  near : list_all is_near places ≡ true
  few : length places ≤ 64

small_scan : (kind : ℕ) → IsScan (scan kind 2)
unfolding scan
small_scan zero = record { near = refl; few = omega arith }
small_scan (suc zero) = record { near = refl; few = omega arith }
small_scan (suc (suc kind)) = record { near = refl; few = omega arith }

sub_scans : (kind log2 : ℕ) → IsSide log2 → IsScan (scan kind (log2 - 2))
unfolding scan
sub_scans zero _ eight = record { near = refl; few = omega arith }
sub_scans zero _ sixteen = record { near = refl; few = omega arith }
sub_scans zero _ thirty_two = record { near = refl; few = omega arith }
sub_scans (suc zero) _ eight = record { near = refl; few = omega arith }
sub_scans (suc zero) _ sixteen = record { near = refl; few = omega arith }
sub_scans (suc zero) _ thirty_two = record { near = refl; few = omega arith }
sub_scans (suc (suc kind)) _ eight = record { near = refl; few = omega arith }
sub_scans (suc (suc kind)) _ sixteen = record { near = refl; few = omega arith }
sub_scans (suc (suc kind)) _ thirty_two = record { near = refl; few = omega arith }

sixteen_places : (kind : ℕ) → length (scan kind 2) ≡ 16
unfolding scan
sixteen_places zero = refl
sixteen_places (suc zero) = refl
sixteen_places (suc (suc kind)) = refl

suffixes_few : agree_below (λ v. nat_le (suffix_bits (prefix_of v)) 5) (λ v. true) 40 ≡ true
suffixes_few = refl

few_suffix : (v : ℕ) → v < 40 → suffix_bits (prefix_of v) ≤ 5
few_suffix v h = leb-true _ _ (agree_below_at (λ u. nat_le (suffix_bits (prefix_of u)) 5) (λ u. true) 40 v suffixes_few h)

swapped_near : (kind : ℕ) (p : ℕ × ℕ) → p.0 < 40 → p.1 < 40 → ((swapped kind p).0 < 40) × ((swapped kind p).1 < 40)
swapped_near kind p h k = go (kind == 2)
  where
    go : (b : Bool) → ((cond b (p.1, p.0) p).0 < 40) × ((cond b (p.1, p.0) p).1 < 40)
    go true = (k, h)
    go false = (h, k)

length_last : (s : Shape) (n k : ℕ) → IsSide s.log2 → s.log2 ≤ 5 → length (last_items s (place_of s n k)) ≤ 28
length_last s n k side h =
    let a = near_at (sub_scan s) n (sub_scans s.scan s.log2 side).near in
    let b = near_at (scan s.scan 2) k (small_scan s.scan).near in
    let ax : (place_at (sub_scan s) n).0 < 8 = a.0 in
    let ay : (place_at (sub_scan s) n).1 < 8 = a.1 in
    let bx : (place_at (scan s.scan 2) k).0 < 8 = b.0 in
    let by : (place_at (scan s.scan 2) k).1 < 8 = b.1 in
    let place : ℕ × ℕ = place_of s n k in
    let near = swapped_near s.scan place (omega arith) (omega arith) in
    let p : ℕ × ℕ = swapped s.scan place in
    let x : ℕ = prefix_of p.0 in
    let y : ℕ = prefix_of p.1 in
    let i1 : List Item = context_bins (last_context s.component s.log2 false) 0 (tr (2 * s.log2 - 1) x) in
    let i2 : List Item = context_bins (last_context s.component s.log2 true) 0 (tr (2 * s.log2 - 1) y) in
    let i3 : List Item = bypass_bins (fl (suffix_bits x) (p.0 - suffix_base x)) in
    let i4 : List Item = bypass_bins (fl (suffix_bits y) (p.1 - suffix_base y)) in
    let l1 : length i1 ≤ 2 * s.log2 - 1 = bounded _ _ _ (length_contexts (last_context s.component s.log2 false) 0 (tr (2 * s.log2 - 1) x)) (length_tr (2 * s.log2 - 1) x) in
    let l2 : length i2 ≤ 2 * s.log2 - 1 = bounded _ _ _ (length_contexts (last_context s.component s.log2 true) 0 (tr (2 * s.log2 - 1) y)) (length_tr (2 * s.log2 - 1) y) in
    let l3 : length i3 ≤ 5 = bounded _ _ _ (length_bypass (fl (suffix_bits x) (p.0 - suffix_base x)) ∙ length-u (suffix_bits x) (p.0 - suffix_base x)) (few_suffix p.0 near.0) in
    let l4 : length i4 ≤ 5 = bounded _ _ _ (length_bypass (fl (suffix_bits y) (p.1 - suffix_base y)) ∙ length-u (suffix_bits y) (p.1 - suffix_base y)) (few_suffix p.1 near.1) in
    four_parts i1 i2 i3 i4 (2 * s.log2 - 1) l1 l2 l3 l4 (omega arith)
  where
    bounded : (a b c : ℕ) → a ≡ b → b ≤ c → a ≤ c
    bounded a b c e h = omega arith

    four_parts : (a b c d : List Item) (n : ℕ) → length a ≤ n → length b ≤ n → length c ≤ 5 → length d ≤ 5 → n ≤ 9 → length (a ++ (b ++ (c ++ d))) ≤ 28
    four_parts a b c d n ha hb hc hd hn = omega (arith, length-append a (b ++ (c ++ d)), length-append b (c ++ d), length-append c d)

-- ---- blocks

length_after : (levels : List ℤ) → length (without_leading_zeros levels) ≤ length levels
length_after [] = omega arith
length_after (v ∷ levels) = go (is_zero v) (length_after levels)
  where
    go : (b : Bool) → length (without_leading_zeros levels) ≤ length levels → length (cond b (without_leading_zeros levels) (v ∷ levels)) ≤ suc (length levels)
    go true h = omega arith
    go false h = omega arith

length_from_last : (s : Shape) (levels : List ℤ) (subs : List (List ℤ)) → IsSide s.log2 → s.log2 ≤ 5 → length levels ≤ 16 → AreSixteen subs → length (from_last s levels subs) ≤ 728 + 700 * length subs
length_from_last s [] subs side h few are = omega arith
length_from_last s (v ∷ rest) subs side h few are =
    let a : List Item = last_items s (place_of s (length subs) (length rest)) in
    let b : List Item = sig_items s (sub_at s (length subs) []) false true rest in
    let c : List Item = value_items s.component (set_of s (length subs) false) (v ∷ nonzero rest) in
    let d : List Item = sub_items s (true ∷ []) (ended_at_zero false (v ∷ nonzero rest)) subs in
    let la : length a ≤ 28 = length_last s (length subs) (length rest) side h in
    let lb : length b ≤ length rest = length_sig s (sub_at s (length subs) []) false true rest in
    let lc : length c ≤ 9 + 41 * length (v ∷ nonzero rest) = length_values s.component (set_of s (length subs) false) (v ∷ nonzero rest) in
    let ln : length (nonzero rest) ≤ length rest = length_nonzero rest in
    let ld : length d ≤ 700 * length subs = length_subs s (true ∷ []) (ended_at_zero false (v ∷ nonzero rest)) subs are in
    three_parts a b c d (length rest) (length subs) la lb (omega arith) ld (omega arith)
  where
    three_parts : (a b c d : List Item) (m n : ℕ) → length a ≤ 28 → length b ≤ m → length c ≤ 50 + 41 * m → length d ≤ 700 * n → m ≤ 15 → length (a ++ ((b ++ c) ++ d)) ≤ 728 + 700 * n
    three_parts a b c d m n ha hb hc hd hm = omega (arith, length-append a ((b ++ c) ++ d), length-append (b ++ c) d, length-append b c)

length_from_subs : (s : Shape) (subs : List (List ℤ)) → IsSide s.log2 → s.log2 ≤ 5 → AreSixteen subs → length (from_subs s subs) ≤ 28 + 700 * length subs
length_from_subs s [] side h are = omega arith
length_from_subs s (levels ∷ subs) side h are = go (cbf levels) (length_from_subs s subs side h are.1)
  where
    sixteen_levels : length levels ≡ 16
    sixteen_levels = are.0

    go : (b : Bool) → length (from_subs s subs) ≤ 28 + 700 * length subs → length (cond b (from_last s (without_leading_zeros levels) subs) (from_subs s subs)) ≤ 28 + 700 * suc (length subs)
    go true k = omega (arith, length_from_last s (without_leading_zeros levels) subs side h (omega (arith, length_after levels, sixteen_levels)) are.1)
    go false k = omega arith

all_sixteen : (f : ℕ × ℕ → ℕ × ℕ → ℤ) (places : List (ℕ × ℕ)) (subs : List (ℕ × ℕ)) → length places ≡ 16 → AreSixteen (map (λ sub. map (λ place. f sub place) places) subs)
all_sixteen f places [] h = tt
all_sixteen f places (sub ∷ subs) h = (length-map places (λ place. f sub place) ∙ h, all_sixteen f places subs h)

pub length_residual : (s : Shape) (block : List ℤ) → IsSide s.log2 → s.log2 ≤ 5 → length (residual_items s block) ≤ 45000
unfolding residual_items in_coding_order
length_residual s block side h =
    let places : List (ℕ × ℕ) = reverse (scan s.scan 2) in
    let subs : List (List ℤ) = map (λ sub. map (λ place. level_at s block sub place) places) (reverse (sub_scan s)) in
    let are : AreSixteen subs = all_sixteen (level_at s block) places (reverse (sub_scan s)) (length-reverse (scan s.scan 2) ∙ sixteen_places s.scan) in
    let many : length subs ≡ length (sub_scan s) = length-map (reverse (sub_scan s)) (λ sub. map (λ place. level_at s block sub place) places) ∙ length-reverse (sub_scan s) in
    let few : length (sub_scan s) ≤ 64 = (sub_scans s.scan s.log2 side).few in
    omega (arith, length_from_subs s subs side h are)

-- ---- units

length_mode : (mode : ℕ) (l : List ℕ) → length (mode_items mode l) ≤ 6
unfolding mode_items
length_mode mode l = go (mode == get_or l 0 0) (mode == get_or l 1 0) (mode == get_or l 2 0)
  where
    listed : (i : ℕ) → length (index_items i) ≤ 6
    listed i = omega (arith, length_bypass (tr 2 i), length_tr 2 i)

    other : List Item
    other = context_bin false 9 ∷ bypass_bins (fl 5 (remainder_of mode l))

    go : (a b c : Bool) → length (cond a (index_items 0) (cond b (index_items 1) (cond c (index_items 2) other))) ≤ 6
    go true b c = listed 0
    go false true c = listed 1
    go false false true = listed 2
    go false false false = omega (arith, length_bypass (fl 5 (remainder_of mode l)), length-u 5 (remainder_of mode l))

side_at_most : (log2 : ℕ) → IsSide log2 → (log2 ≤ 5) × (2 ^ log2 * 2 ^ log2 ≤ 1024)
side_at_most _ eight = (omega arith, omega arith)
side_at_most _ sixteen = (omega arith, omega arith)
side_at_most _ thirty_two = (omega arith, omega arith)

length_residual_if : (log2 mode component : ℕ) (levels : List ℤ) → IsSide log2 → length (residual_if log2 mode component levels) ≤ 45000
length_residual_if log2 mode component levels side = go (cbf levels)
  where
    go : (b : Bool) → length (cond b (residual_items (shape_of log2 mode component) levels) []) ≤ 45000
    go true = length_residual (shape_of log2 mode component) levels side (side_at_most log2 side).0
    go false = omega arith

length_content : (source : Source) (before : List Leaf) (leaf : Leaf) (k : Kind) → IsSource source → IsSide leaf.block.log2 → length (content_items source before leaf k) ≤ 135100
length_content source before leaf Skip is side = omega arith
length_content source before leaf Pcm is side =
    let a : List ℕ = source.samples leaf 0 in
    let b : List ℕ = source.samples leaf 1 in
    let c : List ℕ = source.samples leaf 2 in
    let m : 2 ^ leaf.block.log2 * 2 ^ leaf.block.log2 ≤ 1024 = (side_at_most leaf.block.log2 side).1 in
    three a b c (2 ^ leaf.block.log2 * 2 ^ leaf.block.log2) (is.samples_long leaf 0) (is.samples_long leaf 1) (is.samples_long leaf 2) m
  where
    three : (a b c : List ℕ) (n : ℕ) → length a ≡ n → length b ≡ n → length c ≡ n → n ≤ 1024 → length (terminate_bin true ∷ map items.Sample ((a ++ b) ++ c)) ≤ 135100
    three a b c n ha hb hc hn = omega (arith, length-map ((a ++ b) ++ c) items.Sample, length-append (a ++ b) c, length-append a b)
length_content source before leaf (Intra mode) is side =
    five (mode_items mode (candidates_at before leaf.block.x leaf.block.y)) (residual_if leaf.block.log2 mode 0 (source.levels leaf 0)) (residual_if leaf.block.log2 mode 1 (source.levels leaf 1)) (residual_if leaf.block.log2 mode 2 (source.levels leaf 2))
    (context_bin false 10) (context_bin (cbf (source.levels leaf 1)) 12) (context_bin (cbf (source.levels leaf 2)) 12) (context_bin (cbf (source.levels leaf 0)) 11)
    (length_mode mode (candidates_at before leaf.block.x leaf.block.y)) (length_residual_if leaf.block.log2 mode 0 (source.levels leaf 0) side) (length_residual_if leaf.block.log2 mode 1 (source.levels leaf 1) side) (length_residual_if leaf.block.log2 mode 2 (source.levels leaf 2) side)
  where
    five : (m a b c : List Item) (w x y z : Item) → length m ≤ 6 → length a ≤ 45000 → length b ≤ 45000 → length c ≤ 45000
        → length (terminate_bin false ∷ (m ++ (w ∷ x ∷ y ∷ z ∷ (a ++ (b ++ c))))) ≤ 135100
    five m a b c w x y z hm ha hb hc = omega (arith, length-append m (w ∷ x ∷ y ∷ z ∷ (a ++ (b ++ c))), length-append a (b ++ c), length-append b c)

pub length_unit : (kind : SliceKind) (source : Source) (before : List Leaf) (leaf : Leaf) → IsSource source → IsSide leaf.block.log2 → length (coding_unit_items kind source before leaf) ≤ 136000
unfolding coding_unit_items
length_unit kind source before leaf is side = go kind (is_skipped leaf.kind) (leaf.block.log2 == 3)
  where
    content : List Item
    content = content_items source before leaf leaf.kind

    h : length content ≤ 135100
    h = length_content source before leaf leaf.kind is side

    front : SliceKind → List Item
    front s = context_bin true 0 ∷ in_P s (context_bin (is_skipped leaf.kind) (skip_context before leaf.block.x leaf.block.y) ∷ [])

    go : (s : SliceKind) (a b : Bool) → length (front s ++ cond a [] (in_P s (context_bin true 7 ∷ []) ++ (cond b (context_bin true 8 ∷ []) [] ++ content))) ≤ 136000
    go I true b = omega arith
    go P true b = omega arith
    go I false true = omega (arith, h)
    go I false false = omega (arith, h)
    go P false true = omega (arith, h)
    go P false false = omega (arith, h)

-- ---- trees and rows

-- how many items a block has at most
most_items : ℕ → ℕ
most_items zero = 136000
most_items (suc depth) = 4 * most_items depth + 136001

record IsShort (n : ℕ) (w : Walk Leaf Leaf) : Type 0 where
  short : length w.list ≤ n
  left : HaveSides w.left

short_on : (list : List Item) (w : Walk Leaf Leaf) (m n : ℕ) → length list ≤ m → IsShort n w → IsShort (m + n) (walk_on list w)
short_on list w m n h k = record { short = let s : length w.list ≤ n = k.short in omega (arith, length-append list w.list); left = k.left }

short_both : (w : Walk Leaf Leaf) (go : List Leaf → List Leaf → Walk Leaf Leaf) (m n : ℕ) → IsShort m w → ((before left : List Leaf) → HaveSides left → IsShort n (go before left)) → IsShort (m + n) (and_walk w go)
short_both w go m n h k = short_on w.list (go w.before w.left) m n h.short (k w.before w.left h.left)

shorter : (w : Walk Leaf Leaf) (m n : ℕ) → m ≤ n → IsShort m w → IsShort n w
shorter w m n h k = record { short = let s : length w.list ≤ m = k.short in omega arith; left = k.left }

unit_short : (kind : SliceKind) (source : Source) (before left : List Leaf) → IsSource source → HaveSides left → IsShort 136000 (coding_unit_walk (leaf_units kind source) before left)
unit_short kind source before [] is h = record { short = omega arith; left = tt }
unit_short kind source before (leaf ∷ leaves) is h = record { short = length_unit kind source before leaf is h.0; left = h.1 }

none_short : (n : ℕ) (before left : List Leaf) → HaveSides left → IsShort n (no_walk before left)
none_short n before left h = record { short = omega arith; left = h }

tree_short : (kind : SliceKind) (size : Size) (source : Source) (depth x y : ℕ) (before left : List Leaf) → IsSource source → HaveSides left → IsShort (most_items depth) (tree_walk (leaf_units kind source) size depth x y before left)
unfolding most_items
tree_short kind size source zero x y before left is h = go (is_inside size x y)
  where
    go : (b : Bool) → IsShort 136000 (cond b (coding_unit_walk (leaf_units kind source) before left) (no_walk before left))
    go true = unit_short kind source before left is h
    go false = none_short 136000 before left h
tree_short kind size source (suc depth) x y before left is h =
    go (not (is_inside size x y)) (not (is_whole size (2 * half) x y)) (is_next leaf_block (4 + depth) left) (λ px py b l k. tree_short kind size source depth px py b l is k)
  where
    half : ℕ
    half = 2 ^ (3 + depth)

    n : ℕ
    n = most_items depth

    Lower : Type 0
    Lower = (px py : ℕ) (b l : List Leaf) → HaveSides l → IsShort n (tree_walk (leaf_units kind source) size depth px py b l)

    split : Walk Leaf Leaf
    split = quarters (tree_walk (leaf_units kind source) size depth) half x y before left

    flag : Bool → List Item
    flag value = context_bin value (split_context before (block_at x y (4 + depth))) ∷ []

    split_short : Lower → IsShort (n + n + n + n) split
    split_short lower =
        short_both _ _ (n + n + n) n (short_both _ _ (n + n) n (short_both _ _ n n (lower x y before left h) (lower (x + half) y)) (lower x (y + half))) (lower (x + half) (y + half))

    go : (a b c : Bool) → Lower → IsShort (4 * n + 136001) (cond a (no_walk before left) (cond b split (cond c (walk_on (flag false) (coding_unit_walk (leaf_units kind source) before left)) (walk_on (flag true) split))))
    go true b c lower = none_short _ before left h
    go false true c lower = shorter split (n + n + n + n) _ (omega arith) (split_short lower)
    go false false true lower = shorter _ (1 + 136000) _ (omega arith) (short_on (flag false) _ 1 136000 (omega arith) (unit_short kind source before left is h))
    go false false false lower = shorter _ (1 + (n + n + n + n)) _ (omega arith) (short_on (flag true) _ 1 (n + n + n + n) (omega arith) (split_short lower))

length_ctu : (kind : SliceKind) (size : Size) (source : Source) (leaves : List (List Leaf)) (ctu : ℕ) → IsSource source → AllHaveSides leaves → length (ctu_with_flag (leaf_units kind source) size (is_last size) leaves ctu) ≤ 2900000
unfolding ctu_items most_items
length_ctu kind size source leaves ctu is sides =
    let list : List Item = ctu_items (leaf_units kind source) size (joined (take ctu leaves)) (get_or leaves ctu []) ctu in
    let short : length list ≤ 2856005 = (tree_short kind size source 2 (ctu_x size ctu) (ctu_y size ctu) (joined (take ctu leaves)) (get_or leaves ctu []) is (sides ctu)).short in
    omega (arith, length-append list (terminate_bin (is_last size ctu) ∷ []))

length_ctus : (kind : SliceKind) (size : Size) (source : Source) (leaves : List (List Leaf)) (base first n : ℕ) → IsSource source → AllHaveSides leaves
    → length (flat_map (λ i. ctu_with_flag (leaf_units kind source) size (is_last size) leaves (base + i)) (range_with_len first n)) ≤ n * 2900000
length_ctus kind size source leaves base first zero is sides = omega arith
length_ctus kind size source leaves base first (suc n) is sides =
    omega (
      arith,
      length-append (ctu_with_flag (leaf_units kind source) size (is_last size) leaves (base + first)) (flat_map (λ i. ctu_with_flag (leaf_units kind source) size (is_last size) leaves (base + i)) (range_with_len (first + 1) n)),
      length_ctu kind size source leaves (base + first) is sides,
      length_ctus kind size source leaves base (first + 1) n is sides,
    )

pub length_row : (kind : SliceKind) (size : Size) (source : Source) (leaves : List (List Leaf)) (row : ℕ) → IsSource source → AllHaveSides leaves → ctus size.w ≤ 128
    → length (items_of_row (leaf_units kind source) size leaves row) ≤ 371200001
unfolding items_of_row
length_row kind size source leaves row is sides few = go (row + 1 == ctus size.h)
  where
    list : List Item
    list = ctus_items (leaf_units kind source) size (is_last size) leaves row (ctus size.w)

    many : length list ≤ ctus size.w * 2900000
    many = length_ctus kind size source leaves (row * ctus size.w) 0 (ctus size.w) is sides

    go : (b : Bool) → length (list ++ cond b [] (terminate_bin true ∷ [])) ≤ 371200001
    go true = omega (arith, length-append list [], many)
    go false = omega (arith, length-append list (terminate_bin true ∷ []), many)

-- what stands in an entry point
pub entry_fits : (kind : SliceKind) (size : Size) (source : Source) (leaves : List (List Leaf)) (row : ℕ) (contexts : List ℕ) → IsSource source → AllHaveSides leaves → ctus size.w ≤ 128
    → length (escape (code (items_of_row (leaf_units kind source) size leaves row) contexts)) < 2 ^ 32
entry_fits kind size source leaves row contexts is sides few =
    omega (arith, escape_length 255 255 (code (items_of_row (leaf_units kind source) size leaves row) contexts), code_length (items_of_row (leaf_units kind source) size leaves row) contexts, length_row kind size source leaves row is sides few)
