-- The stream of a list of pictures is decoded to them.
use Rattle.std.proofs.Common.{◌≡◌, refl, sym, ◌∙◌, ap, subst, ℕ, zero, suc, ◌+◌, ◌-◌, ◌*◌, ◌/◌, ◌%◌, ◌^◌, ◌<◌, ◌≤◌, ◌≢◌, List, [], ◌∷◌, ◌++◌, Bool, true, false, cond, ⊎_elim, length, take, drop, map, append_assoc, arith, le_refl, mod-lt, take_all}
use Rattle.std.proofs.Math.Nat.{zero-mod}
use Rattle.std.specs.Prelude.{Option, Some, None, Ok, Result, ◌&&◌, ◌==◌, nat_lt, nat_le}
use Rattle.std.specs.List.{AllByRecursion, flat_map, range_with_len}
use Rattle.std.proofs.lemmas.Bool.{and_parts, or_cases, or_parts, eqb-true, eqb-false, ltb-true, cond-true, cond-false, cases_lt, eq-eqb, ne_eqb, lt-ltb, and_cases}
use Rattle.std.proofs.lemmas.Nat.{div-add-mod', mod-mul-add}
use Rattle.std.proofs.lemmas.List.{length-map}
use Rattle.std.proofs.lemmas.List.FromFn.{length-map-range_with_len}
use Rattle.h265_model.specs.declared.leaf.SliceKind.{SliceKind}
use Rattle.h265_model.specs.declared.leaf.SliceKind.TheVariants.{P}
use Rattle.h265_model.specs.declared.leaf.Leaf.{Leaf}
use Rattle.h265_model.specs.Plain.{block_at, Size, Picture, ctus, below, joined}
use Rattle.h265_model.specs.Bits.{bytes, ◌>>=◌}
use Rattle.h265_model.specs.Settings.{Settings}
use Rattle.h265_model.specs.Raster.{Raster, coded_picture, planes, stored_picture}
use Rattle.h265_model.specs.NalUnits.{NalUnit, escape, escape_after, start_code, nal_unit_bytes, units}
use Rattle.h265_model.specs.Fields.{fields_bits}
use Rattle.h265_model.specs.SliceHead.{Head, head_bits, head_fields, read_head}
use Rattle.h265_model.specs.Choice.{choice}
use Rattle.h265_model.specs.Tree.{leaf_units, Source, source_of, AreLawfulTrees, IsCopy}
use Rattle.h265_laws.proofs.LeafReading.{ReadCtu}
use Rattle.h265_laws.proofs.LeafDecoding.{rebuild}
use Rattle.h265_model.specs.Slice.{row_code, IsSlice}
use Rattle.h265_laws.proofs.LeafDecoding.{read_data}
use Rattle.h265_model.specs.Stream.{is_idr, order_count, slice_kind, nal_header, but_last, reference, all_leaves, row_codes, slice_piece}
use Rattle.h265_model.specs.Decode.{Decoded, ok_of, units_or_number}
use Rattle.h265_laws.proofs.LeafDecoding.{reference_of, read_slice, follows, read_picture}
use Rattle.h265_model.specs.Raster.{IsRaster}
use Rattle.h265_model.specs.SliceHead.{IsHead}
use Rattle.h265_model.specs.NalUnits.{IsNalUnit}
use Rattle.h265_laws.specs.Laws.{EachHeadIsRead}
use Rattle.h265_laws.proofs.Coverage.{CoversBlock}
use Rattle.h265_laws.proofs.PredictionLaw.{source_is}
use Rattle.h265_laws.proofs.ChoiceLaw.{copies_are, no_copies, lawful_alone, lawful_after}
use Rattle.h265_laws.proofs.RowForm.{row_form}
use Rattle.h265_laws.proofs.SliceLaw.{rows_values, all_read, slice_leaves, data_is_read}
use Rattle.h265_laws.proofs.EndsLaw.{Ends, code_ends, ends_some, ends_append, ends_well, escape_append, escape_rows, rows_end, aligned_bits_end}
use Rattle.h265_laws.proofs.LengthLaw.{entry_fits}
use Rattle.h265_laws.proofs.PictureLaw.{IsFit, picture_is, fair_joined, copies_stored, each_picture_is_rebuilt}
use Rattle.h265_model.proofs.ListParts.{drop_front}
use Rattle.h265_laws.proofs.CoverLaw.{joined_cover, sides_of}

-- ---- a picture's parts

abbrev pub picture_of : Settings → Raster → Picture
picture_of settings raster = coded_picture settings.size raster

abbrev pub leaves_of : Settings → Bool → Option Raster → Raster → List (List Leaf)
leaves_of settings idr before raster = all_leaves settings (reference idr settings.size before) (picture_of settings raster)

abbrev pub source_in : Settings → Raster → Source
source_in settings raster = source_of settings.size (picture_of settings raster)

abbrev rows_of : Settings → Bool → Option Raster → Raster → List (List ℕ)
rows_of settings idr before raster = map (row_code (slice_kind idr) (leaf_units (slice_kind idr) (source_in settings raster)) settings.size (leaves_of settings idr before raster)) (below (ctus settings.size.h))

abbrev head_of : Settings → Bool → ℕ → Option Raster → Raster → Head
head_of settings idr poc before raster = record { idr = idr; poc = poc; offsets = map length (but_last (map escape (rows_of settings idr before raster))) }

abbrev unit_with : Settings → Bool → ℕ → Option Raster → Raster → NalUnit
unit_with settings idr poc before raster = record {
  header = nal_header idr;
  rbsp = bytes (head_bits (head_of settings idr poc before raster)) ++ flat_map (λ r. r) (rows_of settings idr before raster);
}

pub lawful_of : (settings : Settings) (idr : Bool) (before : Option Raster) (raster : Raster) → AreLawfulTrees (slice_kind idr) settings.size (leaves_of settings idr before raster) (ctus settings.size.w * ctus settings.size.h)
lawful_of settings true before raster = lawful_alone (picture_of settings raster) settings.size settings.effort (ctus settings.size.w * ctus settings.size.h)
lawful_of settings false before raster = lawful_after (reference false settings.size before) (picture_of settings raster) settings.size settings.effort (ctus settings.size.w * ctus settings.size.h)

pub many_of : (settings : Settings) (idr : Bool) (before : Option Raster) (raster : Raster) → length (leaves_of settings idr before raster) ≡ ctus settings.size.w * ctus settings.size.h
many_of settings idr before raster = length-map-range_with_len (choice (reference idr settings.size before) (picture_of settings raster) settings.size settings.effort) 0 (ctus settings.size.w * ctus settings.size.h)

pub slice_of : (settings : Settings) (idr : Bool) (before : Option Raster) (raster : Raster) → IsFit settings.size → IsRaster settings.size raster
    → IsSlice (slice_kind idr) settings.size (source_in settings raster) (leaves_of settings idr before raster)
slice_of settings idr before raster fit is = record {
  wide = fit.wide;
  many = many_of settings idr before raster;
  lawful = lawful_of settings idr before raster;
  source_is = source_is settings.size (picture_of settings raster) (picture_is settings.size raster is);
}

-- ---- rows end in a byte other than 0

pub some_escaped : (list : List ℕ) → 0 < length list → 0 < length (escape list)
unfolding escape_after
some_escaped [] some = some
some_escaped (x ∷ list) some = go (255 == 0 && 255 == 0 && nat_le x 3)
  where
    go : (b : Bool) → 0 < length (cond b (3 ∷ x ∷ escape_after 3 x list) (x ∷ escape_after 255 x list))
    go true = omega arith
    go false = omega arith

module _ (kind : SliceKind) (size : Size) (source : Source) (leaves : List (List Leaf)) (is : IsSlice kind size source leaves) where
  row_ends : (row : ℕ) → row < ctus size.h → Ends (row_code kind (leaf_units kind source) size leaves row)
  row_ends row less = code_ends _ _ (row_form kind size source leaves row is.source_is (sides_of kind size source leaves is) is.wide less)

  rows_ends : (a n : ℕ) → a + n ≤ ctus size.h → AllByRecursion Ends (map (row_code kind (leaf_units kind source) size leaves) (range_with_len a n))
  rows_ends a zero h = tt
  rows_ends a (suc n) h = (row_ends a (omega arith), rows_ends (a + 1) n (omega arith))

  offsets_are : (a n k : ℕ) → ctus size.w ≤ 128 → a + n ≤ ctus size.h
      → AllByRecursion (λ o. (0 < o) × (o < 2 ^ 32)) (map length (take k (map escape (map (row_code kind (leaf_units kind source) size leaves) (range_with_len a n)))))
  offsets_are a n zero few h = tt
  offsets_are a zero (suc k) few h = tt
  offsets_are a (suc n) (suc k) few h =
      ((some_escaped _ (ends_some _ (row_ends a (omega arith))), entry_fits kind size source leaves a _ is.source_is (sides_of kind size source leaves is) few), offsets_are (a + 1) n k few (omega arith))

rows_are : (settings : Settings) (idr : Bool) (before : Option Raster) (raster : Raster) → IsFit settings.size → IsRaster settings.size raster → AllByRecursion Ends (rows_of settings idr before raster)
rows_are settings idr before raster fit is = rows_ends (slice_kind idr) settings.size (source_in settings raster) (leaves_of settings idr before raster) (slice_of settings idr before raster fit is) 0 (ctus settings.size.h) (omega arith)

pub length_but_last : {A : Type 0} (list : List A) (n : ℕ) → length list ≡ suc n → length (but_last list) + 1 ≡ length list
length_but_last list n h = go list (length list - 1) (omega arith)
  where
    go : {A : Type 0} (l : List A) (k : ℕ) → length l ≡ suc k → length (take k l) + 1 ≡ length l
    go [] k e = absurd (omega arith)
    go (x ∷ l) zero e = omega arith
    go (x ∷ l) (suc k) e = let r : length (take k l) + 1 ≡ length l = go l k (omega arith) in omega arith

rows_number : (settings : Settings) (idr : Bool) (before : Option Raster) (raster : Raster) → 0 < ctus settings.size.h
    → length (map length (but_last (map escape (rows_of settings idr before raster)))) + 1 ≡ ctus settings.size.h
rows_number settings idr before raster some =
    let rows : List (List ℕ) = rows_of settings idr before raster in
    let many : length (map escape rows) ≡ ctus settings.size.h =
    length-map rows escape ∙ length-map-range_with_len (row_code (slice_kind idr) (leaf_units (slice_kind idr) (source_in settings raster)) settings.size (leaves_of settings idr before raster)) 0 (ctus settings.size.h) in
    let one : length (map escape rows) ≡ suc (ctus settings.size.h - 1) = omega arith in
    ap (λ (n : ℕ). n + 1) (length-map (but_last (map escape rows)) length) ∙ (length_but_last (map escape rows) (ctus settings.size.h - 1) one ∙ many)

head_is : (settings : Settings) (idr : Bool) (poc : ℕ) (before : Option Raster) (raster : Raster) → IsFit settings.size → IsRaster settings.size raster → poc < 256 → (idr ≡ true → poc ≡ 0) → IsHead (head_of settings idr poc before raster)
head_is settings idr poc before raster fit is small zero_at = record {
  poc = small;
  idr = zero_at;
  offsets = offsets_are (slice_kind idr) settings.size (source_in settings raster) (leaves_of settings idr before raster) (slice_of settings idr before raster fit is) 0 (ctus settings.size.h) _ fit.narrow (omega arith);
  fewer = (let n : length (map length (but_last (map escape (rows_of settings idr before raster)))) + 1 ≡ ctus settings.size.h = rows_number settings idr before raster fit.high in let l : ctus settings.size.h ≤ 128 = fit.low in omega arith);
}

-- ---- a slice is read

pub slice_is_read : EachHeadIsRead → (settings : Settings) (idr : Bool) (poc : ℕ) (before : Option Raster) (raster : Raster) (previous : Option Decoded)
    → IsFit settings.size → IsRaster settings.size raster → poc < 256 → (idr ≡ true → poc ≡ 0)
    → AllByRecursion (IsCopy (reference_of settings.size previous) (picture_of settings raster)) (joined (leaves_of settings idr before raster))
    → read_slice settings.size idr previous (unit_with settings idr poc before raster).rbsp ≡ Some (record { poc = poc; planes = planes settings.size (picture_of settings raster) })
slice_is_read heads settings idr poc before raster previous fit is small zero_at copies =
    let size : Size = settings.size in
    let head : Head = head_of settings idr poc before raster in
    let front : List ℕ = bytes (head_bits head) in
    let rows : List (List ℕ) = rows_of settings idr before raster in
    let data' : List ℕ = flat_map (λ r. r) rows in
    let kind : SliceKind = slice_kind idr in
    let source : Source = source_in settings raster in
    let leaves : List (List Leaf) = leaves_of settings idr before raster in
    let slice : IsSlice kind size source leaves = slice_of settings idr before raster fit is in
    let values : List ReadCtu = rows_values kind size source leaves 0 (ctus size.h) in
    let read : read_head (front ++ data') idr (ctus size.h) ≡ Ok (head, length front) =
    ap (λ (n : ℕ). read_head (front ++ data') idr n) (sym (rows_number settings idr before raster fit.high)) ∙ heads head data' (head_is settings idr poc before raster fit is small zero_at) in
    let made : List ReadCtu → Decoded = λ cs. record { poc = poc; planes = rebuild size (reference_of size previous) (all_read cs) } in
    let back : rebuild size (reference_of size previous) (all_read values) ≡ planes size (picture_of settings raster) =
    ap (rebuild size (reference_of size previous)) (slice_leaves kind size source leaves slice.many)
    ∙ each_picture_is_rebuilt kind size (reference_of size previous) (picture_of settings raster) leaves slice (picture_is size raster is) copies in
    ap (λ (r : Result (Head × ℕ) ℕ). ok_of r >>= λ found. (read_data kind size found.0.offsets (drop found.1 (front ++ data')) >>= λ cs.
    Some (record { poc = found.0.poc; planes = rebuild size (reference_of size previous) (all_read cs) }))) read
    ∙ (ap (λ (l : List ℕ). read_data kind size head.offsets l >>= λ cs. Some (made cs)) (drop_front front data')
    ∙ (ap (λ (o : Option (List ReadCtu)). o >>= λ cs. Some (made cs)) (data_is_read kind size source leaves slice fit.high)
    ∙ ap (λ (ps : List (List ℕ)). Some (record { poc = poc; planes = ps })) back))

-- ---- picture order counts

order_mod : (k n : ℕ) → order_count (suc k) n ≡ n % suc k
order_mod k n = cond-false (suc k == 0) n (n % suc k) (ne_eqb (suc k) 0 (λ e. omega arith))

pub zero_order : (key n : ℕ) → is_idr key n ≡ true → order_count key n ≡ 0
zero_order key n h = ⊎_elim (λ first. at_zero key n (eqb-true n 0 first)) (λ divides. let p = and_parts _ _ divides in at_key key n (ltb-true 0 key p.0) (eqb-true (n % key) 0 p.1)) (or_cases (n == 0) (nat_lt 0 key && n % key == 0) h)
  where
    at_zero : (key n : ℕ) → n ≡ 0 → order_count key n ≡ 0
    at_zero zero n e = e
    at_zero (suc k) n e = order_mod k n ∙ (ap (λ (m : ℕ). m % suc k) e ∙ zero-mod (suc k))

    at_key : (key n : ℕ) → 0 < key → n % key ≡ 0 → order_count key n ≡ 0
    at_key zero n h e = absurd (omega arith)
    at_key (suc k) n h e = order_mod k n ∙ e

mod_step : (key n : ℕ) → 0 < key → (n + 1) % key ≢ 0 → (n + 1) % key ≡ n % key + 1
mod_step key n some not_zero =
    let q : ℕ = n / key in
    let r : ℕ = n % key in
    let split : q * key + r ≡ n = div-add-mod' n key in
    let small : r < key = mod-lt n some in
    ⊎_elim
    (λ less. ap (λ (m : ℕ). m % key) (let e : n + 1 ≡ q * key + (r + 1) = omega arith in e) ∙ mod-mul-add q key (r + 1) less)
    (λ full. absurd (not_zero (ap (λ (m : ℕ). m % key) (let e : n + 1 ≡ (q + 1) * key + 0 = omega arith in e) ∙ mod-mul-add (q + 1) key 0 some)))
    (cases_lt (r + 1) key)

pub next_order : (key n : ℕ) → is_idr key (n + 1) ≡ false → order_count key (n + 1) ≡ order_count key n + 1
next_order zero n h = refl
next_order (suc k) n h =
    let p = or_parts (n + 1 == 0) (nat_lt 0 (suc k) && (n + 1) % suc k == 0) h in
    order_mod k (n + 1)
    ∙ (mod_step (suc k) n (omega arith)
    (⊎_elim (λ none. absurd (let some : nat_lt 0 (suc k) ≡ true = lt-ltb 0 (suc k) (omega arith) in cc)) (λ differs. eqb-false ((n + 1) % suc k) 0 differs)
    (and_cases (nat_lt 0 (suc k)) ((n + 1) % suc k == 0) p.1))
    ∙ sym (ap (λ (m : ℕ). m + 1) (order_mod k n)))

pub low_order : (a : ℕ) → (a + 1) % 256 ≡ (a % 256 + 1) % 256
low_order a = omega arith

-- ---- pictures

abbrev pub picture_unit : Settings → ℕ → Option Raster → Raster → NalUnit
picture_unit settings n before raster = unit_with settings (is_idr settings.key n) (order_count settings.key n % 256) before raster

-- what was decoded before picture n
abbrev pub IsFollowing : Settings → ℕ → Option Raster → Option Decoded → Type 0
IsFollowing settings n None None = n ≡ 0
IsFollowing settings n None (Some d) = ⊥
IsFollowing settings n (Some raster) None = ⊥
IsFollowing settings n (Some raster) (Some d) = (m : ℕ) × (n ≡ m + 1) × (d.poc ≡ order_count settings.key m % 256) × (d.planes ≡ planes settings.size (picture_of settings raster))

abbrev pub decoded_as : Settings → ℕ → Raster → Decoded
decoded_as settings poc raster = record { poc = poc; planes = planes settings.size (picture_of settings raster) }

-- an IDR picture
idr_is_read : EachHeadIsRead → (settings : Settings) (poc : ℕ) (before : Option Raster) (raster : Raster) (previous : Option Decoded) → IsFit settings.size → IsRaster settings.size raster → poc ≡ 0
    → read_picture settings.size previous (unit_with settings true poc before raster) ≡ Some (decoded_as settings poc raster)
idr_is_read heads settings poc before raster previous fit is zero_at =
    slice_is_read heads settings true poc before raster None fit is (omega arith) (λ e. zero_at)
    (no_copies (reference_of settings.size None) (picture_of settings raster) _ (fair_joined None (picture_of settings raster) settings.size settings.effort 0 (ctus settings.size.w * ctus settings.size.h)))

-- a picture that refers to the one before
trail_is_read : EachHeadIsRead → (settings : Settings) (poc : ℕ) (raster now : Raster) (d : Decoded) → IsFit settings.size → IsRaster settings.size now → poc < 256
    → d.planes ≡ planes settings.size (picture_of settings raster) → poc ≡ (d.poc + 1) % 256
    → read_picture settings.size (Some d) (unit_with settings false poc (Some raster) now) ≡ Some (decoded_as settings poc now)
trail_is_read heads settings poc raster now d fit is small same follow =
    let size : Size = settings.size in
    let prev : Picture = picture_of settings raster in
    let leaves : List (List Leaf) = leaves_of settings false (Some raster) now in
    let total : ℕ = ctus size.w * ctus size.h in
    let all : take total leaves ≡ leaves = take_all total leaves (let m : length leaves ≡ total = many_of settings false (Some raster) now in omega arith) in
    let block : CoversBlock size [] (joined leaves) 0 (total * 1024) =
    subst (λ (l : List (List Leaf)). CoversBlock size [] (joined l) 0 (total * 1024)) all (joined_cover P size leaves total total fit.wide (lawful_of settings false (Some raster) now) (le_refl total)) in
    let copies : AllByRecursion (IsCopy prev (picture_of settings now)) (joined leaves) =
    copies_are prev (picture_of settings now) (joined leaves) (fair_joined (Some prev) (picture_of settings now) size settings.effort 0 total) in
    let stored : AllByRecursion (IsCopy (stored_picture size d.planes) (picture_of settings now)) (joined leaves) =
    subst (λ (ps : List (List ℕ)). AllByRecursion (IsCopy (stored_picture size ps) (picture_of settings now)) (joined leaves)) (sym same) (copies_stored size prev (picture_of settings now) [] (joined leaves) block.placed copies) in
    ap (λ (o : Option Decoded). o >>= λ found. follows d found)
    (slice_is_read heads settings false poc (Some raster) now (Some d) fit is small (λ e. absurd (cc)) stored)
    ∙ cond-true (poc == (d.poc + 1) % 256) _ _ (eq-eqb poc ((d.poc + 1) % 256) follow)

pub picture_is_read : EachHeadIsRead → (settings : Settings) (n : ℕ) (before : Option Raster) (raster : Raster) (previous : Option Decoded) → IsFit settings.size → IsRaster settings.size raster → IsFollowing settings n before previous
    → read_picture settings.size previous (picture_unit settings n before raster) ≡ Some (decoded_as settings (order_count settings.key n % 256) raster)
picture_is_read heads settings n before raster previous fit is behind = go (is_idr settings.key n) refl before previous behind
  where
    poc : ℕ
    poc = order_count settings.key n % 256

    small : poc < 256
    small = mod-lt (order_count settings.key n) (omega arith)

    go : (idr : Bool) → is_idr settings.key n ≡ idr → (b : Option Raster) (p : Option Decoded) → IsFollowing settings n b p
        → read_picture settings.size p (unit_with settings idr poc b raster) ≡ Some (decoded_as settings poc raster)
    go true e b p h = idr_is_read heads settings poc b raster p fit is (ap (λ (a : ℕ). a % 256) (zero_order settings.key n e))
    go false e None None h = absurd (let f : is_idr settings.key 0 ≡ false = subst (λ (k : ℕ). is_idr settings.key k ≡ false) h e in cc)
    go false e None (Some d) h = elim h [ ]
    go false e (Some r) None h = elim h [ ]
    go false e (Some r) (Some d) h =
        let f : is_idr settings.key (h.0 + 1) ≡ false = subst (λ (k : ℕ). is_idr settings.key k ≡ false) h.1 e in
        trail_is_read heads settings poc r raster d fit is small h.3
        (ap (λ (k : ℕ). order_count settings.key k % 256) h.1 ∙ (ap (λ (a : ℕ). a % 256) (next_order settings.key h.0 f)
        ∙ (low_order (order_count settings.key h.0) ∙ ap (λ (a : ℕ). (a + 1) % 256) (sym h.2))))

-- ---- the byte stream

pub map_map : (f : ℕ → List ℕ) (list : List ℕ) → map (λ i. escape (f i)) list ≡ map escape (map f list)
map_map f [] = refl
map_map f (x ∷ list) = ap (λ (l : List (List ℕ)). escape (f x) ∷ l) (map_map f list)

pub head_ends : (head : Head) → Ends (bytes (head_bits head))
unfolding head_bits
head_ends head = aligned_bits_end (fields_bits (head_fields head))

-- a picture in one slice segment is its NAL unit
pub piece_is_unit : (settings : Settings) (idr : Bool) (poc : ℕ) (before : Option Raster) (raster : Raster) → IsFit settings.size → IsRaster settings.size raster
    → slice_piece idr poc (row_codes settings idr (reference idr settings.size before) (picture_of settings raster)) ≡ nal_unit_bytes (unit_with settings idr poc before raster)
unfolding slice_piece
piece_is_unit settings idr poc before raster fit is =
    let rows : List (List ℕ) = rows_of settings idr before raster in
    let front : List ℕ = bytes (head_bits (head_of settings idr poc before raster)) in
    let same : row_codes settings idr (reference idr settings.size before) (picture_of settings raster) ≡ map escape rows =
    map_map (row_code (slice_kind idr) (leaf_units (slice_kind idr) (source_in settings raster)) settings.size (leaves_of settings idr before raster)) (below (ctus settings.size.h)) in
    let whole : escape (front ++ flat_map (λ r. r) rows) ≡ escape front ++ flat_map (λ r. r) (map escape rows) =
    escape_append 255 255 front (flat_map (λ r. r) rows) (head_ends (head_of settings idr poc before raster)) ∙ ap (λ (l : List ℕ). escape front ++ l) (escape_rows rows (rows_are settings idr before raster fit is)) in
    ap (λ (es : List (List ℕ)). ((start_code ++ nal_header idr) ++ escape (bytes (head_bits (record { idr = idr; poc = poc; offsets = map length (but_last es) })))) ++ flat_map (λ r. r) es) same
    ∙ (append_assoc (start_code ++ nal_header idr) (escape front) (flat_map (λ r. r) (map escape rows)) ∙ ap (λ (l : List ℕ). (start_code ++ nal_header idr) ++ l) (sym whole))

-- ---- NAL units whose ends can be told

pub unit_is : (settings : Settings) (idr : Bool) (poc : ℕ) (before : Option Raster) (raster : Raster) → IsFit settings.size → IsRaster settings.size raster → IsNalUnit (unit_with settings idr poc before raster)
unit_is settings idr poc before raster fit is = record {
  header = two_bytes idr;
  ends =
      let front : List ℕ = bytes (head_bits (head_of settings idr poc before raster)) in
      let rest : List ℕ = flat_map (λ r. r) (rows_of settings idr before raster) in
      ends_well (front ++ rest) (ends_append front rest (data_ends (ctus settings.size.h) fit.high (rows_are settings idr before raster fit is)));
}
  where
    two_bytes : (b : Bool) → (first second : ℕ) × (0 < second) × (nal_header b ≡ first ∷ second ∷ [])
    two_bytes true = (0x28, 1, omega arith, refl)
    two_bytes false = (0x02, 1, omega arith, refl)

    f : ℕ → List ℕ
    f = row_code (slice_kind idr) (leaf_units (slice_kind idr) (source_in settings raster)) settings.size (leaves_of settings idr before raster)

    data_ends : (h : ℕ) → 0 < h → AllByRecursion Ends (map f (below h)) → Ends (flat_map (λ r. r) (map f (below h)))
    data_ends zero some all = absurd (omega arith)
    data_ends (suc h) some all = rows_end (f 0) (map f (range_with_len (0 + 1) h)) all

-- ---- the law

pub units_found : (list : List ℕ) (us : List NalUnit) → units list ≡ Ok us → units_or_number list ≡ Ok us
units_found list us e = rw (e, units_or_number) refl
