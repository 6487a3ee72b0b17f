-- The law of parameter sets: their size is read back.
use Rattle.std.proofs.Common.{◌≡◌, ℕ, zero, suc, ◌<◌, Result, ◌+◌, ◌-◌, ◌*◌, ◌≤◌, Bool, true, false, cond, List, [], ◌∷◌, ◌++◌, length, Ok, Err, refl, ◌∙◌, ap, arith, append_assoc}
use Rattle.std.specs.Prelude.{nat_lt, nat_le, ◌==◌, ◌&&◌, not, IsTrue}
use Rattle.std.specs.List.{AllByRecursion}
use Rattle.std.proofs.lemmas.Bool.{lt-ltb}
use Rattle.std.proofs.lemmas.Bool.Decides.{nat_tests}
use Rattle.h265_model.specs.Plain.{Size, coded}
use Rattle.h265_model.specs.Settings.{most_area, is_size}
use Rattle.h265_model.specs.Bits.{◌>>-◌}
use Rattle.h265_model.specs.Bits.{u, ue, alignment}
use Rattle.h265_model.specs.Fields.{Field, U, Ue, fixed, golomb, fields_bits, read_field, read_fields, read_trailing}
use Rattle.h265_model.specs.ParamSets.{profile_tier_level, vps_front, vps_back, vps_fields, sps_formats, sps_front, size_fields, is_padded, flag, window_fields, sps_back, sps_fields, pps_front, pps_back, pps_fields, set_unit, param_units, segments_flag, read_pps, set_bits, read_fixed_set, is_coded_side, read_side, read_offset, read_whole, windowed, read_window, read_size, read_sps, read_params}
use Rattle.h265_model.specs.NalUnits.{IsNalUnit}
use Rattle.h265_laws.specs.Laws.{EachSizeIsRead}
use Rattle.h265_model.proofs.FieldLaws.{fits, all_fit, same, read_field-element_bits, read_fields-fields_bits, fields_bits-append, bits-aligned_bits, ends-aligned_bits, read_trailing-alignment}

-- ---- the tables

pub vps_fits : all_fit vps_fields ≡ true
unfolding profile_tier_level vps_front vps_back
vps_fits = refl

pub sps_front_fits : all_fit sps_front ≡ true
unfolding profile_tier_level sps_formats sps_front
sps_front_fits = refl

pub sps_back_fits : all_fit sps_back ≡ true
unfolding sps_back
sps_back_fits = refl

-- ---- a set of known fields

pub set_bits-set_unit : (first : ℕ) (fields : List Field) → set_bits first (set_unit first fields) ≡ Ok (fields_bits fields ++ alignment (length (fields_bits fields)))
set_bits-set_unit first fields = rw (same first) (ap Ok (bits-aligned_bits (fields_bits fields)))

pub fixed_set_read : (first trailing : ℕ) (fields : List Field) → all_fit fields ≡ true → read_fixed_set first fields trailing (set_unit first fields) ≡ Ok tt
fixed_set_read first trailing fields h =
    let end = alignment (length (fields_bits fields)) in
    ap (λ r. r >>- λ bits. read_fields fields bits >>- λ rest. read_trailing trailing rest) (set_bits-set_unit first fields)
    ∙ ap (λ r. r >>- λ rest. read_trailing trailing rest) (read_fields-fields_bits fields end h)
    ∙ read_trailing-alignment trailing (length (fields_bits fields))

-- ---- a size

pub record InLimits (size : Size) : Type 0 where
  pub w_low : 1 ≤ size.w
  pub w_high : size.w ≤ 4096
  pub h_low : 1 ≤ size.h
  pub h_high : size.h ≤ 4096
  pub area : nat_le (size.w * size.h) most_area ≡ true

pub in_limits : (size : Size) → IsTrue (is_size size) → InLimits size
in_limits size h = record {
  w_low = grind (arith, nat_tests);
  w_high = grind (arith, nat_tests);
  h_low = grind (arith, nat_tests);
  h_high = grind (arith, nat_tests);
  area = grind (arith, nat_tests);
}

coded_side : (n : ℕ) → 1 ≤ n → n ≤ 4096 → is_coded_side (coded n) ≡ true
coded_side n h k = grind (arith, nat_tests)

side_read : (number side : ℕ) (rest : List Bool) → is_coded_side side ≡ true → read_side number (ue side ++ rest) ≡ Ok (side, rest)
side_read number side rest h =
    let fit : nat_lt side 4294967295 ≡ true = grind (arith, nat_tests) in
    ap (λ r. r >>- λ side. cond (is_coded_side side.0) (Ok side) (Err number)) (read_field-element_bits number Ue side rest fit) ∙ rw h

offset_read : (number offset : ℕ) (rest : List Bool) → nat_le offset 7 ≡ true → read_offset number (ue offset ++ rest) ≡ Ok (offset, rest)
offset_read number offset rest h =
    let fit : nat_lt offset 4294967295 ≡ true = grind (arith, nat_tests) in
    ap (λ r. r >>- λ offset. cond (nat_le offset.0 7) (Ok offset) (Err number)) (read_field-element_bits number Ue offset rest fit) ∙ rw h

none_read : (number : ℕ) (rest : List Bool) → read_fields (golomb number 0 ∷ []) (ue 0 ++ rest) ≡ Ok rest
unfolding read_fields
none_read number rest = rw (read_field-element_bits number Ue 0 rest refl)

window_read : (w h right bottom : ℕ) (rest : List Bool) → nat_le right 7 ≡ true → nat_le bottom 7 ≡ true →
    read_window w h (fields_bits (golomb 11 0 ∷ golomb 12 right ∷ golomb 13 0 ∷ golomb 14 bottom ∷ []) ++ rest) ≡ windowed w h right bottom rest
unfolding fields_bits
window_read w h right bottom rest a b = simp append_assoc
    (rw (none_read 11 (ue right ++ (ue 0 ++ (ue bottom ++ rest))), offset_read 12 right (ue 0 ++ (ue bottom ++ rest)) a, none_read 13 (ue bottom ++ rest), offset_read 14 bottom rest b))

flag_fits : (b : Bool) → fits (U 1) (flag b) ≡ true
flag_fits true = refl
flag_fits false = refl

front_read : (w h : ℕ) (padded : Bool) (window : List Field) (rest : List Bool) → is_coded_side w ≡ true → is_coded_side h ≡ true →
    read_size (fields_bits (golomb 8 w ∷ golomb 9 h ∷ fixed 10 1 (flag padded) ∷ window) ++ rest)
    ≡ cond (flag padded == 0) (read_whole w h (fields_bits window ++ rest)) (read_window w h (fields_bits window ++ rest))
unfolding fields_bits read_size
front_read w h padded window rest a b = simp append_assoc
    (rw (
      side_read 8 w (ue h ++ (u 1 (flag padded) ++ (fields_bits window ++ rest))) a,
      side_read 9 h (u 1 (flag padded) ++ (fields_bits window ++ rest)) b,
      read_field-element_bits 10 (U 1) (flag padded) (fields_bits window ++ rest) (flag_fits padded),
    ))

back : (n : ℕ) → coded n - (coded n - n) ≡ n
back n = omega arith

less_than_8 : (n : ℕ) → nat_le (coded n - n) 7 ≡ true
less_than_8 n = grind (arith, nat_tests)

some_more : (w v h k : ℕ) → w ≤ v → h ≤ k → not (w == v && h == k) ≡ true → nat_lt 0 (v - w + (k - h)) ≡ true
some_more w v h k a b p = grind (arith, nat_tests)

no_more : (w v h k : ℕ) → not (w == v && h == k) ≡ false → (v ≡ w) × (k ≡ h)
no_more w v h k p = (grind (arith, nat_tests), grind (arith, nat_tests))

padding : (w h : ℕ) → not (w == coded w && h == coded h) ≡ true → nat_lt 0 (coded w - w + (coded h - h)) ≡ true
padding w h p = some_more w (coded w) h (coded h) (omega arith) (omega arith) p

unpadded : (w h : ℕ) → not (w == coded w && h == coded h) ≡ false → (coded w ≡ w) × (coded h ≡ h)
unpadded w h p = no_more w (coded w) h (coded h) p

pub size_read : (size : Size) (rest : List Bool) → InLimits size → read_size (fields_bits (size_fields size) ++ rest) ≡ Ok (size, rest)
unfolding size_fields fields_bits
size_read size rest limits =
    let cw = coded size.w in
    let ch = coded size.h in
    let window : List Field = golomb 11 0 ∷ golomb 12 (cw - size.w) ∷ golomb 13 0 ∷ golomb 14 (ch - size.h) ∷ [] in
    front_read cw ch (is_padded size) (window_fields size) rest (coded_side size.w limits.w_low limits.w_high) (coded_side size.h limits.h_low limits.h_high)
    ∙ elim (is_padded size) as (λ v. is_padded size ≡ v →
    cond (flag v == 0) (read_whole cw ch (fields_bits (cond v window []) ++ rest)) (read_window cw ch (fields_bits (cond v window []) ++ rest)) ≡ Ok (size, rest)) [
      | true ↦ λ is.
          window_read cw ch (cw - size.w) (ch - size.h) rest (less_than_8 size.w) (less_than_8 size.h)
          ∙ rw (back size.w, back size.h, limits.area, padding size.w size.h is)
      | false ↦ λ is. let same = unpadded size.w size.h is in rw (same.0, same.1, limits.area)
    ] refl

-- ---- the three sets

pub sps_in_parts : (front size back : List Field) (end : List Bool) → fields_bits (front ++ size ++ back) ++ end ≡ fields_bits front ++ (fields_bits size ++ (fields_bits back ++ end))
sps_in_parts front size back end = simp (fields_bits-append, append_assoc)

pub sps_read : (size : Size) → InLimits size → read_sps (set_unit 0x42 (sps_fields size)) ≡ Ok size
sps_read size limits =
    let n = length (fields_bits (sps_fields size)) in
    let at_back = fields_bits sps_back ++ alignment n in
    let at_size = fields_bits (size_fields size) ++ at_back in
    let read = set_bits-set_unit 0x42 (sps_fields size) ∙ ap Ok (sps_in_parts sps_front (size_fields size) sps_back (alignment n)) in
    ap (λ r. r >>- λ bits. read_fields sps_front bits >>- λ bits. read_size bits >>- λ size. read_fields sps_back size.1 >>- λ bits. read_trailing 63 bits >>- λ _. Ok size.0) read
    ∙ rw (read_fields-fields_bits sps_front at_size sps_front_fits, size_read size at_back limits, read_fields-fields_bits sps_back (alignment n) sps_back_fits, read_trailing-alignment 63 n)

-- the picture parameter set, with the flag of segments
pps_parts : (segments : Bool) (end : List Bool) → fields_bits (pps_fields segments) ++ end ≡ fields_bits pps_front ++ (fields_bits (fixed 3 1 (flag segments) ∷ []) ++ (fields_bits pps_back ++ end))
unfolding pps_fields
pps_parts segments end = sps_in_parts pps_front (fixed 3 1 (flag segments) ∷ []) pps_back end

flag_read : (v : ℕ) (rest : List Bool) → v < 2 → read_field 3 (U 1) (fields_bits (fixed 3 1 v ∷ []) ++ rest) ≡ Ok (v, rest)
unfolding fields_bits u
flag_read zero rest less = read_field-element_bits 3 (U 1) 0 rest refl
flag_read (suc zero) rest less = read_field-element_bits 3 (U 1) 1 rest refl
flag_read (suc (suc v)) rest less = absurd (omega arith)

segments_read : (size : Size) (segments : Bool) (rest : List Bool) → (segments ≡ true → nat_lt 32 (coded size.w) ≡ true)
    → segments_flag size (fields_bits (fixed 3 1 (flag segments) ∷ []) ++ rest) ≡ Ok (segments, rest)
segments_read size false rest wide =
    ap (λ (r : Result (ℕ × List Bool) ℕ). r >>- λ found. cond (found.0 == 0) (Ok (false, found.1)) (cond (nat_lt 32 (coded size.w)) (Ok (true, found.1)) (Err 3))) (flag_read 0 rest (omega arith))
segments_read size true rest wide =
    ap (λ (r : Result (ℕ × List Bool) ℕ). r >>- λ found. cond (found.0 == 0) (Ok (false, found.1)) (cond (nat_lt 32 (coded size.w)) (Ok (true, found.1)) (Err 3))) (flag_read 1 rest (omega arith))
    ∙ ap (λ (b : Bool). cond b (Ok (true, rest)) (Err 3)) (wide refl)

pps_read : (size : Size) (segments : Bool) → (segments ≡ true → nat_lt 32 (coded size.w) ≡ true) → read_pps size (set_unit 0x44 (pps_fields segments)) ≡ Ok segments
pps_read size segments wide =
    let n = length (fields_bits (pps_fields segments)) in
    let at_back : List Bool = fields_bits pps_back ++ alignment n in
    let at_flag : List Bool = fields_bits (fixed 3 1 (flag segments) ∷ []) ++ at_back in
    let read = set_bits-set_unit 0x44 (pps_fields segments) ∙ ap Ok (pps_parts segments (alignment n)) in
    ap (λ r. r >>- λ bits. read_fields pps_front bits >>- λ bits. segments_flag size bits >>- λ segments. read_fields pps_back segments.1 >>- λ bits. read_trailing 31 bits >>- λ _. Ok segments.0) read
    ∙ rw (read_fields-fields_bits pps_front at_flag refl, segments_read size segments at_back wide, read_fields-fields_bits pps_back (alignment n) refl, read_trailing-alignment 31 n)

pub read_params-param_units : EachSizeIsRead
unfolding param_units read_params
read_params-param_units size segments h wide =
    rw (fixed_set_read 0x40 17 vps_fields vps_fits, sps_read size (in_limits size h), pps_read size segments (λ e. lt-ltb 32 (coded size.w) (wide e)))

-- ---- the three sets in a stream

pub set_unit_is : (first : ℕ) (fields : List Field) → IsNalUnit (set_unit first fields)
set_unit_is first fields = record { header = (first, 1, omega arith, refl); ends = ends-aligned_bits (fields_bits fields) }

pub param_units_are : (size : Size) (segments : Bool) → AllByRecursion IsNalUnit (param_units size segments)
unfolding param_units
param_units_are size segments = (set_unit_is 0x40 vps_fields, (set_unit_is 0x42 (sps_fields size), (set_unit_is 0x44 (pps_fields segments), tt)))
