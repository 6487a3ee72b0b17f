-- The law of parameter sets: nothing else is read as their size and their flag of segments.
use Rattle.std.proofs.Common.{◌≡◌, ℕ, ◌+◌, ◌-◌, ◌*◌, ◌%◌, ◌^◌, ◌<◌, ◌≤◌, Bool, true, false, cond, List, [], ◌∷◌, ◌++◌, length, Ok, Err, Result, refl, sym, subst, ◌∙◌, ap, arith, append_assoc, length-append}
use Rattle.std.specs.Prelude.{nat_lt, nat_le, ◌==◌, ◌&&◌, not, bytes_eq}
use Rattle.std.proofs.lemmas.Bool.{ltb-true}
use Rattle.std.proofs.lemmas.Bool.Decides.{nat_tests}
use Rattle.std.proofs.lemmas.Slice.Eq.{bytes_eq-Decides}
use Rattle.h265_model.specs.Plain.{Size, coded}
use Rattle.h265_model.specs.Settings.{most_area}
use Rattle.h265_model.specs.Bits.{◌>>-◌}
use Rattle.h265_model.specs.Bits.{u, ue, bits, bytes}
use Rattle.h265_model.specs.NalUnits.{NalUnit}
use Rattle.h265_model.specs.Fields.{Field, U, Ue, fixed, golomb, fields_bits, aligned_bits, read_element, read_field, read_fields, read_trailing}
use Rattle.h265_model.specs.ParamSets.{vps_fields, sps_front, size_fields, is_padded, flag, window_fields, sps_back, sps_fields, pps_front, pps_back, pps_fields, set_unit, param_units, segments_flag, read_pps, set_bits, read_fixed_set, is_coded_side, read_side, read_offset, read_whole, windowed, read_window, read_size, read_sps, in_set, read_three, read_params}
use Rattle.h265_model.specs.Plain.{AreBytes}
use Rattle.h265_laws.specs.Laws.{EachSizeIsSpelled}
use Rattle.h265_model.proofs.ByteLaws.{bytes-bits, length-bits-mod}
use Rattle.h265_model.proofs.FieldLaws.{both}
use Rattle.h265_laws.proofs.SpellingLaws.{went, passed, equal, IsU, read_field-is, read_fields-is, read_trailing-is, read_u-is, numbered}
use Rattle.h265_laws.proofs.ParamLaws.{sps_in_parts}

-- ---- sets

-- the bytes of a table are those of its bits with their end
pub rbsp_is : (number : ℕ) (rbsp : List ℕ) (table rest : List Bool) → AreBytes rbsp → bits rbsp ≡ table ++ rest → read_trailing number rest ≡ Ok tt → rbsp ≡ bytes (aligned_bits table)
rbsp_is number rbsp table rest are e h =
    let whole = ap (λ m. m % 8) (sym (length-append table rest)) ∙ ap (λ l. length l % 8) (sym e) ∙ length-bits-mod rbsp in
    sym (bytes-bits rbsp are) ∙ ap bytes (e ∙ ap (λ l. table ++ l) (read_trailing-is number (length table) rest whole h))

pub unit_is : (first : ℕ) (fields : List Field) (unit : NalUnit) → unit.header ≡ first ∷ 1 ∷ [] → unit.rbsp ≡ bytes (aligned_bits (fields_bits fields)) → unit ≡ set_unit first fields
unit_is first fields unit h k =
    ap (λ l. record { header = l; rbsp = unit.rbsp }) h ∙ ap (λ l. record { header = first ∷ 1 ∷ []; rbsp = l }) k

pub set_is : (first : ℕ) (unit : NalUnit) (bs : List Bool) → set_bits first unit ≡ Ok bs → (unit.header ≡ first ∷ 1 ∷ []) × (bits unit.rbsp ≡ bs)
set_is first unit bs h =
    let test = passed (bytes_eq unit.header (first ∷ 1 ∷ [])) (Ok (bits unit.rbsp)) 0 bs h in
    let same : bits unit.rbsp ≡ bs = let e = test.1 in cc in
    ((bytes_eq-Decides unit.header (first ∷ 1 ∷ [])).0 test.0, same)

pub fixed_set_is : (first trailing : ℕ) (fields : List Field) (unit : NalUnit) → AreBytes unit.rbsp → read_fixed_set first fields trailing unit ≡ Ok tt → unit ≡ set_unit first fields
fixed_set_is first trailing fields unit are h =
    let start = went (set_bits first unit) (λ bits. read_fields fields bits >>- λ rest. read_trailing trailing rest) tt h in
    let set = set_is first unit start.value start.first in
    let table = went (read_fields fields start.value) (λ rest. read_trailing trailing rest) tt start.then in
    unit_is first fields unit set.0
    (rbsp_is trailing unit.rbsp (fields_bits fields) table.value are (set.1 ∙ read_fields-is fields start.value table.value table.first) table.then)

-- ---- the size

pub record IsCodedSide (side : ℕ) : Type 0 where
  pub whole : side % 8 ≡ 0
  pub low : 8 ≤ side

side_is : (number : ℕ) (bs : List Bool) (found : ℕ × List Bool) → read_side number bs ≡ Ok found → IsCodedSide found.0 × (bs ≡ ue found.0 ++ found.1)
side_is number bs found h =
    let step = went (read_field number Ue bs) (λ side. cond (is_coded_side side.0) (Ok side) (Err number)) found h in
    let test = passed (is_coded_side step.value.0) (Ok step.value) number found step.then in
    let same : step.value ≡ found = let e = test.1 in cc in
    let is = ap (λ (x : ℕ × List Bool). is_coded_side x.0) (sym same) ∙ test.0 in
    (record { whole = grind (arith, nat_tests); low = grind (arith, nat_tests) }, read_field-is number Ue bs step.value step.first ∙ ap (λ (x : ℕ × List Bool). ue x.0 ++ x.1) same)

offset_is : (number : ℕ) (bs : List Bool) (found : ℕ × List Bool) → read_offset number bs ≡ Ok found → (found.0 ≤ 7) × (bs ≡ ue found.0 ++ found.1)
offset_is number bs found h =
    let step = went (read_field number Ue bs) (λ offset. cond (nat_le offset.0 7) (Ok offset) (Err number)) found h in
    let test = passed (nat_le step.value.0 7) (Ok step.value) number found step.then in
    let same : step.value ≡ found = let e = test.1 in cc in
    let is = ap (λ (x : ℕ × List Bool). nat_le x.0 7) (sym same) ∙ test.0 in
    (grind (arith, nat_tests), read_field-is number Ue bs step.value step.first ∙ ap (λ (x : ℕ × List Bool). ue x.0 ++ x.1) same)

coded_side_less : (side offset : ℕ) → side % 8 ≡ 0 → 8 ≤ side → offset ≤ 7 → coded (side - offset) ≡ side
coded_side_less side offset h k l = omega arith

coded_side_same : (side : ℕ) → side % 8 ≡ 0 → coded side ≡ side
coded_side_same side h = omega arith

padded_not : (w v h k : ℕ) → v ≡ w → k ≡ h → not (w == v && h == k) ≡ false
padded_not w v h k a b = grind (arith, nat_tests)

padded_so : (w h right bottom v k : ℕ) → v ≡ w → k ≡ h → right ≤ w → bottom ≤ h → nat_lt 0 (right + bottom) ≡ true → not (w - right == v && h - bottom == k) ≡ true
padded_so w h right bottom v k a b c d e = grind (arith, nat_tests)

-- the fields of a size, told by their values
put_together : (size : Size) (w h : ℕ) (padded : Bool) (window : List Field) (more rest : List Bool) →
    coded size.w ≡ w → coded size.h ≡ h → is_padded size ≡ padded → window_fields size ≡ window → more ≡ fields_bits window ++ rest →
    ue w ++ (ue h ++ (u 1 (flag padded) ++ more)) ≡ fields_bits (size_fields size) ++ rest
unfolding size_fields fields_bits
put_together size w h padded window more rest a b c d e = simp append_assoc (rw (d, c, a, b, e))

moved : (bs : List Bool) (a b : Size × List Bool) → bs ≡ fields_bits (size_fields a.0) ++ a.1 → a ≡ b → bs ≡ fields_bits (size_fields b.0) ++ b.1
moved bs a b h same = h ∙ ap (λ (x : Size × List Bool). fields_bits (size_fields x.0) ++ x.1) same

whole_is : (w h : ℕ) (bs : List Bool) (found : Size × List Bool) → IsCodedSide w → IsCodedSide h → read_whole w h bs ≡ Ok found →
    ue w ++ (ue h ++ (u 1 0 ++ bs)) ≡ fields_bits (size_fields found.0) ++ found.1
unfolding fields_bits
whole_is w h bs found a b e =
    let size : Size = record { w = w; h = h } in
    let test = passed (nat_le (w * h) most_area) (Ok (size, bs)) 10 found e in
    let same : (size, bs) ≡ found = let e = test.1 in cc in
    let cw = coded_side_same w a.whole in
    let ch = coded_side_same h b.whole in
    let padded = padded_not w (coded w) h (coded h) cw ch in
    moved (ue w ++ (ue h ++ (u 1 0 ++ bs))) (size, bs) found (put_together size w h false [] bs bs cw ch padded (rw padded) refl) same

window_bits : (right bottom : ℕ) (bs a b c rest : List Bool) → bs ≡ fields_bits (golomb 11 0 ∷ []) ++ a → a ≡ ue right ++ b → b ≡ fields_bits (golomb 13 0 ∷ []) ++ c → c ≡ ue bottom ++ rest →
    bs ≡ fields_bits (golomb 11 0 ∷ golomb 12 right ∷ golomb 13 0 ∷ golomb 14 bottom ∷ []) ++ rest
unfolding fields_bits
window_bits right bottom bs a b c rest e f g h =
    e ∙ ap (λ l. fields_bits (golomb 11 0 ∷ []) ++ l) (f ∙ ap (λ l. ue right ++ l) (g ∙ ap (λ l. fields_bits (golomb 13 0 ∷ []) ++ l) h)) ∙ simp append_assoc

left_over : (w right v : ℕ) → v ≡ w → right ≤ w → v - (w - right) ≡ right
left_over w right v e h = omega arith

window_of : (w h right bottom : ℕ) → is_padded (record { w = w - right; h = h - bottom }) ≡ true → coded (w - right) ≡ w → coded (h - bottom) ≡ h → right ≤ w → bottom ≤ h →
    window_fields (record { w = w - right; h = h - bottom }) ≡ golomb 11 0 ∷ golomb 12 right ∷ golomb 13 0 ∷ golomb 14 bottom ∷ []
window_of w h right bottom padded a b c d =
    rw (padded, left_over w right (coded (w - right)) a c, left_over h bottom (coded (h - bottom)) b d)

-- what was read of a window
record Window (w h : ℕ) (bs : List Bool) (found : Size × List Bool) : Type 0 where
  right : ℕ
  bottom : ℕ
  rest : List Bool
  right_small : right ≤ 7
  bottom_small : bottom ≤ 7
  some : nat_lt 0 (right + bottom) ≡ true
  spelling : bs ≡ fields_bits (golomb 11 0 ∷ golomb 12 right ∷ golomb 13 0 ∷ golomb 14 bottom ∷ []) ++ rest
  is : (record { w = w - right; h = h - bottom }, rest) ≡ found

window_read_is : (w h : ℕ) (bs : List Bool) (found : Size × List Bool) → read_window w h bs ≡ Ok found → Window w h bs found
window_read_is w h bs found e =
    let left = went (read_fields (golomb 11 0 ∷ []) bs)
    (λ bits. read_offset 12 bits >>- λ right. read_fields (golomb 13 0 ∷ []) right.1 >>- λ bits. read_offset 14 bits >>- λ bottom. windowed w h right.0 bottom.0 bottom.1) found e in
    let right = went (read_offset 12 left.value)
    (λ right. read_fields (golomb 13 0 ∷ []) right.1 >>- λ bits. read_offset 14 bits >>- λ bottom. windowed w h right.0 bottom.0 bottom.1) found left.then in
    let r = right.value.0 in
    let top = went (read_fields (golomb 13 0 ∷ []) right.value.1) (λ bits. read_offset 14 bits >>- λ bottom. windowed w h r bottom.0 bottom.1) found right.then in
    let bottom = went (read_offset 14 top.value) (λ bottom. windowed w h r bottom.0 bottom.1) found top.then in
    let o = bottom.value.0 in
    let rest = bottom.value.1 in
    let test = passed (nat_le ((w - r) * (h - o)) most_area && nat_lt 0 (r + o)) (Ok (record { w = w - r; h = h - o }, rest)) 14 found bottom.then in
    let is-right = offset_is 12 left.value right.value right.first in
    let is-bottom = offset_is 14 top.value bottom.value bottom.first in
    record {
      right = r;
      bottom = o;
      rest = rest;
      right_small = is-right.0;
      bottom_small = is-bottom.0;
      some = (both (nat_le ((w - r) * (h - o)) most_area) (nat_lt 0 (r + o)) test.0).1;
      spelling = window_bits r o bs left.value right.value.1 top.value rest
          (read_fields-is (golomb 11 0 ∷ []) bs left.value left.first) is-right.1 (read_fields-is (golomb 13 0 ∷ []) right.value.1 top.value top.first) is-bottom.1;
      is = let e = test.1 in cc;
    }

window_is : (w h : ℕ) (bs : List Bool) (found : Size × List Bool) → IsCodedSide w → IsCodedSide h → Window w h bs found →
    ue w ++ (ue h ++ (u 1 1 ++ bs)) ≡ fields_bits (size_fields found.0) ++ found.1
window_is w h bs found a b e =
    let size : Size = record { w = w - e.right; h = h - e.bottom } in
    let window : List Field = golomb 11 0 ∷ golomb 12 e.right ∷ golomb 13 0 ∷ golomb 14 e.bottom ∷ [] in
    let cw = coded_side_less w e.right a.whole a.low e.right_small in
    let ch = coded_side_less h e.bottom b.whole b.low e.bottom_small in
    let some_w : e.right ≤ w = omega (arith, a.low, e.right_small) in
    let some_h : e.bottom ≤ h = omega (arith, b.low, e.bottom_small) in
    let padded = padded_so w h e.right e.bottom (coded size.w) (coded size.h) cw ch some_w some_h e.some in
    moved (ue w ++ (ue h ++ (u 1 1 ++ bs))) (size, e.rest) found
    (put_together size w h true window bs e.rest cw ch padded (window_of w h e.right e.bottom padded cw ch some_w some_h) e.spelling) e.is

pub is_one : (v : ℕ) → v < 2 ^ 1 → (v == 0) ≡ false → v ≡ 1
is_one v h k = grind (arith, nat_tests)

either_is : (w h padded : ℕ) (rest : List Bool) (found : Size × List Bool) → IsCodedSide w → IsCodedSide h → padded < 2 ^ 1 →
    cond (padded == 0) (read_whole w h rest) (read_window w h rest) ≡ Ok found → ue w ++ (ue h ++ (u 1 padded ++ rest)) ≡ fields_bits (size_fields found.0) ++ found.1
either_is w h padded rest found a b below e =
    elim (padded == 0) as (λ t. (padded == 0) ≡ t → cond t (read_whole w h rest) (read_window w h rest) ≡ Ok found →
    ue w ++ (ue h ++ (u 1 padded ++ rest)) ≡ fields_bits (size_fields found.0) ++ found.1) [
      | true ↦ λ is e. ap (λ v. ue w ++ (ue h ++ (u 1 v ++ rest))) (equal padded 0 is) ∙ whole_is w h rest found a b e
      | false ↦ λ is e. ap (λ v. ue w ++ (ue h ++ (u 1 v ++ rest))) (is_one padded below is) ∙ window_is w h rest found a b (window_read_is w h rest found e)
    ] refl e

chained : (p q bs a b c all : List Bool) → bs ≡ p ++ a → a ≡ q ++ b → b ≡ c → p ++ (q ++ c) ≡ all → bs ≡ all
chained p q bs a b c all e f g h = e ∙ ap (λ l. p ++ l) (f ∙ ap (λ l. q ++ l) g) ∙ h

pub size_is : (bs : List Bool) (found : Size × List Bool) → read_size bs ≡ Ok found → bs ≡ fields_bits (size_fields found.0) ++ found.1
unfolding read_size
size_is bs found e =
    let wide = went (read_side 8 bs)
    (λ w. read_side 9 w.1 >>- λ h. read_field 10 (U 1) h.1 >>- λ window. cond (window.0 == 0) (read_whole w.0 h.0 window.1) (read_window w.0 h.0 window.1)) found e in
    let w = wide.value.0 in
    let high = went (read_side 9 wide.value.1) (λ h. read_field 10 (U 1) h.1 >>- λ window. cond (window.0 == 0) (read_whole w h.0 window.1) (read_window w h.0 window.1)) found wide.then in
    let h = high.value.0 in
    let shown = went (read_field 10 (U 1) high.value.1) (λ window. cond (window.0 == 0) (read_whole w h window.1) (read_window w h window.1)) found high.then in
    let padded = shown.value.0 in
    let rest = shown.value.1 in
    let is-w = side_is 8 bs wide.value wide.first in
    let is-h = side_is 9 wide.value.1 high.value high.first in
    let is-shown = read_u-is 1 high.value.1 shown.value (numbered 10 (read_element (U 1) high.value.1) shown.value shown.first) in
    chained (ue w) (ue h) bs wide.value.1 high.value.1 (u 1 padded ++ rest) (fields_bits (size_fields found.0) ++ found.1) is-w.1 is-h.1 is-shown.bits
    (either_is w h padded rest found is-w.0 is-h.0 is-shown.below shown.then)

-- ---- the three sets

sps_bits : (size : List Field) (unit : NalUnit) (bs a b rest : List Bool) → bits unit.rbsp ≡ bs → bs ≡ fields_bits sps_front ++ a → a ≡ fields_bits size ++ b → b ≡ fields_bits sps_back ++ rest →
    bits unit.rbsp ≡ fields_bits (sps_front ++ size ++ sps_back) ++ rest
sps_bits size unit bs a b rest e f g h =
    e ∙ f ∙ ap (λ l. fields_bits sps_front ++ l) (g ∙ ap (λ l. fields_bits size ++ l) h) ∙ sym (sps_in_parts sps_front size sps_back rest)

pub sps_is : (unit : NalUnit) (size : Size) → AreBytes unit.rbsp → read_sps unit ≡ Ok size → unit ≡ set_unit 0x42 (sps_fields size)
sps_is unit size are e =
    let start = went (set_bits 0x42 unit)
    (λ bits. read_fields sps_front bits >>- λ bits. read_size bits >>- λ size. read_fields sps_back size.1 >>- λ bits. read_trailing 63 bits >>- λ _. Ok size.0) size e in
    let front = went (read_fields sps_front start.value) (λ bits. read_size bits >>- λ size. read_fields sps_back size.1 >>- λ bits. read_trailing 63 bits >>- λ _. Ok size.0) size start.then in
    let read = went (read_size front.value) (λ size. read_fields sps_back size.1 >>- λ bits. read_trailing 63 bits >>- λ _. Ok size.0) size front.then in
    let back = went (read_fields sps_back read.value.1) (λ bits. read_trailing 63 bits >>- λ _. Ok read.value.0) size read.then in
    let end = went (read_trailing 63 back.value) (λ _. Ok read.value.0) size back.then in
    let same : read.value.0 ≡ size = let e = end.then in cc in
    let set = set_is 0x42 unit start.value start.first in
    let all = sps_bits (size_fields read.value.0) unit start.value front.value read.value.1 back.value
    set.1 (read_fields-is sps_front start.value front.value front.first) (size_is front.value read.value read.first) (read_fields-is sps_back read.value.1 back.value back.first) in
    unit_is 0x42 (sps_fields read.value.0) unit set.0 (rbsp_is 63 unit.rbsp (fields_bits (sps_fields read.value.0)) back.value are all end.first)
    ∙ ap (λ s. set_unit 0x42 (sps_fields s)) same

pub told : {A : Type 0} (set : ℕ) (r : Result A ℕ) (y : A) → in_set set r ≡ Ok y → r ≡ Ok y
told set (Ok x) y h = cc
told set (Err e) y h = absurd (cc)

-- the flag as it is spelled, and where it may be 1
record Flagged (size : Size) (bs : List Bool) (found : Bool × List Bool) : Type 0 where
  bits_are : bs ≡ fields_bits (fixed 3 1 (flag found.0) ∷ []) ++ found.1
  wide : found.0 ≡ true → 32 < coded size.w

flag_bits : (v : ℕ) (rest : List Bool) → fields_bits (fixed 3 1 v ∷ []) ++ rest ≡ u 1 v ++ rest
unfolding fields_bits u
flag_bits v rest = refl

abbrev flag_of : Size → ℕ × List Bool → Result (Bool × List Bool) ℕ
flag_of size v = cond (v.0 == 0) (Ok (false, v.1)) (cond (nat_lt 32 (coded size.w)) (Ok (true, v.1)) (Err 3))

abbrev wide_of : Size → List Bool → Result (Bool × List Bool) ℕ
wide_of size rest = cond (nat_lt 32 (coded size.w)) (Ok (true, rest)) (Err 3)

abbrev narrow_of : List Bool → Result (Bool × List Bool) ℕ
narrow_of rest = Ok (false, rest)

abbrev segmented : List Bool → Result (Bool × List Bool) ℕ
segmented rest = Ok (true, rest)

flag_is : (size : Size) (bs : List Bool) (found : Bool × List Bool) → segments_flag size bs ≡ Ok found → Flagged size bs found
flag_is size bs found h =
    let step = went (read_field 3 (U 1) bs) (flag_of size) found h in
    let is : IsU 1 bs step.value = read_u-is 1 bs step.value (numbered 3 (read_element (U 1) bs) step.value step.first) in
    go step.value is (step.value.0 == 0) refl step.then
  where
    go : (v : ℕ × List Bool) → IsU 1 bs v → (t : Bool) → (v.0 == 0) ≡ t → cond t (narrow_of v.1) (wide_of size v.1) ≡ Ok found → Flagged size bs found
    go v is true e g =
        let f : (false, v.1) ≡ found = let q = g in cc in
        record {
          bits_are = is.bits ∙ ap (λ (n : ℕ). u 1 n ++ v.1) (equal v.0 0 e) ∙ sym (flag_bits 0 v.1) ∙ ap (λ (p : Bool × List Bool). fields_bits (fixed 3 1 (flag p.0) ∷ []) ++ p.1) f;
          wide = λ w. let no : false ≡ true = ap (λ (p : Bool × List Bool). p.0) f ∙ w in absurd (cc);
        }
    go v is false e g =
        let p = passed (nat_lt 32 (coded size.w)) (segmented v.1) 3 found g in
        let f : (true, v.1) ≡ found = let q = p.1 in cc in
        record {
          bits_are = is.bits ∙ ap (λ (n : ℕ). u 1 n ++ v.1) (is_one v.0 is.below e) ∙ sym (flag_bits 1 v.1) ∙ ap (λ (x : Bool × List Bool). fields_bits (fixed 3 1 (flag x.0) ∷ []) ++ x.1) f;
          wide = λ w. ltb-true 32 (coded size.w) p.0;
        }

pps_bits : (segments : Bool) (unit : NalUnit) (bs a b rest : List Bool) → bits unit.rbsp ≡ bs → bs ≡ fields_bits pps_front ++ a → a ≡ fields_bits (fixed 3 1 (flag segments) ∷ []) ++ b → b ≡ fields_bits pps_back ++ rest →
    bits unit.rbsp ≡ fields_bits (pps_fields segments) ++ rest
unfolding pps_fields
pps_bits segments unit bs a b rest e f g h =
    e ∙ f ∙ ap (λ l. fields_bits pps_front ++ l) (g ∙ ap (λ l. fields_bits (fixed 3 1 (flag segments) ∷ []) ++ l) h) ∙ sym (sps_in_parts pps_front (fixed 3 1 (flag segments) ∷ []) pps_back rest)

pps_is : (size : Size) (unit : NalUnit) (segments : Bool) → AreBytes unit.rbsp → read_pps size unit ≡ Ok segments → (unit ≡ set_unit 0x44 (pps_fields segments)) × (segments ≡ true → 32 < coded size.w)
pps_is size unit segments are e =
    let start = went (set_bits 0x44 unit) (λ bits. read_fields pps_front bits >>- λ bits. segments_flag size bits >>- λ s. read_fields pps_back s.1 >>- λ bits. read_trailing 31 bits >>- λ _. Ok s.0) segments e in
    let front = went (read_fields pps_front start.value) (λ bits. segments_flag size bits >>- λ s. read_fields pps_back s.1 >>- λ bits. read_trailing 31 bits >>- λ _. Ok s.0) segments start.then in
    let told_flag = went (segments_flag size front.value) (λ s. read_fields pps_back s.1 >>- λ bits. read_trailing 31 bits >>- λ _. Ok s.0) segments front.then in
    let back = went (read_fields pps_back told_flag.value.1) (λ bits. read_trailing 31 bits >>- λ _. Ok told_flag.value.0) segments told_flag.then in
    let end = went (read_trailing 31 back.value) (λ _. Ok told_flag.value.0) segments back.then in
    let same : told_flag.value.0 ≡ segments = let x = end.then in cc in
    let set = set_is 0x44 unit start.value start.first in
    let f : Flagged size front.value told_flag.value = flag_is size front.value told_flag.value told_flag.first in
    let all = pps_bits told_flag.value.0 unit start.value front.value told_flag.value.1 back.value
    set.1 (read_fields-is pps_front start.value front.value front.first) f.bits_are (read_fields-is pps_back told_flag.value.1 back.value back.first) in (
      unit_is 0x44 (pps_fields told_flag.value.0) unit set.0 (rbsp_is 31 unit.rbsp (fields_bits (pps_fields told_flag.value.0)) back.value are all end.first) ∙ ap (λ s. set_unit 0x44 (pps_fields s)) same,
      λ w. f.wide (same ∙ w),
    )

three_are : (vps sps pps : NalUnit) (size : Size) (segments : Bool) → AreBytes vps.rbsp → AreBytes sps.rbsp → AreBytes pps.rbsp → read_three vps sps pps ≡ Ok (size, segments)
    → (vps ∷ sps ∷ pps ∷ [] ≡ param_units size segments) × (segments ≡ true → 32 < coded size.w)
unfolding param_units
three_are vps sps pps size segments a b c h =
    let both : Size × Bool = (size, segments) in
    let first = went (in_set 0 (read_fixed_set 0x40 vps_fields 17 vps)) (λ _. in_set 1 (read_sps sps) >>- λ s. in_set 2 (read_pps s pps) >>- λ g. Ok (s, g)) both h in
    let second = went (in_set 1 (read_sps sps)) (λ s. in_set 2 (read_pps s pps) >>- λ g. Ok (s, g)) both first.then in
    let third = went (in_set 2 (read_pps second.value pps)) (λ g. Ok (second.value, g)) both second.then in
    let same_both : (second.value, third.value) ≡ both = let x = third.then in cc in
    let same : second.value ≡ size = ap (λ (p : Size × Bool). p.0) same_both in
    let same_flag : third.value ≡ segments = ap (λ (p : Size × Bool). p.1) same_both in
    let is-vps = fixed_set_is 0x40 17 vps_fields vps a (told 0 (read_fixed_set 0x40 vps_fields 17 vps) tt first.first) in
    let is-sps = sps_is sps second.value b (told 1 (read_sps sps) second.value second.first) ∙ ap (λ s. set_unit 0x42 (sps_fields s)) same in
    let is-pps = pps_is second.value pps third.value c (told 2 (read_pps second.value pps) third.value third.first) in
    let is-pps' = is-pps.0 ∙ ap (λ s. set_unit 0x44 (pps_fields s)) same_flag in (
      ap (λ (v : NalUnit). v ∷ sps ∷ pps ∷ []) is-vps ∙ (ap (λ (v : NalUnit). set_unit 0x40 vps_fields ∷ v ∷ pps ∷ []) is-sps ∙ ap (λ (v : NalUnit). set_unit 0x40 vps_fields ∷ set_unit 0x42 (sps_fields size) ∷ v ∷ []) is-pps'),
      λ w. subst (λ (s : Size). 32 < coded s.w) same (is-pps.1 (same_flag ∙ w)),
    )

pub read_params-is : EachSizeIsSpelled
unfolding read_params
read_params-is [] size segments are h = absurd (cc)
read_params-is (a ∷ []) size segments are h = absurd (cc)
read_params-is (a ∷ b ∷ []) size segments are h = absurd (cc)
read_params-is (vps ∷ sps ∷ pps ∷ []) size segments are h = three_are vps sps pps size segments are.0 are.1.0 are.1.1.0 h
read_params-is (a ∷ b ∷ c ∷ d ∷ us) size segments are h = absurd (cc)
