-- The segments of a picture's rows are read, one after another, and then the picture.
use Rattle.std.proofs.Common.{◌≡◌, refl, sym, ◌∙◌, ap, subst, ℕ, zero, suc, ◌+◌, ◌*◌, ◌^◌, ◌<◌, ◌≤◌, List, [], ◌∷◌, ◌++◌, Bool, true, false, length, drop, map, arith}
use Rattle.std.specs.Prelude.{Option, Some, None, Ok, Err, Result, ◌==◌}
use Rattle.std.specs.List.{range_with_len}
use Rattle.std.proofs.lemmas.Bool.{cond-true, cond-false, eq-eqb, ne_eqb}
use Rattle.std.specs.Bool.{beq}
use Rattle.std.proofs.lemmas.Nat.{mul-le}
use Rattle.h265_model.specs.declared.leaf.SliceKind.{SliceKind}
use Rattle.h265_model.specs.declared.moves.MoveLeaf.{MoveLeaf}
use Rattle.h265_model.specs.Plain.{Size, Picture, ctus}
use Rattle.h265_model.specs.Bits.{bytes, ◌>>=◌ as and_then}
use Rattle.h265_model.specs.Bits.{◌>>-◌}
use Rattle.h265_model.specs.Raster.{Raster, planes, crop}
use Rattle.h265_model.specs.NalUnits.{NalUnit}
use Rattle.h265_model.specs.SliceHead.{segment_bits, read_segment_head}
use Rattle.h265_model.specs.Contexts.{row_start}
use Rattle.h265_model.specs.Tree.{moving, Source}
use Rattle.h265_model.specs.Motion.{Moving}
use Rattle.h265_model.specs.Stream.{slice_kind, nal_header}
use Rattle.h265_model.specs.Decode.{Decoded, decoded_picture, ok_of}
use Rattle.h265_model.specs.Tree.{ReadUnit, ReadCtu, units_of, moving_of}
use Rattle.h265_model.specs.Slice.{segment_code, contexts_at, segment_row_read, row_of_bytes, segment_read, handed_on}
use Rattle.h265_model.specs.Rebuild.{rebuild}
use Rattle.h265_model.specs.Tree.{move_unit, coded_first}
use Rattle.h265_model.specs.Decode.{Begun, Stand, referred, is_next, before_segment, next_row, after_segment, segment_step, step, read_units}
use Rattle.h265_model.proofs.ListParts.{drop_front}
use Rattle.h265_laws.proofs.SliceLaw.{rows_fit}
use Rattle.stream_laws.proofs.OldStreams.{now_whole}
use Rattle.stream_laws.proofs.StreamForm.{one_step}
use Rattle.unit_laws.proofs.UnitRows.{row_values, read_first, coded_is, row_read_on, row_is_read, contexts_are, next_start, segment_row}
use Rattle.unit_laws.proofs.Coded.{IsCoded}
use Rattle.unit_laws.proofs.UnitForm.{lawful_sides, segment_form}
use Rattle.segment_laws.specs.Laws.{order_told}
use Rattle.segment_laws.proofs.SegmentLaw.{segment_heads_are_read}

-- ---- a row's NAL unit

abbrev pub row_unit : Size → Bool → ℕ → (ℕ → List ℕ) → ℕ → NalUnit
row_unit size idr poc codes row = record {
  header = nal_header idr;
  rbsp = bytes (segment_bits idr poc (row * ctus size.w) (ctus size.w * ctus size.h)) ++ codes row;
}

same_bit : (b : Bool) → beq b b ≡ true
same_bit true = refl
same_bit false = refl

-- ---- a picture

module _ (size : Size) (idr : Bool) (poc : ℕ) (source : Source) (units : List (List MoveLeaf)) (last : Option Decoded) (now : Picture) (is : IsCoded size idr poc source units last now) where
  abbrev pub codes : ℕ → List ℕ
  codes row = segment_code (slice_kind idr) (moving (move_unit (slice_kind idr) source)) size units row

  begun_at : ℕ → List ℕ → Begun
  begun_at row handed = record { idr = idr; poc = poc; row = row; units = read_first source units (row * ctus size.w); handed = handed }

  values : ℕ → List ReadCtu
  values row = row_values (slice_kind idr) size source units row

  -- what stands before the segment of a row
  record StandsAt (row : ℕ) (stand : Stand) : Type 0 where
    handed : List ℕ
    last_is : stand.last ≡ last
    next : next_row stand.begun ≡ row
    begun : before_segment idr stand (order_told (row * ctus size.w) poc) ≡ Some (begun_at row handed)
    starts : row_start (slice_kind idr) (ctus size.w) row handed ≡ contexts_at (slice_kind idr) (moving (move_unit (slice_kind idr) source)) size units row

  -- a segment's data is read
  data_is_read : (row : ℕ) (handed : List ℕ) → row < ctus size.h
      → row_start (slice_kind idr) (ctus size.w) row handed ≡ contexts_at (slice_kind idr) (moving (move_unit (slice_kind idr) source)) size units row
      → segment_read (slice_kind idr) size row (map moving_of (read_first source units (row * ctus size.w))) handed (codes row) ≡ Some (values row)
  unfolding values
  data_is_read row handed less starts =
      let kind : SliceKind = slice_kind idr in
      let c : List ℕ = contexts_at kind (moving (move_unit kind source)) size units row in
      ap (λ (b : List Moving). row_of_bytes (segment_row_read kind size row b) (row_start kind (ctus size.w) row handed) (codes row)) (coded_is source units (row * ctus size.w))
      ∙ (ap (λ (d : List ℕ). row_of_bytes (segment_row_read kind size row (coded_first units (row * ctus size.w))) d (codes row)) starts
      ∙ row_is_read (segment_row_read kind size row (coded_first units (row * ctus size.w))) _ c _
      (segment_form kind size source is.source_is units row (lawful_sides kind size units (ctus size.w * ctus size.h) is.many is.lawful) is.fit.wide)
      (contexts_are kind (move_unit kind source) size units row)
      (segment_row kind size source units row (ctus size.w * ctus size.h) (rows_fit row (ctus size.w) (ctus size.h) less) is.lawful is.source_is))

  address_less : (row : ℕ) → row < ctus size.h → row * ctus size.w < ctus size.w * ctus size.h
  address_less row less =
      let a : row * ctus size.w + ctus size.w ≤ ctus size.w * ctus size.h = rows_fit row (ctus size.w) (ctus size.h) less in
      let w : 0 < ctus size.w = is.fit.wide in
      omega arith

  few_ctus : ctus size.w * ctus size.h ≤ 2 ^ 32
  few_ctus =
      let n : ctus size.w ≤ 128 = is.fit.narrow in
      let l : ctus size.h ≤ 128 = is.fit.low in
      product (ctus size.w) (ctus size.h) n l
    where
      product : (a b : ℕ) → a ≤ 128 → b ≤ 128 → a * b ≤ 2 ^ 32
      product a b ha hb = let h : a * b ≤ 128 * 128 = mul-le a b 128 128 ha hb in omega arith

  row_step : (row : ℕ) (stand : Stand) → row < ctus size.h → (at : StandsAt row stand)
      → segment_step size idr stand (row_unit size idr poc codes row).rbsp ≡ after_segment size stand (begun_at (row + 1) (handed_on (values row)))
  unfolding segment_step begun_at values
  row_step row stand less at =
      let w : ℕ = ctus size.w in
      let total : ℕ = ctus size.w * ctus size.h in
      let kind : SliceKind = slice_kind idr in
      let front : List ℕ = bytes (segment_bits idr poc (row * w) total) in
      let data' : List ℕ = codes row in
      let after : Begun → List ReadCtu → Option Stand = λ begun read. after_segment size stand (record begun { row = begun.row + 1; units = begun.units ++ units_of read; handed = handed_on read }) in
      let rest : ℕ × ℕ → Option Stand = λ head. and_then (before_segment idr stand head.0) (λ begun. and_then (segment_read kind size begun.row (map moving_of begun.units) begun.handed (drop head.1 (front ++ data'))) (after begun)) in
      let head : read_segment_head (front ++ data') idr (row * w) total ≡ Ok (order_told (row * w) poc, length front) =
      segment_heads_are_read idr poc (row * w) total data' is.small is.zero_at (address_less row less) few_ctus in
      ap (λ (k : ℕ). and_then (ok_of (read_segment_head (front ++ data') idr (k * w) total)) rest) at.next
      ∙ (ap (λ (r : Result (ℕ × ℕ) ℕ). and_then (ok_of r) rest) head
      ∙ (ap (λ (o : Option Begun). and_then o (λ begun. and_then (segment_read kind size begun.row (map moving_of begun.units) begun.handed (drop (length front) (front ++ data'))) (after begun))) at.begun
      ∙ (ap (λ (l : List ℕ). and_then (segment_read kind size row (map moving_of (read_first source units (row * w))) at.handed l) (after (begun_at row at.handed))) (drop_front front data')
      ∙ (ap (λ (o : Option (List ReadCtu)). and_then o (after (begun_at row at.handed))) (data_is_read row at.handed less at.starts)
      ∙ ap (λ (us : List ReadUnit). after_segment size stand (record { idr = idr; poc = poc; row = row + 1; units = us; handed = handed_on (values row) })) (row_read_on kind size source units row)))))

  -- ---- the next row

  stand_after : ℕ → Option Decoded → Stand
  stand_after row l = record { last = l; begun = Some (begun_at (row + 1) (handed_on (values row))); ended = false }

  goes_on : (row : ℕ) (stand : Stand) → stand.last ≡ last → StandsAt (row + 1) (stand_after row stand.last)
  unfolding stand_after values begun_at
  goes_on row stand e =
      let one_more : row + 1 ≡ suc row = omega arith in
      record {
        handed = handed_on (values row);
        last_is = e;
        next = refl;
        begun = cond-true (beq idr idr) (Some (begun_at (row + 1) (handed_on (values row)))) None (same_bit idr);
        starts =
            subst (λ (r : ℕ). row_start (slice_kind idr) (ctus size.w) r (handed_on (values row)) ≡ contexts_at (slice_kind idr) (moving (move_unit (slice_kind idr) source)) size units r) (sym one_more)
            (next_start (slice_kind idr) size source units row);
      }

  abbrev pub decoded : Decoded
  decoded = record { poc = poc; planes = planes size now }

  -- the last row ends the picture
  ends : (row : ℕ) (stand : Stand) (handed : List ℕ) → row + 1 ≡ ctus size.h → stand.last ≡ last → after_segment size stand (begun_at (row + 1) handed) ≡ Some (now_whole decoded)
  unfolding begun_at
  ends row stand handed e l =
      let all : (row + 1) * ctus size.w ≡ ctus size.w * ctus size.h = ap (λ (n : ℕ). n * ctus size.w) e ∙ turned (ctus size.h) (ctus size.w) in
      let made : List ReadUnit → Picture → Option Stand = λ us prev. Some (record { last = Some (record { poc = poc; planes = rebuild size prev us }); begun = None; ended = true }) in
      cond-true (row + 1 == ctus size.h) _ _ (eq-eqb (row + 1) (ctus size.h) e)
      ∙ (ap (λ (o : Option Decoded). and_then (referred idr o size) (made (read_first source units ((row + 1) * ctus size.w)))) l
      ∙ (ap (λ (o : Option Picture). and_then o (made (read_first source units ((row + 1) * ctus size.w)))) is.is_referred
      ∙ (ap (λ (k : ℕ). made (read_first source units k) is.prev) all
      ∙ ap (λ (ps : List (List ℕ)). Some (now_whole (record { poc = poc; planes = ps }))) is.rebuilt)))
    where
      turned : (a b : ℕ) → a * b ≡ b * a
      turned a b = omega arith

  continues : (row : ℕ) (stand : Stand) → row + 1 < ctus size.h → after_segment size stand (begun_at (row + 1) (handed_on (values row))) ≡ Some (stand_after row stand.last)
  unfolding begun_at stand_after
  continues row stand less = cond-false (row + 1 == ctus size.h) _ _ (ne_eqb (row + 1) (ctus size.h) (λ e. omega arith))

  -- ---- all rows

  step_is : (b : Bool) (stand : Stand) (rbsp : List ℕ) → step size true stand (record { header = nal_header b; rbsp = rbsp }) ≡ segment_step size b stand rbsp
  unfolding step
  step_is true stand rbsp = refl
  step_is false stand rbsp = refl

  shown_none : (r : Result (List Raster) ℕ) → (r >>- λ others. Ok ([] ++ others)) ≡ r
  shown_none (Ok others) = refl
  shown_none (Err n) = refl

  rows_are_read : (n row number : ℕ) (stand : Stand) (rest : List NalUnit) → row + suc n ≡ ctus size.h → StandsAt row stand
      → read_units size true number stand (map (row_unit size idr poc codes) (range_with_len row (suc n)) ++ rest)
      ≡ (read_units size true (number + suc n) (now_whole decoded) rest >>- λ others. Ok (crop size (decoded_picture size decoded) ∷ others))
  unfolding stand_after
  rows_are_read zero row number stand rest e at =
      let unit : NalUnit = row_unit size idr poc codes row in
      let last_row : row + 1 ≡ ctus size.h = omega arith in
      one_step size true number stand (now_whole decoded) unit rest
      (step_is idr stand unit.rbsp ∙ (row_step row stand (omega arith) at ∙ ends row stand (handed_on (values row)) last_row at.last_is))
  rows_are_read (suc n) row number stand rest e at =
      let unit : NalUnit = row_unit size idr poc codes row in
      let others : List NalUnit = map (row_unit size idr poc codes) (range_with_len (row + 1) (suc n)) ++ rest in
      let after : Stand = stand_after row stand.last in
      let count : number + 1 + suc n ≡ number + suc (suc n) = omega arith in
      one_step size true number stand after unit others
      (step_is idr stand unit.rbsp ∙ (row_step row stand (omega arith) at ∙ continues row stand (omega arith)))
      ∙ (shown_none (read_units size true (number + 1) after others)
      ∙ (rows_are_read n (row + 1) (number + 1) after rest (omega arith) (goes_on row stand at.last_is)
      ∙ ap (λ (k : ℕ). read_units size true k (now_whole decoded) rest >>- λ os. Ok (crop size (decoded_picture size decoded) ∷ os)) count))

  at_start : (stand : Stand) → stand.begun ≡ None → stand.last ≡ last → StandsAt 0 stand
  unfolding begun_at row_start contexts_at
  at_start stand b l =
      let none : 0 * ctus size.w ≡ 0 = omega arith in
      let at_row : List ReadUnit → Begun = λ us. record { idr = idr; poc = poc; row = 0; units = us; handed = [] } in
      record {
        handed = [];
        last_is = l;
        next = ap next_row b;
        begun =
            ap (λ (k : ℕ). before_segment idr stand (order_told k poc)) none
            ∙ (ap (λ (o : Option Begun). before_segment idr (record { last = stand.last; begun = o; ended = stand.ended }) poc) b
            ∙ (cond-true (is_next idr stand.last poc) (Some (at_row [])) None (ap (λ (o : Option Decoded). is_next idr o poc) l ∙ is.comes_next)
            ∙ ap (λ (k : ℕ). Some (at_row (read_first source units k))) (sym none)));
        starts = refl;
      }

  -- the picture is read
  pub picture_is_read : (number : ℕ) (stand : Stand) (rest : List NalUnit) → stand.begun ≡ None → stand.last ≡ last
      → read_units size true number stand (map (row_unit size idr poc codes) (range_with_len 0 (ctus size.h)) ++ rest)
      ≡ (read_units size true (number + ctus size.h) (now_whole decoded) rest >>- λ others. Ok (crop size (decoded_picture size decoded) ∷ others))
  picture_is_read number stand rest b l = go (ctus size.h) refl is.fit.high
    where
      go : (h : ℕ) → h ≡ ctus size.h → 0 < h
          → read_units size true number stand (map (row_unit size idr poc codes) (range_with_len 0 h) ++ rest) ≡ (read_units size true (number + h) (now_whole decoded) rest >>- λ others. Ok (crop size (decoded_picture size decoded) ∷ others))
      go zero e some = absurd (omega arith)
      go (suc h) e some = rows_are_read h 0 number stand rest (let z : 0 + suc h ≡ suc h = omega arith in z ∙ e) (at_start stand b l)
