-- The slice of a picture's units is read, and then the picture.
use Rattle.std.proofs.Common.{◌≡◌, refl, sym, ◌∙◌, ap, subst, ℕ, zero, suc, ◌+◌, ◌-◌, ◌*◌, ◌^◌, ◌<◌, ◌≤◌, List, [], ◌∷◌, ◌++◌, Bool, true, false, cond, length, drop, map, take, append_assoc, append-nil, arith}
use Rattle.std.specs.Prelude.{Option, Some, None, Ok, Result}
use Rattle.std.specs.List.{AllByRecursion, flat_map, range_with_len}
use Rattle.std.proofs.lemmas.Bool.{cond-true}
use Rattle.std.proofs.lemmas.List.{length-map}
use Rattle.std.proofs.lemmas.List.FromFn.{length-map-range_with_len}
use Rattle.h265_model.specs.declared.leaf.SliceKind.{SliceKind}
use Rattle.h265_model.specs.declared.moves.MoveLeaf.{MoveLeaf}
use Rattle.h265_model.specs.Plain.{Size, Picture, ctus, below}
use Rattle.h265_model.specs.Bits.{bytes, ◌>>=◌ as and_then}
use Rattle.h265_model.specs.Raster.{planes}
use Rattle.h265_model.specs.NalUnits.{NalUnit, IsNalUnit, escape, start_code, nal_unit_bytes}
use Rattle.h265_model.specs.SliceHead.{Head, IsHead, head_bits, read_head}
use Rattle.h265_model.specs.Contexts.{row_start}
use Rattle.h265_model.specs.Tree.{moving, Source, IsSource}
use Rattle.h265_model.specs.Stream.{slice_kind, nal_header, but_last, slice_piece}
use Rattle.h265_model.specs.Decode.{Decoded, ok_of}
use Rattle.h265_model.specs.Motion.{Moving}
use Rattle.h265_model.specs.Tree.{ReadUnit, ReadCtu, units_of, units_after, moving_of}
use Rattle.h265_model.specs.Slice.{row_code, contexts_at, slice_row_read, row_of_bytes, handed_on, rows_read, slice_read}
use Rattle.h265_model.specs.Rebuild.{rebuild}
use Rattle.h265_model.specs.Tree.{move_unit, coded_first}
use Rattle.h265_model.specs.Decode.{Stand, referred, is_next, whole, slice_step, step}
use Rattle.h265_model.proofs.ListParts.{drop_front}
use Rattle.h265_laws.proofs.EndsLaw.{Ends, code_ends, ends_some, ends_append, ends_well, escape_append, escape_rows, rows_end}
use Rattle.h265_laws.proofs.PictureLaw.{IsFit}
use Rattle.h265_laws.proofs.HeadLaws.{read_head-head_bits}
use Rattle.h265_laws.proofs.SliceLaw.{rows_fit, substreams_cut}
use Rattle.h265_laws.proofs.StreamLaw.{some_escaped, length_but_last, map_map, head_ends}
use Rattle.stream_laws.proofs.OldStreams.{now_whole}
use Rattle.stream_laws.proofs.StreamForm.{two_bytes}
use Rattle.unit_laws.specs.Laws.{AreLawfulUnits}
use Rattle.unit_laws.proofs.Coded.{IsCoded}
use Rattle.unit_laws.proofs.UnitRows.{row_values, read_first, coded_is, row_read_on, row_is_read, contexts_are, next_start, slice_row}
use Rattle.unit_laws.proofs.UnitForm.{AllUnitsHaveSides, lawful_sides, slice_form}
use Rattle.unit_laws.proofs.UnitLength.{entry_fits}

-- ---- a slice of rows

abbrev pub head_of : Bool → ℕ → List (List ℕ) → Head
head_of idr poc rows = record { idr = idr; poc = poc; offsets = map length (but_last (map escape rows)) }

abbrev pub slice_unit : Bool → ℕ → List (List ℕ) → NalUnit
slice_unit idr poc rows = record { header = nal_header idr; rbsp = bytes (head_bits (head_of idr poc rows)) ++ flat_map (λ r. r) rows }

-- a picture's piece is its NAL unit
pub piece_is_unit : (idr : Bool) (poc : ℕ) (code : ℕ → List ℕ) (rows : List ℕ) → AllByRecursion Ends (map code rows) → slice_piece idr poc (map (λ row. escape (code row)) rows) ≡ nal_unit_bytes (slice_unit idr poc (map code rows))
unfolding slice_piece
piece_is_unit idr poc code rows each =
    let list : List (List ℕ) = map code rows in
    let front : List ℕ = bytes (head_bits (head_of idr poc list)) in
    let whole : escape (front ++ flat_map (λ r. r) list) ≡ escape front ++ flat_map (λ r. r) (map escape list) =
    escape_append 255 255 front (flat_map (λ r. r) list) (head_ends (head_of idr poc list)) ∙ ap (λ (l : List ℕ). escape front ++ l) (escape_rows list each) in
    ap (λ (es : List (List ℕ)). ((start_code ++ nal_header idr) ++ escape (bytes (head_bits (record { idr = idr; poc = poc; offsets = map length (but_last es) })))) ++ flat_map (λ r. r) es) (map_map code rows)
    ∙ (append_assoc (start_code ++ nal_header idr) (escape front) (flat_map (λ r. r) (map escape list)) ∙ ap (λ (l : List ℕ). (start_code ++ nal_header idr) ++ l) (sym whole))

unit_is : (idr : Bool) (poc : ℕ) (row : List ℕ) (rows : List (List ℕ)) → AllByRecursion Ends (row ∷ rows) → IsNalUnit (slice_unit idr poc (row ∷ rows))
unit_is idr poc row rows each =
    let front : List ℕ = bytes (head_bits (head_of idr poc (row ∷ rows))) in
    record { header = two_bytes idr; ends = ends_well (front ++ flat_map (λ r. r) (row ∷ rows)) (ends_append front (flat_map (λ r. r) (row ∷ rows)) (rows_end row rows each)) }

-- ---- a picture

abbrev pub codes_of : Size → Bool → Source → List (List MoveLeaf) → ℕ → List ℕ
codes_of size idr source units row = row_code (slice_kind idr) (moving (move_unit (slice_kind idr) source)) size units row

abbrev pub rows_of : Size → Bool → Source → List (List MoveLeaf) → List (List ℕ)
rows_of size idr source units = map (codes_of size idr source units) (below (ctus size.h))

-- each row ends in a byte other than 0
module _ (size : Size) (idr : Bool) (source : Source) (units : List (List MoveLeaf)) (fit : IsFit size) (source_is : IsSource source) (many : length units ≡ ctus size.w * ctus size.h)
    (lawful : AreLawfulUnits (slice_kind idr) size units (ctus size.w * ctus size.h)) where
  each_row_ends : (row : ℕ) → row < ctus size.h → Ends (codes_of size idr source units row)
  each_row_ends row less = code_ends _ _ (slice_form (slice_kind idr) size source source_is units row (lawful_sides (slice_kind idr) size units (ctus size.w * ctus size.h) many lawful) fit.wide less)

  ends_from : (a n : ℕ) → a + n ≤ ctus size.h → AllByRecursion Ends (map (codes_of size idr source units) (range_with_len a n))
  ends_from a zero h = tt
  ends_from a (suc n) h = (each_row_ends a (omega arith), ends_from (a + 1) n (omega arith))

  pub rows_end_well : AllByRecursion Ends (rows_of size idr source units)
  rows_end_well = ends_from 0 (ctus size.h) (omega arith)

  pub slice_is_unit : (poc : ℕ) → IsNalUnit (slice_unit idr poc (rows_of size idr source units))
  slice_is_unit poc = go (ctus size.h) fit.high rows_end_well
    where
      go : (h : ℕ) → 0 < h → AllByRecursion Ends (map (codes_of size idr source units) (below h)) → IsNalUnit (slice_unit idr poc (map (codes_of size idr source units) (below h)))
      go zero some each = absurd (omega arith)
      go (suc h) some each = unit_is idr poc (codes_of size idr source units 0) (map (codes_of size idr source units) (range_with_len (0 + 1) h)) each

-- its slice is read
module _ (size : Size) (idr : Bool) (poc : ℕ) (source : Source) (units : List (List MoveLeaf)) (last : Option Decoded) (now : Picture) (is : IsCoded size idr poc source units last now) where
  abbrev codes : ℕ → List ℕ
  codes row = codes_of size idr source units row

  abbrev rows : List (List ℕ)
  rows = rows_of size idr source units

  values : ℕ → List ReadCtu
  values row = row_values (slice_kind idr) size source units row

  sides : AllUnitsHaveSides units
  sides = lawful_sides (slice_kind idr) size units (ctus size.w * ctus size.h) is.many is.lawful

  row_ends : (row : ℕ) → row < ctus size.h → Ends (codes row)
  row_ends row less = each_row_ends size idr source units is.fit is.source_is is.many is.lawful row less

  offsets_are : (a n k : ℕ) → a + n ≤ ctus size.h → AllByRecursion (λ o. (0 < o) × (o < 2 ^ 32)) (map length (take k (map escape (map codes (range_with_len a n)))))
  offsets_are a n zero h = tt
  offsets_are a zero (suc k) h = tt
  offsets_are a (suc n) (suc k) h =
      ((some_escaped _ (ends_some _ (row_ends a (omega arith))), entry_fits (slice_kind idr) size source is.source_is units a _ sides is.fit.narrow), offsets_are (a + 1) n k (omega arith))

  rows_number : length (map length (but_last (map escape rows))) + 1 ≡ ctus size.h
  rows_number =
      let some : 0 < ctus size.h = is.fit.high in
      let many : length (map escape rows) ≡ ctus size.h = length-map rows escape ∙ length-map-range_with_len codes 0 (ctus size.h) in
      let one : length (map escape rows) ≡ suc (ctus size.h - 1) = omega arith in
      ap (λ (n : ℕ). n + 1) (length-map (but_last (map escape rows)) length) ∙ (length_but_last (map escape rows) (ctus size.h - 1) one ∙ many)

  head_is : IsHead (head_of idr poc rows)
  head_is = record {
    poc = is.small;
    idr = is.zero_at;
    offsets = offsets_are 0 (ctus size.h) _ (omega arith);
    fewer = (let n : length (map length (but_last (map escape rows))) + 1 ≡ ctus size.h = rows_number in let l : ctus size.h ≤ 128 = is.fit.low in omega arith);
  }

  -- ---- rows

  map-after : (a b : List ReadUnit) → map moving_of (a ++ b) ≡ map moving_of a ++ map moving_of b
  map-after [] b = refl
  map-after (u ∷ a) b = ap (λ (l : List Moving). moving_of u ∷ l) (map-after a b)

  -- what stands before the next row
  next_before : (row : ℕ) → units_after (coded_first units (row * ctus size.w)) (units_of (values row)) ≡ coded_first units ((row + 1) * ctus size.w)
  unfolding values
  next_before row =
      let w : ℕ = ctus size.w in
      let read : List ReadUnit = units_of (row_values (slice_kind idr) size source units row) in
      ap (λ (b : List Moving). b ++ map moving_of read) (sym (coded_is source units (row * w)))
      ∙ (sym (map-after (read_first source units (row * w)) read)
      ∙ (ap (map moving_of) (row_read_on (slice_kind idr) size source units row) ∙ coded_is source units ((row + 1) * w)))

  one_row : (row : ℕ) (handed : List ℕ) → row < ctus size.h
      → row_start (slice_kind idr) (ctus size.w) row handed ≡ contexts_at (slice_kind idr) (moving (move_unit (slice_kind idr) source)) size units row
      → row_of_bytes (slice_row_read (slice_kind idr) size row (coded_first units (row * ctus size.w))) (row_start (slice_kind idr) (ctus size.w) row handed) (codes row) ≡ Some (values row)
  unfolding values
  one_row row handed less starts =
      let kind : SliceKind = slice_kind idr in
      let c : List ℕ = contexts_at kind (moving (move_unit kind source)) size units row in
      ap (λ (d : List ℕ). row_of_bytes (slice_row_read kind size row (coded_first units (row * ctus size.w))) d (codes row)) starts
      ∙ row_is_read (slice_row_read kind size row (coded_first units (row * ctus size.w))) _ c _ (slice_form kind size source is.source_is units row sides is.fit.wide less) (contexts_are kind (move_unit kind source) size units row)
      (slice_row kind size source units row (ctus size.w * ctus size.h) (rows_fit row (ctus size.w) (ctus size.h) less) is.lawful is.source_is)

  next_row : (row : ℕ) → row_start (slice_kind idr) (ctus size.w) (suc row) (handed_on (values row)) ≡ contexts_at (slice_kind idr) (moving (move_unit (slice_kind idr) source)) size units (suc row)
  unfolding values
  next_row row = next_start (slice_kind idr) size source units row

  units_from_row : ℕ → ℕ → List ReadUnit
  units_from_row row zero = []
  units_from_row row (suc n) = units_of (values row) ++ units_from_row (row + 1) n

  rows_are_read : (n row : ℕ) (handed : List ℕ) → row + n ≤ ctus size.h
      → row_start (slice_kind idr) (ctus size.w) row handed ≡ contexts_at (slice_kind idr) (moving (move_unit (slice_kind idr) source)) size units row
      → rows_read (slice_kind idr) size row (coded_first units (row * ctus size.w)) handed (map codes (range_with_len row n)) ≡ Some (units_from_row row n)
  unfolding rows_read units_from_row
  rows_are_read zero row handed fits starts = refl
  rows_are_read (suc n) row handed fits starts =
      let kind : SliceKind = slice_kind idr in
      let before : List Moving = coded_first units (row * ctus size.w) in
      let more : List (List ℕ) = map codes (range_with_len (row + 1) n) in
      let one_more : row + 1 ≡ suc row = omega arith in
      let next : row_start kind (ctus size.w) (row + 1) (handed_on (values row)) ≡ contexts_at kind (moving (move_unit kind source)) size units (row + 1) =
      subst (λ (r : ℕ). row_start kind (ctus size.w) r (handed_on (values row)) ≡ contexts_at kind (moving (move_unit kind source)) size units r) (sym one_more) (next_row row) in
      ap (λ (o : Option (List ReadCtu)). and_then o (λ read. and_then (rows_read kind size (row + 1) (units_after before (units_of read)) (handed_on read) more) (λ others. Some (units_of read ++ others)))) (one_row row handed (omega arith) starts)
      ∙ (ap (λ (b : List Moving). and_then (rows_read kind size (row + 1) b (handed_on (values row)) more) (λ others. Some (units_of (values row) ++ others))) (next_before row)
      ∙ ap (λ (o : Option (List ReadUnit)). and_then o (λ others. Some (units_of (values row) ++ others))) (rows_are_read n (row + 1) (handed_on (values row)) (omega arith) next))

  rows_units : (n row : ℕ) → read_first source units (row * ctus size.w) ++ units_from_row row n ≡ read_first source units ((row + n) * ctus size.w)
  unfolding units_from_row values
  rows_units zero row = append-nil (read_first source units (row * ctus size.w)) ∙ (let e : row ≡ row + 0 = omega arith in ap (λ (k : ℕ). read_first source units (k * ctus size.w)) e)
  rows_units (suc n) row =
      let f : (row + 1) + n ≡ row + suc n = omega arith in
      sym (append_assoc (read_first source units (row * ctus size.w)) (units_of (values row)) (units_from_row (row + 1) n))
      ∙ (ap (λ (l : List ReadUnit). l ++ units_from_row (row + 1) n) (row_read_on (slice_kind idr) size source units row)
      ∙ (rows_units n (row + 1) ∙ ap (λ (k : ℕ). read_first source units (k * ctus size.w)) f))

  -- ---- the slice

  all_units : units_from_row 0 (ctus size.h) ≡ read_first source units (ctus size.w * ctus size.h)
  all_units =
      let none : 0 * ctus size.w ≡ 0 = omega arith in
      let all : (0 + ctus size.h) * ctus size.w ≡ ctus size.w * ctus size.h = turned (ctus size.h) (ctus size.w) in
      ap (λ (k : ℕ). read_first source units k ++ units_from_row 0 (ctus size.h)) (sym none) ∙ (rows_units (ctus size.h) 0 ∙ ap (read_first source units) all)
    where
      turned : (a b : ℕ) → (0 + a) * b ≡ b * a
      turned a b = omega arith

  data_is_read : slice_read (slice_kind idr) size (head_of idr poc rows).offsets (flat_map (λ r. r) rows) ≡ Some (read_first source units (ctus size.w * ctus size.h))
  unfolding row_start contexts_at
  data_is_read = go (ctus size.h) is.fit.high refl ∙ ap (λ (l : List ReadUnit). Some l) all_units
    where
      none : 0 * ctus size.w ≡ 0
      none = omega arith

      go : (h : ℕ) → 0 < h → h ≡ ctus size.h
          → slice_read (slice_kind idr) size (map length (but_last (map escape (map codes (below h))))) (flat_map (λ r. r) (map codes (below h))) ≡ Some (units_from_row 0 h)
      go zero p e = absurd (omega arith)
      go (suc h) p e =
          ap (λ (o : Option (List (List ℕ))). and_then o (λ rs. rows_read (slice_kind idr) size 0 [] [] rs)) (substreams_cut (codes 0) (map codes (range_with_len (0 + 1) h)))
          ∙ (ap (λ (k : ℕ). rows_read (slice_kind idr) size 0 (coded_first units k) [] (map codes (below (suc h)))) (sym none)
          ∙ rows_are_read (suc h) 0 [] (omega arith) refl)

  abbrev pub decoded : Decoded
  decoded = record { poc = poc; planes = planes size now }

  step_is : (b : Bool) (stand : Stand) (rbsp : List ℕ) → step size false stand (record { header = nal_header b; rbsp = rbsp }) ≡ slice_step size b stand rbsp
  unfolding step
  step_is true stand rbsp = refl
  step_is false stand rbsp = refl

  slice_is_read : (stand : Stand) → stand.last ≡ last → slice_step size idr stand (slice_unit idr poc rows).rbsp ≡ Some (now_whole decoded)
  unfolding slice_step
  slice_is_read stand l =
      let kind : SliceKind = slice_kind idr in
      let head : Head = head_of idr poc rows in
      let front : List ℕ = bytes (head_bits head) in
      let data' : List ℕ = flat_map (λ r. r) rows in
      let all : List ReadUnit = read_first source units (ctus size.w * ctus size.h) in
      let read : read_head (front ++ data') idr (ctus size.h) ≡ Ok (head, length front) =
      ap (λ (n : ℕ). read_head (front ++ data') idr n) (sym rows_number) ∙ read_head-head_bits head data' head_is in
      let ending : Head → List ReadUnit → Option Stand = λ found us. cond (is_next idr stand.last found.poc) (whole size stand idr found.poc us) None in
      let made : Picture → Option Stand = λ prev. Some (record { last = Some (record { poc = poc; planes = rebuild size prev all }); begun = None; ended = true }) in
      ap (λ (r : Result (Head × ℕ) ℕ). and_then (ok_of r) (λ found. and_then (slice_read kind size found.0.offsets (drop found.1 (front ++ data'))) (ending found.0))) read
      ∙ (ap (λ (b : List ℕ). and_then (slice_read kind size head.offsets b) (ending head)) (drop_front front data')
      ∙ (ap (λ (o : Option (List ReadUnit)). and_then o (ending head)) data_is_read
      ∙ (cond-true (is_next idr stand.last poc) _ _ (ap (λ (o : Option Decoded). is_next idr o poc) l ∙ is.comes_next)
      ∙ (ap (λ (o : Option Decoded). and_then (referred idr o size) made) l
      ∙ (ap (λ (o : Option Picture). and_then o made) is.is_referred
      ∙ ap (λ (ps : List (List ℕ)). Some (now_whole (record { poc = poc; planes = ps }))) is.rebuilt)))))

  -- the picture is read
  pub picture_is_read : (stand : Stand) → stand.last ≡ last → step size false stand (slice_unit idr poc rows) ≡ Some (now_whole decoded)
  picture_is_read stand l = step_is idr stand (slice_unit idr poc rows).rbsp ∙ slice_is_read stand l
