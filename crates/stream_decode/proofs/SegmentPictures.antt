-- A picture of a segment for each row, row by row.
use Rattle.std.proofs.Common.{◌≡◌, ◌≤◌, refl, sym, ◌∙◌, ap, subst, ℕ, zero, suc, ◌+◌, ◌*◌, ◌<◌, Bool, true, false, cond, List, [], ◌∷◌, ◌++◌, drop, map, inl, inr, arith}
use Rattle.std.specs.Prelude.{◌≢◌, ◌⊎◌, ◌==◌, MatchOption, not, Option, Some, None, Result, Ok, Err, bytes_eq}
use Rattle.std.proofs.lemmas.List.{map-append as maps_append}
use Rattle.std.proofs.lemmas.Slice.Eq.{bytes_eq-Decides}
use Rattle.std.proofs.lemmas.Bool.{ne_eqb}
use Rattle.std.proofs.lemmas.Bool.Decides.{eqb_tells}
use Rattle.std.specs.Bool.{beq}
use Rattle.std.specs.Option.{option_eq}
use Rattle.h265_model.specs.declared.leaf.SliceKind.{SliceKind}
use Rattle.h265_model.specs.Plain.{Size, Picture, ctus}
use Rattle.h265_model.specs.Bits.{◌>>=◌ as and_then}
use Rattle.h265_model.specs.Raster.{blank, stored_picture}
use Rattle.h265_model.specs.NalUnits.{NalUnit}
use Rattle.h265_model.specs.Hash.{hash_header}
use Rattle.h265_model.specs.Motion.{Moving}
use Rattle.h265_model.specs.SliceHead.{read_segment_head}
use Rattle.h265_model.specs.Slice.{segment_read, handed_on}
use Rattle.h265_model.specs.Stream.{nal_header, slice_kind}
use Rattle.h265_model.specs.Tree.{ReadUnit, ReadCtu, moving_of, units_of}
use Rattle.h265_model.specs.Rebuild.{rebuild}
use Rattle.h265_model.specs.Decode.{Begun, Stand, Decoded, ok_of, is_next, referred, before_segment, after_segment, next_row, segment_step, hash_step, step}
use Rattle.read_laws.specs.Laws.{IsReadFirst}
use Rattle.read_laws.proofs.ReadRows.{segments_are_lawful}
use Rattle.annexb.specs.Walks.{first_header}
use Rattle.px_plane.specs.Planes.{Planes, planes_of, Stores}
use Rattle.h265_model.specs.Settings.{is_size}
use Rattle.std.specs.Bool.{IsTrue}
use Rattle.px_plane.proofs.Shown.{InLimits, in_limits, stored_at}
use Rattle.pu_code.specs.Cells.{StandsFor}
use Rattle.pu_code.specs.Cells as modes
use Rattle.motion_grid.specs.Cells.{HasMotion}
use Rattle.motion_grid.specs.Cells as motions
use Rattle.unit_read.specs.Units.{AreKept}
use Rattle.slice_read.specs.Slices.{IsHanded, ReadsRowOf, IsRowTaken}
use Rattle.slice_read.proofs.SliceReads.{none_available}
use Rattle.canvas.specs.Drawing.{Pictures, Draws, AreWhole, AreStill}
use Rattle.stream_decode.specs.Readings.{Rest, is_hash_refused, with_shown, rest_of}
use Rattle.stream_decode.specs.Steps.{Units, rest, failing, last_of, between, right_after, after_picture}
use Rattle.stream_decode.specs.Rows.{begun_at, stand_at, after_read, row_step, OpensRow, AreRead, IsRest}
use Rattle.stream_decode.proofs.Decoding.{on_from, unit_first}
use Rattle.stream_decode.proofs.SlicePictures.{are_whole, are_still}

-- ---- the header of a segment

abbrev after_begun : Size → Bool → Stand → List ℕ → Begun → Option Stand
after_begun size idr stand bytes begun =
    and_then (segment_read (slice_kind idr) size begun.row (map moving_of begun.units) begun.handed bytes)
    (λ read. after_segment size stand (record { idr = begun.idr; poc = begun.poc; row = begun.row + 1; units = begun.units ++ units_of read; handed = handed_on read }))

abbrev after_header : Size → Bool → Stand → List ℕ → ℕ × ℕ → Option Stand
after_header size idr stand rbsp head = and_then (before_segment idr stand head.0) (after_begun size idr stand (drop head.1 rbsp))

segment_opens : (size : Size) (idr : Bool) (stand : Stand) (rbsp : List ℕ)
    → segment_step size idr stand rbsp ≡ and_then (ok_of (read_segment_head rbsp idr (next_row stand.begun * ctus size.w) (ctus size.w * ctus size.h))) (after_header size idr stand rbsp)
unfolding segment_step
segment_opens size idr stand rbsp = refl

row_at : (last : Option Decoded) (idr : Bool) (poc row : ℕ) (units : List ReadUnit) (above : List ℕ) → let stand : Stand = stand_at last idr poc row units above in next_row stand.begun ≡ row
row_at last idr poc zero units above = refl
row_at last idr poc (suc row) units above = refl

header_read : (size : Size) (last : Option Decoded) (idr : Bool) (poc row : ℕ) (units : List ReadUnit) (above rbsp : List ℕ) (across rows : ℕ) → across ≡ ctus size.w → rows ≡ ctus size.h
    → segment_step size idr (stand_at last idr poc row units above) rbsp
    ≡ and_then (ok_of (read_segment_head rbsp idr (row * across) (across * rows))) (after_header size idr (stand_at last idr poc row units above) rbsp)
header_read size last idr poc row units above rbsp across rows wide tall =
    let stand : Stand = stand_at last idr poc row units above in
    let over : Result (ℕ × ℕ) ℕ → Option Stand = λ r. and_then (ok_of r) (after_header size idr stand rbsp) in
    segment_opens size idr stand rbsp
    ∙ (ap (λ (n : ℕ). over (read_segment_head rbsp idr (n * ctus size.w) (ctus size.w * ctus size.h))) (row_at last idr poc row units above)
    ∙ (ap (λ (n : ℕ). over (read_segment_head rbsp idr (row * n) (n * ctus size.h))) (sym wide)
    ∙ ap (λ (n : ℕ). over (read_segment_head rbsp idr (row * across) (across * n))) (sym tall)))

pub header_fails : (size : Size) (last : Option Decoded) (idr : Bool) (poc row : ℕ) (units : List ReadUnit) (above rbsp : List ℕ) (across rows field : ℕ) → across ≡ ctus size.w → rows ≡ ctus size.h
    → read_segment_head rbsp idr (row * across) (across * rows) ≡ Err field → segment_step size idr (stand_at last idr poc row units above) rbsp ≡ None
header_fails size last idr poc row units above rbsp across rows field wide tall is =
    header_read size last idr poc row units above rbsp across rows wide tall
    ∙ ap (λ (r : Result (ℕ × ℕ) ℕ). and_then (ok_of r) (after_header size idr (stand_at last idr poc row units above) rbsp)) is

header_is : (size : Size) (last : Option Decoded) (idr : Bool) (poc row : ℕ) (units : List ReadUnit) (above rbsp : List ℕ) (across rows found start : ℕ) → across ≡ ctus size.w → rows ≡ ctus size.h
    → read_segment_head rbsp idr (row * across) (across * rows) ≡ Ok (found, start)
    → segment_step size idr (stand_at last idr poc row units above) rbsp ≡ after_header size idr (stand_at last idr poc row units above) rbsp (found, start)
header_is size last idr poc row units above rbsp across rows found start wide tall is =
    header_read size last idr poc row units above rbsp across rows wide tall
    ∙ ap (λ (r : Result (ℕ × ℕ) ℕ). and_then (ok_of r) (after_header size idr (stand_at last idr poc row units above) rbsp)) is

abbrev first_or : Size → Option Decoded → Bool → ℕ → List ℕ → Bool → Option Stand
first_or size last idr found bytes next = and_then (cond next (Some (begun_at idr found 0 [] [])) None) (after_begun size idr (between last) bytes)

-- another order count in the first row
pub first_refused : (size : Size) (last : Option Decoded) (idr : Bool) (poc row : ℕ) (units : List ReadUnit) (above rbsp : List ℕ) (across rows found start : ℕ) → across ≡ ctus size.w → rows ≡ ctus size.h
    → read_segment_head rbsp idr (row * across) (across * rows) ≡ Ok (found, start) → row ≡ 0 → is_next idr last found ≡ false → segment_step size idr (stand_at last idr poc row units above) rbsp ≡ None
first_refused size last idr poc row units above rbsp across rows found start wide tall is first other =
    header_is size last idr poc row units above rbsp across rows found start wide tall is ∙ go row first
  where
    go : (n : ℕ) → n ≡ 0 → after_header size idr (stand_at last idr poc n units above) rbsp (found, start) ≡ None
    go zero e = ap (first_or size last idr found (drop start rbsp)) other
    go (suc n) e = absurd (cc)

pub first_opened : (size : Size) (last : Option Decoded) (idr : Bool) (poc row : ℕ) (rbsp : List ℕ) (across rows found start : ℕ) → across ≡ ctus size.w → rows ≡ ctus size.h
    → read_segment_head rbsp idr (row * across) (across * rows) ≡ Ok (found, start) → row ≡ 0 → is_next idr last found ≡ true → OpensRow (Some (found, start)) size idr last row poc rbsp
first_opened size last idr poc row rbsp across rows found start wide tall is first next =
    ((λ units above nothing. header_is size last idr poc row units above rbsp across rows found start wide tall is ∙ go row units above first (nothing first)), λ before. next)
  where
    go : (n : ℕ) (units : List ReadUnit) (above : List ℕ) → n ≡ 0 → (units ≡ []) × (above ≡ [])
        → after_header size idr (stand_at last idr poc n units above) rbsp (found, start) ≡ row_step size last idr found n units above (drop start rbsp)
    go zero units above e none =
        ap (first_or size last idr found (drop start rbsp)) next
        ∙ (ap (λ (us : List ReadUnit). row_step size last idr found 0 us [] (drop start rbsp)) (sym none.0)
        ∙ ap (λ (a : List ℕ). row_step size last idr found 0 units a (drop start rbsp)) (sym none.1))
    go (suc n) units above e none = absurd (cc)

pub later_opened : (size : Size) (last : Option Decoded) (idr : Bool) (poc row : ℕ) (rbsp : List ℕ) (across rows found start : ℕ) → across ≡ ctus size.w → rows ≡ ctus size.h
    → read_segment_head rbsp idr (row * across) (across * rows) ≡ Ok (found, start) → 0 < row → OpensRow (Some (poc, start)) size idr last row poc rbsp
later_opened size last idr poc row rbsp across rows found start wide tall is later =
    ((λ units above nothing. header_is size last idr poc row units above rbsp across rows found start wide tall is ∙ go row idr units above later), λ before. before later)
  where
    go : (n : ℕ) (kind : Bool) (units : List ReadUnit) (above : List ℕ) → 0 < n
        → after_header size kind (stand_at last kind poc n units above) rbsp (found, start) ≡ row_step size last kind poc n units above (drop start rbsp)
    go zero kind units above e = absurd (omega arith)
    go (suc n) true units above e = refl
    go (suc n) false units above e = refl

-- ---- the data of a segment

-- what reading them does
abbrev pub Step : SliceKind → Size → ℕ → Option (List ℕ) → Option (Option (List ℕ)) → List ℕ → Pictures → Pictures → modes.Cells → motions.Cells → modes.Cells → motions.Cells → Type 0
Step kind size row given result bytes old new cells vectors cells_now vectors_now =
    (before : List Moving) (above : List ℕ) → IsHanded size row given above → AreKept cells vectors before
    → ReadsRowOf result (segment_read kind size row before above bytes) size row (IsRowTaken (Draws old) (Draws new) size row cells_now vectors_now before)

pub row_refused : (size : Size) (last : Option Decoded) (idr : Bool) (poc row found start : ℕ) (rbsp : List ℕ) (given : Option (List ℕ)) (kind : SliceKind) (old new : Pictures) (cells : modes.Cells) (vectors : motions.Cells) (cells_now : modes.Cells) (vectors_now : motions.Cells)
    → OpensRow (Some (found, start)) size idr last row poc rbsp → kind ≡ slice_kind idr → Step kind size row given None (drop start rbsp) old new cells vectors cells_now vectors_now
    → (units : List ReadUnit) (above : List ℕ) → AreRead size idr row given cells vectors old units above → segment_step size idr (stand_at last idr poc row units above) rbsp ≡ None
row_refused size last idr poc row found start rbsp given kind old new cells vectors cells_now vectors_now opened same step units above are =
    let none : segment_read kind size row (map moving_of units) above (drop start rbsp) ≡ None = step (map moving_of units) above are.handed are.kept in
    opened.0 units above are.first
    ∙ ap (λ (o : Option (List ReadCtu)). and_then o (after_read size last idr found row units)) (ap (λ (k : SliceKind). segment_read k size row (map moving_of units) above (drop start rbsp)) (sym same) ∙ none)

pub row_taken : (size : Size) (last : Option Decoded) (idr : Bool) (poc row found start : ℕ) (rbsp : List ℕ) (given on : Option (List ℕ)) (kind : SliceKind) (old new : Pictures) (cells : modes.Cells) (vectors : motions.Cells) (cells_now : modes.Cells) (vectors_now : motions.Cells)
    → OpensRow (Some (found, start)) size idr last row poc rbsp → kind ≡ slice_kind idr → Step kind size row given (Some on) (drop start rbsp) old new cells vectors cells_now vectors_now
    → (units : List ReadUnit) (above : List ℕ) → AreRead size idr row given cells vectors old units above
    → (read : List ReadCtu) × (segment_step size idr (stand_at last idr poc row units above) rbsp ≡ after_read size last idr found row units read)
    × AreRead size idr (row + 1) on cells_now vectors_now new (units ++ units_of read) (handed_on read)
row_taken size last idr poc row found start rbsp given on kind old new cells vectors cells_now vectors_now opened same step units above are = go (step (map moving_of units) above are.handed are.kept)
  where
    go : ReadsRowOf (Some on) (segment_read kind size row (map moving_of units) above (drop start rbsp)) size row (IsRowTaken (Draws old) (Draws new) size row cells_now vectors_now (map moving_of units))
        → (read : List ReadCtu) × (segment_step size idr (stand_at last idr poc row units above) rbsp ≡ after_read size last idr found row units read)
        × AreRead size idr (row + 1) on cells_now vectors_now new (units ++ units_of read) (handed_on read)
    go (read, is, hands, took) =
        let some : segment_read (slice_kind idr) size row (map moving_of units) above (drop start rbsp) ≡ Some read =
        ap (λ (k : SliceKind). segment_read k size row (map moving_of units) above (drop start rbsp)) (sym same) ∙ is in
        let drawn = took.taken units are.drawn are.available in (
          read,
          opened.0 units above are.first ∙ ap (λ (o : Option (List ReadCtu)). and_then o (after_read size last idr found row units)) some,
          record {
            first = λ none. absurd (omega arith);
            lawful = segments_are_lawful (slice_kind idr) size row units above (drop start rbsp) read are.lawful some;
            handed = hands;
            kept = subst (λ (l : List Moving). AreKept cells_now vectors_now l) (sym (maps_append moving_of units (units_of read))) took.kept;
            drawn = drawn.0;
            available = drawn.1;
          },
        )

-- ---- NAL units, row by row

nothing_shown : (refused : Bool) (r : Rest) → with_shown [] refused r ≡ r
nothing_shown true r = refl
nothing_shown false r = refl

-- a NAL unit of this kind of picture
step_of : (size : Size) (idr : Bool) (stand : Stand) (unit : NalUnit) → unit.header ≡ nal_header idr → step size true stand unit ≡ segment_step size idr stand unit.rbsp
unfolding step
step_of size true stand unit is = ap (λ (h : List ℕ). step size true stand (record { header = h; rbsp = unit.rbsp })) is
step_of size false stand unit is = ap (λ (h : List ℕ). step size true stand (record { header = h; rbsp = unit.rbsp })) is

row_rest : (size : Size) (last : Option Decoded) (idr : Bool) (poc row : ℕ) (units : List ReadUnit) (above : List ℕ) (from to next : Units) (unit : NalUnit)
    → IsRest size last idr poc row units above from to → row < ctus size.h → to.list ≡ unit ∷ next.list → unit.header ≡ nal_header idr
    → rest size true (between last) from ≡ on_from size true to.number (segment_step size idr (stand_at last idr poc row units above) unit.rbsp) next.list
row_rest size last idr poc row units above from to next unit is less list header =
    let stand : Stand = stand_at last idr poc row units above in
    is.more less
    ∙ (ap (λ (l : List NalUnit). rest_of size true to.number stand l) list
    ∙ (unit_first size true to.number stand unit next.list
    ∙ ap (λ (o : Option Stand). on_from size true to.number o next.list) (step_of size idr stand unit header)))

pub row_failed : (size : Size) (last : Option Decoded) (idr : Bool) (poc row : ℕ) (units : List ReadUnit) (above : List ℕ) (from to next : Units) (unit : NalUnit)
    → IsRest size last idr poc row units above from to → row < ctus size.h → to.list ≡ unit ∷ next.list → unit.header ≡ nal_header idr
    → segment_step size idr (stand_at last idr poc row units above) unit.rbsp ≡ None → rest size true (between last) from ≡ failing to.number
row_failed size last idr poc row units above from to next unit is less list header none =
    row_rest size last idr poc row units above from to next unit is less list header ∙ ap (λ (o : Option Stand). on_from size true to.number o next.list) none

abbrev after_or : Size → Option Decoded → Bool → ℕ → ℕ → List ReadUnit → List ℕ → Bool → Option Stand
after_or size last idr poc row units above full =
    cond full (and_then (referred idr last size) (λ prev. Some (right_after (record { poc = poc; planes = rebuild size prev units })))) (Some (record { last = last; begun = Some (begun_at idr poc row units above); ended = false }))

stand_next : (last : Option Decoded) (idr : Bool) (poc row : ℕ) (units : List ReadUnit) (above : List ℕ) → stand_at last idr poc (row + 1) units above ≡ record { last = last; begun = Some (begun_at idr poc (row + 1) units above); ended = false }
stand_next last idr poc row units above =
    let next : suc row ≡ row + 1 = omega arith in
    subst (λ (n : ℕ). stand_at last idr poc n units above ≡ record { last = last; begun = Some (begun_at idr poc n units above); ended = false }) next refl

same_is : (a b : ℕ) → a ≡ b → (a == b) ≡ true
same_is a b e = go (eqb_tells a b)
  where
    go : (((a == b) ≡ true) × (a ≡ b)) ⊎ (((a == b) ≡ false) × (a ≢ b)) → (a == b) ≡ true
    go (inl p) = p.0
    go (inr p) = absurd (p.1 e)

pub row_passed : (size : Size) (last : Option Decoded) (idr : Bool) (poc found row : ℕ) (units : List ReadUnit) (above : List ℕ) (read : List ReadCtu) (from to next : Units) (unit : NalUnit)
    → IsRest size last idr poc row units above from to → row < ctus size.h → to.list ≡ unit ∷ next.list → next.number ≡ to.number + 1 → unit.header ≡ nal_header idr
    → segment_step size idr (stand_at last idr poc row units above) unit.rbsp ≡ after_read size last idr found row units read
    → IsRest size last idr found (row + 1) (units ++ units_of read) (handed_on read) from next
row_passed size last idr poc found row units above read from to next unit is less list number header taken = record { more = more; whole = whole_ }
  where
    now : List ReadUnit
    now = units ++ units_of read

    opened : rest size true (between last) from ≡ on_from size true to.number (after_or size last idr found (row + 1) now (handed_on read) (row + 1 == ctus size.h)) next.list
    opened = row_rest size last idr poc row units above from to next unit is less list header ∙ ap (λ (o : Option Stand). on_from size true to.number o next.list) taken

    more : row + 1 < ctus size.h → rest size true (between last) from ≡ rest size true (stand_at last idr found (row + 1) now (handed_on read)) next
    more below =
        let other : (row + 1 == ctus size.h) ≡ false = ne_eqb (row + 1) (ctus size.h) (λ e. absurd (omega arith)) in
        let begun : Stand = record { last = last; begun = Some (begun_at idr found (row + 1) now (handed_on read)); ended = false } in
        opened
        ∙ (ap (λ (b : Bool). on_from size true to.number (after_or size last idr found (row + 1) now (handed_on read) b) next.list) other
        ∙ (nothing_shown (is_hash_refused begun next.list) (rest_of size true (to.number + 1) begun next.list)
        ∙ (ap (λ (n : ℕ). rest_of size true n begun next.list) (sym number)
        ∙ ap (λ (s : Stand). rest size true s next) (sym (stand_next last idr found row now (handed_on read))))))

    whole_ : row + 1 ≡ ctus size.h → (before : Picture) → referred idr last size ≡ Some before → rest size true (between last) from ≡ after_picture size true (record { poc = found; planes = rebuild size before now }) next
    whole_ full before refers =
        let done : Decoded = record { poc = found; planes = rebuild size before now } in
        opened
        ∙ (ap (λ (b : Bool). on_from size true to.number (after_or size last idr found (row + 1) now (handed_on read) b) next.list) (same_is (row + 1) (ctus size.h) full)
        ∙ (ap (λ (o : Option Picture). on_from size true to.number (and_then o (λ prev. Some (right_after (record { poc = found; planes = rebuild size prev now })))) next.list) refers
        ∙ ap (λ (n : ℕ). after_picture size true done (record { number = n; list = next.list })) (sym number)))

-- ---- a NAL unit with another header

other_kind : (size : Size) (last : Option Decoded) (a b : Bool) (poc row : ℕ) (units : List ReadUnit) (above rbsp : List ℕ) → beq a b ≡ false → segment_step size b (stand_at last a poc (suc row) units above) rbsp ≡ None
other_kind size last a b poc row units above rbsp other =
    segment_opens size b (stand_at last a poc (suc row) units above) rbsp ∙ go (ok_of (read_segment_head rbsp b (suc row * ctus size.w) (ctus size.w * ctus size.h)))
  where
    go : (o : Option (ℕ × ℕ)) → and_then o (after_header size b (stand_at last a poc (suc row) units above) rbsp) ≡ None
    go None = refl
    go (Some head) = ap (λ (t : Bool). and_then (cond t (Some (begun_at a poc (suc row) units above)) None) (after_begun size b (stand_at last a poc (suc row) units above) (drop head.1 rbsp))) other

other_step : (size : Size) (last : Option Decoded) (idr : Bool) (poc row : ℕ) (units : List ReadUnit) (above : List ℕ) (unit : NalUnit) → unit.header ≢ nal_header idr → step size true (stand_at last idr poc (suc row) units above) unit ≡ None
unfolding step hash_step
other_step size last idr poc row units above unit other =
    go (bytes_eq unit.header (nal_header true)) (bytes_eq unit.header (nal_header false)) (bytes_eq unit.header hash_header)
    (bytes_eq-Decides unit.header (nal_header true)).0 (bytes_eq-Decides unit.header (nal_header false)).0 idr other
  where
    all : Bool → Bool → Bool → Bool → Option Stand
    all kind a b h =
        cond a (segment_step size true (stand_at last kind poc (suc row) units above) unit.rbsp)
        (cond b (segment_step size false (stand_at last kind poc (suc row) units above) unit.rbsp) (cond h None None))

    go : (a b h : Bool) → (a ≡ true → unit.header ≡ nal_header true) → (b ≡ true → unit.header ≡ nal_header false) → (kind : Bool) → unit.header ≢ nal_header kind → all kind a b h ≡ None
    go true b h first second true not = absurd (not (first refl))
    go true b h first second false not = other_kind size last false true poc row units above unit.rbsp refl
    go false true h first second true not = other_kind size last true false poc row units above unit.rbsp refl
    go false true h first second false not = absurd (not (second refl))
    go false false true first second kind not = refl
    go false false false first second kind not = refl

ended_within : (size : Size) (last : Option Decoded) (idr : Bool) (poc row : ℕ) (units : List ReadUnit) (above : List ℕ) (n : ℕ) → rest_of size true n (stand_at last idr poc (suc row) units above) [] ≡ failing n
unfolding rest_of
ended_within size last idr poc row units above n = refl

pub other_header : (size : Size) (last : Option Decoded) (idr : Bool) (poc row : ℕ) (units : List ReadUnit) (above : List ℕ) (from to : Units)
    → IsRest size last idr poc row units above from to → row < ctus size.h → (row ≡ 0 → first_header to.list ≡ Some (nal_header idr)) → first_header to.list ≢ Some (nal_header idr)
    → rest size true (between last) from ≡ failing to.number
other_header size last idr poc row units above from to is less first other = is.more less ∙ go row to.list first other
  where
    go : (n : ℕ) (list : List NalUnit) → (n ≡ 0 → first_header list ≡ Some (nal_header idr)) → first_header list ≢ Some (nal_header idr) → rest_of size true to.number (stand_at last idr poc n units above) list ≡ failing to.number
    go zero list given not = absurd (not (given refl))
    go (suc n) [] given not = ended_within size last idr poc n units above to.number
    go (suc n) (unit ∷ list) given not =
        unit_first size true to.number (stand_at last idr poc (suc n) units above) unit list
        ∙ ap (λ (o : Option Stand). on_from size true to.number o list) (other_step size last idr poc n units above unit (λ e. absurd (not (ap (λ (h : List ℕ). Some h) e))))

-- ---- the whole picture

-- the rows above this one were read and drawn
pub record IsBegun (size : Size) (last : Option Decoded) (idr : Bool) (row poc : ℕ) (given : Option (List ℕ)) (cells : modes.Cells) (vectors : motions.Cells) (pictures : Pictures) (from to : Units) : Type 0 where
  pub units : List ReadUnit
  pub above : List ℕ
  pub are : AreRead size idr row given cells vectors pictures units above
  pub rests : IsRest size last idr poc row units above from to
  pub next : 0 < row → is_next idr last poc ≡ true

pub none_begun : (size : Size) (last : Option Decoded) (idr : Bool) (cells : modes.Cells) (vectors : motions.Cells) (pictures : Pictures) (from : Units) → 0 < ctus size.h → StandsFor cells [] → HasMotion vectors [] → Draws pictures []
    → IsBegun size last idr 0 0 None cells vectors pictures from from
none_begun size last idr cells vectors pictures from some mode motion drawn = record {
  units = [];
  above = [];
  are = record {
    first = λ e. (refl, refl);
    lawful = record { trees = []; together = refl; many = omega arith; lawful = tt };
    handed = λ below. absurd (omega arith);
    kept = record { modes = mode; vectors = motion; lawful = tt };
    drawn = drawn;
    available = none_available size;
  };
  rests = record { more = λ less. refl; whole = λ full. absurd (omega arith) };
  next = λ below. absurd (omega arith);
}

pub begun_fails : (size : Size) (last : Option Decoded) (idr : Bool) (row poc : ℕ) (given : Option (List ℕ)) (cells : modes.Cells) (vectors : motions.Cells) (pictures : Pictures) (from to next : Units) (unit : NalUnit)
    → IsBegun size last idr row poc given cells vectors pictures from to → row < ctus size.h → to.list ≡ unit ∷ next.list → unit.header ≡ nal_header idr
    → ((units : List ReadUnit) (above : List ℕ) → AreRead size idr row given cells vectors pictures units above → segment_step size idr (stand_at last idr poc row units above) unit.rbsp ≡ None)
    → rest size true (between last) from ≡ failing to.number
begun_fails size last idr row poc given cells vectors pictures from to next unit b less list header fails =
    row_failed size last idr poc row b.units b.above from to next unit b.rests less list header (fails b.units b.above b.are)

abbrev pub RowRead : Size → Option Decoded → Bool → ℕ → ℕ → ℕ → Option (List ℕ) → Option (List ℕ) → modes.Cells → motions.Cells → Pictures → modes.Cells → motions.Cells → Pictures → List ℕ → Type 0
RowRead size last idr row poc found given on cells vectors old cells_now vectors_now new rbsp =
    ((units : List ReadUnit) (above : List ℕ) → AreRead size idr row given cells vectors old units above
    → (read : List ReadCtu) × (segment_step size idr (stand_at last idr poc row units above) rbsp ≡ after_read size last idr found row units read)
    × AreRead size idr (row + 1) on cells_now vectors_now new (units ++ units_of read) (handed_on read))
    × ((0 < row → is_next idr last poc ≡ true) → is_next idr last found ≡ true)

pub begun_more : (size : Size) (last : Option Decoded) (idr : Bool) (row poc found : ℕ) (given on : Option (List ℕ)) (cells : modes.Cells) (vectors : motions.Cells) (old : Pictures) (cells_now : modes.Cells) (vectors_now : motions.Cells) (new : Pictures) (from to next : Units) (unit : NalUnit)
    → IsBegun size last idr row poc given cells vectors old from to → row < ctus size.h → to.list ≡ unit ∷ next.list → next.number ≡ to.number + 1 → unit.header ≡ nal_header idr
    → RowRead size last idr row poc found given on cells vectors old cells_now vectors_now new unit.rbsp → IsBegun size last idr (row + 1) found on cells_now vectors_now new from next
begun_more size last idr row poc found given on cells vectors old cells_now vectors_now new from to next unit b less list number header reads = go (reads.0 b.units b.above b.are)
  where
    go : (read : List ReadCtu) × (segment_step size idr (stand_at last idr poc row b.units b.above) unit.rbsp ≡ after_read size last idr found row b.units read)
        × AreRead size idr (row + 1) on cells_now vectors_now new (b.units ++ units_of read) (handed_on read) → IsBegun size last idr (row + 1) found on cells_now vectors_now new from next
    go (read, taken, are) = record {
      units = b.units ++ units_of read;
      above = handed_on read;
      are = are;
      rests = row_passed size last idr poc found row b.units b.above read from to next unit b.rests less list number header taken;
      next = λ below. reads.1 b.next;
    }

commute : (h w : ℕ) → h * w ≡ w * h
commute h w = omega arith

abbrev now_of : ℕ → List (List ℕ) → Decoded
now_of poc ps = record { poc = poc; planes = ps }

pub picture_kept : (size : Size) (idr : Bool) (order : Option ℕ) (old : Planes) (row poc : ℕ) (given : Option (List ℕ)) (cells : modes.Cells) (vectors : motions.Cells) (pictures : Pictures) (from to : Units) (new : Planes)
    → IsBegun size (last_of order old) idr row poc given cells vectors pictures from to → row ≡ ctus size.h → 0 < ctus size.w → 0 < ctus size.h → pictures.last ≡ old → old.size ≡ size
    → ((units : List ReadUnit) → Draws pictures units → AreWhole pictures.last.size units → (before : Picture) → Stores pictures.last before → planes_of new ≡ rebuild pictures.last.size before units)
    → ((units : List ReadUnit) → Draws pictures units → AreWhole pictures.last.size units → AreStill units → (before : Picture) → planes_of new ≡ rebuild pictures.last.size before units)
    → rest size true (between (last_of order old)) from ≡ after_picture size true (record { poc = poc; planes = planes_of new }) to
picture_kept size idr order old row poc given cells vectors pictures from to new b full wide tall same sized rebuilt still =
    go idr order b.are.lawful (b.rests.whole full) (b.next (let t : 0 < ctus size.h = tall in omega (arith, full)))
  where
    sizes : pictures.last.size ≡ size
    sizes = ap (λ (p : Planes). p.size) same ∙ sized

    all : (kind : SliceKind) → IsReadFirst kind size (row * ctus size.w) b.units → IsReadFirst kind size (ctus size.w * ctus size.h) b.units
    all kind is = subst (λ (n : ℕ). IsReadFirst kind size n b.units) (ap (λ (n : ℕ). n * ctus size.w) full ∙ commute (ctus size.h) (ctus size.w)) is

    covered : (kind : SliceKind) → IsReadFirst kind size (row * ctus size.w) b.units → AreWhole pictures.last.size b.units
    covered kind is = subst (λ (s : Size). AreWhole s b.units) (sym sizes) (are_whole kind size b.units wide (all kind is))

    go : (kind : Bool) (last : Option ℕ) → IsReadFirst (slice_kind kind) size (row * ctus size.w) b.units
        → ((before : Picture) → referred kind (last_of last old) size ≡ Some before → rest size true (between (last_of order old)) from ≡ after_picture size true (record { poc = poc; planes = rebuild size before b.units }) to)
        → is_next kind (last_of last old) poc ≡ true → rest size true (between (last_of order old)) from ≡ after_picture size true (record { poc = poc; planes = planes_of new }) to
    go true last is whole next =
        whole blank refl
        ∙ ap (λ (ps : List (List ℕ)). after_picture size true (now_of poc ps) to)
        (ap (λ (s : Size). rebuild s blank b.units) (sym sizes) ∙ sym (still b.units b.are.drawn (covered (slice_kind true) is) (are_still size (row * ctus size.w) b.units is) blank))
    go false None is whole next = absurd (cc)
    go false (Some before) is whole next =
        let prev : Picture = stored_picture size (planes_of old) in
        let stores : Stores old prev = record { each = λ c x y h hx hy. stored_at old c x y h hx hy ∙ ap (λ (s : Size). stored_picture s (planes_of old) c x y) sized } in
        whole prev refl
        ∙ ap (λ (ps : List (List ℕ)). after_picture size true (now_of poc ps) to)
        (ap (λ (s : Size). rebuild s prev b.units) (sym sizes) ∙ sym (rebuilt b.units b.are.drawn (covered (slice_kind false) is) prev (subst (λ (p : Planes). Stores p prev) (sym same) stores)))

-- ---- the next NAL unit

same_self : (a : Option (List ℕ)) → option_eq bytes_eq a a ≡ true
same_self None = refl
same_self (Some x) = (bytes_eq-Decides x x).1 refl

pub differ : (a b : Option (List ℕ)) → true ≡ not (option_eq bytes_eq a b) → a ≢ b
differ a b h e =
    let t : option_eq bytes_eq a b ≡ true = subst (λ (o : Option (List ℕ)). option_eq bytes_eq a o ≡ true) e (same_self a) in
    let bad : true ≡ false = h ∙ ap not t in absurd (cc)

pub agree : (a b : Option (List ℕ)) → false ≡ not (option_eq bytes_eq a b) → a ≡ b
agree None None h = refl
agree None (Some y) h = absurd (cc)
agree (Some x) None h = absurd (cc)
agree (Some x) (Some y) h = go (bytes_eq x y) refl h
  where
    go : (b : Bool) → bytes_eq x y ≡ b → false ≡ not b → Some x ≡ Some y
    go true e f = ap (λ (l : List ℕ). Some l) ((bytes_eq-Decides x y).0 e)
    go false e f = absurd (cc)

or_empty : Option (List ℕ) → List ℕ
or_empty None = []
or_empty (Some l) = l

pub next_taken : (found : Option (List ℕ)) (from to : Units) (rbsp header : List ℕ) → first_header from.list ≡ Some header
    → MatchOption found ((from.list ≡ []) × (to ≡ from)) (λ h. (from.list ≡ record { header = h; rbsp = rbsp } ∷ to.list) × (to.number ≡ from.number + 1))
    → (from.list ≡ record { header = header; rbsp = rbsp } ∷ to.list) × (to.number ≡ from.number + 1)
unfolding or_empty
next_taken None from to rbsp header first taken = let e : None ≡ Some header = sym (ap first_header taken.0) ∙ first in absurd (cc)
next_taken (Some h) from to rbsp header first taken =
    let e : h ≡ header = ap or_empty (sym (ap first_header taken.0) ∙ first) in
    (taken.0 ∙ ap (λ (l : List ℕ). record { header = l; rbsp = rbsp } ∷ to.list) e, taken.1)

pub some_ctus : (size : Size) → IsTrue (is_size size) → (0 < ctus size.w) × (0 < ctus size.h)
some_ctus size is =
    let limits : InLimits size = in_limits size is in
    ((let low : 1 ≤ size.w = limits.w_low in omega arith), let low : 1 ≤ size.h = limits.h_low in omega arith)
