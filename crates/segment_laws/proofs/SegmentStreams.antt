-- The stream of pictures in a slice segment for each row is decoded to them.
use Rattle.std.proofs.Common.{subst, ◌≡◌, refl, sym, ◌∙◌, ap, ℕ, zero, suc, ◌+◌, ◌*◌, ◌%◌, ◌<◌, List, [], ◌∷◌, ◌++◌, Bool, true, length, map, take, take_all, append_assoc, arith}
use Rattle.std.specs.Prelude.{Option, None, Ok}
use Rattle.std.specs.List.{AllByRecursion, flat_map}
use Rattle.std.proofs.lemmas.List.{length-map}
use Rattle.h265_model.specs.declared.extra.Extra.TheVariants.{Segments}
use Rattle.h265_model.specs.declared.leaf.SliceKind.{SliceKind}
use Rattle.h265_model.specs.declared.leaf.Leaf.{Leaf}
use Rattle.h265_model.specs.declared.moves.MoveLeaf.{MoveLeaf}
use Rattle.h265_model.specs.Plain.{Size, Picture, ctus, below, joined}
use Rattle.h265_model.specs.Bits.{bytes}
use Rattle.h265_model.specs.Bits.{◌>>-◌}
use Rattle.h265_model.specs.Settings.{has_segments, Settings}
use Rattle.h265_model.specs.Raster.{Raster, IsRaster}
use Rattle.h265_model.specs.NalUnits.{NalUnit, IsNalUnit, escape, start_code, nal_unit_bytes, stream_bytes}
use Rattle.h265_model.specs.Fields.{fields_bits}
use Rattle.h265_model.specs.SliceHead.{head_bits, head_fields, dependent_fields, segment_bits}
use Rattle.h265_model.specs.Stream.{reference, is_idr, order_count, slice_kind, nal_header}
use Rattle.h265_model.specs.Decode.{Decoded}
use Rattle.h265_model.specs.Tree.{leaf_units, moving, Source}
use Rattle.h265_laws.proofs.LeafReading.{reads_of}
use Rattle.h265_model.specs.Motion.{still}
use Rattle.h265_laws.proofs.LeafDecoding as Old
use Rattle.h265_model.specs.Rebuild.{rebuild}
use Rattle.h265_model.specs.Tree.{still_unit, move_unit}
use Rattle.h265_model.specs.Stream.{segment_piece, picture_units, picture_piece}
use Rattle.h265_model.specs.Decode.{Stand, read_units}
use Rattle.h265_laws.proofs.EndsLaw.{Ends, code_ends, ends_append, ends_well, escape_append, aligned_bits_end}
use Rattle.h265_laws.proofs.ParamLaws.{in_limits}
use Rattle.h265_laws.proofs.PictureLaw.{IsFit, size_fits, picture_is, cropped, each_picture_is_rebuilt}
use Rattle.h265_laws.proofs.PredictionLaw.{source_is}
use Rattle.h265_laws.proofs.StreamLaw.{picture_of, leaves_of, source_in, lawful_of, many_of, slice_of, IsFollowing}
use Rattle.stream_laws.proofs.OldPictures.{rebuild_same}
use Rattle.stream_laws.proofs.OldStreams.{now_whole}
use Rattle.h265_laws.proofs.ParamLaws.{read_params-param_units}
use Rattle.stream_laws.proofs.StreamForm.{two_bytes, ReadsOn, AreRead, stream_is_decoded}
use Rattle.stream_laws.proofs.Behind.{IsBehind, behind_is, low_count, zero_count, still_copies}
use Rattle.unit_laws.specs.Laws.{AreLawfulUnits}
use Rattle.unit_laws.proofs.StillUnits.{lawful_still, first_reads, segment_code_still}
use Rattle.unit_laws.proofs.UnitForm.{lawful_sides, segment_form}
use Rattle.segment_laws.specs.Laws.{EachSegmentedStreamIsDecoded}
use Rattle.unit_laws.proofs.Coded.{IsCoded}
use Rattle.segment_laws.proofs.SegmentRows.{row_unit, decoded, picture_is_read}
use Rattle.h265_model.specs.Slice.{segment_code}
use Rattle.h265_model.specs.declared.extra.Extra.{Extra}

-- ---- a picture's parts

abbrev units_in : Settings → Bool → Option Raster → Raster → List (List MoveLeaf)
units_in settings idr before raster = map (map still) (leaves_of settings idr before raster)

abbrev codes_of : Settings → Bool → Option Raster → Raster → ℕ → List ℕ
codes_of settings idr before raster row = segment_code (slice_kind idr) (moving (move_unit (slice_kind idr) (source_in settings raster))) settings.size (units_in settings idr before raster) row

abbrev units_with : Settings → Bool → ℕ → Option Raster → Raster → List NalUnit
units_with settings idr poc before raster = map (row_unit settings.size idr poc (codes_of settings idr before raster)) (below (ctus settings.size.h))

abbrev segmented : Settings → ℕ → Option Raster → Raster → List NalUnit
segmented settings n before raster = units_with settings (is_idr settings.key n) (order_count settings.key n % 256) before raster

many_units : (settings : Settings) (idr : Bool) (before : Option Raster) (raster : Raster) → length (units_in settings idr before raster) ≡ ctus settings.size.w * ctus settings.size.h
many_units settings idr before raster = length-map (leaves_of settings idr before raster) (map still) ∙ many_of settings idr before raster

units_lawful : (settings : Settings) (idr : Bool) (before : Option Raster) (raster : Raster) → IsFit settings.size
    → AreLawfulUnits (slice_kind idr) settings.size (units_in settings idr before raster) (ctus settings.size.w * ctus settings.size.h)
units_lawful settings idr before raster fit =
    lawful_still (slice_kind idr) settings.size (leaves_of settings idr before raster) (ctus settings.size.w * ctus settings.size.h) fit.wide (lawful_of settings idr before raster)

-- ---- its NAL units

head_ends : (idr : Bool) (poc address ctus : ℕ) → Ends (bytes (segment_bits idr poc address ctus))
unfolding segment_bits head_bits
head_ends idr poc zero ctus = aligned_bits_end (fields_bits (head_fields (record { idr = idr; poc = poc; offsets = [] })))
head_ends idr poc (suc n) ctus = aligned_bits_end (fields_bits (dependent_fields idr (suc n) ctus))

piece_is_unit : (size : Size) (idr : Bool) (poc : ℕ) (codes : ℕ → List ℕ) (row : ℕ) → segment_piece size idr poc row (codes row) ≡ nal_unit_bytes (row_unit size idr poc codes row)
unfolding segment_piece
piece_is_unit size idr poc codes row =
    let front : List ℕ = bytes (segment_bits idr poc (row * ctus size.w) (ctus size.w * ctus size.h)) in
    append_assoc (start_code ++ nal_header idr) (escape front) (escape (codes row))
    ∙ ap (λ (l : List ℕ). (start_code ++ nal_header idr) ++ l) (sym (escape_append 255 255 front (codes row) (head_ends idr poc (row * ctus size.w) (ctus size.w * ctus size.h))))

pieces_are_units : (settings : Settings) (idr : Bool) (poc : ℕ) (before : Option Raster) (raster : Raster) (rows : List ℕ)
    → flat_map (λ row. segment_piece settings.size idr poc row (segment_code (slice_kind idr) (leaf_units (slice_kind idr) (source_in settings raster)) settings.size (leaves_of settings idr before raster) row)) rows
    ≡ flat_map nal_unit_bytes (map (row_unit settings.size idr poc (codes_of settings idr before raster)) rows)
pieces_are_units settings idr poc before raster [] = refl
pieces_are_units settings idr poc before raster (row ∷ rows) =
    let size : Size = settings.size in
    let rest : List ℕ = flat_map (λ r. segment_piece size idr poc r (segment_code (slice_kind idr) (leaf_units (slice_kind idr) (source_in settings raster)) size (leaves_of settings idr before raster) r)) rows in
    ap (λ (l : List ℕ). segment_piece size idr poc row l ++ rest) (segment_code_still (slice_kind idr) size (source_in settings raster) (leaves_of settings idr before raster) row)
    ∙ (ap (λ (l : List ℕ). l ++ rest) (piece_is_unit size idr poc (codes_of settings idr before raster) row)
    ∙ ap (λ (l : List ℕ). nal_unit_bytes (row_unit size idr poc (codes_of settings idr before raster) row) ++ l) (pieces_are_units settings idr poc before raster rows))

unit_is : (settings : Settings) (idr : Bool) (poc : ℕ) (before : Option Raster) (raster : Raster) (row : ℕ) → IsFit settings.size → IsRaster settings.size raster
    → IsNalUnit (row_unit settings.size idr poc (codes_of settings idr before raster) row)
unit_is settings idr poc before raster row fit is =
    let size : Size = settings.size in
    let kind : SliceKind = slice_kind idr in
    let source : Source = source_in settings raster in
    let units : List (List MoveLeaf) = units_in settings idr before raster in
    let total : ℕ = ctus size.w * ctus size.h in
    let front : List ℕ = bytes (segment_bits idr poc (row * ctus size.w) total) in
    record {
      header = two_bytes idr;
      ends =
          ends_well (front ++ codes_of settings idr before raster row)
          (ends_append front (codes_of settings idr before raster row)
          (code_ends _ _ (segment_form kind size source (source_is size (picture_of settings raster) (picture_is size raster is)) units row
          (lawful_sides kind size units total (many_units settings idr before raster) (units_lawful settings idr before raster fit)) fit.wide)));
    }

units_are : (settings : Settings) (idr : Bool) (poc : ℕ) (before : Option Raster) (raster : Raster) (rows : List ℕ) → IsFit settings.size → IsRaster settings.size raster
    → AllByRecursion IsNalUnit (map (row_unit settings.size idr poc (codes_of settings idr before raster)) rows)
units_are settings idr poc before raster [] fit is = tt
units_are settings idr poc before raster (row ∷ rows) fit is = (unit_is settings idr poc before raster row fit is, units_are settings idr poc before raster rows fit is)

-- ---- the picture

coded_is : (settings : Settings) (n : ℕ) (before : Option Raster) (raster : Raster) (last : Option Decoded) → IsFit settings.size → IsRaster settings.size raster → IsFollowing settings n before last
    → IsCoded settings.size (is_idr settings.key n) (order_count settings.key n % 256) (source_in settings raster) (units_in settings (is_idr settings.key n) before raster) last (picture_of settings raster)
coded_is settings n before raster last fit is behind =
    let size : Size = settings.size in
    let idr : Bool = is_idr settings.key n in
    let kind : SliceKind = slice_kind idr in
    let source : Source = source_in settings raster in
    let leaves : List (List Leaf) = leaves_of settings idr before raster in
    let total : ℕ = ctus size.w * ctus size.h in
    let b : IsBehind settings idr (order_count settings.key n % 256) before last = behind_is settings n before last behind in
    let all : take total leaves ≡ leaves = take_all total leaves (let m : length leaves ≡ total = many_of settings idr before raster in omega arith) in
    record {
      fit = fit;
      small = low_count settings n;
      zero_at = λ e. zero_count settings n e;
      source_is = source_is size (picture_of settings raster) (picture_is size raster is);
      many = many_units settings idr before raster;
      lawful = units_lawful settings idr before raster fit;
      prev = b.prev;
      is_referred = b.is_referred;
      comes_next = b.comes_next;
      rebuilt =
          ap (rebuild size b.prev) (first_reads source leaves total)
          ∙ (rebuild_same size b.prev (reads_of source (joined (take total leaves)))
          ∙ (ap (λ (l : List (List Leaf)). Old.rebuild size b.prev (reads_of source (joined l))) all
          ∙ each_picture_is_rebuilt kind size b.prev (picture_of settings raster) leaves (slice_of settings idr before raster fit is) (picture_is size raster is)
          (still_copies settings idr before raster b.prev fit b.stores)));
    }

segmented_is_read : (settings : Settings) → IsFit settings.size → 0 < settings.size.w → (n number : ℕ) (before : Option Raster) (raster : Raster) (stand : Stand) (rest : List NalUnit)
    → IsRaster settings.size raster → IsFollowing settings n before stand.last → stand.begun ≡ None → ReadsOn settings true n number raster stand (segmented settings n before raster) rest
segmented_is_read settings fit some n number before raster stand rest is behind none =
    let size : Size = settings.size in
    let idr : Bool = is_idr settings.key n in
    let poc : ℕ = order_count settings.key n % 256 in
    let source : Source = source_in settings raster in
    let units : List (List MoveLeaf) = units_in settings idr before raster in
    let now : Picture = picture_of settings raster in
    let c : IsCoded size idr poc source units stand.last now = coded_is settings n before raster stand.last fit is behind in
    let whole_now : Decoded = decoded size idr poc source units stand.last now c in
    record {
      next = number + ctus size.h;
      after = now_whole whole_now;
      whole = refl;
      last = refl;
      reads =
          picture_is_read size idr poc source units stand.last now c number stand rest none refl
          ∙ ap (λ (r : Raster). read_units size true (number + ctus size.h) (now_whole whole_now) rest >>- λ others. Ok (r ∷ others)) (cropped size raster is some);
    }

segmented_are_read : (settings : Settings) → settings.extra ≡ Segments → IsFit settings.size → 0 < settings.size.w → AreRead settings (segmented settings)
unfolding picture_piece picture_units stream_bytes
segmented_are_read settings kind fit some = record {
  pieces = λ n before raster is.
      ap
      (λ (x : Extra). picture_units x settings (is_idr settings.key n) (order_count settings.key n % 256) (reference (is_idr settings.key n) settings.size before) (picture_of settings raster)) kind
      ∙ (pieces_are_units settings (is_idr settings.key n) (order_count settings.key n % 256) before raster (below (ctus settings.size.h)));
  are = λ n before raster is. units_are settings (is_idr settings.key n) (order_count settings.key n % 256) before raster (below (ctus settings.size.h)) fit is;
  read = λ n number before raster stand rest is behind none.
      subst (λ (b : Bool). ReadsOn settings b n number raster stand (segmented settings n before raster) rest) (sym (ap has_segments kind))
      (segmented_is_read settings fit some n number before raster stand rest is behind none);
}

pub segmented_streams_are_decoded : EachSegmentedStreamIsDecoded
segmented_streams_are_decoded settings rasters kind size_is wide are =
    stream_is_decoded settings (segmented settings)
    (segmented_are_read settings kind (size_fits settings.size size_is) (in_limits settings.size size_is).w_low)
    (read_params-param_units settings.size (has_segments settings.extra) size_is (λ e. wide)) rasters are
