-- Streams whose pictures are NAL units of any kind are decoded to them, where each picture's NAL units are read.
use Rattle.std.proofs.Common.{◌≡◌, refl, sym, ◌∙◌, ap, ℕ, ◌+◌, ◌%◌, List, [], ◌∷◌, ◌++◌, Bool, length, drop, arith, true, false, ◌<◌}
use Rattle.std.specs.Prelude.{Option, Some, None, Ok, Result}
use Rattle.std.specs.List.{AllByRecursion, flat_map}
use Rattle.std.proofs.lemmas.Bool.{le-ltb}
use Rattle.std.proofs.lemmas.Grind.{flat_map-append}
use Rattle.h265_model.specs.Plain.{Size}
use Rattle.h265_model.specs.Bits.{◌>>-◌}
use Rattle.h265_model.specs.Settings.{Settings, has_segments}
use Rattle.h265_model.specs.Raster.{Raster, IsRaster}
use Rattle.h265_model.specs.NalUnits.{NalUnit, IsNalUnit, nal_unit_bytes, stream_bytes, units}
use Rattle.h265_model.specs.ParamSets.{vps_fields, sps_fields, pps_fields, param_units, read_params}
use Rattle.h265_model.specs.Stream.{order_count, nal_header}
use Rattle.h265_model.specs.Decode.{Decoded}
use Rattle.h265_model.specs.Stream.{picture_piece, pieces_after, pieces, stream_of}
use Rattle.h265_model.specs.Decode.{Stand, Begun, at_first, at_end, step, shown, at_number, read_units, sets_or_number, decode}
use Rattle.h265_model.proofs.UnitLaws.{units-stream_bytes}
use Rattle.h265_model.proofs.ListParts.{all_append}
use Rattle.h265_laws.proofs.ParamLaws.{param_units_are}
use Rattle.h265_laws.proofs.StreamLaw.{IsFollowing, decoded_as, units_found}

-- ---- one NAL unit

-- a picture's header has two bytes
pub two_bytes : (idr : Bool) → (first second : ℕ) × (0 < second) × (nal_header idr ≡ first ∷ second ∷ [])
two_bytes true = (0x28, 1, omega arith, refl)
two_bytes false = (0x02, 1, omega arith, refl)

-- a NAL unit that is read, and then others
pub one_step : (size : Size) (segments : Bool) (n : ℕ) (stand after : Stand) (unit : NalUnit) (rest : List NalUnit) → step size segments stand unit ≡ Some after
    → read_units size segments n stand (unit ∷ rest) ≡ (read_units size segments (n + 1) after rest >>- λ others. Ok (shown size after ++ others))
unfolding read_units
one_step size segments n stand after unit rest h =
    ap (λ (o : Option Stand). at_number n o >>- λ s. read_units size segments (n + 1) s rest >>- λ others. Ok (shown size s ++ others)) h

-- ---- a picture

-- The NAL units of picture n: after them stands the picture, and it goes out
pub record ReadsOn (settings : Settings) (segments : Bool) (n number : ℕ) (raster : Raster) (stand : Stand) (us rest : List NalUnit) : Type 0 where
  pub next : ℕ
  pub after : Stand
  pub whole : after.begun ≡ None
  pub last : after.last ≡ Some (decoded_as settings (order_count settings.key n % 256) raster)
  pub reads : read_units settings.size segments number stand (us ++ rest) ≡ (read_units settings.size segments next after rest >>- λ others. Ok (raster ∷ others))

-- what has to be known of the NAL units of pictures: they are their pieces, and they are read
pub record AreRead (settings : Settings) (units_for : ℕ → Option Raster → Raster → List NalUnit) : Type 0 where
  pub pieces : (n : ℕ) (before : Option Raster) (raster : Raster) → IsRaster settings.size raster → picture_piece settings n before raster ≡ stream_bytes (units_for n before raster)
  pub are : (n : ℕ) (before : Option Raster) (raster : Raster) → IsRaster settings.size raster → AllByRecursion IsNalUnit (units_for n before raster)
  pub read : (n number : ℕ) (before : Option Raster) (raster : Raster) (stand : Stand) (rest : List NalUnit) → IsRaster settings.size raster → IsFollowing settings n before stand.last → stand.begun ≡ None
      → ReadsOn settings (has_segments settings.extra) n number raster stand (units_for n before raster) rest

module _ (settings : Settings) (units_for : ℕ → Option Raster → Raster → List NalUnit) (each : AreRead settings units_for) where
  all_units : ℕ → Option Raster → List Raster → List NalUnit
  all_units n before [] = []
  all_units n before (raster ∷ rasters) = units_for n before raster ++ all_units (n + 1) (Some raster) rasters

  follows_on : (n poc : ℕ) (raster : Raster) (last : Option Decoded) → poc ≡ order_count settings.key n % 256 → last ≡ Some (decoded_as settings poc raster) → IsFollowing settings (n + 1) (Some raster) last
  follows_on n poc raster None p e = absurd (cc)
  follows_on n poc raster (Some d) p e = (n, refl, ap (λ (o : Option Decoded). poc_of o) e ∙ p, ap (λ (o : Option Decoded). planes_of o) e)
    where
      poc_of : Option Decoded → ℕ
      poc_of None = 0
      poc_of (Some x) = x.poc

      planes_of : Option Decoded → List (List ℕ)
      planes_of None = []
      planes_of (Some x) = x.planes

  pictures_are_read : (n number : ℕ) (before : Option Raster) (rasters : List Raster) (stand : Stand) → AllByRecursion (IsRaster settings.size) rasters → IsFollowing settings n before stand.last → stand.begun ≡ None
      → read_units settings.size (has_segments settings.extra) number stand (all_units n before rasters) ≡ Ok rasters
  unfolding all_units read_units
  pictures_are_read n number before [] stand is behind whole = ap (λ (b : Option Begun). at_end number b) whole
  pictures_are_read n number before (raster ∷ rasters) stand is behind whole =
      let r : ReadsOn settings (has_segments settings.extra) n number raster stand (units_for n before raster) (all_units (n + 1) (Some raster) rasters) =
      each.read n number before raster stand (all_units (n + 1) (Some raster) rasters) is.0 behind whole in
      r.reads
      ∙ ap (λ (x : Result (List Raster) ℕ). x >>- λ others. Ok (raster ∷ others))
      (pictures_are_read (n + 1) r.next (Some raster) rasters r.after is.1 (follows_on n _ raster r.after.last refl r.last) r.whole)

  pieces_are_units : (n : ℕ) (before : Option Raster) (rasters : List Raster) → AllByRecursion (IsRaster settings.size) rasters
      → flat_map (λ piece. piece) (pieces_after settings n before rasters) ≡ stream_bytes (all_units n before rasters)
  unfolding pieces_after stream_bytes all_units
  pieces_are_units n before [] is = refl
  pieces_are_units n before (raster ∷ rasters) is =
      ap (λ (l : List ℕ). l ++ flat_map (λ piece. piece) (pieces_after settings (n + 1) (Some raster) rasters)) (each.pieces n before raster is.0)
      ∙ (ap (λ (l : List ℕ). stream_bytes (units_for n before raster) ++ l) (pieces_are_units (n + 1) (Some raster) rasters is.1)
      ∙ sym (flat_map-append nal_unit_bytes (units_for n before raster) (all_units (n + 1) (Some raster) rasters)))

  units_are : (n : ℕ) (before : Option Raster) (rasters : List Raster) → AllByRecursion (IsRaster settings.size) rasters → AllByRecursion IsNalUnit (all_units n before rasters)
  unfolding all_units
  units_are n before [] is = tt
  units_are n before (raster ∷ rasters) is =
      all_append IsNalUnit (units_for n before raster) (all_units (n + 1) (Some raster) rasters) (each.are n before raster is.0) (units_are (n + 1) (Some raster) rasters is.1)

  stream_is : (rasters : List Raster) → AllByRecursion (IsRaster settings.size) rasters
      → stream_of settings rasters ≡ stream_bytes (param_units settings.size (has_segments settings.extra) ++ all_units 0 None rasters)
  unfolding stream_of pieces stream_bytes
  stream_is rasters is =
      ap (λ (l : List ℕ). flat_map nal_unit_bytes (param_units settings.size (has_segments settings.extra)) ++ l) (pieces_are_units 0 None rasters is)
      ∙ sym (flat_map-append nal_unit_bytes (param_units settings.size (has_segments settings.extra)) (all_units 0 None rasters))

sets_found : (size : Size) (segments : Bool) (rest : List NalUnit) → read_params (param_units size segments) ≡ Ok (size, segments) → sets_or_number (param_units size segments ++ rest) ≡ Ok (size, segments)
unfolding param_units
sets_found size segments rest e = rw (le-ltb (length (param_units size segments ++ rest)) 3 (omega arith), e, sets_or_number) refl

rest_found : (size : Size) (segments : Bool) (rest : List NalUnit) → drop 3 (param_units size segments ++ rest) ≡ rest
unfolding param_units
rest_found size segments rest = refl

-- the law of streams, where parameter sets are read back
pub stream_is_decoded : (settings : Settings) (units_for : ℕ → Option Raster → Raster → List NalUnit) → AreRead settings units_for
    → read_params (param_units settings.size (has_segments settings.extra)) ≡ Ok (settings.size, has_segments settings.extra)
    → (rasters : List Raster) → AllByRecursion (IsRaster settings.size) rasters → decode (stream_of settings rasters) ≡ Ok (settings.size, rasters)
unfolding decode
stream_is_decoded settings units_for each sets rasters is =
    let size : Size = settings.size in
    let segments : Bool = has_segments settings.extra in
    let rest : List NalUnit = all_units settings units_for each 0 None rasters in
    let us : List NalUnit = param_units size segments ++ rest in
    let read : units (stream_of settings rasters) ≡ Ok us =
    ap units (stream_is settings units_for each rasters is)
    ∙ units-stream_bytes us (all_append IsNalUnit (param_units size segments) rest (param_units_are size segments) (units_are settings units_for each 0 None rasters is)) in
    let pictures : read_units size segments 3 at_first (drop 3 us) ≡ Ok rasters =
    ap (λ (l : List NalUnit). read_units size segments 3 at_first l) (rest_found size segments rest) ∙ pictures_are_read settings units_for each 0 3 None rasters at_first is refl refl in
    ap (λ (r : Result (List NalUnit) ℕ). r >>- λ found. (sets_or_number found >>- λ s. (read_units s.0 s.1 3 at_first (drop 3 found) >>- λ ps. Ok (s.0, ps)))) (units_found (stream_of settings rasters) us read)
    ∙ (ap (λ (r : Result (Size × Bool) ℕ). r >>- λ s. (read_units s.0 s.1 3 at_first (drop 3 us) >>- λ ps. Ok (s.0, ps))) (sets_found size segments rest sets)
    ∙ ap (λ (r : Result (List Raster) ℕ). r >>- λ ps. Ok (size, ps)) pictures)
