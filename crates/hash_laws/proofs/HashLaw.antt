-- The stream of pictures with hashes is decoded to them.
use Rattle.std.proofs.Common.{subst, ◌≡◌, refl, sym, ◌∙◌, ap, ℕ, ◌+◌, ◌%◌, ◌<◌, List, [], ◌∷◌, ◌++◌, true, false, append-nil, arith}
use Rattle.std.specs.Prelude.{Bool, Option, Some, None, Ok, Err, Result, bytes_eq}
use Rattle.std.specs.List.{flat_map}
use Rattle.std.proofs.lemmas.Bool.{cond-true}
use Rattle.std.proofs.lemmas.Slice.Eq.{bytes_eq-Decides}
use Rattle.h265_model.specs.declared.extra.Extra.TheVariants.{Hash}
use Rattle.md5.specs.Md5.{md5}
use Rattle.h265_model.specs.Plain.{Size}
use Rattle.h265_model.specs.Bits.{◌>>-◌}
use Rattle.h265_model.specs.Settings.{has_segments, Settings}
use Rattle.h265_model.specs.Raster.{Raster, IsRaster, planes, crop}
use Rattle.h265_model.specs.NalUnits.{NalUnit, IsNalUnit, EndsWell, nal_unit_bytes, stream_bytes}
use Rattle.h265_model.specs.Stream.{is_idr, reference, order_count}
use Rattle.h265_model.specs.Decode.{Decoded, decoded_picture}
use Rattle.h265_model.specs.Hash.{hash_header, hash_of_planes, hash_bits}
use Rattle.h265_model.specs.Stream.{hash_piece, picture_units, picture_piece}
use Rattle.h265_model.specs.Decode.{Stand, hash_step, step, read_units}
use Rattle.h265_laws.proofs.EndsLaw.{ends_append, ends_well}
use Rattle.h265_laws.proofs.HeadLaws.{read_head-head_bits}
use Rattle.h265_laws.proofs.ParamLaws.{in_limits}
use Rattle.h265_laws.proofs.PictureLaw.{IsFit, size_fits, cropped}
use Rattle.h265_laws.proofs.StreamLaw.{picture_of, picture_unit, IsFollowing, decoded_as, picture_is_read, piece_is_unit, unit_is}
use Rattle.h265_laws.proofs.ParamLaws.{read_params-param_units}
use Rattle.stream_laws.proofs.OldStreams.{now_whole, step_same}
use Rattle.stream_laws.proofs.StreamForm.{one_step, ReadsOn, AreRead, stream_is_decoded}
use Rattle.hash_laws.specs.Laws.{EachHashedStreamIsDecoded}
use Rattle.h265_model.specs.declared.extra.Extra.{Extra}

abbrev hash_unit : Settings → Raster → NalUnit
hash_unit settings raster = record { header = hash_header; rbsp = hash_bits settings.size (picture_of settings raster) }

abbrev hashed_units : Settings → ℕ → Option Raster → Raster → List NalUnit
hashed_units settings n before raster = picture_unit settings n before raster ∷ hash_unit settings raster ∷ []

-- a message ends in a byte other than 0
hash_ends : (list : List (List ℕ)) → EndsWell (hash_of_planes list)
unfolding hash_of_planes
hash_ends list = ends_well _ (ends_append ((132 ∷ 49 ∷ 0 ∷ []) ++ flat_map md5 list) (0x80 ∷ []) (record { last = 0x80; is = λ o. refl; some = omega arith }))

hash_unit_is : (settings : Settings) (raster : Raster) → IsNalUnit (hash_unit settings raster)
hash_unit_is settings raster = record { header = (0x50, 1, omega arith, refl); ends = hash_ends (planes settings.size (picture_of settings raster)) }

same_bytes : (list : List ℕ) → bytes_eq list list ≡ true
same_bytes list = (bytes_eq-Decides list list).1 refl

-- a picture whose hash was read
abbrev then_hash : Decoded → Stand
then_hash now = record { last = Some now; begun = None; ended = false }

-- the hash of a picture is read right after it
hash_is_read : (size : Size) (now : Decoded) (rbsp : List ℕ) → rbsp ≡ hash_of_planes now.planes → step size false (now_whole now) (record { header = hash_header; rbsp = rbsp }) ≡ Some (then_hash now)
unfolding step hash_step
hash_is_read size now rbsp e =
    cond-true (bytes_eq rbsp (hash_of_planes now.planes)) (Some (then_hash now)) None (ap (λ (l : List ℕ). bytes_eq l (hash_of_planes now.planes)) e ∙ same_bytes (hash_of_planes now.planes))

-- what goes out of two NAL units, the picture with the first
both_out : (r : Result (List Raster) ℕ) (shown_first : Raster) (raster : Raster) → shown_first ≡ raster
    → ((r >>- λ others. Ok ([] ++ others)) >>- λ others. Ok (shown_first ∷ others)) ≡ (r >>- λ others. Ok (raster ∷ others))
both_out (Err n) s raster e = refl
both_out (Ok others) s raster e = ap (λ (x : Raster). Ok (x ∷ others)) e

hashed_is_read : (settings : Settings) → IsFit settings.size → 0 < settings.size.w → (n number : ℕ) (before : Option Raster) (raster : Raster) (stand : Stand) (rest : List NalUnit)
    → IsRaster settings.size raster → IsFollowing settings n before stand.last → ReadsOn settings false n number raster stand (hashed_units settings n before raster) rest
hashed_is_read settings fit some n number before raster stand rest is behind =
    let size : Size = settings.size in
    let now : Decoded = decoded_as settings (order_count settings.key n % 256) raster in
    let unit : NalUnit = picture_unit settings n before raster in
    let hash : NalUnit = hash_unit settings raster in
    let first : step size false stand unit ≡ Some (now_whole now) = step_same size stand unit now (picture_is_read read_head-head_bits settings n before raster stand.last fit is behind) in
    let second : step size false (now_whole now) hash ≡ Some (then_hash now) = hash_is_read size now (hash_bits size (picture_of settings raster)) refl in
    record {
      next = number + 1 + 1;
      after = then_hash now;
      whole = refl;
      last = refl;
      reads =
          one_step size false number stand (now_whole now) unit (hash ∷ rest) first
          ∙ (ap (λ (r : Result (List Raster) ℕ). r >>- λ others. Ok (crop size (decoded_picture size now) ∷ others)) (one_step size false (number + 1) (now_whole now) (then_hash now) hash rest second)
          ∙ both_out (read_units size false (number + 1 + 1) (then_hash now) rest) (crop size (decoded_picture size now)) raster (cropped size raster is some));
    }

hashed_are_read : (settings : Settings) → settings.extra ≡ Hash → IsFit settings.size → 0 < settings.size.w → AreRead settings (hashed_units settings)
unfolding picture_piece picture_units stream_bytes
hashed_are_read settings kind fit some = record {
  pieces = λ n before raster is.
      ap
      (λ (x : Extra). picture_units x settings (is_idr settings.key n) (order_count settings.key n % 256) (reference (is_idr settings.key n) settings.size before) (picture_of settings raster)) kind
      ∙ (ap (λ (l : List ℕ). l ++ hash_piece settings.size (picture_of settings raster)) (piece_is_unit settings (is_idr settings.key n) (order_count settings.key n % 256) before raster fit is)
      ∙ ap (λ (l : List ℕ). nal_unit_bytes (picture_unit settings n before raster) ++ l) (sym (append-nil (nal_unit_bytes (hash_unit settings raster)))));
  are = λ n before raster is. (unit_is settings _ _ before raster fit is, (hash_unit_is settings raster, tt));
  read = λ n number before raster stand rest is behind whole.
      subst (λ (b : Bool). ReadsOn settings b n number raster stand (hashed_units settings n before raster) rest) (sym (ap has_segments kind))
      (hashed_is_read settings fit some n number before raster stand rest is behind);
}

pub hashed_streams_are_decoded : EachHashedStreamIsDecoded
hashed_streams_are_decoded settings rasters kind size_is are =
    stream_is_decoded settings (hashed_units settings)
    (hashed_are_read settings kind (size_fits settings.size size_is) (in_limits settings.size size_is).w_low)
    (read_params-param_units settings.size (has_segments settings.extra) size_is (λ e. absurd (let f : has_segments settings.extra ≡ false = ap has_segments kind in cc))) rasters are
