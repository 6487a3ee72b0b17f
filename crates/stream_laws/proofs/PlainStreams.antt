-- The stream of pictures alone is decoded to them.
use Rattle.std.proofs.Common.{subst, ◌≡◌, refl, sym, ◌∙◌, ap, ℕ, ◌+◌, ◌%◌, ◌<◌, List, [], ◌∷◌, false, append-nil}
use Rattle.std.specs.Prelude.{Bool, Option, Ok, IsTrue}
use Rattle.std.specs.List.{AllByRecursion}
use Rattle.h265_model.specs.declared.extra.Extra.TheVariants.{Plain}
use Rattle.h265_model.specs.Plain.{Size}
use Rattle.h265_model.specs.Bits.{◌>>-◌}
use Rattle.h265_model.specs.Settings.{has_segments, Settings, is_size}
use Rattle.h265_model.specs.Raster.{Raster, IsRaster}
use Rattle.h265_model.specs.NalUnits.{NalUnit, nal_unit_bytes, stream_bytes}
use Rattle.h265_model.specs.Stream.{is_idr, reference, order_count, stream_of}
use Rattle.h265_model.specs.Decode.{Decoded, decode}
use Rattle.h265_model.specs.Stream.{picture_units, picture_piece}
use Rattle.h265_model.specs.Decode.{Stand, read_units}
use Rattle.h265_laws.proofs.HeadLaws.{read_head-head_bits}
use Rattle.h265_laws.proofs.ParamLaws.{in_limits}
use Rattle.h265_laws.proofs.PictureLaw.{IsFit, size_fits, cropped}
use Rattle.h265_laws.proofs.StreamLaw.{picture_of, picture_unit, IsFollowing, decoded_as, picture_is_read, piece_is_unit, unit_is}
use Rattle.stream_laws.specs.Laws.{EachPlainStreamIsDecoded}
use Rattle.h265_laws.proofs.ParamLaws.{read_params-param_units}
use Rattle.stream_laws.proofs.OldStreams.{now_whole, step_same}
use Rattle.stream_laws.proofs.StreamForm.{one_step, ReadsOn, AreRead, stream_is_decoded}
use Rattle.h265_model.specs.declared.extra.Extra.{Extra}

plain_units : Settings → ℕ → Option Raster → Raster → List NalUnit
plain_units settings n before raster = picture_unit settings n before raster ∷ []

plain_is_read : (settings : Settings) → IsFit settings.size → 0 < settings.size.w → (n number : ℕ) (before : Option Raster) (raster : Raster) (stand : Stand) (rest : List NalUnit)
    → IsRaster settings.size raster → IsFollowing settings n before stand.last → ReadsOn settings false n number raster stand (plain_units settings n before raster) rest
unfolding plain_units
plain_is_read settings fit some n number before raster stand rest is behind =
    let size : Size = settings.size in
    let now : Decoded = decoded_as settings (order_count settings.key n % 256) raster in
    let unit : NalUnit = picture_unit settings n before raster in
    record {
      next = number + 1;
      after = now_whole now;
      whole = refl;
      last = refl;
      reads =
          one_step size false number stand (now_whole now) unit rest (step_same size stand unit now (picture_is_read read_head-head_bits settings n before raster stand.last fit is behind))
          ∙ ap (λ (r : Raster). read_units size false (number + 1) (now_whole now) rest >>- λ others. Ok (r ∷ others)) (cropped size raster is some);
    }

plain_are_read : (settings : Settings) → settings.extra ≡ Plain → IsFit settings.size → 0 < settings.size.w → AreRead settings (plain_units settings)
unfolding picture_piece picture_units stream_bytes plain_units
plain_are_read settings kind fit some = record {
  pieces = λ n before raster is.
      ap
      (λ (x : Extra). picture_units x settings (is_idr settings.key n) (order_count settings.key n % 256) (reference (is_idr settings.key n) settings.size before) (picture_of settings raster)) kind
      ∙ (piece_is_unit settings (is_idr settings.key n) (order_count settings.key n % 256) before raster fit is ∙ sym (append-nil (nal_unit_bytes (picture_unit settings n before raster))));
  are = λ n before raster is. (unit_is settings _ _ before raster fit is, tt);
  read = λ n number before raster stand rest is behind whole.
      subst (λ (b : Bool). ReadsOn settings b n number raster stand (plain_units settings n before raster) rest) (sym (ap has_segments kind))
      (plain_is_read settings fit some n number before raster stand rest is behind);
}

pub plain_streams_are_decoded : EachPlainStreamIsDecoded
plain_streams_are_decoded settings rasters kind size_is are =
    stream_is_decoded settings (plain_units settings)
    (plain_are_read settings kind (size_fits settings.size size_is) (in_limits settings.size size_is).w_low)
    (read_params-param_units settings.size (has_segments settings.extra) size_is (λ e. absurd (let f : has_segments settings.extra ≡ false = ap has_segments kind in cc))) rasters are
