-- The pieces of a stream so far are the stream of the pictures so far.
use Rattle.std.proofs.Common.{◌≡◌, refl, ◌∙◌, ap, ℕ, zero, suc, ◌+◌, List, [], ◌∷◌, take}
use Rattle.std.specs.Prelude.{Option, Some, None}
use Rattle.std.specs.List.{AllByRecursion}
use Rattle.h265_model.specs.Plain.{joined}
use Rattle.h265_model.specs.Settings.{Settings, has_segments}
use Rattle.h265_model.specs.Raster.{Raster, IsRaster}
use Rattle.h265_model.specs.NalUnits.{stream_bytes}
use Rattle.h265_model.specs.ParamSets.{param_units}
use Rattle.h265_model.specs.Stream.{picture_piece, pieces_after, pieces, stream_of}
use Rattle.h265_model.specs.Decode.{decode}
use Rattle.extra_laws.specs.Laws.{EachBeginningIsDecoded}
use Rattle.extra_laws.proofs.ExtraStreams.{extra_streams_are_decoded}

take_after : (settings : Settings) (number : ℕ) (before : Option Raster) (n : ℕ) (pictures : List Raster)
    → take n (pieces_after settings number before pictures) ≡ pieces_after settings number before (take n pictures)
unfolding pieces_after
take_after settings number before zero pictures = refl
take_after settings number before (suc n) [] = refl
take_after settings number before (suc n) (now ∷ pictures) =
    ap (λ (l : List (List ℕ)). picture_piece settings number before now ∷ l) (take_after settings (number + 1) (Some now) n pictures)

all_taken : {A : Type 0} (T : A → Type 0) (n : ℕ) (list : List A) → AllByRecursion T list → AllByRecursion T (take n list)
all_taken T zero list h = tt
all_taken T (suc n) [] h = tt
all_taken T (suc n) (x ∷ list) h = (h.0, all_taken T n list h.1)

pub beginnings_are_decoded : EachBeginningIsDecoded
unfolding pieces stream_of
beginnings_are_decoded settings pictures n size_is wide are =
    ap (λ (l : List (List ℕ)). decode (joined (stream_bytes (param_units settings.size (has_segments settings.extra)) ∷ l))) (take_after settings 0 None n pictures)
    ∙ extra_streams_are_decoded settings (take n pictures) size_is wide (all_taken (IsRaster settings.size) n pictures are)
