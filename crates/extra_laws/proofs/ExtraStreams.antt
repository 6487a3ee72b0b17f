-- The stream of pictures is decoded to them, whatever it has besides them.
use Rattle.std.proofs.Common.{◌≡◌, refl, ap}
use Rattle.std.specs.Prelude.{Ok}
use Rattle.h265_model.specs.declared.extra.Extra.{Extra}
use Rattle.h265_model.specs.declared.extra.Extra.TheVariants.{Plain, Hash, Segments, Moves}
use Rattle.h265_model.specs.Settings.{has_segments}
use Rattle.h265_model.specs.Stream.{stream_of}
use Rattle.h265_model.specs.Decode.{decode}
use Rattle.stream_laws.proofs.PlainStreams.{plain_streams_are_decoded}
use Rattle.hash_laws.proofs.HashLaw.{hashed_streams_are_decoded}
use Rattle.segment_laws.proofs.SegmentStreams.{segmented_streams_are_decoded}
use Rattle.motion_laws.proofs.MovedStreams.{moved_streams_are_decoded}
use Rattle.extra_laws.specs.Laws.{EachExtraStreamIsDecoded}

pub extra_streams_are_decoded : EachExtraStreamIsDecoded
extra_streams_are_decoded settings pictures size_is wide are = go settings.extra refl
  where
    go : (extra : Extra) → settings.extra ≡ extra → decode (stream_of settings pictures) ≡ Ok (settings.size, pictures)
    go Plain kind = plain_streams_are_decoded settings pictures kind size_is are
    go Hash kind = hashed_streams_are_decoded settings pictures kind size_is are
    go Segments kind = segmented_streams_are_decoded settings pictures kind size_is (wide (ap has_segments kind)) are
    go Moves kind = moved_streams_are_decoded settings pictures kind size_is are
