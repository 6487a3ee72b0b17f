-- A stream that is walked through: once to check it, and once to write its frames.
use Rattle.std.specs.Prelude.{◌≡◌, ℕ, ◌<◌, ◌≤◌, ◌^◌, ◌++◌, List, [], ◌∷◌, length, map, take, slice_index_or, Option, Some, None, Result, Ok, Err, Vec, IsOk}
use Rattle.std.specs.FinMap.{insert}
use Rattle.h265_model.specs.Plain.{Size}
use Rattle.h265_model.specs.Raster.{Raster}
use Rattle.h265_model.specs.Decode.{decode}
use Rattle.recorder_model.specs.Files.{Files, file_at, IsPrefix}
use Rattle.recorder_model.specs.Frames.{frame}
use Rattle.recorder_model.specs.Report.{decode_text}
use Rattle.edges.specs.declared.sink.WriteError.{WriteError}
use Rattle.edges.specs.declared.sink.WriteError.TheVariants as write
use Rattle.stream_decode.specs.Readings.{Reading}
use Rattle.stream_decode.specs.declared.error.DecodeError.{DecodeError}
use Rattle.stream_decode.specs.declared.error.DecodeError.TheVariants as reading
use Rattle.screenrec.specs.declared.outcome.Status.{Status}
use Rattle.screenrec.specs.declared.outcome.Status.TheVariants as status
use Rattle.screenrec.specs.Decoding.{most_stream_bytes, IsStreamOf, AreFrames, AreFramesCutShort}

-- ---- checking

-- the status of a stream that isn't read on
abbrev pub stream_status : DecodeError → Status
stream_status (reading.BadStream at) = status.BadStream at
stream_status reading.NoMemory = status.NoMemory

-- a stream that is read to its end, or to the NAL unit that fails
abbrev pub Walks : Option ℕ → Result (Unit {0}) DecodeError → Type 0
Walks stop (Ok done) = stop ≡ None
Walks stop (Err (reading.BadStream at)) = stop ≡ Some at
Walks stop (Err reading.NoMemory) = Unit {0}

-- whether H.265 decodes a stream of these bytes
abbrev pub Checks : List ℕ → Result (Unit {0}) DecodeError → Type 0
Checks bytes (Ok done) = IsOk (decode bytes)
Checks bytes (Err (reading.BadStream at)) = decode bytes ≡ Err at
Checks bytes (Err reading.NoMemory) = Unit {0}

-- the stream in a file of these bytes, or why it is refused
abbrev pub HoldsStream : {G : Type 0} → List ℕ → Result (Vec ℕ G) Status → Type 0
HoldsStream bytes (Ok stream) = stream.items ≡ bytes
HoldsStream bytes (Err (status.InputFault file)) = Unit {0}
HoldsStream bytes (Err (status.TooLarge file)) = most_stream_bytes < length bytes
HoldsStream bytes (Err (status.BadStream at)) = (length bytes ≤ most_stream_bytes) × (decode bytes ≡ Err at)
HoldsStream bytes (Err status.NoMemory) = Unit {0}
HoldsStream bytes (Err _) = ⊥

-- the statuses by which a stream is refused
abbrev pub IsOfStream : Status → Type 0
IsOfStream (status.InputFault file) = file ≡ 0
IsOfStream (status.TooLarge file) = file ≡ 0
IsOfStream (status.BadStream at) = Unit {0}
IsOfStream status.NoMemory = Unit {0}
IsOfStream _ = ⊥

-- ---- writing frames

-- a stream that was checked, before its first picture
pub record IsOpened (bytes : List ℕ) (r : Reading) : Type 0 where
  pub stream : IsStreamOf bytes r.size r.pictures
  pub stop : r.stop ≡ None
  pub few : length r.pictures ≤ most_stream_bytes

-- the frame of the next picture
abbrev pub next_frame : Reading → List ℕ
next_frame r = slice_index_or (map (frame r.size) r.pictures) 0 []

-- one more picture was read, whose frame has so many bytes
pub record IsNextFrame (old new : Reading) (count : ℕ) : Type 0 where
  pub picture : Raster
  pub next : old.pictures ≡ picture ∷ new.pictures
  pub size : new.size ≡ old.size
  pub stop : new.stop ≡ old.stop
  pub counted : count ≡ length (frame old.size picture)
  pub short : count ≤ 2 ^ 27

-- one more picture was read, or none is left
abbrev pub StepsOn : Result (Option ℕ) WriteError → Reading → Reading → Type 0
StepsOn (Ok (Some count)) old new = IsNextFrame old new count
StepsOn (Ok None) old new = old.pictures ≡ []
StepsOn (Err error) old new = Unit {0}

-- a frame was appended, or nothing at the end of the stream; a part of it and then a fault, or nothing for want of memory
abbrev pub AppendsFrame : List ℕ → List ℕ → Files → Files → Result (Option ℕ) WriteError → Type 0
AppendsFrame name piece before after (Ok (Some count)) = after ≡ insert before name (file_at before name ++ piece)
AppendsFrame name piece before after (Ok None) = after ≡ before
AppendsFrame name piece before after (Err write.Failed) =
    (part : List ℕ) × IsPrefix part piece × (after ≡ insert before name (file_at before name ++ part))
AppendsFrame name piece before after (Err write.NoMemory) = after ≡ before

-- the frames of all pictures stand in the file, or of some and a part of the next one, or of some
abbrev pub EndsFrames : Size → List Raster → List ℕ → Files → Files → Result (Unit {0}) WriteError → ℕ → Type 0
EndsFrames size pictures name before after (Ok done) written = AreFrames size pictures name before after written
EndsFrames size pictures name before after (Err write.Failed) written = AreFramesCutShort size pictures name before after written
EndsFrames size pictures name before after (Err write.NoMemory) written =
    (whole : ℕ) × AreFrames size (take whole pictures) name before after written

-- ---- the report

-- with Ok the report grew by this text, with ReportFault by a part of it, and else not at all
abbrev pub ReportsPictures : ℕ → Size → ℕ → List ℕ → List ℕ → Status → Type 0
ReportsPictures count size written was now status.Ok = now ≡ was ++ decode_text count size.w size.h written
ReportsPictures count size written was now status.ReportFault =
    (part : List ℕ) × IsPrefix part (decode_text count size.w size.h written) × (now ≡ was ++ part)
ReportsPictures count size written was now _ = now ≡ was
