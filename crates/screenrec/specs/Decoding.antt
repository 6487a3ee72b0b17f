-- What the words `decode IN OUT` promise.
use Rattle.std.specs.Prelude.{◌≡◌, ◌⊎◌, ℕ, ◌≤◌, ◌<◌, ◌++◌, List, [], length, map, take, slice_index_or, Result, Ok, Err, IsOk}
use Rattle.std.specs.FinMap.{insert}
use Rattle.h265_model.specs.Plain.{Size}
use Rattle.h265_model.specs.Raster.{Raster}
use Rattle.h265_model.specs.Decode.{decode}
use Rattle.recorder_model.specs.declared.entry.Entry.{Entry}
use Rattle.recorder_model.specs.Files.{Files, IsPrefix, Rose}
use Rattle.recorder_model.specs.Frames.{frame, frames}
use Rattle.recorder_model.specs.Headline.{IsUntouched}
use Rattle.recorder_model.specs.Report.{decode_text}
use Rattle.screenrec.specs.declared.outcome.Status.{Status}
use Rattle.screenrec.specs.declared.outcome.Status.TheVariants as status
use Rattle.screenrec.specs.Answers.{Counts, NoneRose}

-- the limit on a stream's bytes
abbrev pub most_stream_bytes : ℕ
most_stream_bytes = 268435456

-- a stream of these bytes is served: it isn't too long, and H.265 decodes it to these pictures
pub record IsStreamOf (bytes : List ℕ) (size : Size) (pictures : List Raster) : Type 0 where
  pub within : length bytes ≤ most_stream_bytes
  pub decodes : decode bytes ≡ Ok (size, pictures)

-- ---- frames in a file

module _ (size : Size) (pictures : List Raster) (out : List ℕ) (before after : Files) (written : ℕ) where
  -- OUT is the frames of these pictures, in order; every other file is as it was
  pub record AreFrames : Type 0 where
    pub stored : after ≡ insert before out (frames size pictures)
    pub counted : written ≡ length (frames size pictures)

  -- OUT holds so many whole frames of these pictures, and a part of the next one
  pub record AreFramesCutShort : Type 0 where
    pub whole : ℕ
    pub part : List ℕ
    pub is_part : IsPrefix part (slice_index_or (map (frame size) pictures) whole [])
    pub stored : after ≡ insert before out (frames size (take whole pictures) ++ part)
    pub counted : written ≡ length (frames size (take whole pictures))

-- ---- what stands after each status

module _ (bytes out : List ℕ) (before after : Files) (order : List Entry) (written : ℕ) where
  -- The stream was decoded, and OUT is the frames of its pictures.
  pub record IsDecoded : Type 0 where
    pub size : Size
    pub pictures : List Raster
    pub stream : IsStreamOf bytes size pictures
    pub no_order : order ≡ []
    pub stands : AreFrames size pictures out before after written

  -- The stream can be decoded, and OUT is a part of the frames of its pictures.
  pub record IsDecodedInPart : Type 0 where
    pub size : Size
    pub pictures : List Raster
    pub stream : IsStreamOf bytes size pictures
    pub no_order : order ≡ []
    pub cut_short : AreFramesCutShort size pictures out before after written

  -- The stream can be decoded, and OUT is the frames of its first pictures.
  pub record IsDecodedSoFar : Type 0 where
    pub size : Size
    pub pictures : List Raster
    pub stream : IsStreamOf bytes size pictures
    pub no_order : order ≡ []
    pub whole : ℕ
    pub stands : AreFrames size (take whole pictures) out before after written

  -- The stream can be decoded, and OUT wasn't made.
  pub record IsNotDecoded : Type 0 where
    pub size : Size
    pub pictures : List Raster
    pub stream : IsStreamOf bytes size pictures
    pub untouched : IsUntouched order before after written

  -- Decoding stops at the NAL unit of this number, and nothing was done.
  pub record IsBadStream (at : ℕ) : Type 0 where
    pub within : length bytes ≤ most_stream_bytes
    pub stops : decode bytes ≡ Err at
    pub untouched : IsUntouched order before after written

  -- The stream is too long, and nothing was done.
  pub record IsTooLong : Type 0 where
    pub longer : most_stream_bytes < length bytes
    pub untouched : IsUntouched order before after written

  -- what a status says of a stream of these bytes, and of the files
  abbrev pub LeavesStream : Status → Type 0
  LeavesStream status.Ok = IsDecoded
  LeavesStream status.Usage = ⊥
  LeavesStream (status.BadPaint file line cause) = ⊥
  LeavesStream (status.Limit which) = ⊥
  LeavesStream (status.InputFault file) = IsUntouched order before after written
  LeavesStream status.SinkFault = IsNotDecoded ⊎ IsDecodedInPart
  LeavesStream status.ReportFault = IsDecoded
  LeavesStream status.NoMemory = IsUntouched order before after written ⊎ IsDecodedSoFar
  LeavesStream (status.TooLarge file) = IsTooLong
  LeavesStream (status.BadStream at) = IsBadStream at

-- With Ok the report grew by its text, and with ReportFault by a part of it.
abbrev pub ReportsStream : List ℕ → ℕ → List ℕ → List ℕ → Status → Type 0
ReportsStream bytes written was now status.Ok =
    (size : Size) (pictures : List Raster) → decode bytes ≡ Ok (size, pictures) → now ≡ was ++ decode_text (length pictures) size.w size.h written
ReportsStream bytes written was now status.ReportFault =
    (size : Size) (pictures : List Raster) → decode bytes ≡ Ok (size, pictures) →
    (part : List ℕ) × IsPrefix part (decode_text (length pictures) size.w size.h written) × (now ≡ was ++ part)
ReportsStream bytes written was now _ = now ≡ was

-- what is answered where a stream is to be decoded
abbrev pub IsOfDecoding : Status → Type 0
IsOfDecoding status.Usage = ⊥
IsOfDecoding (status.BadPaint file line cause) = ⊥
IsOfDecoding (status.Limit which) = ⊥
IsOfDecoding (status.InputFault file) = file ≡ 0
IsOfDecoding (status.TooLarge file) = file ≡ 0
IsOfDecoding _ = Unit {0}

-- Completeness, but for want of memory: where the stream can be decoded and no count rose, the answer is Ok; where decoding stops and no
-- read failed, the number of the NAL unit at which it stops; and where the stream is too long and no read failed, that it is.
pub record IsCompleteDecoding (bytes : List ℕ) (before now : Counts) (answer : Status) : Type 0 where
  pub decoded : (size : Size) (pictures : List Raster) → IsStreamOf bytes size pictures → NoneRose before now →
      (answer ≡ status.Ok) ⊎ (answer ≡ status.NoMemory)
  pub stopped : (at : ℕ) → length bytes ≤ most_stream_bytes → decode bytes ≡ Err at → ¬ Rose before.reads now.reads →
      (answer ≡ status.BadStream at) ⊎ (answer ≡ status.NoMemory)
  pub too_long : most_stream_bytes < length bytes → ¬ Rose before.reads now.reads → (answer ≡ status.TooLarge 0) ⊎ (answer ≡ status.NoMemory)

-- ---- reading IN

-- nothing of these bytes is refused
pub record IsServable (bytes : List ℕ) : Type 0 where
  pub within : length bytes ≤ most_stream_bytes
  pub decodes : IsOk (decode bytes)
