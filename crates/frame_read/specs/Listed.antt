-- Frames one after another.
use Rattle.std.specs.Prelude.{◌≡◌, List, [], ◌∷◌, ℕ, Option, Some, None, Result, Ok, Err, Bool, true, false}
use Rattle.h265_model.specs.Bits.{◌>>-◌}
use Rattle.h265_model.specs.Plain.{Size}
use Rattle.h265_model.specs.Raster.{Raster, crop}
use Rattle.px_plane.specs.Planes.{Planes, picture_of}
use Rattle.frame_read.specs.declared.error.Flaw.{Flaw}
use Rattle.frame_read.specs.declared.error.FrameError.{FrameError}
use Rattle.frame_read.specs.Answers.{ReadsBy}
use Rattle.frame_read.specs.Heads.{next_head}
use Rattle.frame_read.specs.Pixels.{pixels_of}

-- the size and the pixels of a frame
abbrev pub Framed : Type 0
Framed = Size × Raster

-- the pixels behind a head, if there is one
abbrev pub with_pixels : Option Size → List ℕ → Result (Option Framed × List ℕ) Flaw
with_pixels None bytes = Ok (None, bytes)
with_pixels (Some size) bytes = pixels_of size bytes >>- λ pixels. Ok (Some (size, pixels.0), pixels.1)

-- the next frame, where frames of some size may have come before, and what follows it; or nothing where there are no bytes
unfoldable pub next_frame : Option Size → List ℕ → Result (Option Framed × List ℕ) Flaw
next_frame like bytes = next_head like bytes >>- λ head. with_pixels head.0 head.1

-- frames of a size, one after another, where frames of some size may have come before, and what is left behind them
abbrev pub FramesThen : Size → Option Size → List ℕ → List Raster → List ℕ → Type 0
FramesThen size like bytes [] left = bytes ≡ left
FramesThen size like bytes (raster ∷ rasters) left =
    (rest : List ℕ) × (next_frame like bytes ≡ Ok (Some (size, raster), rest)) × FramesThen size (Some size) rest rasters left

-- what was read: a frame that a picture shows, or none
abbrev pub frame_shown : Planes → Result Bool FrameError → Result (Option Framed) FrameError
frame_shown picture (Ok true) = Ok (Some (picture.size, crop picture.size (picture_of picture)))
frame_shown picture (Ok false) = Ok None
frame_shown picture (Err error) = Err error

-- the next frame was read, and a picture shows it
abbrev pub ReadsFrame : Option Size → Option (List ℕ) → Option (List ℕ) → Planes → Result Bool FrameError → Type 0
ReadsFrame like before after picture result = ReadsBy (next_frame like) before after (frame_shown picture result)

-- the first frame
abbrev pub first_shown : Result (Option Planes) FrameError → Result (Option Framed) FrameError
first_shown (Ok (Some picture)) = Ok (Some (picture.size, crop picture.size (picture_of picture)))
first_shown (Ok None) = Ok None
first_shown (Err error) = Err error

abbrev pub ReadsFirst : Option (List ℕ) → Option (List ℕ) → Result (Option Planes) FrameError → Type 0
ReadsFirst before after result = ReadsBy (next_frame None) before after (first_shown result)
