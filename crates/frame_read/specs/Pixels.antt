-- The pixels of a frame (Netpbm's PPM format).
use Rattle.std.specs.Prelude.{◌≡◌, ℕ, ◌*◌, ◌<◌, List, [], ◌∷◌, ◌++◌, length, take, drop, Option, Result, Ok, Err, nat_lt, if◌then◌else◌}
use Rattle.h265_model.specs.Plain.{Size}
use Rattle.h265_model.specs.Raster.{Raster, crop}
use Rattle.h265_model.specs.declared.rect.Rect.{Rect}
use Rattle.h265_model.specs.declared.rgb.Rgb.{Rgb}
use Rattle.frame_read.specs.declared.error.Flaw.{Flaw}
use Rattle.frame_read.specs.declared.error.Flaw.TheVariants.{Truncated}
use Rattle.frame_read.specs.declared.error.FrameError.{FrameError}
use Rattle.frame_read.specs.declared.error.FrameError.TheVariants.{Bad, Failed, NoMemory}
use Rattle.frame_read.specs.Sources.{StillTold}
use Rattle.frame_read.specs.Answers.{ReadsBy}
use Rattle.px_plane.specs.Planes.{Planes, picture_of, pixel_at, repainted, Shows, ShowsColours}

-- the colours that three bytes each spell: red, green and blue
unfoldable pub colours : List ℕ → List Rgb
colours (r ∷ g ∷ b ∷ bytes) = record { r = r; g = g; b = b } ∷ colours bytes
colours _ = []

-- how many bytes the pixels of this size take
abbrev pub pixel_count : Size → ℕ
pixel_count size = 3 * (size.w * size.h)

-- the pixels of a frame of this size, in rows from the top, and what follows them
unfoldable pub pixels_of : Size → List ℕ → Result (Raster × List ℕ) Flaw
pixels_of size bytes =
    if nat_lt (length bytes) (pixel_count size) then Err Truncated
    else Ok (colours (take (pixel_count size) bytes), drop (pixel_count size) bytes)

-- a slice was filled with the bytes to come, or there were too few
abbrev pub FilledWith : List ℕ → List ℕ → List ℕ → Result (Unit {0}) FrameError → Type 0
FilledWith out before after (Ok done) = before ≡ out ++ after
FilledWith out before after (Err (Bad flaw)) = (flaw ≡ Truncated) × (length before < length out)
FilledWith out before after (Err Failed) = Unit {0}
FilledWith out before after (Err NoMemory) = Unit {0}

abbrev pub Fills : List ℕ → Option (List ℕ) → Option (List ℕ) → Result (Unit {0}) FrameError → Type 0
Fills out before after result = StillTold before after (λ was now. FilledWith out was now result)

-- rows of a picture from a row on
abbrev pub strip : ℕ → ℕ → ℕ → Rect
strip w y n = record { x = 0; y = y; w = w; h = n }

-- the colours that a picture shows after pixels were put into a rectangle
abbrev pub PaintsStrip : Planes → Planes → Rect → List Rgb → Type 0
PaintsStrip old new rect pixels =
    (before : ℕ → ℕ → Rgb) → ShowsColours old before → ShowsColours new (repainted rect (pixel_at rect pixels) before)

-- what a picture shows after its pixels were read
abbrev pub shown_by : Planes → Result (Unit {0}) FrameError → Result Raster FrameError
shown_by picture (Ok done) = Ok (crop picture.size (picture_of picture))
shown_by picture (Err error) = Err error

-- the pixels of a frame were read, and a picture shows them
abbrev pub ReadsPixels : Size → Option (List ℕ) → Option (List ℕ) → Planes → Result (Unit {0}) FrameError → Type 0
ReadsPixels size before after picture result = ReadsBy (pixels_of size) before after (shown_by picture result)

-- a picture shows what it has of the desktop: its samples outside are 0
abbrev pub IsClean : Planes → Type 0
IsClean picture = Shows picture (crop picture.size (picture_of picture))
