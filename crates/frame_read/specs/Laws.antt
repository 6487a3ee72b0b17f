-- What is written as a frame is read as that frame.
use Rattle.std.specs.Prelude.{◌≡◌, ℕ, ◌*◌, List, [], ◌++◌, length, Option, Some, None, Ok, IsTrue}
use Rattle.std.specs.List.{AllByRecursion}
use Rattle.h265_model.specs.Plain.{Size}
use Rattle.h265_model.specs.Settings.{is_size}
use Rattle.h265_model.specs.Raster.{Raster}
use Rattle.recorder_model.specs.Frames.{frame, frames}
use Rattle.frame_read.specs.Heads.{is_like}
use Rattle.frame_read.specs.Listed.{next_frame, FramesThen}

-- a colour for each place of a desktop of this size
abbrev pub HasPlaces : Size → Raster → Type 0
HasPlaces size raster = length raster ≡ size.w * size.h

-- a frame in front of other bytes, where frames of its size came before, if any did
abbrev pub EachFrameIsRead : Type 0
EachFrameIsRead = (like : Option Size) (size : Size) (raster : Raster) (rest : List ℕ) → IsTrue (is_size size) → IsTrue (is_like like size.w size.h)
    → HasPlaces size raster → next_frame like (frame size raster ++ rest) ≡ Ok (Some (size, raster), rest)

-- all frames of a list, and then the end
abbrev pub EachListIsRead : Type 0
EachListIsRead = (size : Size) (rasters : List Raster) → IsTrue (is_size size) → AllByRecursion (HasPlaces size) rasters
    → FramesThen size None (frames size rasters) rasters []
