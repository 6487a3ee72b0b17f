-- Laws over the definitions of the recorder.
use Rattle.std.specs.Prelude.{List, []}
use Rattle.std.specs.List.{AllByRecursion}
use Rattle.recorder_model.specs.declared.line.Line.{Line}
use Rattle.h265_model.specs.Plain.{Size}
use Rattle.h265_model.specs.Raster.{IsRaster}
use Rattle.recorder_model.specs.Painting.{HasColours, rasters_after}

-- the pictures of a script are rasters of its size
abbrev pub EachPictureIsRaster : Type 0
EachPictureIsRaster =
    (size : Size) (lines : List Line) → AllByRecursion HasColours lines → AllByRecursion (IsRaster size) (rasters_after size [] lines)
