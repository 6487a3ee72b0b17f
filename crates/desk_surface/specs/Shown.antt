-- What a picture shows of the lines of a script.
use Rattle.std.specs.Prelude.{List}
use Rattle.recorder_model.specs.declared.line.Line.{Line}
use Rattle.recorder_model.specs.Painting.{raster}
use Rattle.px_plane.specs.Planes.{Planes, Shows}

-- the picture shows what these lines paint
abbrev pub ShowsLines : Planes → List Line → Type 0
ShowsLines p lines = Shows p (raster p.size lines)
