-- The pieces of a stream, picture by picture.
use Rattle.std.specs.Prelude.{◌≡◌, ◌+◌, List, [], ◌∷◌, ◌++◌}
use Rattle.h265_model.specs.Raster.{Raster}
use Rattle.h265_model.specs.Stream.{pieces}
use Rattle.px_plane.specs.Planes.{Planes, Shows}
use Rattle.picture_encoder.specs.Coded.{Coded, StandsFor}
use Rattle.picture_encoder.specs.Planning.{units_of}

-- what was coded and one picture more stand for the pictures before and that one, and the stream has its NAL units as one piece more
pub record HasFollowed (e : Coded) (now : Planes) (before : List Raster) (shown : Raster) : Type 0 where
  pub stands : StandsFor (record e { count = e.count + 1; last = now }) (before ++ shown ∷ [])
  pub pieces_are : pieces e.settings (before ++ shown ∷ []) ≡ pieces e.settings before ++ units_of e now ∷ []

-- of any pictures and a picture of their size, in whatever stream
abbrev pub EachPictureFollows : Type 0
EachPictureFollows =
    (e : Coded) (now : Planes) (before : List Raster) (shown : Raster)
    → e.last.size ≡ now.size → now.size ≡ e.settings.size → StandsFor e before → Shows now shown → HasFollowed e now before shown
