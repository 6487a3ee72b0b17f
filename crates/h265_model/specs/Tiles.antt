-- Tiles of 32 by 32 samples, one for each coding tree unit (6.3.1), and what is handed to an encoder of a picture.
use Rattle.std.specs.Prelude.{ℕ, ◌+◌, ◌*◌, List, flat_map}
use Rattle.h265_model.specs.declared.job.Job.{Job}
use Rattle.h265_model.specs.Plain.{Size, Picture, ctus, below, place_values, ctu_x, ctu_y}
use Rattle.h265_model.specs.Raster.{Raster, coded_picture}

-- what is handed to an encoder, this project's own: how many tiles a picture has, one for each coding tree unit
-- (PicSizeInCtbsY, 7.4.3.2.1)
abbrev pub tile_count : Size → ℕ
tile_count size = ctus size.w * ctus size.h

-- what is handed to an encoder, this project's own: the samples of a tile, the luma and chroma coding tree blocks
-- (6.3.2)
abbrev pub tile_samples : Size → Picture → ℕ → List ℕ
tile_samples size p t = flat_map (λ c. place_values 32 32 (λ x y. p c (ctu_x size t + x) (ctu_y size t + y))) (below 3)

-- what is handed to an encoder, this project's own: these tiles of a raster, as the picture of this number
abbrev pub job_for : Size → ℕ → List ℕ → Raster → Job
job_for size number tiles r =
    record { number = number; tiles = tiles; samples = flat_map (tile_samples size (coded_picture size r)) tiles }
