-- The sizes of pictures, and how a list of them is coded.
use Rattle.std.specs.Prelude.{ℕ, ◌*◌, Bool, true, false, ◌&&◌, nat_le}
use Rattle.h265_model.specs.declared.extra.Extra.{Extra}
use Rattle.h265_model.specs.declared.extra.Extra.TheVariants.{Plain, Hash, Segments, Moves}
use Rattle.h265_model.specs.Plain.{Size}

-- a limit of this project's own on a side of a picture
abbrev pub most_side : ℕ
most_side = 4096

-- a limit of this project's own on the area of a picture
abbrev pub most_area : ℕ
most_area = 8847360

-- the sizes that pictures may have, within limits of this project's own
abbrev pub is_size : Size → Bool
is_size s = nat_le 1 s.w && nat_le s.w most_side && nat_le 1 s.h && nat_le s.h most_side && nat_le (s.w * s.h) most_area

-- how pictures are coded, this project's own: their size, the effort, how far IDR pictures stand apart, and what the
-- stream has besides pictures
pub record Settings : Type 0 where
  pub size : Size
  pub effort : ℕ
  pub key : ℕ
  pub extra : Extra

-- a kind of stream, this project's own: pictures alone, each in a slice
abbrev pub plain : Size → ℕ → ℕ → Settings
plain size effort key = record { size = size; effort = effort; key = key; extra = Plain }

-- a kind of stream, this project's own: each row of coding tree units is a slice segment (7.3.6.1)
abbrev pub has_segments : Extra → Bool
has_segments Plain = false
has_segments Hash = false
has_segments Segments = true
has_segments Moves = false
