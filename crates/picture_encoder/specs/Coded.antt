-- An encoder, and the pictures that it has coded.
use Rattle.std.specs.Prelude.{◌≡◌, ◌≤◌, ℕ, Bool, true, false, List, [], ◌∷◌, length, Option, Some, None, IfSome, IsNone}
use Rattle.std.specs.Arc.{arc_value}
use Rattle.h265_model.specs.declared.job.Job.{Job}
use Rattle.h265_model.specs.declared.extra.Extra.{Extra}
use Rattle.h265_model.specs.declared.extra.Extra.TheVariants.{Plain, Hash, Segments, Moves}
use Rattle.h265_model.specs.Plain.{Size}
use Rattle.h265_model.specs.Settings.{Settings}
use Rattle.h265_model.specs.NalUnits.{nal_unit_bytes}
use Rattle.h265_model.specs.Hash.{hash_header, hash_of_planes}
use Rattle.h265_model.specs.Tiles.{job_for}
use Rattle.h265_model.specs.Raster.{Raster, black_raster, coded_picture, planes}
use Rattle.px_plane.specs.Planes.{Planes, Shows, black, planes_of}
use Rattle.px_plane.specs.Tiles.{DiffersOnlyIn, IsJobOf, laid}
use Rattle.picture_encoder.specs.declared.before.Before.{Before}

-- its settings, how many pictures it has coded, and the last of them, which is black where there is none
pub record Coded : Type 0 where
  pub settings : Settings
  pub count : ℕ
  pub last : Planes

-- the picture that was coded last, or a black one where none was
abbrev pub last_or_black : Size → Option Planes → Planes
last_or_black size None = black size
last_or_black size (Some last) = last

-- the picture that a job makes of another
pub record IsLaid (before : Planes) (job : Job) (now : Planes) : Type 0 where
  pub size : now.size ≡ before.size
  pub planes : planes_of now ≡ planes before.size (laid before job)

-- a picture and a job that make this one
pub record Makes (b : Before) (now : Planes) : Type 0 where
  pub fits : IsJobOf (arc_value b.picture).size b.job
  pub makes : IsLaid (arc_value b.picture) b.job now

-- the NAL unit of a picture's hash (7.3.2.4, 7.3.5, D.2.19)
abbrev pub hash_of : Planes → List ℕ
hash_of p = nal_unit_bytes (record { header = hash_header; rbsp = hash_of_planes (planes_of p) })

-- the bytes of a picture's piece after its slice
abbrev pub after_slice : Extra → Planes → List ℕ
after_slice Plain p = []
after_slice Hash p = hash_of p
after_slice Segments p = []
after_slice Moves p = []

-- what is kept of pictures: the one that was coded last has its size, and where there is none, none was coded
pub record IsWhole (size : Size) (effort : ℕ) (count : ℕ) (last : Option Planes) (before : Option Before) : Type 0 where
  pub low : effort ≤ 2
  pub sized : IfSome last (λ p. p.size ≡ size)
  pub none : IsNone last → count ≡ 0
  pub again : IfSome before (λ b. Makes b (last_or_black size last))

-- each picture is one slice, without blocks that move
abbrev pub AreSlices : Extra → Type 0
AreSlices Plain = Unit {0}
AreSlices Hash = Unit {0}
AreSlices Segments = ⊥
AreSlices Moves = ⊥

-- the hash of each picture stands after it
abbrev pub is_hashed : Extra → Bool
is_hashed Plain = false
is_hashed Hash = true
is_hashed Segments = false
is_hashed Moves = false

-- what an encoder of slices keeps besides: what stands after the slice of the picture that was coded last
pub record IsEncoder (e : Coded) (after : Option (List ℕ)) : Type 0 where
  pub slices : AreSlices e.settings.extra
  pub follows : IfSome after (λ bytes. bytes ≡ after_slice e.settings.extra e.last)

-- the last of a list, or this where it has none
abbrev pub last_of : Raster → List Raster → Raster
last_of shown [] = shown
last_of shown (picture ∷ pictures) = last_of picture pictures

-- it has coded so many pictures, and the last of them is that of the list
pub record StandsFor (encoder : Coded) (pictures : List Raster) : Type 0 where
  pub count : encoder.count ≡ length pictures
  pub last : Shows encoder.last (last_of (black_raster encoder.settings.size) pictures)

-- the job turns the picture before into this one: it has the samples of all tiles in which they differ
pub record TurnsInto (job : Job) (before : Planes) (now : Raster) : Type 0 where
  pub samples : job ≡ job_for before.size job.number job.tiles now
  pub elsewhere : DiffersOnlyIn job.tiles before (coded_picture before.size now)
