-- Reading on from one NAL unit to the next.
use Rattle.std.specs.Prelude.{◌≡◌, ℕ, Bool, true, false, List, [], ◌∷◌, ◌++◌, Option, Some, None, option_map, Result, Ok, Err, bytes_eq}
use Rattle.h265_model.specs.Plain.{Size}
use Rattle.h265_model.specs.NalUnits.{NalUnit}
use Rattle.h265_model.specs.Hash.{hash_header}
use Rattle.h265_model.specs.Decode.{Stand, Decoded, shown}
use Rattle.px_plane.specs.Planes.{Planes, planes_of}
use Rattle.canvas.specs.Drawing.{Pictures}
use Rattle.h265_model.specs.declared.memory.NoMemory.{NoMemory as Refused}
use Rattle.stream_decode.specs.Readings.{Rest, is_hash_refused, with_shown, rest_of}
use Rattle.stream_decode.specs.declared.error.DecodeError.{DecodeError}
use Rattle.stream_decode.specs.declared.error.DecodeError.TheVariants.{BadStream, NoMemory}

-- NAL units, and the number of the first
pub record Units : Type 0 where
  pub number : ℕ
  pub list : List NalUnit

-- the NAL units of a byte stream, from the first, or the number of the one that is none
abbrev pub OpensUnits : Result (List NalUnit) ℕ → Result Units DecodeError → Type 0
OpensUnits told (Ok units) = (told ≡ Ok units.list) × (units.number ≡ 0)
OpensUnits told (Err (BadStream at)) = told ≡ Err at
OpensUnits told (Err NoMemory) = Unit {0}

-- what they have to give
abbrev pub rest : Size → Bool → Stand → Units → Rest
rest size segments stand units = rest_of size segments units.number stand units.list

-- nothing more, up to the NAL unit that fails
abbrev pub failing : ℕ → Rest
failing n = record { pictures = []; stop = Some n }

-- the last picture, by its order count, if there was one, and its planes
abbrev pub last_of : Option ℕ → Planes → Option Decoded
last_of order planes = option_map (λ poc. record { poc = poc; planes = planes_of planes }) order

-- between two pictures; no NAL unit before counts as the end of a picture, so that no hash may follow
abbrev pub between : Option Decoded → Stand
between last = record { last = last; begun = None; ended = false }

-- right after a picture, whose hash may follow
abbrev pub right_after : Decoded → Stand
right_after now = record { last = Some now; begun = None; ended = true }

-- what NAL units right after a picture give, with the picture itself
abbrev pub after_picture : Size → Bool → Decoded → Units → Rest
after_picture size segments now units =
    with_shown (shown size (right_after now)) (is_hash_refused (right_after now) units.list) (rest size segments (right_after now) units)

-- the next NAL unit has the header of a hash
abbrev pub is_hash_next : List NalUnit → Bool
is_hash_next [] = false
is_hash_next (unit ∷ units) = bytes_eq unit.header hash_header

-- the picture, and then what these NAL units give
abbrev pub picture_first : Size → Bool → Decoded → Units → Rest
picture_first size segments now units =
    let others : Rest = rest size segments (between (Some now)) units in
    record { pictures = shown size (right_after now) ++ others.pictures; stop = others.stop }

-- the hash of a picture was read, if one followed, or is refused
abbrev pub PassesHash : Result (Unit {0}) DecodeError → Planes → Units → Units → Type 0
PassesHash (Ok _) picture old new =
    (size : Size) (segments : Bool) (poc : ℕ) → let now : Decoded = record { poc = poc; planes = planes_of picture } in
    after_picture size segments now old ≡ picture_first size segments now new
PassesHash (Err (BadStream at)) picture old new =
    (size : Size) (segments : Bool) (poc : ℕ) → let now : Decoded = record { poc = poc; planes = planes_of picture } in
    after_picture size segments now old ≡ failing at
PassesHash (Err NoMemory) picture old new = Unit {0}

-- a picture of one slice was read, and is the last one now, or nothing is read of these bytes
abbrev pub ReadsSlicePicture : Result (Option ℕ) Refused → Option Stand → Pictures → Pictures → Type 0
ReadsSlicePicture (Ok (Some poc)) step old new =
    (step ≡ Some (right_after (record { poc = poc; planes = planes_of new.last }))) × (new.drawn ≡ old.last)
ReadsSlicePicture (Ok None) step old new = (step ≡ None) × (new.last ≡ old.last)
ReadsSlicePicture (Err _) step old new = new.last ≡ old.last

-- a picture was read, and is the last one now, or a NAL unit fails
abbrev pub ReadsPicture : Result ℕ DecodeError → Size → Bool → Option Decoded → Units → Units → Pictures → Pictures → Type 0
ReadsPicture (Ok poc) size segments last from to old new =
    (rest size segments (between last) from ≡ after_picture size segments (record { poc = poc; planes = planes_of new.last }) to) × (new.drawn ≡ old.last)
ReadsPicture (Err (BadStream at)) size segments last from to old new = (rest size segments (between last) from ≡ failing at) × (new.last ≡ old.last)
ReadsPicture (Err NoMemory) size segments last from to old new = new.last ≡ old.last
