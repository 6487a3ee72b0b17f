-- The decoded picture hash (D.2.19, D.3.19), a suffix SEI message of its own NAL unit (7.3.2.4, 7.3.5).
use Rattle.std.specs.Prelude.{ℕ, List, [], ◌∷◌, ◌++◌, flat_map}
use Rattle.md5.specs.Md5.{md5}
use Rattle.h265_model.specs.Plain.{Size, Picture}
use Rattle.h265_model.specs.Raster.{planes}

-- the header of a NAL unit of nal_unit_type SUFFIX_SEI_NUT (7.3.1.2, 7.4.2.2)
abbrev pub hash_header : List ℕ
hash_header = 0x50 ∷ 1 ∷ []

-- payload type 132, payload size 49, hash_type 0, which is MD5, picture_md5 of each plane, and rbsp_trailing_bits
-- (7.3.5, D.2.19). Samples of 8 bits are a byte each (D.3.19, pictureData)
unfoldable pub hash_of_planes : List (List ℕ) → List ℕ
hash_of_planes list = (132 ∷ 49 ∷ 0 ∷ []) ++ flat_map md5 list ++ 0x80 ∷ []

-- the bytes of a coded picture's message (7.3.2.4, D.2.19)
abbrev pub hash_bits : Size → Picture → List ℕ
hash_bits size picture = hash_of_planes (planes size picture)
