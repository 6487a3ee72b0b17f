-- Worked examples of the high level syntax, computed.
use Rattle.std.specs.Prelude.{◌≡◌, ℕ, true, false, [], ◌∷◌, drop, take, Ok, Err, refl}
use Rattle.h265_model.specs.Plain.{Size}
use Rattle.h265_model.specs.Bits.{u, digits_up_to, ue, value_after, bytes, read_u, read_ue_after, read_alignment}
use Rattle.h265_model.specs.Fields.{fields_bits, read_fields}
use Rattle.h265_model.specs.NalUnits.{escape_after, escape, unescape_after, stream_bytes, payload, forbidden, next_start, units_within, units}
use Rattle.h265_model.specs.ParamSets.{profile_tier_level, vps_front, vps_back, sps_formats, sps_front, size_fields, sps_back, pps_fields, param_units, read_size, read_params}
use Rattle.h265_model.specs.SliceHead.{head_front, head_middle, head_bits, read_offsets, read_head}

abbrev size_of : ℕ → ℕ → Size
size_of w h = record { w = w; h = h }

params_32x32 : stream_bytes (param_units (size_of 32 32) false) ≡ 0x00 ∷ 0x00 ∷ 0x00 ∷ 0x01 ∷ 0x40 ∷ 0x01 ∷ 0x0C ∷ 0x01 ∷ 0xFF ∷ 0xFF ∷ 0x24 ∷ 0x08 ∷ 0x00 ∷ 0x00 ∷ 0x03 ∷ 0x00 ∷ 0xBE ∷ 0x08 ∷ 0x00 ∷ 0x00 ∷ 0x03 ∷ 0x00 ∷ 0x00 ∷ 0x9C ∷ 0xAC ∷ 0x09 ∷ 0x00 ∷ 0x00 ∷ 0x00 ∷ 0x01 ∷ 0x42 ∷ 0x01 ∷ 0x01 ∷ 0x24 ∷ 0x08 ∷ 0x00 ∷ 0x00 ∷ 0x03 ∷ 0x00 ∷ 0xBE ∷ 0x08 ∷ 0x00 ∷ 0x00 ∷ 0x03 ∷ 0x00 ∷ 0x00 ∷ 0x9C ∷ 0x90 ∷ 0x08 ∷ 0x41 ∷ 0x0B ∷ 0x2D ∷ 0x77 ∷ 0x26 ∷ 0x2E ∷ 0xF7 ∷ 0x4B ∷ 0x89 ∷ 0xB8 ∷ 0x08 ∷ 0x68 ∷ 0x00 ∷ 0x04 ∷ 0x00 ∷ 0x00 ∷ 0x00 ∷ 0x01 ∷ 0x44 ∷ 0x01 ∷ 0xC0 ∷ 0x71 ∷ 0x8A ∷ 0xA4 ∷ 0x80 ∷ []
unfolding u digits_up_to ue value_after bytes fields_bits escape_after stream_bytes profile_tier_level vps_front vps_back sps_formats sps_front size_fields sps_back pps_fields param_units
params_32x32 = refl

sps_8x8 : stream_bytes (take 1 (drop 1 (param_units (size_of 8 8) false))) ≡ 0x00 ∷ 0x00 ∷ 0x00 ∷ 0x01 ∷ 0x42 ∷ 0x01 ∷ 0x01 ∷ 0x24 ∷ 0x08 ∷ 0x00 ∷ 0x00 ∷ 0x03 ∷ 0x00 ∷ 0xBE ∷ 0x08 ∷ 0x00 ∷ 0x00 ∷ 0x03 ∷ 0x00 ∷ 0x00 ∷ 0x9C ∷ 0x90 ∷ 0x24 ∷ 0x4B ∷ 0x2D ∷ 0x77 ∷ 0x26 ∷ 0x2E ∷ 0xF7 ∷ 0x4B ∷ 0x89 ∷ 0xB8 ∷ 0x08 ∷ 0x68 ∷ 0x00 ∷ 0x04 ∷ []
unfolding u digits_up_to ue value_after bytes fields_bits escape_after stream_bytes profile_tier_level vps_front vps_back sps_formats sps_front size_fields sps_back pps_fields param_units
sps_8x8 = refl

sps_32x96 : stream_bytes (take 1 (drop 1 (param_units (size_of 32 96) false))) ≡ 0x00 ∷ 0x00 ∷ 0x00 ∷ 0x01 ∷ 0x42 ∷ 0x01 ∷ 0x01 ∷ 0x24 ∷ 0x08 ∷ 0x00 ∷ 0x00 ∷ 0x03 ∷ 0x00 ∷ 0xBE ∷ 0x08 ∷ 0x00 ∷ 0x00 ∷ 0x03 ∷ 0x00 ∷ 0x00 ∷ 0x9C ∷ 0x90 ∷ 0x08 ∷ 0x40 ∷ 0xC2 ∷ 0xCB ∷ 0x5D ∷ 0xC9 ∷ 0x8B ∷ 0xBD ∷ 0xD2 ∷ 0xE2 ∷ 0x6E ∷ 0x02 ∷ 0x1A ∷ 0x00 ∷ 0x01 ∷ []
unfolding u digits_up_to ue value_after bytes fields_bits escape_after stream_bytes profile_tier_level vps_front vps_back sps_formats sps_front size_fields sps_back pps_fields param_units
sps_32x96 = refl

sps_64x64 : stream_bytes (take 1 (drop 1 (param_units (size_of 64 64) false))) ≡ 0x00 ∷ 0x00 ∷ 0x00 ∷ 0x01 ∷ 0x42 ∷ 0x01 ∷ 0x01 ∷ 0x24 ∷ 0x08 ∷ 0x00 ∷ 0x00 ∷ 0x03 ∷ 0x00 ∷ 0xBE ∷ 0x08 ∷ 0x00 ∷ 0x00 ∷ 0x03 ∷ 0x00 ∷ 0x00 ∷ 0x9C ∷ 0x90 ∷ 0x04 ∷ 0x10 ∷ 0x20 ∷ 0xB2 ∷ 0xD7 ∷ 0x72 ∷ 0x62 ∷ 0xEF ∷ 0x74 ∷ 0xB8 ∷ 0x9B ∷ 0x80 ∷ 0x86 ∷ 0x80 ∷ 0x00 ∷ 0x40 ∷ []
unfolding u digits_up_to ue value_after bytes fields_bits escape_after stream_bytes profile_tier_level vps_front vps_back sps_formats sps_front size_fields sps_back pps_fields param_units
sps_64x64 = refl

read_params_32x32 : read_params (param_units (size_of 32 32) false) ≡ Ok (size_of 32 32, false)
unfolding u digits_up_to ue value_after bytes fields_bits profile_tier_level vps_front vps_back sps_formats sps_front size_fields sps_back pps_fields param_units read_u read_ue_after read_alignment read_fields read_size read_params
read_params_32x32 = refl

read_params_33x17 : read_params (param_units (size_of 33 17) false) ≡ Ok (size_of 33 17, false)
unfolding u digits_up_to ue value_after bytes fields_bits profile_tier_level vps_front vps_back sps_formats sps_front size_fields sps_back pps_fields param_units read_u read_ue_after read_alignment read_fields read_size read_params
read_params_33x17 = refl

read_params_4096x2160 : read_params (param_units (size_of 4096 2160) false) ≡ Ok (size_of 4096 2160, false)
unfolding u digits_up_to ue value_after bytes fields_bits profile_tier_level vps_front vps_back sps_formats sps_front size_fields sps_back pps_fields param_units read_u read_ue_after read_alignment read_fields read_size read_params
read_params_4096x2160 = refl

head_idr : escape (bytes (head_bits (record { idr = true; poc = 0; offsets = [] }))) ≡ 0xAF ∷ 0x80 ∷ []
unfolding u digits_up_to ue value_after bytes fields_bits escape_after head_front head_middle head_bits
head_idr = refl

head_p : escape (bytes (head_bits (record { idr = false; poc = 1; offsets = [] }))) ≡ 0xD0 ∷ 0x0C ∷ 0x5E ∷ []
unfolding u digits_up_to ue value_after bytes fields_bits escape_after head_front head_middle head_bits
head_p = refl

head_three : escape (bytes (head_bits (record { idr = true; poc = 0; offsets = 4611 ∷ 4611 ∷ [] }))) ≡ 0xAE ∷ 0xC1 ∷ 0x00 ∷ 0x00 ∷ 0x03 ∷ 0x00 ∷ 0x90 ∷ 0x10 ∷ 0x00 ∷ 0x00 ∷ 0x90 ∷ 0x14 ∷ []
unfolding u digits_up_to ue value_after bytes fields_bits escape_after head_front head_middle head_bits
head_three = refl

head_two : escape (bytes (head_bits (record { idr = true; poc = 0; offsets = 9220 ∷ [] }))) ≡ 0xAE ∷ 0x81 ∷ 0x00 ∷ 0x00 ∷ 0x03 ∷ 0x01 ∷ 0x20 ∷ 0x1C ∷ []
unfolding u digits_up_to ue value_after bytes fields_bits escape_after head_front head_middle head_bits
head_two = refl

head_p0 : escape (bytes (head_bits (record { idr = false; poc = 0; offsets = [] }))) ≡ 0xD0 ∷ 0x04 ∷ 0x5E ∷ []
unfolding u digits_up_to ue value_after bytes fields_bits escape_after head_front head_middle head_bits
head_p0 = refl

read_head_two : read_head (0xAE ∷ 0x81 ∷ 0 ∷ 0 ∷ 1 ∷ 0x20 ∷ 0x1C ∷ 0x46 ∷ []) true 2 ≡ Ok (record { idr = true; poc = 0; offsets = 9220 ∷ [] }, 7)
unfolding u digits_up_to ue value_after bytes fields_bits head_front head_middle read_u read_ue_after read_alignment read_fields read_offsets read_head
read_head_two = refl

escaped : escape (0 ∷ 0 ∷ 1 ∷ 0 ∷ 0 ∷ 0 ∷ 0 ∷ 4 ∷ []) ≡ 0 ∷ 0 ∷ 3 ∷ 1 ∷ 0 ∷ 0 ∷ 3 ∷ 0 ∷ 0 ∷ 4 ∷ []
unfolding escape_after
escaped = refl

unescaped : unescape_after 255 255 (0 ∷ 0 ∷ 3 ∷ 1 ∷ 0 ∷ 0 ∷ 3 ∷ 0 ∷ 0 ∷ 4 ∷ []) ≡ 0 ∷ 0 ∷ 1 ∷ 0 ∷ 0 ∷ 0 ∷ 0 ∷ 4 ∷ []
unfolding unescape_after
unescaped = refl

two_units : units (0 ∷ 0 ∷ 1 ∷ 0x44 ∷ 1 ∷ 0xC0 ∷ 0 ∷ 0 ∷ 1 ∷ 0x44 ∷ 1 ∷ []) ≡ Ok (record { header = 0x44 ∷ 1 ∷ []; rbsp = 0xC0 ∷ [] } ∷ record { header = 0x44 ∷ 1 ∷ []; rbsp = [] } ∷ [])
unfolding units units_within next_start payload forbidden unescape_after
two_units = refl

refused_a : units (68 ∷ []) ≡ Err 0
unfolding units units_within next_start payload forbidden unescape_after
refused_a = refl

refused_b : units (0 ∷ 0 ∷ []) ≡ Err 2
unfolding units units_within next_start payload forbidden unescape_after
refused_b = refl

refused_c : units (0 ∷ 0 ∷ 1 ∷ 68 ∷ []) ≡ Err 3
unfolding units units_within next_start payload forbidden unescape_after
refused_c = refl

refused_d : units (0 ∷ 0 ∷ 1 ∷ 68 ∷ 1 ∷ 0 ∷ 0 ∷ 2 ∷ []) ≡ Err 7
unfolding units units_within next_start payload forbidden unescape_after
refused_d = refl
