-- The parameter sets (7.3.2.1 to 7.3.2.3), with the values of the Main 4:4:4 profile that are used here.
use Rattle.std.specs.Prelude.{ℕ, ◌+◌, ◌-◌, ◌*◌, ◌%◌, ◌^◌, Bool, true, false, not, ◌&&◌, List, [], ◌∷◌, ◌++◌, Result, Ok, Err, ◌==◌, nat_le, nat_lt, bytes_eq, if◌then◌else◌}
use Rattle.h265_model.specs.Plain.{Size, coded}
use Rattle.h265_model.specs.Bits.{bits, bytes}
use Rattle.h265_model.specs.Bits.{◌>>-◌}
use Rattle.h265_model.specs.Settings.{most_side, most_area}
use Rattle.h265_model.specs.NalUnits.{NalUnit}
use Rattle.h265_model.specs.Fields.{Field, U, Ue, fixed, golomb, fields_bits, aligned_bits, read_field, read_fields, read_trailing}

-- profile_tier_level, 96 bits (7.3.3, 7.4.4, A.3.5), all of them field n of their table
unfoldable pub profile_tier_level : ℕ → List Field
profile_tier_level n =
    -- general_profile_space
    fixed n 2 0 ∷
    -- general_tier_flag
    fixed n 1 1 ∷
    -- general_profile_idc: the format range extensions profiles
    fixed n 5 4 ∷
    -- general_profile_compatibility_flag: that of 4 alone
    fixed n 32 (2 ^ 27) ∷
    -- general_progressive_source_flag
    fixed n 1 1 ∷
    -- general_interlaced_source_flag
    fixed n 1 0 ∷
    -- general_non_packed_constraint_flag
    fixed n 1 1 ∷
    -- general_frame_only_constraint_flag
    fixed n 1 1 ∷
    -- general_max_12bit_constraint_flag
    fixed n 1 1 ∷
    -- general_max_10bit_constraint_flag
    fixed n 1 1 ∷
    -- general_max_8bit_constraint_flag
    fixed n 1 1 ∷
    -- general_max_422chroma_constraint_flag
    fixed n 1 0 ∷
    -- general_max_420chroma_constraint_flag
    fixed n 1 0 ∷
    -- general_max_monochrome_constraint_flag
    fixed n 1 0 ∷
    -- general_intra_constraint_flag
    fixed n 1 0 ∷
    -- general_one_picture_only_constraint_flag
    fixed n 1 0 ∷
    -- general_lower_bit_rate_constraint_flag
    fixed n 1 1 ∷
    -- general_reserved_zero_34bits and general_inbld_flag
    fixed n 35 0 ∷
    -- general_level_idc: level 5.2
    fixed n 8 156 ∷ []

-- the video parameter set up to its profile_tier_level (7.3.2.1)
unfoldable pub vps_front : List Field
vps_front =
    -- vps_video_parameter_set_id
    fixed 1 4 0 ∷
    -- vps_base_layer_internal_flag
    fixed 2 1 1 ∷
    -- vps_base_layer_available_flag
    fixed 3 1 1 ∷
    -- vps_max_layers_minus1
    fixed 4 6 0 ∷
    -- vps_max_sub_layers_minus1
    fixed 5 3 0 ∷
    -- vps_temporal_id_nesting_flag
    fixed 6 1 1 ∷
    -- vps_reserved_0xffff_16bits
    fixed 7 16 65535 ∷ []

-- the video parameter set after its profile_tier_level (7.3.2.1)
unfoldable pub vps_back : List Field
vps_back =
    -- vps_sub_layer_ordering_info_present_flag
    fixed 9 1 1 ∷
    -- vps_max_dec_pic_buffering_minus1
    golomb 10 1 ∷
    -- vps_max_num_reorder_pics
    golomb 11 0 ∷
    -- vps_max_latency_increase_plus1
    golomb 12 0 ∷
    -- vps_max_layer_id
    fixed 13 6 0 ∷
    -- vps_num_layer_sets_minus1
    golomb 14 0 ∷
    -- vps_timing_info_present_flag
    fixed 15 1 0 ∷
    -- vps_extension_flag
    fixed 16 1 0 ∷ []

-- the video parameter set (7.3.2.1)
abbrev pub vps_fields : List Field
vps_fields = vps_front ++ profile_tier_level 8 ++ vps_back

-- the sequence parameter set between its profile_tier_level and the picture's size (7.3.2.2.1)
unfoldable pub sps_formats : List Field
sps_formats =
    -- sps_seq_parameter_set_id
    golomb 5 0 ∷
    -- chroma_format_idc: 4:4:4
    golomb 6 3 ∷
    -- separate_colour_plane_flag
    fixed 7 1 0 ∷ []

-- the sequence parameter set up to the picture's size (7.3.2.2.1)
unfoldable pub sps_front : List Field
sps_front =
    -- sps_video_parameter_set_id
    fixed 1 4 0 ∷
    -- sps_max_sub_layers_minus1
    fixed 2 3 0 ∷
    -- sps_temporal_id_nesting_flag
    fixed 3 1 1 ∷ []
    ++ profile_tier_level 4
    ++ sps_formats

-- conformance_window_flag: the coded picture is larger than what is shown of it (7.4.3.2.1)
abbrev pub is_padded : Size → Bool
is_padded size = not (size.w == coded size.w && size.h == coded size.h)

-- the offsets of the conformance window, which shows the picture from the top left (7.3.2.2.1, 7.4.3.2.1)
abbrev pub window_fields : Size → List Field
window_fields size =
    if is_padded size then
    -- conf_win_left_offset, conf_win_right_offset, conf_win_top_offset, conf_win_bottom_offset
    golomb 11 0 ∷ golomb 12 (coded size.w - size.w) ∷ golomb 13 0 ∷ golomb 14 (coded size.h - size.h) ∷ []
    else []

-- a flag as a number (plain)
abbrev pub flag : Bool → ℕ
flag true = 1
flag false = 0

-- the size of the coded picture, and the window of it that is shown (7.3.2.2.1)
unfoldable pub size_fields : Size → List Field
size_fields size =
    -- pic_width_in_luma_samples
    golomb 8 (coded size.w) ∷
    -- pic_height_in_luma_samples
    golomb 9 (coded size.h) ∷
    -- conformance_window_flag
    fixed 10 1 (flag (is_padded size)) ∷
    window_fields size

-- the sequence parameter set after the picture's size (7.3.2.2.1), with st_ref_pic_set (7.3.7) and vui_parameters
-- (E.2.1)
unfoldable pub sps_back : List Field
sps_back =
    -- bit_depth_luma_minus8
    golomb 15 0 ∷
    -- bit_depth_chroma_minus8
    golomb 16 0 ∷
    -- log2_max_pic_order_cnt_lsb_minus4
    golomb 17 4 ∷
    -- sps_sub_layer_ordering_info_present_flag
    fixed 18 1 1 ∷
    -- sps_max_dec_pic_buffering_minus1
    golomb 19 1 ∷
    -- sps_max_num_reorder_pics
    golomb 20 0 ∷
    -- sps_max_latency_increase_plus1
    golomb 21 0 ∷
    -- log2_min_luma_coding_block_size_minus3
    golomb 22 0 ∷
    -- log2_diff_max_min_luma_coding_block_size
    golomb 23 2 ∷
    -- log2_min_luma_transform_block_size_minus2
    golomb 24 0 ∷
    -- log2_diff_max_min_luma_transform_block_size
    golomb 25 3 ∷
    -- max_transform_hierarchy_depth_inter
    golomb 26 0 ∷
    -- max_transform_hierarchy_depth_intra
    golomb 27 0 ∷
    -- scaling_list_enabled_flag
    fixed 28 1 0 ∷
    -- amp_enabled_flag
    fixed 29 1 0 ∷
    -- sample_adaptive_offset_enabled_flag
    fixed 30 1 0 ∷
    -- pcm_enabled_flag
    fixed 31 1 1 ∷
    -- pcm_sample_bit_depth_luma_minus1
    fixed 32 4 7 ∷
    -- pcm_sample_bit_depth_chroma_minus1
    fixed 33 4 7 ∷
    -- log2_min_pcm_luma_coding_block_size_minus3
    golomb 34 0 ∷
    -- log2_diff_max_min_pcm_luma_coding_block_size
    golomb 35 2 ∷
    -- pcm_loop_filter_disabled_flag
    fixed 36 1 1 ∷
    -- num_short_term_ref_pic_sets
    golomb 37 1 ∷
    -- num_negative_pics
    golomb 38 1 ∷
    -- num_positive_pics
    golomb 39 0 ∷
    -- delta_poc_s0_minus1
    golomb 40 0 ∷
    -- used_by_curr_pic_s0_flag
    fixed 41 1 1 ∷
    -- long_term_ref_pics_present_flag
    fixed 42 1 0 ∷
    -- sps_temporal_mvp_enabled_flag
    fixed 43 1 0 ∷
    -- strong_intra_smoothing_enabled_flag
    fixed 44 1 0 ∷
    -- vui_parameters_present_flag
    fixed 45 1 1 ∷
    -- aspect_ratio_info_present_flag
    fixed 46 1 0 ∷
    -- overscan_info_present_flag
    fixed 47 1 0 ∷
    -- video_signal_type_present_flag
    fixed 48 1 1 ∷
    -- video_format
    fixed 49 3 5 ∷
    -- video_full_range_flag
    fixed 50 1 1 ∷
    -- colour_description_present_flag
    fixed 51 1 1 ∷
    -- colour_primaries
    fixed 52 8 1 ∷
    -- transfer_characteristics
    fixed 53 8 13 ∷
    -- matrix_coeffs: the components are G, B and R
    fixed 54 8 0 ∷
    -- chroma_loc_info_present_flag
    fixed 55 1 0 ∷
    -- neutral_chroma_indication_flag
    fixed 56 1 0 ∷
    -- field_seq_flag
    fixed 57 1 0 ∷
    -- frame_field_info_present_flag
    fixed 58 1 0 ∷
    -- default_display_window_flag
    fixed 59 1 0 ∷
    -- vui_timing_info_present_flag
    fixed 60 1 0 ∷
    -- bitstream_restriction_flag
    fixed 61 1 0 ∷
    -- sps_extension_present_flag
    fixed 62 1 0 ∷ []

-- the sequence parameter set (7.3.2.2.1)
abbrev pub sps_fields : Size → List Field
sps_fields size = sps_front ++ size_fields size ++ sps_back

-- the picture parameter set up to dependent_slice_segments_enabled_flag (7.3.2.3.1)
abbrev pub pps_front : List Field
pps_front =
    -- pps_pic_parameter_set_id
    golomb 1 0 ∷
    -- pps_seq_parameter_set_id
    golomb 2 0 ∷ []

-- the picture parameter set after dependent_slice_segments_enabled_flag (7.3.2.3.1)
abbrev pub pps_back : List Field
pps_back =
    -- output_flag_present_flag
    fixed 4 1 0 ∷
    -- num_extra_slice_header_bits
    fixed 5 3 0 ∷
    -- sign_data_hiding_enabled_flag
    fixed 6 1 0 ∷
    -- cabac_init_present_flag
    fixed 7 1 0 ∷
    -- num_ref_idx_l0_default_active_minus1
    golomb 8 0 ∷
    -- num_ref_idx_l1_default_active_minus1
    golomb 9 0 ∷
    -- init_qp_minus26, se(v)
    golomb 10 0 ∷
    -- constrained_intra_pred_flag
    fixed 11 1 0 ∷
    -- transform_skip_enabled_flag
    fixed 12 1 0 ∷
    -- cu_qp_delta_enabled_flag
    fixed 13 1 0 ∷
    -- pps_cb_qp_offset, se(v)
    golomb 14 0 ∷
    -- pps_cr_qp_offset, se(v)
    golomb 15 0 ∷
    -- pps_slice_chroma_qp_offsets_present_flag
    fixed 16 1 0 ∷
    -- weighted_pred_flag
    fixed 17 1 0 ∷
    -- weighted_bipred_flag
    fixed 18 1 0 ∷
    -- transquant_bypass_enabled_flag
    fixed 19 1 1 ∷
    -- tiles_enabled_flag
    fixed 20 1 0 ∷
    -- entropy_coding_sync_enabled_flag
    fixed 21 1 1 ∷
    -- pps_loop_filter_across_slices_enabled_flag
    fixed 22 1 0 ∷
    -- deblocking_filter_control_present_flag
    fixed 23 1 1 ∷
    -- deblocking_filter_override_enabled_flag
    fixed 24 1 0 ∷
    -- pps_deblocking_filter_disabled_flag
    fixed 25 1 1 ∷
    -- pps_scaling_list_data_present_flag
    fixed 26 1 0 ∷
    -- lists_modification_present_flag
    fixed 27 1 0 ∷
    -- log2_parallel_merge_level_minus2
    golomb 28 0 ∷
    -- slice_segment_header_extension_present_flag
    fixed 29 1 0 ∷
    -- pps_extension_present_flag
    fixed 30 1 0 ∷ []

-- the picture parameter set, of slices that have one segment, or one for each row
-- (dependent_slice_segments_enabled_flag, 7.3.2.3.1)
unfoldable pub pps_fields : Bool → List Field
pps_fields segments = pps_front ++ fixed 3 1 (flag segments) ∷ pps_back

-- a parameter set's NAL unit: its header of nuh_layer_id 0 and temporal id 0, its fields and rbsp_trailing_bits
-- (7.3.1.2, 7.3.2.11)
abbrev pub set_unit : ℕ → List Field → NalUnit
set_unit first fields = record { header = first ∷ 1 ∷ []; rbsp = bytes (aligned_bits (fields_bits fields)) }

-- the three parameter sets of a size, VPS_NUT, SPS_NUT and PPS_NUT (7.4.2.2), of streams whose pictures have one
-- segment, or one for each row
unfoldable pub param_units : Size → Bool → List NalUnit
param_units size segments = set_unit 0x40 vps_fields ∷ set_unit 0x42 (sps_fields size) ∷ set_unit 0x44 (pps_fields segments) ∷ []

-- ---- reading

-- a rule of this project's own: the first field that differs, by the number of its set (0 VPS, 1 SPS, 2 PPS) and its
-- number there; 0 is the NAL unit's header
pub record BadParam : Type 0 where
  pub set : ℕ
  pub field : ℕ

-- the number of a set beside that of its field (plain)
abbrev pub in_set : {A : Type 0} → ℕ → Result A ℕ → Result A BadParam
in_set set (Ok x) = Ok x
in_set set (Err field) = Err (record { set = set; field = field })

-- the parsing of a set's NAL unit header; the bits of its payload (7.3.1.1, 7.3.1.2)
abbrev pub set_bits : ℕ → NalUnit → Result (List Bool) ℕ
set_bits first unit = if bytes_eq unit.header (first ∷ 1 ∷ []) then Ok (bits unit.rbsp) else Err 0

-- the parsing of a set with these fields alone, and of rbsp_trailing_bits (7.3.2.1, 7.3.2.11)
abbrev pub read_fixed_set : ℕ → List Field → ℕ → NalUnit → Result (Unit {0}) ℕ
read_fixed_set first fields trailing unit =
    set_bits first unit >>- λ bits. read_fields fields bits >>- λ rest. read_trailing trailing rest

-- a side of the coded picture: a multiple of MinCbSizeY, which is 8, from 8 up (7.4.3.2.1), to a limit of this
-- project's own
abbrev pub is_coded_side : ℕ → Bool
is_coded_side n = n % 8 == 0 && nat_le 8 n && nat_le n most_side

-- the parsing of pic_width_in_luma_samples or pic_height_in_luma_samples (7.3.2.2.1, 7.4.3.2.1)
abbrev pub read_side : ℕ → List Bool → Result (ℕ × List Bool) ℕ
read_side n bits = read_field n Ue bits >>- λ side. if is_coded_side side.0 then Ok side else Err n

-- the parsing of conf_win_right_offset or conf_win_bottom_offset (7.3.2.2.1); above 7 there would be a block too
-- many, which a rule of this project's own refuses
abbrev pub read_offset : ℕ → List Bool → Result (ℕ × List Bool) ℕ
read_offset n bits = read_field n Ue bits >>- λ offset. if nat_le offset.0 7 then Ok offset else Err n

-- the size of a coded picture without a window (7.4.3.2.1), to a limit of this project's own on the area (A.4.1 has
-- one on the coded one)
abbrev pub read_whole : ℕ → ℕ → List Bool → Result (Size × List Bool) ℕ
read_whole w h bits = if nat_le (w * h) most_area then Ok (record { w = w; h = h }, bits) else Err 10

-- the size of a coded picture with the offsets of its window (7.4.3.2.1), to a limit of this project's own on the
-- area; a window of the whole picture is refused, also by a rule of this project's own
abbrev pub windowed : ℕ → ℕ → ℕ → ℕ → List Bool → Result (Size × List Bool) ℕ
windowed w h right bottom bits =
    if nat_le ((w - right) * (h - bottom)) most_area && nat_lt 0 (right + bottom) then Ok (record { w = w - right; h = h - bottom }, bits) else Err 14

-- the parsing of the conformance window's four offsets (7.3.2.2.1)
abbrev pub read_window : ℕ → ℕ → List Bool → Result (Size × List Bool) ℕ
read_window w h bits =
    read_fields (golomb 11 0 ∷ []) bits >>- λ bits.
    read_offset 12 bits >>- λ right.
    read_fields (golomb 13 0 ∷ []) right.1 >>- λ bits.
    read_offset 14 bits >>- λ bottom.
    windowed w h right.0 bottom.0 bottom.1

-- the parsing of the coded picture's size and of the window of it that is shown (7.3.2.2.1)
unfoldable pub read_size : List Bool → Result (Size × List Bool) ℕ
read_size bits =
    read_side 8 bits >>- λ w.
    read_side 9 w.1 >>- λ h.
    read_field 10 (U 1) h.1 >>- λ window.
    if window.0 == 0 then read_whole w.0 h.0 window.1 else read_window w.0 h.0 window.1

-- the parsing of the sequence parameter set (7.3.2.2.1): the size
abbrev pub read_sps : NalUnit → Result Size ℕ
read_sps unit =
    set_bits 0x42 unit >>- λ bits.
    read_fields sps_front bits >>- λ bits.
    read_size bits >>- λ size.
    read_fields sps_back size.1 >>- λ bits.
    read_trailing 63 bits >>- λ _. Ok size.0

-- the parsing of dependent_slice_segments_enabled_flag (7.3.2.3.1), which a rule of this project's own refuses where
-- a picture is at most one coding tree block wide
abbrev pub segments_flag : Size → List Bool → Result (Bool × List Bool) ℕ
segments_flag size bits =
    read_field 3 (U 1) bits >>- λ found.
    if found.0 == 0 then Ok (false, found.1) else if nat_lt 32 (coded size.w) then Ok (true, found.1) else Err 3

-- the parsing of the picture parameter set (7.3.2.3.1): whether a picture has a segment for each row
abbrev pub read_pps : Size → NalUnit → Result Bool ℕ
read_pps size unit =
    set_bits 0x44 unit >>- λ bits.
    read_fields pps_front bits >>- λ bits.
    segments_flag size bits >>- λ segments.
    read_fields pps_back segments.1 >>- λ bits.
    read_trailing 31 bits >>- λ _. Ok segments.0

-- the parsing of a VPS, an SPS and a PPS, in this order (7.3.2.1, 7.3.2.2.1, 7.3.2.3.1)
abbrev pub read_three : NalUnit → NalUnit → NalUnit → Result (Size × Bool) BadParam
read_three vps sps pps =
    in_set 0 (read_fixed_set 0x40 vps_fields 17 vps) >>- λ _.
    in_set 1 (read_sps sps) >>- λ size.
    in_set 2 (read_pps size pps) >>- λ segments. Ok (size, segments)

-- the size that three parameter sets tell, and whether a picture has a segment for each row, or the first field that
-- differs (7.3.2.1, 7.3.2.2.1, 7.3.2.3.1)
unfoldable pub read_params : List NalUnit → Result (Size × Bool) BadParam
read_params (vps ∷ sps ∷ pps ∷ []) = read_three vps sps pps
read_params _ = Err (record { set = 0; field = 0 })
