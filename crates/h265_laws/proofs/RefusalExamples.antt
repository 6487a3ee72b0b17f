-- Streams that decoding refuses, and the NAL unit at which it stops, computed. An independent model of the recorder made them, and its reader stops there too.
use Rattle.std.specs.Prelude.{◌≡◌, ℕ, true, List, [], ◌∷◌, ◌++◌, replicate, flat_map, Err, is_ok, refl}
use Rattle.h265_model.specs.Bits.{digits_up_to, u, ue, value_after, bytes, read_u, read_ue_after, read_alignment}
use Rattle.h265_model.specs.Motion.{vector_before, merge, predictors, has_source}
use Rattle.h265_model.specs.Rebuild.{moved_samples, block_of, rebuild}
use Rattle.h265_model.specs.Choice.{intra_cost, pcm_cost, is_copy, modes_of, leaf_plan, choice}
use Rattle.h265_model.specs.Code.{closing, put_bin, code, contexts_after}
use Rattle.h265_model.specs.Contexts.{start, lps_range, next, row_start}
use Rattle.h265_model.specs.Decode.{slice_step, step, read_units, start_codes, decode}
use Rattle.h265_model.specs.Engine.{start as engine_start, doublings, renormalised, context_read, bypass_read, terminate_read, aligned, samples, is_done}
use Rattle.h265_model.specs.Fields.{fields_bits, read_fields}
use Rattle.h265_model.specs.Modes.{candidates, mode_items, mode_read}
use Rattle.h265_model.specs.NalUnits.{escape_after, unescape_after, stream_bytes, payload, forbidden, next_start, units_within, units}
use Rattle.h265_model.specs.ParamSets.{profile_tier_level, vps_front, vps_back, sps_formats, sps_front, size_fields, sps_back, pps_fields, param_units, read_size, read_params}
use Rattle.h265_model.specs.Predict.{coding_order, neighbours, is_filtered, references, angle, inverse_angle, predict}
use Rattle.h265_model.specs.Raster.{coded_picture, stored_picture, crop}
use Rattle.h265_model.specs.Residual.{scan, scan_kind, last_context, sub_block_context, sig_context, greater1_context, greater2_context, cbf, in_coding_order, in_rows, residual_items, residual_read}
use Rattle.h265_model.specs.Slice.{contexts_at, cut_after, substreams, slice_row_read, row_of_bytes, rows_read}
use Rattle.h265_model.specs.SliceHead.{head_front, head_middle, head_bits, read_offsets, read_head}
use Rattle.h265_model.specs.Stream.{slice_piece, picture_units, picture_piece, pieces_after, pieces, stream_of}
use Rattle.h265_model.specs.Tree.{leaf_units, split_context, skip_context, candidates_at, coding_unit_items, ctu_items, source_of, items_of_row, coding_unit_read, ctu_read}
use Rattle.h265_model.specs.Plain.{block_at}

-- ---- what the streams are made of

abbrev vps : List ℕ
vps = 0x00 ∷ 0x00 ∷ 0x00 ∷ 0x01 ∷ 0x40 ∷ 0x01 ∷ 0x0C ∷ 0x01 ∷ 0xFF ∷ 0xFF ∷ 0x24 ∷ 0x08 ∷ 0x00 ∷ 0x00 ∷ 0x03 ∷ 0x00 ∷ 0xBE ∷ 0x08 ∷ 0x00 ∷ 0x00 ∷ 0x03 ∷ 0x00 ∷ 0x00 ∷ 0x9C ∷ 0xAC ∷ 0x09 ∷ []

abbrev pps : List ℕ
pps = 0x00 ∷ 0x00 ∷ 0x00 ∷ 0x01 ∷ 0x44 ∷ 0x01 ∷ 0xC0 ∷ 0x71 ∷ 0x8A ∷ 0xA4 ∷ 0x80 ∷ []

abbrev sps_8x8 : List ℕ
sps_8x8 = 0x00 ∷ 0x00 ∷ 0x00 ∷ 0x01 ∷ 0x42 ∷ 0x01 ∷ 0x01 ∷ 0x24 ∷ 0x08 ∷ 0x00 ∷ 0x00 ∷ 0x03 ∷ 0x00 ∷ 0xBE ∷ 0x08 ∷ 0x00 ∷ 0x00 ∷ 0x03 ∷ 0x00 ∷ 0x00 ∷ 0x9C ∷ 0x90 ∷ 0x24 ∷ 0x4B ∷ 0x2D ∷ 0x77 ∷ 0x26 ∷ 0x2E ∷ 0xF7 ∷ 0x4B ∷ 0x89 ∷ 0xB8 ∷ 0x08 ∷ 0x68 ∷ 0x00 ∷ 0x04 ∷ []

abbrev sps_16x16 : List ℕ
sps_16x16 = 0x00 ∷ 0x00 ∷ 0x00 ∷ 0x01 ∷ 0x42 ∷ 0x01 ∷ 0x01 ∷ 0x24 ∷ 0x08 ∷ 0x00 ∷ 0x00 ∷ 0x03 ∷ 0x00 ∷ 0xBE ∷ 0x08 ∷ 0x00 ∷ 0x00 ∷ 0x03 ∷ 0x00 ∷ 0x00 ∷ 0x9C ∷ 0x90 ∷ 0x11 ∷ 0x08 ∷ 0xB2 ∷ 0xD7 ∷ 0x72 ∷ 0x62 ∷ 0xEF ∷ 0x74 ∷ 0xB8 ∷ 0x9B ∷ 0x80 ∷ 0x86 ∷ 0x80 ∷ 0x00 ∷ 0x40 ∷ []

abbrev sps_40x8 : List ℕ
sps_40x8 = 0x00 ∷ 0x00 ∷ 0x00 ∷ 0x01 ∷ 0x42 ∷ 0x01 ∷ 0x01 ∷ 0x24 ∷ 0x08 ∷ 0x00 ∷ 0x00 ∷ 0x03 ∷ 0x00 ∷ 0xBE ∷ 0x08 ∷ 0x00 ∷ 0x00 ∷ 0x03 ∷ 0x00 ∷ 0x00 ∷ 0x9C ∷ 0x90 ∷ 0x0A ∷ 0x44 ∷ 0xB2 ∷ 0xD7 ∷ 0x72 ∷ 0x62 ∷ 0xEF ∷ 0x74 ∷ 0xB8 ∷ 0x9B ∷ 0x80 ∷ 0x86 ∷ 0x80 ∷ 0x00 ∷ 0x40 ∷ []

abbrev sps_8x40 : List ℕ
sps_8x40 = 0x00 ∷ 0x00 ∷ 0x00 ∷ 0x01 ∷ 0x42 ∷ 0x01 ∷ 0x01 ∷ 0x24 ∷ 0x08 ∷ 0x00 ∷ 0x00 ∷ 0x03 ∷ 0x00 ∷ 0xBE ∷ 0x08 ∷ 0x00 ∷ 0x00 ∷ 0x03 ∷ 0x00 ∷ 0x00 ∷ 0x9C ∷ 0x90 ∷ 0x24 ∷ 0x14 ∷ 0xB2 ∷ 0xD7 ∷ 0x72 ∷ 0x62 ∷ 0xEF ∷ 0x74 ∷ 0xB8 ∷ 0x9B ∷ 0x80 ∷ 0x86 ∷ 0x80 ∷ 0x00 ∷ 0x40 ∷ []

abbrev sps_32x32 : List ℕ
sps_32x32 = 0x00 ∷ 0x00 ∷ 0x00 ∷ 0x01 ∷ 0x42 ∷ 0x01 ∷ 0x01 ∷ 0x24 ∷ 0x08 ∷ 0x00 ∷ 0x00 ∷ 0x03 ∷ 0x00 ∷ 0xBE ∷ 0x08 ∷ 0x00 ∷ 0x00 ∷ 0x03 ∷ 0x00 ∷ 0x00 ∷ 0x9C ∷ 0x90 ∷ 0x08 ∷ 0x41 ∷ 0x0B ∷ 0x2D ∷ 0x77 ∷ 0x26 ∷ 0x2E ∷ 0xF7 ∷ 0x4B ∷ 0x89 ∷ 0xB8 ∷ 0x08 ∷ 0x68 ∷ 0x00 ∷ 0x04 ∷ []

abbrev grey : List ℕ
grey = 0x00 ∷ 0x00 ∷ 0x00 ∷ 0x01 ∷ 0x28 ∷ 0x01 ∷ 0xAF ∷ 0x80 ∷ 0x15 ∷ 0x1D ∷ 0xC0 ∷ []

abbrev copy : List ℕ
copy = 0x00 ∷ 0x00 ∷ 0x00 ∷ 0x01 ∷ 0x02 ∷ 0x01 ∷ 0xD0 ∷ 0x0C ∷ 0x5E ∷ 0x86 ∷ 0xE0 ∷ []

-- 3,072 samples of 0, with emulation prevention
abbrev row_1_samples : List ℕ
row_1_samples = flat_map (λ part. part) (replicate 1535 (0x00 ∷ 0x00 ∷ 0x03 ∷ [])) ++ 0x00 ∷ 0x00 ∷ []

-- ---- refused

-- a black picture of 32 by 32 samples, with a bit behind the end of its row
row_1_with_a_bit_after_its_end : decode (vps ++ sps_32x32 ++ pps ++ (0x00 ∷ 0x00 ∷ 0x00 ∷ 0x01 ∷ 0x28 ∷ 0x01 ∷ 0xAF ∷ 0x80 ∷ 0x46 ∷ 0xC0 ∷ []) ++ row_1_samples ++ 0xFE ∷ 0x81 ∷ []) ≡ Err 3
unfolding digits_up_to u ue value_after bytes read_u read_ue_after read_alignment intra_cost pcm_cost is_copy modes_of leaf_plan choice closing put_bin code contexts_after start lps_range next row_start slice_step step read_units start_codes decode engine_start doublings renormalised context_read bypass_read terminate_read aligned samples is_done fields_bits read_fields candidates mode_items mode_read escape_after unescape_after stream_bytes payload forbidden next_start units_within units profile_tier_level vps_front vps_back sps_formats sps_front size_fields sps_back pps_fields param_units read_size read_params coding_order neighbours is_filtered references angle inverse_angle predict coded_picture stored_picture crop block_of rebuild scan scan_kind last_context sub_block_context sig_context greater1_context greater2_context cbf in_coding_order in_rows residual_items residual_read contexts_at cut_after substreams slice_row_read row_of_bytes rows_read head_front head_middle head_bits read_offsets read_head slice_piece picture_units picture_piece pieces_after pieces stream_of split_context skip_context candidates_at coding_unit_items ctu_items source_of items_of_row coding_unit_read ctu_read vector_before merge predictors has_source moved_samples
row_1_with_a_bit_after_its_end = refl

-- the same picture and a copy of it, which has lost its last byte
row_4_cut_off : decode (vps ++ sps_32x32 ++ pps ++ (0x00 ∷ 0x00 ∷ 0x00 ∷ 0x01 ∷ 0x28 ∷ 0x01 ∷ 0xAF ∷ 0x80 ∷ 0x46 ∷ 0xC0 ∷ []) ++ row_1_samples ++ 0xFE ∷ 0x80 ∷ 0x00 ∷ 0x00 ∷ 0x00 ∷ 0x01 ∷ 0x02 ∷ 0x01 ∷ 0xD0 ∷ 0x0C ∷ 0x5E ∷ 0x62 ∷ []) ≡ Err 4
unfolding digits_up_to u ue value_after bytes read_u read_ue_after read_alignment intra_cost pcm_cost is_copy modes_of leaf_plan choice closing put_bin code contexts_after start lps_range next row_start slice_step step read_units start_codes decode engine_start doublings renormalised context_read bypass_read terminate_read aligned samples is_done fields_bits read_fields candidates mode_items mode_read escape_after unescape_after stream_bytes payload forbidden next_start units_within units profile_tier_level vps_front vps_back sps_formats sps_front size_fields sps_back pps_fields param_units read_size read_params coding_order neighbours is_filtered references angle inverse_angle predict coded_picture stored_picture crop block_of rebuild scan scan_kind last_context sub_block_context sig_context greater1_context greater2_context cbf in_coding_order in_rows residual_items residual_read contexts_at cut_after substreams slice_row_read row_of_bytes rows_read head_front head_middle head_bits read_offsets read_head slice_piece picture_units picture_piece pieces_after pieces stream_of split_context skip_context candidates_at coding_unit_items ctu_items source_of items_of_row coding_unit_read ctu_read vector_before merge predictors has_source moved_samples
row_4_cut_off = refl

-- no NAL unit, and a byte that is no start code
nothing : decode [] ≡ Err 0
unfolding digits_up_to u ue value_after bytes read_u read_ue_after read_alignment intra_cost pcm_cost is_copy modes_of leaf_plan choice closing put_bin code contexts_after start lps_range next row_start slice_step step read_units start_codes decode engine_start doublings renormalised context_read bypass_read terminate_read aligned samples is_done fields_bits read_fields candidates mode_items mode_read escape_after unescape_after stream_bytes payload forbidden next_start units_within units profile_tier_level vps_front vps_back sps_formats sps_front size_fields sps_back pps_fields param_units read_size read_params coding_order neighbours is_filtered references angle inverse_angle predict coded_picture stored_picture crop block_of rebuild scan scan_kind last_context sub_block_context sig_context greater1_context greater2_context cbf in_coding_order in_rows residual_items residual_read contexts_at cut_after substreams slice_row_read row_of_bytes rows_read head_front head_middle head_bits read_offsets read_head slice_piece picture_units picture_piece pieces_after pieces stream_of split_context skip_context candidates_at coding_unit_items ctu_items source_of items_of_row coding_unit_read ctu_read vector_before merge predictors has_source moved_samples
nothing = refl

no_start_code : decode (0x44 ∷ []) ≡ Err 0
unfolding digits_up_to u ue value_after bytes read_u read_ue_after read_alignment intra_cost pcm_cost is_copy modes_of leaf_plan choice closing put_bin code contexts_after start lps_range next row_start slice_step step read_units start_codes decode engine_start doublings renormalised context_read bypass_read terminate_read aligned samples is_done fields_bits read_fields candidates mode_items mode_read escape_after unescape_after stream_bytes payload forbidden next_start units_within units profile_tier_level vps_front vps_back sps_formats sps_front size_fields sps_back pps_fields param_units read_size read_params coding_order neighbours is_filtered references angle inverse_angle predict coded_picture stored_picture crop block_of rebuild scan scan_kind last_context sub_block_context sig_context greater1_context greater2_context cbf in_coding_order in_rows residual_items residual_read contexts_at cut_after substreams slice_row_read row_of_bytes rows_read head_front head_middle head_bits read_offsets read_head slice_piece picture_units picture_piece pieces_after pieces stream_of split_context skip_context candidates_at coding_unit_items ctu_items source_of items_of_row coding_unit_read ctu_read vector_before merge predictors has_source moved_samples
no_start_code = refl

-- fewer than three NAL units
one_set : decode vps ≡ Err 1
unfolding digits_up_to u ue value_after bytes read_u read_ue_after read_alignment intra_cost pcm_cost is_copy modes_of leaf_plan choice closing put_bin code contexts_after start lps_range next row_start slice_step step read_units start_codes decode engine_start doublings renormalised context_read bypass_read terminate_read aligned samples is_done fields_bits read_fields candidates mode_items mode_read escape_after unescape_after stream_bytes payload forbidden next_start units_within units profile_tier_level vps_front vps_back sps_formats sps_front size_fields sps_back pps_fields param_units read_size read_params coding_order neighbours is_filtered references angle inverse_angle predict coded_picture stored_picture crop block_of rebuild scan scan_kind last_context sub_block_context sig_context greater1_context greater2_context cbf in_coding_order in_rows residual_items residual_read contexts_at cut_after substreams slice_row_read row_of_bytes rows_read head_front head_middle head_bits read_offsets read_head slice_piece picture_units picture_piece pieces_after pieces stream_of split_context skip_context candidates_at coding_unit_items ctu_items source_of items_of_row coding_unit_read ctu_read vector_before merge predictors has_source moved_samples
one_set = refl

two_sets : decode (vps ++ sps_8x8) ≡ Err 2
unfolding digits_up_to u ue value_after bytes read_u read_ue_after read_alignment intra_cost pcm_cost is_copy modes_of leaf_plan choice closing put_bin code contexts_after start lps_range next row_start slice_step step read_units start_codes decode engine_start doublings renormalised context_read bypass_read terminate_read aligned samples is_done fields_bits read_fields candidates mode_items mode_read escape_after unescape_after stream_bytes payload forbidden next_start units_within units profile_tier_level vps_front vps_back sps_formats sps_front size_fields sps_back pps_fields param_units read_size read_params coding_order neighbours is_filtered references angle inverse_angle predict coded_picture stored_picture crop block_of rebuild scan scan_kind last_context sub_block_context sig_context greater1_context greater2_context cbf in_coding_order in_rows residual_items residual_read contexts_at cut_after substreams slice_row_read row_of_bytes rows_read head_front head_middle head_bits read_offsets read_head slice_piece picture_units picture_piece pieces_after pieces stream_of split_context skip_context candidates_at coding_unit_items ctu_items source_of items_of_row coding_unit_read ctu_read vector_before merge predictors has_source moved_samples
two_sets = refl

-- a bit that differs in each of the parameter sets, and the header of another one
another_vps : decode ((0x00 ∷ 0x00 ∷ 0x00 ∷ 0x01 ∷ 0x40 ∷ 0x01 ∷ 0x0C ∷ 0x41 ∷ 0xFF ∷ 0xFF ∷ 0x24 ∷ 0x08 ∷ 0x00 ∷ 0x00 ∷ 0x03 ∷ 0x00 ∷ 0xBE ∷ 0x08 ∷ 0x00 ∷ 0x00 ∷ 0x03 ∷ 0x00 ∷ 0x00 ∷ 0x9C ∷ 0xAC ∷ 0x09 ∷ []) ++ sps_8x8 ++ pps ++ grey) ≡ Err 0
unfolding digits_up_to u ue value_after bytes read_u read_ue_after read_alignment intra_cost pcm_cost is_copy modes_of leaf_plan choice closing put_bin code contexts_after start lps_range next row_start slice_step step read_units start_codes decode engine_start doublings renormalised context_read bypass_read terminate_read aligned samples is_done fields_bits read_fields candidates mode_items mode_read escape_after unescape_after stream_bytes payload forbidden next_start units_within units profile_tier_level vps_front vps_back sps_formats sps_front size_fields sps_back pps_fields param_units read_size read_params coding_order neighbours is_filtered references angle inverse_angle predict coded_picture stored_picture crop block_of rebuild scan scan_kind last_context sub_block_context sig_context greater1_context greater2_context cbf in_coding_order in_rows residual_items residual_read contexts_at cut_after substreams slice_row_read row_of_bytes rows_read head_front head_middle head_bits read_offsets read_head slice_piece picture_units picture_piece pieces_after pieces stream_of split_context skip_context candidates_at coding_unit_items ctu_items source_of items_of_row coding_unit_read ctu_read vector_before merge predictors has_source moved_samples
another_vps = refl

another_sps : decode (vps ++ (0x00 ∷ 0x00 ∷ 0x00 ∷ 0x01 ∷ 0x42 ∷ 0x01 ∷ 0x01 ∷ 0x24 ∷ 0x08 ∷ 0x00 ∷ 0x00 ∷ 0x03 ∷ 0x00 ∷ 0xBE ∷ 0x08 ∷ 0x00 ∷ 0x00 ∷ 0x03 ∷ 0x00 ∷ 0x00 ∷ 0xDC ∷ 0x90 ∷ 0x24 ∷ 0x4B ∷ 0x2D ∷ 0x77 ∷ 0x26 ∷ 0x2E ∷ 0xF7 ∷ 0x4B ∷ 0x89 ∷ 0xB8 ∷ 0x08 ∷ 0x68 ∷ 0x00 ∷ 0x04 ∷ []) ++ pps ++ grey) ≡ Err 1
unfolding digits_up_to u ue value_after bytes read_u read_ue_after read_alignment intra_cost pcm_cost is_copy modes_of leaf_plan choice closing put_bin code contexts_after start lps_range next row_start slice_step step read_units start_codes decode engine_start doublings renormalised context_read bypass_read terminate_read aligned samples is_done fields_bits read_fields candidates mode_items mode_read escape_after unescape_after stream_bytes payload forbidden next_start units_within units profile_tier_level vps_front vps_back sps_formats sps_front size_fields sps_back pps_fields param_units read_size read_params coding_order neighbours is_filtered references angle inverse_angle predict coded_picture stored_picture crop block_of rebuild scan scan_kind last_context sub_block_context sig_context greater1_context greater2_context cbf in_coding_order in_rows residual_items residual_read contexts_at cut_after substreams slice_row_read row_of_bytes rows_read head_front head_middle head_bits read_offsets read_head slice_piece picture_units picture_piece pieces_after pieces stream_of split_context skip_context candidates_at coding_unit_items ctu_items source_of items_of_row coding_unit_read ctu_read vector_before merge predictors has_source moved_samples
another_sps = refl

another_pps : decode (vps ++ sps_8x8 ++ (0x00 ∷ 0x00 ∷ 0x00 ∷ 0x01 ∷ 0x44 ∷ 0x01 ∷ 0xE0 ∷ 0x71 ∷ 0x8A ∷ 0xA4 ∷ 0x80 ∷ []) ++ grey) ≡ Err 2
unfolding digits_up_to u ue value_after bytes read_u read_ue_after read_alignment intra_cost pcm_cost is_copy modes_of leaf_plan choice closing put_bin code contexts_after start lps_range next row_start slice_step step read_units start_codes decode engine_start doublings renormalised context_read bypass_read terminate_read aligned samples is_done fields_bits read_fields candidates mode_items mode_read escape_after unescape_after stream_bytes payload forbidden next_start units_within units profile_tier_level vps_front vps_back sps_formats sps_front size_fields sps_back pps_fields param_units read_size read_params coding_order neighbours is_filtered references angle inverse_angle predict coded_picture stored_picture crop block_of rebuild scan scan_kind last_context sub_block_context sig_context greater1_context greater2_context cbf in_coding_order in_rows residual_items residual_read contexts_at cut_after substreams slice_row_read row_of_bytes rows_read head_front head_middle head_bits read_offsets read_head slice_piece picture_units picture_piece pieces_after pieces stream_of split_context skip_context candidates_at coding_unit_items ctu_items source_of items_of_row coding_unit_read ctu_read vector_before merge predictors has_source moved_samples
another_pps = refl

another_set_header : decode (vps ++ vps ++ pps ++ grey) ≡ Err 1
unfolding digits_up_to u ue value_after bytes read_u read_ue_after read_alignment intra_cost pcm_cost is_copy modes_of leaf_plan choice closing put_bin code contexts_after start lps_range next row_start slice_step step read_units start_codes decode engine_start doublings renormalised context_read bypass_read terminate_read aligned samples is_done fields_bits read_fields candidates mode_items mode_read escape_after unescape_after stream_bytes payload forbidden next_start units_within units profile_tier_level vps_front vps_back sps_formats sps_front size_fields sps_back pps_fields param_units read_size read_params coding_order neighbours is_filtered references angle inverse_angle predict coded_picture stored_picture crop block_of rebuild scan scan_kind last_context sub_block_context sig_context greater1_context greater2_context cbf in_coding_order in_rows residual_items residual_read contexts_at cut_after substreams slice_row_read row_of_bytes rows_read head_front head_middle head_bits read_offsets read_head slice_piece picture_units picture_piece pieces_after pieces stream_of split_context skip_context candidates_at coding_unit_items ctu_items source_of items_of_row coding_unit_read ctu_read vector_before merge predictors has_source moved_samples
another_set_header = refl

-- max_transform_hierarchy_depth_inter and max_transform_hierarchy_depth_intra 1: transform blocks could be split
split_transforms_inter : decode (vps ++ (0x00 ∷ 0x00 ∷ 0x00 ∷ 0x01 ∷ 0x42 ∷ 0x01 ∷ 0x01 ∷ 0x24 ∷ 0x08 ∷ 0x00 ∷ 0x00 ∷ 0x03 ∷ 0x00 ∷ 0xBE ∷ 0x08 ∷ 0x00 ∷ 0x00 ∷ 0x03 ∷ 0x00 ∷ 0x00 ∷ 0x9C ∷ 0x90 ∷ 0x24 ∷ 0x4B ∷ 0x2D ∷ 0x77 ∷ 0x22 ∷ 0x8B ∷ 0xBD ∷ 0xD2 ∷ 0xE2 ∷ 0x6E ∷ 0x02 ∷ 0x1A ∷ 0x00 ∷ 0x01 ∷ []) ++ pps ++ grey) ≡ Err 1
unfolding digits_up_to u ue value_after bytes read_u read_ue_after read_alignment intra_cost pcm_cost is_copy modes_of leaf_plan choice closing put_bin code contexts_after start lps_range next row_start slice_step step read_units start_codes decode engine_start doublings renormalised context_read bypass_read terminate_read aligned samples is_done fields_bits read_fields candidates mode_items mode_read escape_after unescape_after stream_bytes payload forbidden next_start units_within units profile_tier_level vps_front vps_back sps_formats sps_front size_fields sps_back pps_fields param_units read_size read_params coding_order neighbours is_filtered references angle inverse_angle predict coded_picture stored_picture crop block_of rebuild scan scan_kind last_context sub_block_context sig_context greater1_context greater2_context cbf in_coding_order in_rows residual_items residual_read contexts_at cut_after substreams slice_row_read row_of_bytes rows_read head_front head_middle head_bits read_offsets read_head slice_piece picture_units picture_piece pieces_after pieces stream_of split_context skip_context candidates_at coding_unit_items ctu_items source_of items_of_row coding_unit_read ctu_read vector_before merge predictors has_source moved_samples
split_transforms_inter = refl

split_transforms_intra : decode (vps ++ (0x00 ∷ 0x00 ∷ 0x00 ∷ 0x01 ∷ 0x42 ∷ 0x01 ∷ 0x01 ∷ 0x24 ∷ 0x08 ∷ 0x00 ∷ 0x00 ∷ 0x03 ∷ 0x00 ∷ 0xBE ∷ 0x08 ∷ 0x00 ∷ 0x00 ∷ 0x03 ∷ 0x00 ∷ 0x00 ∷ 0x9C ∷ 0x90 ∷ 0x24 ∷ 0x4B ∷ 0x2D ∷ 0x77 ∷ 0x25 ∷ 0x0B ∷ 0xBD ∷ 0xD2 ∷ 0xE2 ∷ 0x6E ∷ 0x02 ∷ 0x1A ∷ 0x00 ∷ 0x01 ∷ []) ++ pps ++ grey) ≡ Err 1
unfolding digits_up_to u ue value_after bytes read_u read_ue_after read_alignment intra_cost pcm_cost is_copy modes_of leaf_plan choice closing put_bin code contexts_after start lps_range next row_start slice_step step read_units start_codes decode engine_start doublings renormalised context_read bypass_read terminate_read aligned samples is_done fields_bits read_fields candidates mode_items mode_read escape_after unescape_after stream_bytes payload forbidden next_start units_within units profile_tier_level vps_front vps_back sps_formats sps_front size_fields sps_back pps_fields param_units read_size read_params coding_order neighbours is_filtered references angle inverse_angle predict coded_picture stored_picture crop block_of rebuild scan scan_kind last_context sub_block_context sig_context greater1_context greater2_context cbf in_coding_order in_rows residual_items residual_read contexts_at cut_after substreams slice_row_read row_of_bytes rows_read head_front head_middle head_bits read_offsets read_head slice_piece picture_units picture_piece pieces_after pieces stream_of split_context skip_context candidates_at coding_unit_items ctu_items source_of items_of_row coding_unit_read ctu_read vector_before merge predictors has_source moved_samples
split_transforms_intra = refl

-- a parameter set that comes again, among the three and after them
sps_twice : decode (vps ++ sps_8x8 ++ sps_8x8 ++ pps ++ grey) ≡ Err 2
unfolding digits_up_to u ue value_after bytes read_u read_ue_after read_alignment intra_cost pcm_cost is_copy modes_of leaf_plan choice closing put_bin code contexts_after start lps_range next row_start slice_step step read_units start_codes decode engine_start doublings renormalised context_read bypass_read terminate_read aligned samples is_done fields_bits read_fields candidates mode_items mode_read escape_after unescape_after stream_bytes payload forbidden next_start units_within units profile_tier_level vps_front vps_back sps_formats sps_front size_fields sps_back pps_fields param_units read_size read_params coding_order neighbours is_filtered references angle inverse_angle predict coded_picture stored_picture crop block_of rebuild scan scan_kind last_context sub_block_context sig_context greater1_context greater2_context cbf in_coding_order in_rows residual_items residual_read contexts_at cut_after substreams slice_row_read row_of_bytes rows_read head_front head_middle head_bits read_offsets read_head slice_piece picture_units picture_piece pieces_after pieces stream_of split_context skip_context candidates_at coding_unit_items ctu_items source_of items_of_row coding_unit_read ctu_read vector_before merge predictors has_source moved_samples
sps_twice = refl

pps_twice : decode (vps ++ sps_8x8 ++ pps ++ pps ++ grey) ≡ Err 3
unfolding digits_up_to u ue value_after bytes read_u read_ue_after read_alignment intra_cost pcm_cost is_copy modes_of leaf_plan choice closing put_bin code contexts_after start lps_range next row_start slice_step step read_units start_codes decode engine_start doublings renormalised context_read bypass_read terminate_read aligned samples is_done fields_bits read_fields candidates mode_items mode_read escape_after unescape_after stream_bytes payload forbidden next_start units_within units profile_tier_level vps_front vps_back sps_formats sps_front size_fields sps_back pps_fields param_units read_size read_params coding_order neighbours is_filtered references angle inverse_angle predict coded_picture stored_picture crop block_of rebuild scan scan_kind last_context sub_block_context sig_context greater1_context greater2_context cbf in_coding_order in_rows residual_items residual_read contexts_at cut_after substreams slice_row_read row_of_bytes rows_read head_front head_middle head_bits read_offsets read_head slice_piece picture_units picture_piece pieces_after pieces stream_of split_context skip_context candidates_at coding_unit_items ctu_items source_of items_of_row coding_unit_read ctu_read vector_before merge predictors has_source moved_samples
pps_twice = refl

-- a P picture without a picture before, one whose order count is that of the picture before, and one that leaves a count out
p_picture_first : decode (vps ++ sps_8x8 ++ pps ++ copy) ≡ Err 3
unfolding digits_up_to u ue value_after bytes read_u read_ue_after read_alignment intra_cost pcm_cost is_copy modes_of leaf_plan choice closing put_bin code contexts_after start lps_range next row_start slice_step step read_units start_codes decode engine_start doublings renormalised context_read bypass_read terminate_read aligned samples is_done fields_bits read_fields candidates mode_items mode_read escape_after unescape_after stream_bytes payload forbidden next_start units_within units profile_tier_level vps_front vps_back sps_formats sps_front size_fields sps_back pps_fields param_units read_size read_params coding_order neighbours is_filtered references angle inverse_angle predict coded_picture stored_picture crop block_of rebuild scan scan_kind last_context sub_block_context sig_context greater1_context greater2_context cbf in_coding_order in_rows residual_items residual_read contexts_at cut_after substreams slice_row_read row_of_bytes rows_read head_front head_middle head_bits read_offsets read_head slice_piece picture_units picture_piece pieces_after pieces stream_of split_context skip_context candidates_at coding_unit_items ctu_items source_of items_of_row coding_unit_read ctu_read vector_before merge predictors has_source moved_samples
p_picture_first = refl

p_picture_again : decode (vps ++ sps_8x8 ++ pps ++ grey ++ copy ++ copy) ≡ Err 5
unfolding digits_up_to u ue value_after bytes read_u read_ue_after read_alignment intra_cost pcm_cost is_copy modes_of leaf_plan choice closing put_bin code contexts_after start lps_range next row_start slice_step step read_units start_codes decode engine_start doublings renormalised context_read bypass_read terminate_read aligned samples is_done fields_bits read_fields candidates mode_items mode_read escape_after unescape_after stream_bytes payload forbidden next_start units_within units profile_tier_level vps_front vps_back sps_formats sps_front size_fields sps_back pps_fields param_units read_size read_params coding_order neighbours is_filtered references angle inverse_angle predict coded_picture stored_picture crop block_of rebuild scan scan_kind last_context sub_block_context sig_context greater1_context greater2_context cbf in_coding_order in_rows residual_items residual_read contexts_at cut_after substreams slice_row_read row_of_bytes rows_read head_front head_middle head_bits read_offsets read_head slice_piece picture_units picture_piece pieces_after pieces stream_of split_context skip_context candidates_at coding_unit_items ctu_items source_of items_of_row coding_unit_read ctu_read vector_before merge predictors has_source moved_samples
p_picture_again = refl

order_count_skips : decode (vps ++ sps_8x8 ++ pps ++ grey ++ 0x00 ∷ 0x00 ∷ 0x00 ∷ 0x01 ∷ 0x02 ∷ 0x01 ∷ 0xD0 ∷ 0x14 ∷ 0x5E ∷ 0x86 ∷ 0xE0 ∷ []) ≡ Err 4
unfolding digits_up_to u ue value_after bytes read_u read_ue_after read_alignment intra_cost pcm_cost is_copy modes_of leaf_plan choice closing put_bin code contexts_after start lps_range next row_start slice_step step read_units start_codes decode engine_start doublings renormalised context_read bypass_read terminate_read aligned samples is_done fields_bits read_fields candidates mode_items mode_read escape_after unescape_after stream_bytes payload forbidden next_start units_within units profile_tier_level vps_front vps_back sps_formats sps_front size_fields sps_back pps_fields param_units read_size read_params coding_order neighbours is_filtered references angle inverse_angle predict coded_picture stored_picture crop block_of rebuild scan scan_kind last_context sub_block_context sig_context greater1_context greater2_context cbf in_coding_order in_rows residual_items residual_read contexts_at cut_after substreams slice_row_read row_of_bytes rows_read head_front head_middle head_bits read_offsets read_head slice_piece picture_units picture_piece pieces_after pieces stream_of split_context skip_context candidates_at coding_unit_items ctu_items source_of items_of_row coding_unit_read ctu_read vector_before merge predictors has_source moved_samples
order_count_skips = refl

-- bits of the slice header: first_slice_segment_in_pic_flag, no_output_of_prior_pics_flag, the type of the slice, slice_qp_delta and the alignment
idr_head_not_the_first_segment : decode (vps ++ sps_8x8 ++ pps ++ 0x00 ∷ 0x00 ∷ 0x00 ∷ 0x01 ∷ 0x28 ∷ 0x01 ∷ 0x2F ∷ 0x80 ∷ 0x15 ∷ 0x1D ∷ 0xC0 ∷ []) ≡ Err 3
unfolding digits_up_to u ue value_after bytes read_u read_ue_after read_alignment intra_cost pcm_cost is_copy modes_of leaf_plan choice closing put_bin code contexts_after start lps_range next row_start slice_step step read_units start_codes decode engine_start doublings renormalised context_read bypass_read terminate_read aligned samples is_done fields_bits read_fields candidates mode_items mode_read escape_after unescape_after stream_bytes payload forbidden next_start units_within units profile_tier_level vps_front vps_back sps_formats sps_front size_fields sps_back pps_fields param_units read_size read_params coding_order neighbours is_filtered references angle inverse_angle predict coded_picture stored_picture crop block_of rebuild scan scan_kind last_context sub_block_context sig_context greater1_context greater2_context cbf in_coding_order in_rows residual_items residual_read contexts_at cut_after substreams slice_row_read row_of_bytes rows_read head_front head_middle head_bits read_offsets read_head slice_piece picture_units picture_piece pieces_after pieces stream_of split_context skip_context candidates_at coding_unit_items ctu_items source_of items_of_row coding_unit_read ctu_read vector_before merge predictors has_source moved_samples
idr_head_not_the_first_segment = refl

idr_head_other_prior_pictures : decode (vps ++ sps_8x8 ++ pps ++ 0x00 ∷ 0x00 ∷ 0x00 ∷ 0x01 ∷ 0x28 ∷ 0x01 ∷ 0xEF ∷ 0x80 ∷ 0x15 ∷ 0x1D ∷ 0xC0 ∷ []) ≡ Err 3
unfolding digits_up_to u ue value_after bytes read_u read_ue_after read_alignment intra_cost pcm_cost is_copy modes_of leaf_plan choice closing put_bin code contexts_after start lps_range next row_start slice_step step read_units start_codes decode engine_start doublings renormalised context_read bypass_read terminate_read aligned samples is_done fields_bits read_fields candidates mode_items mode_read escape_after unescape_after stream_bytes payload forbidden next_start units_within units profile_tier_level vps_front vps_back sps_formats sps_front size_fields sps_back pps_fields param_units read_size read_params coding_order neighbours is_filtered references angle inverse_angle predict coded_picture stored_picture crop block_of rebuild scan scan_kind last_context sub_block_context sig_context greater1_context greater2_context cbf in_coding_order in_rows residual_items residual_read contexts_at cut_after substreams slice_row_read row_of_bytes rows_read head_front head_middle head_bits read_offsets read_head slice_piece picture_units picture_piece pieces_after pieces stream_of split_context skip_context candidates_at coding_unit_items ctu_items source_of items_of_row coding_unit_read ctu_read vector_before merge predictors has_source moved_samples
idr_head_other_prior_pictures = refl

idr_head_p_slice_in_idr : decode (vps ++ sps_8x8 ++ pps ++ 0x00 ∷ 0x00 ∷ 0x00 ∷ 0x01 ∷ 0x28 ∷ 0x01 ∷ 0xBF ∷ 0x80 ∷ 0x15 ∷ 0x1D ∷ 0xC0 ∷ []) ≡ Err 3
unfolding digits_up_to u ue value_after bytes read_u read_ue_after read_alignment intra_cost pcm_cost is_copy modes_of leaf_plan choice closing put_bin code contexts_after start lps_range next row_start slice_step step read_units start_codes decode engine_start doublings renormalised context_read bypass_read terminate_read aligned samples is_done fields_bits read_fields candidates mode_items mode_read escape_after unescape_after stream_bytes payload forbidden next_start units_within units profile_tier_level vps_front vps_back sps_formats sps_front size_fields sps_back pps_fields param_units read_size read_params coding_order neighbours is_filtered references angle inverse_angle predict coded_picture stored_picture crop block_of rebuild scan scan_kind last_context sub_block_context sig_context greater1_context greater2_context cbf in_coding_order in_rows residual_items residual_read contexts_at cut_after substreams slice_row_read row_of_bytes rows_read head_front head_middle head_bits read_offsets read_head slice_piece picture_units picture_piece pieces_after pieces stream_of split_context skip_context candidates_at coding_unit_items ctu_items source_of items_of_row coding_unit_read ctu_read vector_before merge predictors has_source moved_samples
idr_head_p_slice_in_idr = refl

idr_head_qp_delta : decode (vps ++ sps_8x8 ++ pps ++ 0x00 ∷ 0x00 ∷ 0x00 ∷ 0x01 ∷ 0x28 ∷ 0x01 ∷ 0xAE ∷ 0x80 ∷ 0x15 ∷ 0x1D ∷ 0xC0 ∷ []) ≡ Err 3
unfolding digits_up_to u ue value_after bytes read_u read_ue_after read_alignment intra_cost pcm_cost is_copy modes_of leaf_plan choice closing put_bin code contexts_after start lps_range next row_start slice_step step read_units start_codes decode engine_start doublings renormalised context_read bypass_read terminate_read aligned samples is_done fields_bits read_fields candidates mode_items mode_read escape_after unescape_after stream_bytes payload forbidden next_start units_within units profile_tier_level vps_front vps_back sps_formats sps_front size_fields sps_back pps_fields param_units read_size read_params coding_order neighbours is_filtered references angle inverse_angle predict coded_picture stored_picture crop block_of rebuild scan scan_kind last_context sub_block_context sig_context greater1_context greater2_context cbf in_coding_order in_rows residual_items residual_read contexts_at cut_after substreams slice_row_read row_of_bytes rows_read head_front head_middle head_bits read_offsets read_head slice_piece picture_units picture_piece pieces_after pieces stream_of split_context skip_context candidates_at coding_unit_items ctu_items source_of items_of_row coding_unit_read ctu_read vector_before merge predictors has_source moved_samples
idr_head_qp_delta = refl

idr_head_no_alignment : decode (vps ++ sps_8x8 ++ pps ++ 0x00 ∷ 0x00 ∷ 0x00 ∷ 0x01 ∷ 0x28 ∷ 0x01 ∷ 0xAF ∷ 0x00 ∷ 0x15 ∷ 0x1D ∷ 0xC0 ∷ []) ≡ Err 3
unfolding digits_up_to u ue value_after bytes read_u read_ue_after read_alignment intra_cost pcm_cost is_copy modes_of leaf_plan choice closing put_bin code contexts_after start lps_range next row_start slice_step step read_units start_codes decode engine_start doublings renormalised context_read bypass_read terminate_read aligned samples is_done fields_bits read_fields candidates mode_items mode_read escape_after unescape_after stream_bytes payload forbidden next_start units_within units profile_tier_level vps_front vps_back sps_formats sps_front size_fields sps_back pps_fields param_units read_size read_params coding_order neighbours is_filtered references angle inverse_angle predict coded_picture stored_picture crop block_of rebuild scan scan_kind last_context sub_block_context sig_context greater1_context greater2_context cbf in_coding_order in_rows residual_items residual_read contexts_at cut_after substreams slice_row_read row_of_bytes rows_read head_front head_middle head_bits read_offsets read_head slice_piece picture_units picture_piece pieces_after pieces stream_of split_context skip_context candidates_at coding_unit_items ctu_items source_of items_of_row coding_unit_read ctu_read vector_before merge predictors has_source moved_samples
idr_head_no_alignment = refl

-- a byte too many behind the row, and one too few
a_byte_after_the_row : decode (vps ++ sps_8x8 ++ pps ++ grey ++ 0x80 ∷ []) ≡ Err 3
unfolding digits_up_to u ue value_after bytes read_u read_ue_after read_alignment intra_cost pcm_cost is_copy modes_of leaf_plan choice closing put_bin code contexts_after start lps_range next row_start slice_step step read_units start_codes decode engine_start doublings renormalised context_read bypass_read terminate_read aligned samples is_done fields_bits read_fields candidates mode_items mode_read escape_after unescape_after stream_bytes payload forbidden next_start units_within units profile_tier_level vps_front vps_back sps_formats sps_front size_fields sps_back pps_fields param_units read_size read_params coding_order neighbours is_filtered references angle inverse_angle predict coded_picture stored_picture crop block_of rebuild scan scan_kind last_context sub_block_context sig_context greater1_context greater2_context cbf in_coding_order in_rows residual_items residual_read contexts_at cut_after substreams slice_row_read row_of_bytes rows_read head_front head_middle head_bits read_offsets read_head slice_piece picture_units picture_piece pieces_after pieces stream_of split_context skip_context candidates_at coding_unit_items ctu_items source_of items_of_row coding_unit_read ctu_read vector_before merge predictors has_source moved_samples
a_byte_after_the_row = refl

row_cut_off : decode (vps ++ sps_8x8 ++ pps ++ 0x00 ∷ 0x00 ∷ 0x00 ∷ 0x01 ∷ 0x28 ∷ 0x01 ∷ 0xAF ∷ 0x80 ∷ 0x15 ∷ 0x1D ∷ []) ≡ Err 3
unfolding digits_up_to u ue value_after bytes read_u read_ue_after read_alignment intra_cost pcm_cost is_copy modes_of leaf_plan choice closing put_bin code contexts_after start lps_range next row_start slice_step step read_units start_codes decode engine_start doublings renormalised context_read bypass_read terminate_read aligned samples is_done fields_bits read_fields candidates mode_items mode_read escape_after unescape_after stream_bytes payload forbidden next_start units_within units profile_tier_level vps_front vps_back sps_formats sps_front size_fields sps_back pps_fields param_units read_size read_params coding_order neighbours is_filtered references angle inverse_angle predict coded_picture stored_picture crop block_of rebuild scan scan_kind last_context sub_block_context sig_context greater1_context greater2_context cbf in_coding_order in_rows residual_items residual_read contexts_at cut_after substreams slice_row_read row_of_bytes rows_read head_front head_middle head_bits read_offsets read_head slice_piece picture_units picture_piece pieces_after pieces stream_of split_context skip_context candidates_at coding_unit_items ctu_items source_of items_of_row coding_unit_read ctu_read vector_before merge predictors has_source moved_samples
row_cut_off = refl

-- flags of the coding unit: cu_transquant_bypass_flag 0, part_mode of four parts, and an intra_chroma_pred_mode that is coded
no_transquant_bypass : decode (vps ++ sps_8x8 ++ pps ++ 0x00 ∷ 0x00 ∷ 0x00 ∷ 0x01 ∷ 0x28 ∷ 0x01 ∷ 0xAF ∷ 0x80 ∷ 0x97 ∷ 0x89 ∷ 0xC0 ∷ []) ≡ Err 3
unfolding digits_up_to u ue value_after bytes read_u read_ue_after read_alignment intra_cost pcm_cost is_copy modes_of leaf_plan choice closing put_bin code contexts_after start lps_range next row_start slice_step step read_units start_codes decode engine_start doublings renormalised context_read bypass_read terminate_read aligned samples is_done fields_bits read_fields candidates mode_items mode_read escape_after unescape_after stream_bytes payload forbidden next_start units_within units profile_tier_level vps_front vps_back sps_formats sps_front size_fields sps_back pps_fields param_units read_size read_params coding_order neighbours is_filtered references angle inverse_angle predict coded_picture stored_picture crop block_of rebuild scan scan_kind last_context sub_block_context sig_context greater1_context greater2_context cbf in_coding_order in_rows residual_items residual_read contexts_at cut_after substreams slice_row_read row_of_bytes rows_read head_front head_middle head_bits read_offsets read_head slice_piece picture_units picture_piece pieces_after pieces stream_of split_context skip_context candidates_at coding_unit_items ctu_items source_of items_of_row coding_unit_read ctu_read vector_before merge predictors has_source moved_samples
no_transquant_bypass = refl

other_part_mode : decode (vps ++ sps_8x8 ++ pps ++ 0x00 ∷ 0x00 ∷ 0x00 ∷ 0x01 ∷ 0x28 ∷ 0x01 ∷ 0xAF ∷ 0x80 ∷ 0x59 ∷ 0x19 ∷ 0xC0 ∷ []) ≡ Err 3
unfolding digits_up_to u ue value_after bytes read_u read_ue_after read_alignment intra_cost pcm_cost is_copy modes_of leaf_plan choice closing put_bin code contexts_after start lps_range next row_start slice_step step read_units start_codes decode engine_start doublings renormalised context_read bypass_read terminate_read aligned samples is_done fields_bits read_fields candidates mode_items mode_read escape_after unescape_after stream_bytes payload forbidden next_start units_within units profile_tier_level vps_front vps_back sps_formats sps_front size_fields sps_back pps_fields param_units read_size read_params coding_order neighbours is_filtered references angle inverse_angle predict coded_picture stored_picture crop block_of rebuild scan scan_kind last_context sub_block_context sig_context greater1_context greater2_context cbf in_coding_order in_rows residual_items residual_read contexts_at cut_after substreams slice_row_read row_of_bytes rows_read head_front head_middle head_bits read_offsets read_head slice_piece picture_units picture_piece pieces_after pieces stream_of split_context skip_context candidates_at coding_unit_items ctu_items source_of items_of_row coding_unit_read ctu_read vector_before merge predictors has_source moved_samples
other_part_mode = refl

other_chroma_mode : decode (vps ++ sps_8x8 ++ pps ++ 0x00 ∷ 0x00 ∷ 0x00 ∷ 0x01 ∷ 0x28 ∷ 0x01 ∷ 0xAF ∷ 0x80 ∷ 0x1A ∷ 0xBA ∷ 0xE0 ∷ []) ≡ Err 3
unfolding digits_up_to u ue value_after bytes read_u read_ue_after read_alignment intra_cost pcm_cost is_copy modes_of leaf_plan choice closing put_bin code contexts_after start lps_range next row_start slice_step step read_units start_codes decode engine_start doublings renormalised context_read bypass_read terminate_read aligned samples is_done fields_bits read_fields candidates mode_items mode_read escape_after unescape_after stream_bytes payload forbidden next_start units_within units profile_tier_level vps_front vps_back sps_formats sps_front size_fields sps_back pps_fields param_units read_size read_params coding_order neighbours is_filtered references angle inverse_angle predict coded_picture stored_picture crop block_of rebuild scan scan_kind last_context sub_block_context sig_context greater1_context greater2_context cbf in_coding_order in_rows residual_items residual_read contexts_at cut_after substreams slice_row_read row_of_bytes rows_read head_front head_middle head_bits read_offsets read_head slice_piece picture_units picture_piece pieces_after pieces stream_of split_context skip_context candidates_at coding_unit_items ctu_items source_of items_of_row coding_unit_read ctu_read vector_before merge predictors has_source moved_samples
other_chroma_mode = refl

-- the last coding tree unit says that the slice goes on
slice_goes_on : decode (vps ++ sps_8x8 ++ pps ++ 0x00 ∷ 0x00 ∷ 0x00 ∷ 0x01 ∷ 0x28 ∷ 0x01 ∷ 0xAF ∷ 0x80 ∷ []) ≡ Err 3
unfolding digits_up_to u ue value_after bytes read_u read_ue_after read_alignment intra_cost pcm_cost is_copy modes_of leaf_plan choice closing put_bin code contexts_after start lps_range next row_start slice_step step read_units start_codes decode engine_start doublings renormalised context_read bypass_read terminate_read aligned samples is_done fields_bits read_fields candidates mode_items mode_read escape_after unescape_after stream_bytes payload forbidden next_start units_within units profile_tier_level vps_front vps_back sps_formats sps_front size_fields sps_back pps_fields param_units read_size read_params coding_order neighbours is_filtered references angle inverse_angle predict coded_picture stored_picture crop block_of rebuild scan scan_kind last_context sub_block_context sig_context greater1_context greater2_context cbf in_coding_order in_rows residual_items residual_read contexts_at cut_after substreams slice_row_read row_of_bytes rows_read head_front head_middle head_bits read_offsets read_head slice_piece picture_units picture_piece pieces_after pieces stream_of split_context skip_context candidates_at coding_unit_items ctu_items source_of items_of_row coding_unit_read ctu_read vector_before merge predictors has_source moved_samples
slice_goes_on = refl

-- a split_cu_flag 1 before a coding unit of side 16
other_split : decode (vps ++ sps_16x16 ++ pps ++ 0x00 ∷ 0x00 ∷ 0x00 ∷ 0x01 ∷ 0x28 ∷ 0x01 ∷ 0xAF ∷ 0x80 ∷ 0x97 ∷ 0x89 ∷ 0xC0 ∷ []) ≡ Err 3
unfolding digits_up_to u ue value_after bytes read_u read_ue_after read_alignment intra_cost pcm_cost is_copy modes_of leaf_plan choice closing put_bin code contexts_after start lps_range next row_start slice_step step read_units start_codes decode engine_start doublings renormalised context_read bypass_read terminate_read aligned samples is_done fields_bits read_fields candidates mode_items mode_read escape_after unescape_after stream_bytes payload forbidden next_start units_within units profile_tier_level vps_front vps_back sps_formats sps_front size_fields sps_back pps_fields param_units read_size read_params coding_order neighbours is_filtered references angle inverse_angle predict coded_picture stored_picture crop block_of rebuild scan scan_kind last_context sub_block_context sig_context greater1_context greater2_context cbf in_coding_order in_rows residual_items residual_read contexts_at cut_after substreams slice_row_read row_of_bytes rows_read head_front head_middle head_bits read_offsets read_head slice_piece picture_units picture_piece pieces_after pieces stream_of split_context skip_context candidates_at coding_unit_items ctu_items source_of items_of_row coding_unit_read ctu_read vector_before merge predictors has_source moved_samples
other_split = refl

-- the first of two coding tree units beside each other says that the slice ends
slice_ends_too_early : decode (vps ++ sps_40x8 ++ pps ++ 0x00 ∷ 0x00 ∷ 0x00 ∷ 0x01 ∷ 0x28 ∷ 0x01 ∷ 0xAF ∷ 0x80 ∷ 0x14 ∷ 0xD0 ∷ 0x20 ∷ 0x4C ∷ 0x06 ∷ 0xB3 ∷ 0x23 ∷ 0x5E ∷ []) ≡ Err 3
unfolding digits_up_to u ue value_after bytes read_u read_ue_after read_alignment intra_cost pcm_cost is_copy modes_of leaf_plan choice closing put_bin code contexts_after start lps_range next row_start slice_step step read_units start_codes decode engine_start doublings renormalised context_read bypass_read terminate_read aligned samples is_done fields_bits read_fields candidates mode_items mode_read escape_after unescape_after stream_bytes payload forbidden next_start units_within units profile_tier_level vps_front vps_back sps_formats sps_front size_fields sps_back pps_fields param_units read_size read_params coding_order neighbours is_filtered references angle inverse_angle predict coded_picture stored_picture crop block_of rebuild scan scan_kind last_context sub_block_context sig_context greater1_context greater2_context cbf in_coding_order in_rows residual_items residual_read contexts_at cut_after substreams slice_row_read row_of_bytes rows_read head_front head_middle head_bits read_offsets read_head slice_piece picture_units picture_piece pieces_after pieces stream_of split_context skip_context candidates_at coding_unit_items ctu_items source_of items_of_row coding_unit_read ctu_read vector_before merge predictors has_source moved_samples
slice_ends_too_early = refl

-- an entry point one byte too late and one too early, none where there are two rows, and one where there is one row
entry_point_too_late : decode (vps ++ sps_8x40 ++ pps ++ 0x00 ∷ 0x00 ∷ 0x00 ∷ 0x01 ∷ 0x28 ∷ 0x01 ∷ 0xAE ∷ 0x81 ∷ 0x00 ∷ 0x00 ∷ 0x03 ∷ 0x00 ∷ 0x00 ∷ 0x34 ∷ 0x14 ∷ 0xB8 ∷ 0xAA ∷ 0xD6 ∷ 0x88 ∷ 0xA0 ∷ 0x15 ∷ 0x1D ∷ 0xC0 ∷ []) ≡ Err 3
unfolding digits_up_to u ue value_after bytes read_u read_ue_after read_alignment intra_cost pcm_cost is_copy modes_of leaf_plan choice closing put_bin code contexts_after start lps_range next row_start slice_step step read_units start_codes decode engine_start doublings renormalised context_read bypass_read terminate_read aligned samples is_done fields_bits read_fields candidates mode_items mode_read escape_after unescape_after stream_bytes payload forbidden next_start units_within units profile_tier_level vps_front vps_back sps_formats sps_front size_fields sps_back pps_fields param_units read_size read_params coding_order neighbours is_filtered references angle inverse_angle predict coded_picture stored_picture crop block_of rebuild scan scan_kind last_context sub_block_context sig_context greater1_context greater2_context cbf in_coding_order in_rows residual_items residual_read contexts_at cut_after substreams slice_row_read row_of_bytes rows_read head_front head_middle head_bits read_offsets read_head slice_piece picture_units picture_piece pieces_after pieces stream_of split_context skip_context candidates_at coding_unit_items ctu_items source_of items_of_row coding_unit_read ctu_read vector_before merge predictors has_source moved_samples
entry_point_too_late = refl

entry_point_too_early : decode (vps ++ sps_8x40 ++ pps ++ 0x00 ∷ 0x00 ∷ 0x00 ∷ 0x01 ∷ 0x28 ∷ 0x01 ∷ 0xAE ∷ 0x81 ∷ 0x00 ∷ 0x00 ∷ 0x03 ∷ 0x00 ∷ 0x00 ∷ 0x24 ∷ 0x14 ∷ 0xB8 ∷ 0xAA ∷ 0xD6 ∷ 0x88 ∷ 0xA0 ∷ 0x15 ∷ 0x1D ∷ 0xC0 ∷ []) ≡ Err 3
unfolding digits_up_to u ue value_after bytes read_u read_ue_after read_alignment intra_cost pcm_cost is_copy modes_of leaf_plan choice closing put_bin code contexts_after start lps_range next row_start slice_step step read_units start_codes decode engine_start doublings renormalised context_read bypass_read terminate_read aligned samples is_done fields_bits read_fields candidates mode_items mode_read escape_after unescape_after stream_bytes payload forbidden next_start units_within units profile_tier_level vps_front vps_back sps_formats sps_front size_fields sps_back pps_fields param_units read_size read_params coding_order neighbours is_filtered references angle inverse_angle predict coded_picture stored_picture crop block_of rebuild scan scan_kind last_context sub_block_context sig_context greater1_context greater2_context cbf in_coding_order in_rows residual_items residual_read contexts_at cut_after substreams slice_row_read row_of_bytes rows_read head_front head_middle head_bits read_offsets read_head slice_piece picture_units picture_piece pieces_after pieces stream_of split_context skip_context candidates_at coding_unit_items ctu_items source_of items_of_row coding_unit_read ctu_read vector_before merge predictors has_source moved_samples
entry_point_too_early = refl

entry_point_missing : decode (vps ++ sps_8x40 ++ pps ++ 0x00 ∷ 0x00 ∷ 0x00 ∷ 0x01 ∷ 0x28 ∷ 0x01 ∷ 0xAF ∷ 0x80 ∷ 0x14 ∷ 0xB8 ∷ 0xAA ∷ 0xD6 ∷ 0x88 ∷ 0xA0 ∷ 0x15 ∷ 0x1D ∷ 0xC0 ∷ []) ≡ Err 3
unfolding digits_up_to u ue value_after bytes read_u read_ue_after read_alignment intra_cost pcm_cost is_copy modes_of leaf_plan choice closing put_bin code contexts_after start lps_range next row_start slice_step step read_units start_codes decode engine_start doublings renormalised context_read bypass_read terminate_read aligned samples is_done fields_bits read_fields candidates mode_items mode_read escape_after unescape_after stream_bytes payload forbidden next_start units_within units profile_tier_level vps_front vps_back sps_formats sps_front size_fields sps_back pps_fields param_units read_size read_params coding_order neighbours is_filtered references angle inverse_angle predict coded_picture stored_picture crop block_of rebuild scan scan_kind last_context sub_block_context sig_context greater1_context greater2_context cbf in_coding_order in_rows residual_items residual_read contexts_at cut_after substreams slice_row_read row_of_bytes rows_read head_front head_middle head_bits read_offsets read_head slice_piece picture_units picture_piece pieces_after pieces stream_of split_context skip_context candidates_at coding_unit_items ctu_items source_of items_of_row coding_unit_read ctu_read vector_before merge predictors has_source moved_samples
entry_point_missing = refl

entry_point_too_many : decode (vps ++ sps_8x8 ++ pps ++ 0x00 ∷ 0x00 ∷ 0x00 ∷ 0x01 ∷ 0x28 ∷ 0x01 ∷ 0xAE ∷ 0x81 ∷ 0x00 ∷ 0x00 ∷ 0x03 ∷ 0x00 ∷ 0x00 ∷ 0x04 ∷ 0x15 ∷ 0x1D ∷ 0xC0 ∷ []) ≡ Err 3
unfolding digits_up_to u ue value_after bytes read_u read_ue_after read_alignment intra_cost pcm_cost is_copy modes_of leaf_plan choice closing put_bin code contexts_after start lps_range next row_start slice_step step read_units start_codes decode engine_start doublings renormalised context_read bypass_read terminate_read aligned samples is_done fields_bits read_fields candidates mode_items mode_read escape_after unescape_after stream_bytes payload forbidden next_start units_within units profile_tier_level vps_front vps_back sps_formats sps_front size_fields sps_back pps_fields param_units read_size read_params coding_order neighbours is_filtered references angle inverse_angle predict coded_picture stored_picture crop block_of rebuild scan scan_kind last_context sub_block_context sig_context greater1_context greater2_context cbf in_coding_order in_rows residual_items residual_read contexts_at cut_after substreams slice_row_read row_of_bytes rows_read head_front head_middle head_bits read_offsets read_head slice_piece picture_units picture_piece pieces_after pieces stream_of split_context skip_context candidates_at coding_unit_items ctu_items source_of items_of_row coding_unit_read ctu_read vector_before merge predictors has_source moved_samples
entry_point_too_many = refl

-- the first of two rows says that the slice ends
slice_ends_at_the_first_row : decode (vps ++ sps_8x40 ++ pps ++ 0x00 ∷ 0x00 ∷ 0x00 ∷ 0x01 ∷ 0x28 ∷ 0x01 ∷ 0xAE ∷ 0x81 ∷ 0x00 ∷ 0x00 ∷ 0x03 ∷ 0x00 ∷ 0x00 ∷ 0x34 ∷ 0x14 ∷ 0xD0 ∷ 0x20 ∷ 0x4C ∷ 0x06 ∷ 0xB4 ∷ 0x45 ∷ []) ≡ Err 3
unfolding digits_up_to u ue value_after bytes read_u read_ue_after read_alignment intra_cost pcm_cost is_copy modes_of leaf_plan choice closing put_bin code contexts_after start lps_range next row_start slice_step step read_units start_codes decode engine_start doublings renormalised context_read bypass_read terminate_read aligned samples is_done fields_bits read_fields candidates mode_items mode_read escape_after unescape_after stream_bytes payload forbidden next_start units_within units profile_tier_level vps_front vps_back sps_formats sps_front size_fields sps_back pps_fields param_units read_size read_params coding_order neighbours is_filtered references angle inverse_angle predict coded_picture stored_picture crop block_of rebuild scan scan_kind last_context sub_block_context sig_context greater1_context greater2_context cbf in_coding_order in_rows residual_items residual_read contexts_at cut_after substreams slice_row_read row_of_bytes rows_read head_front head_middle head_bits read_offsets read_head slice_piece picture_units picture_piece pieces_after pieces stream_of split_context skip_context candidates_at coding_unit_items ctu_items source_of items_of_row coding_unit_read ctu_read vector_before merge predictors has_source moved_samples
slice_ends_at_the_first_row = refl

-- levels past 255
level_256 : decode (vps ++ sps_8x8 ++ pps ++ 0x00 ∷ 0x00 ∷ 0x00 ∷ 0x01 ∷ 0x28 ∷ 0x01 ∷ 0xAF ∷ 0x80 ∷ 0x14 ∷ 0xAE ∷ 0x83 ∷ 0xCF ∷ 0x03 ∷ 0xC0 ∷ []) ≡ Err 3
unfolding digits_up_to u ue value_after bytes read_u read_ue_after read_alignment intra_cost pcm_cost is_copy modes_of leaf_plan choice closing put_bin code contexts_after start lps_range next row_start slice_step step read_units start_codes decode engine_start doublings renormalised context_read bypass_read terminate_read aligned samples is_done fields_bits read_fields candidates mode_items mode_read escape_after unescape_after stream_bytes payload forbidden next_start units_within units profile_tier_level vps_front vps_back sps_formats sps_front size_fields sps_back pps_fields param_units read_size read_params coding_order neighbours is_filtered references angle inverse_angle predict coded_picture stored_picture crop block_of rebuild scan scan_kind last_context sub_block_context sig_context greater1_context greater2_context cbf in_coding_order in_rows residual_items residual_read contexts_at cut_after substreams slice_row_read row_of_bytes rows_read head_front head_middle head_bits read_offsets read_head slice_piece picture_units picture_piece pieces_after pieces stream_of split_context skip_context candidates_at coding_unit_items ctu_items source_of items_of_row coding_unit_read ctu_read vector_before merge predictors has_source moved_samples
level_256 = refl

level_minus_256 : decode (vps ++ sps_8x8 ++ pps ++ 0x00 ∷ 0x00 ∷ 0x00 ∷ 0x01 ∷ 0x28 ∷ 0x01 ∷ 0xAF ∷ 0x80 ∷ 0x14 ∷ 0xAF ∷ 0xFF ∷ 0xCF ∷ 0x03 ∷ 0xC0 ∷ []) ≡ Err 3
unfolding digits_up_to u ue value_after bytes read_u read_ue_after read_alignment intra_cost pcm_cost is_copy modes_of leaf_plan choice closing put_bin code contexts_after start lps_range next row_start slice_step step read_units start_codes decode engine_start doublings renormalised context_read bypass_read terminate_read aligned samples is_done fields_bits read_fields candidates mode_items mode_read escape_after unescape_after stream_bytes payload forbidden next_start units_within units profile_tier_level vps_front vps_back sps_formats sps_front size_fields sps_back pps_fields param_units read_size read_params coding_order neighbours is_filtered references angle inverse_angle predict coded_picture stored_picture crop block_of rebuild scan scan_kind last_context sub_block_context sig_context greater1_context greater2_context cbf in_coding_order in_rows residual_items residual_read contexts_at cut_after substreams slice_row_read row_of_bytes rows_read head_front head_middle head_bits read_offsets read_head slice_piece picture_units picture_piece pieces_after pieces stream_of split_context skip_context candidates_at coding_unit_items ctu_items source_of items_of_row coding_unit_read ctu_read vector_before merge predictors has_source moved_samples
level_minus_256 = refl

-- a level of 255 is read
level_255 : is_ok (decode (vps ++ sps_8x8 ++ pps ++ 0x00 ∷ 0x00 ∷ 0x00 ∷ 0x01 ∷ 0x28 ∷ 0x01 ∷ 0xAF ∷ 0x80 ∷ 0x14 ∷ 0xAE ∷ 0x83 ∷ 0xCE ∷ 0xA4 ∷ 0xC0 ∷ [])) ≡ true
unfolding digits_up_to u ue value_after bytes read_u read_ue_after read_alignment intra_cost pcm_cost is_copy modes_of leaf_plan choice closing put_bin code contexts_after start lps_range next row_start slice_step step read_units start_codes decode engine_start doublings renormalised context_read bypass_read terminate_read aligned samples is_done fields_bits read_fields candidates mode_items mode_read escape_after unescape_after stream_bytes payload forbidden next_start units_within units profile_tier_level vps_front vps_back sps_formats sps_front size_fields sps_back pps_fields param_units read_size read_params coding_order neighbours is_filtered references angle inverse_angle predict coded_picture stored_picture crop block_of rebuild scan scan_kind last_context sub_block_context sig_context greater1_context greater2_context cbf in_coding_order in_rows residual_items residual_read contexts_at cut_after substreams slice_row_read row_of_bytes rows_read head_front head_middle head_bits read_offsets read_head slice_piece picture_units picture_piece pieces_after pieces stream_of split_context skip_context candidates_at coding_unit_items ctu_items source_of items_of_row coding_unit_read ctu_read vector_before merge predictors has_source moved_samples
level_255 = refl

-- and so is the picture of which most of these are made
grey_is_read : is_ok (decode (vps ++ sps_8x8 ++ pps ++ grey)) ≡ true
unfolding digits_up_to u ue value_after bytes read_u read_ue_after read_alignment intra_cost pcm_cost is_copy modes_of leaf_plan choice closing put_bin code contexts_after start lps_range next row_start slice_step step read_units start_codes decode engine_start doublings renormalised context_read bypass_read terminate_read aligned samples is_done fields_bits read_fields candidates mode_items mode_read escape_after unescape_after stream_bytes payload forbidden next_start units_within units profile_tier_level vps_front vps_back sps_formats sps_front size_fields sps_back pps_fields param_units read_size read_params coding_order neighbours is_filtered references angle inverse_angle predict coded_picture stored_picture crop block_of rebuild scan scan_kind last_context sub_block_context sig_context greater1_context greater2_context cbf in_coding_order in_rows residual_items residual_read contexts_at cut_after substreams slice_row_read row_of_bytes rows_read head_front head_middle head_bits read_offsets read_head slice_piece picture_units picture_piece pieces_after pieces stream_of split_context skip_context candidates_at coding_unit_items ctu_items source_of items_of_row coding_unit_read ctu_read vector_before merge predictors has_source moved_samples
grey_is_read = refl
