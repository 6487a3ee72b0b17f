-- Streams of small pictures with hashes, segments and moves, computed.
use Rattle.std.specs.Prelude.{◌≡◌, ℕ, [], ◌∷◌, replicate, drop, Ok, refl}
use Rattle.h265_model.specs.declared.rgb.Rgb.{Rgb}
use Rattle.h265_model.specs.declared.extra.Extra.TheVariants.{Plain, Hash, Segments, Moves}
use Rattle.h265_model.specs.Plain.{Size}
use Rattle.h265_model.specs.Raster.{Raster}
use Rattle.h265_model.specs.Settings.{Settings}
use Rattle.h265_model.specs.Bits.{digits_up_to, u, ue, value_after, bytes, read_u, read_ue_after, read_alignment}
use Rattle.h265_model.specs.Choice.{intra_cost, pcm_cost, is_copy, modes_of, leaf_plan, choice}
use Rattle.h265_model.specs.Code.{closing, put_bin, code, contexts_after}
use Rattle.h265_model.specs.Contexts.{start, lps_range, next, row_start}
use Rattle.h265_model.specs.Decode.{start_codes}
use Rattle.h265_model.specs.Decode.{slice_step, segment_step, hash_step, step, read_units, decode}
use Rattle.h265_model.specs.Engine.{start as engine_start, doublings, renormalised, context_read, bypass_read, terminate_read, aligned, samples, is_done}
use Rattle.h265_model.specs.Stream.{moved_units, segment_piece, picture_piece, pieces_after, pieces, stream_of, picture_units}
use Rattle.h265_model.specs.Fields.{fields_bits, read_fields}
use Rattle.h265_model.specs.Hash.{hash_of_planes}
use Rattle.h265_model.specs.Modes.{candidates, mode_items, mode_read}
use Rattle.h265_model.specs.Motion.{vector_before, merge, predictors, has_source, difference_items, second_is_nearer, move_items, difference_read, whole_part, vector_read}
use Rattle.h265_model.specs.MotionChoice.{tried_vectors, is_copy_by, unit_plan, moved_choice, moved_choices}
use Rattle.h265_model.specs.Rebuild.{moved_samples, block_of, rebuild}
use Rattle.h265_model.specs.Slice.{slice_row_read, segment_row_read, row_of_bytes, rows_read}
use Rattle.h265_model.specs.Tree.{coding_unit_read, ctu_read}
use Rattle.h265_model.specs.NalUnits.{escape_after, unescape_after, stream_bytes, payload, forbidden, next_start, units_within, units}
use Rattle.h265_model.specs.ParamSets.{profile_tier_level, vps_front, vps_back, sps_formats, sps_front, size_fields, sps_back, pps_fields, param_units, read_size, read_params}
use Rattle.h265_model.specs.Predict.{coding_order, neighbours, is_filtered, references, angle, inverse_angle, predict}
use Rattle.h265_model.specs.Raster.{coded_picture, stored_picture, crop}
use Rattle.h265_model.specs.Residual.{scan, scan_kind, last_context, sub_block_context, sig_context, greater1_context, greater2_context, cbf, in_coding_order, in_rows, residual_items, residual_read}
use Rattle.h265_model.specs.Slice.{contexts_at, cut_after, substreams}
use Rattle.h265_model.specs.SliceHead.{head_front, head_middle, head_bits, dependent_fields, segment_bits, read_offsets, read_head, read_segment_head}
use Rattle.h265_model.specs.Stream.{slice_piece, picture_piece, picture_units}
use Rattle.h265_model.specs.Tree.{split_context, skip_context, candidates_at, coding_unit_items, ctu_items, source_of, items_of_row}
use Rattle.h265_model.specs.Tree.{moved_unit, move_unit, items_of_segment}
use Rattle.md5.specs.Md5.{block_words, rounds, compress, hash_after, digest_bytes, md5}
use Rattle.h265_model.specs.declared.extra.Extra.{Extra}

abbrev size_of : ℕ → ℕ → Size
size_of w h = record { w = w; h = h }

abbrev settings_of : ℕ → ℕ → ℕ → ℕ → Extra → Settings
settings_of w h effort key extra = record { size = size_of w h; effort = effort; key = key; extra = extra }

abbrev rgb : ℕ → ℕ → ℕ → Rgb
rgb r g b = record { r = r; g = g; b = b }

abbrev grey : ℕ → Raster
grey n = replicate n (rgb 128 128 128)

sets_8x8 : stream_of (settings_of 8 8 1 0 Plain) [] ≡ 0x00 ∷ 0x00 ∷ 0x00 ∷ 0x01 ∷ 0x40 ∷ 0x01 ∷ 0x0C ∷ 0x01 ∷ 0xFF ∷ 0xFF ∷ 0x24 ∷ 0x08 ∷ 0x00 ∷ 0x00 ∷ 0x03 ∷ 0x00 ∷ 0xBE ∷ 0x08 ∷ 0x00 ∷ 0x00 ∷ 0x03 ∷ 0x00 ∷ 0x00 ∷ 0x9C ∷ 0xAC ∷ 0x09 ∷ 0x00 ∷ 0x00 ∷ 0x00 ∷ 0x01 ∷ 0x42 ∷ 0x01 ∷ 0x01 ∷ 0x24 ∷ 0x08 ∷ 0x00 ∷ 0x00 ∷ 0x03 ∷ 0x00 ∷ 0xBE ∷ 0x08 ∷ 0x00 ∷ 0x00 ∷ 0x03 ∷ 0x00 ∷ 0x00 ∷ 0x9C ∷ 0x90 ∷ 0x24 ∷ 0x4B ∷ 0x2D ∷ 0x77 ∷ 0x26 ∷ 0x2E ∷ 0xF7 ∷ 0x4B ∷ 0x89 ∷ 0xB8 ∷ 0x08 ∷ 0x68 ∷ 0x00 ∷ 0x04 ∷ 0x00 ∷ 0x00 ∷ 0x00 ∷ 0x01 ∷ 0x44 ∷ 0x01 ∷ 0xC0 ∷ 0x71 ∷ 0x8A ∷ 0xA4 ∷ 0x80 ∷ []
unfolding digits_up_to u ue value_after bytes read_u read_ue_after read_alignment intra_cost pcm_cost is_copy modes_of leaf_plan choice closing put_bin code contexts_after start lps_range next row_start start_codes slice_step segment_step hash_step step read_units decode engine_start doublings renormalised context_read bypass_read terminate_read aligned samples is_done moved_units segment_piece picture_units picture_piece pieces_after pieces stream_of fields_bits read_fields hash_of_planes candidates mode_items mode_read vector_before merge predictors has_source difference_items second_is_nearer move_items difference_read whole_part vector_read tried_vectors is_copy_by unit_plan moved_choice moved_choices moved_samples block_of rebuild slice_row_read segment_row_read row_of_bytes rows_read coding_unit_read ctu_read escape_after unescape_after stream_bytes payload forbidden next_start units_within units profile_tier_level vps_front vps_back sps_formats sps_front size_fields sps_back pps_fields param_units read_size read_params coding_order neighbours is_filtered references angle inverse_angle predict coded_picture stored_picture crop scan scan_kind last_context sub_block_context sig_context greater1_context greater2_context cbf in_coding_order in_rows residual_items residual_read contexts_at cut_after substreams head_front head_middle head_bits dependent_fields segment_bits read_offsets read_head read_segment_head slice_piece split_context skip_context candidates_at coding_unit_items ctu_items source_of items_of_row moved_unit move_unit items_of_segment block_words rounds compress hash_after digest_bytes md5
sets_8x8 = refl

no_pictures : decode (0x00 ∷ 0x00 ∷ 0x00 ∷ 0x01 ∷ 0x40 ∷ 0x01 ∷ 0x0C ∷ 0x01 ∷ 0xFF ∷ 0xFF ∷ 0x24 ∷ 0x08 ∷ 0x00 ∷ 0x00 ∷ 0x03 ∷ 0x00 ∷ 0xBE ∷ 0x08 ∷ 0x00 ∷ 0x00 ∷ 0x03 ∷ 0x00 ∷ 0x00 ∷ 0x9C ∷ 0xAC ∷ 0x09 ∷ 0x00 ∷ 0x00 ∷ 0x00 ∷ 0x01 ∷ 0x42 ∷ 0x01 ∷ 0x01 ∷ 0x24 ∷ 0x08 ∷ 0x00 ∷ 0x00 ∷ 0x03 ∷ 0x00 ∷ 0xBE ∷ 0x08 ∷ 0x00 ∷ 0x00 ∷ 0x03 ∷ 0x00 ∷ 0x00 ∷ 0x9C ∷ 0x90 ∷ 0x24 ∷ 0x4B ∷ 0x2D ∷ 0x77 ∷ 0x26 ∷ 0x2E ∷ 0xF7 ∷ 0x4B ∷ 0x89 ∷ 0xB8 ∷ 0x08 ∷ 0x68 ∷ 0x00 ∷ 0x04 ∷ 0x00 ∷ 0x00 ∷ 0x00 ∷ 0x01 ∷ 0x44 ∷ 0x01 ∷ 0xC0 ∷ 0x71 ∷ 0x8A ∷ 0xA4 ∷ 0x80 ∷ []) ≡ Ok (size_of 8 8, [])
unfolding digits_up_to u ue value_after bytes read_u read_ue_after read_alignment intra_cost pcm_cost is_copy modes_of leaf_plan choice closing put_bin code contexts_after start lps_range next row_start start_codes slice_step segment_step hash_step step read_units decode engine_start doublings renormalised context_read bypass_read terminate_read aligned samples is_done moved_units segment_piece picture_units picture_piece pieces_after pieces stream_of fields_bits read_fields hash_of_planes candidates mode_items mode_read vector_before merge predictors has_source difference_items second_is_nearer move_items difference_read whole_part vector_read tried_vectors is_copy_by unit_plan moved_choice moved_choices moved_samples block_of rebuild slice_row_read segment_row_read row_of_bytes rows_read coding_unit_read ctu_read escape_after unescape_after stream_bytes payload forbidden next_start units_within units profile_tier_level vps_front vps_back sps_formats sps_front size_fields sps_back pps_fields param_units read_size read_params coding_order neighbours is_filtered references angle inverse_angle predict coded_picture stored_picture crop scan scan_kind last_context sub_block_context sig_context greater1_context greater2_context cbf in_coding_order in_rows residual_items residual_read contexts_at cut_after substreams head_front head_middle head_bits dependent_fields segment_bits read_offsets read_head read_segment_head slice_piece split_context skip_context candidates_at coding_unit_items ctu_items source_of items_of_row moved_unit move_unit items_of_segment block_words rounds compress hash_after digest_bytes md5
no_pictures = refl

grey_plain : drop 1 (pieces (settings_of 8 8 1 0 Plain) (grey 64 ∷ grey 64 ∷ [])) ≡ (0x00 ∷ 0x00 ∷ 0x00 ∷ 0x01 ∷ 0x28 ∷ 0x01 ∷ 0xAF ∷ 0x80 ∷ 0x15 ∷ 0x1D ∷ 0xC0 ∷ []) ∷ (0x00 ∷ 0x00 ∷ 0x00 ∷ 0x01 ∷ 0x02 ∷ 0x01 ∷ 0xD0 ∷ 0x0C ∷ 0x5E ∷ 0x86 ∷ 0xE0 ∷ []) ∷ []
unfolding digits_up_to u ue value_after bytes read_u read_ue_after read_alignment intra_cost pcm_cost is_copy modes_of leaf_plan choice closing put_bin code contexts_after start lps_range next row_start start_codes slice_step segment_step hash_step step read_units decode engine_start doublings renormalised context_read bypass_read terminate_read aligned samples is_done moved_units segment_piece picture_units picture_piece pieces_after pieces stream_of fields_bits read_fields hash_of_planes candidates mode_items mode_read vector_before merge predictors has_source difference_items second_is_nearer move_items difference_read whole_part vector_read tried_vectors is_copy_by unit_plan moved_choice moved_choices moved_samples block_of rebuild slice_row_read segment_row_read row_of_bytes rows_read coding_unit_read ctu_read escape_after unescape_after stream_bytes payload forbidden next_start units_within units profile_tier_level vps_front vps_back sps_formats sps_front size_fields sps_back pps_fields param_units read_size read_params coding_order neighbours is_filtered references angle inverse_angle predict coded_picture stored_picture crop scan scan_kind last_context sub_block_context sig_context greater1_context greater2_context cbf in_coding_order in_rows residual_items residual_read contexts_at cut_after substreams head_front head_middle head_bits dependent_fields segment_bits read_offsets read_head read_segment_head slice_piece split_context skip_context candidates_at coding_unit_items ctu_items source_of items_of_row moved_unit move_unit items_of_segment block_words rounds compress hash_after digest_bytes md5
grey_plain = refl

grey_plain_back : decode (0x00 ∷ 0x00 ∷ 0x00 ∷ 0x01 ∷ 0x40 ∷ 0x01 ∷ 0x0C ∷ 0x01 ∷ 0xFF ∷ 0xFF ∷ 0x24 ∷ 0x08 ∷ 0x00 ∷ 0x00 ∷ 0x03 ∷ 0x00 ∷ 0xBE ∷ 0x08 ∷ 0x00 ∷ 0x00 ∷ 0x03 ∷ 0x00 ∷ 0x00 ∷ 0x9C ∷ 0xAC ∷ 0x09 ∷ 0x00 ∷ 0x00 ∷ 0x00 ∷ 0x01 ∷ 0x42 ∷ 0x01 ∷ 0x01 ∷ 0x24 ∷ 0x08 ∷ 0x00 ∷ 0x00 ∷ 0x03 ∷ 0x00 ∷ 0xBE ∷ 0x08 ∷ 0x00 ∷ 0x00 ∷ 0x03 ∷ 0x00 ∷ 0x00 ∷ 0x9C ∷ 0x90 ∷ 0x24 ∷ 0x4B ∷ 0x2D ∷ 0x77 ∷ 0x26 ∷ 0x2E ∷ 0xF7 ∷ 0x4B ∷ 0x89 ∷ 0xB8 ∷ 0x08 ∷ 0x68 ∷ 0x00 ∷ 0x04 ∷ 0x00 ∷ 0x00 ∷ 0x00 ∷ 0x01 ∷ 0x44 ∷ 0x01 ∷ 0xC0 ∷ 0x71 ∷ 0x8A ∷ 0xA4 ∷ 0x80 ∷ 0x00 ∷ 0x00 ∷ 0x00 ∷ 0x01 ∷ 0x28 ∷ 0x01 ∷ 0xAF ∷ 0x80 ∷ 0x15 ∷ 0x1D ∷ 0xC0 ∷ 0x00 ∷ 0x00 ∷ 0x00 ∷ 0x01 ∷ 0x02 ∷ 0x01 ∷ 0xD0 ∷ 0x0C ∷ 0x5E ∷ 0x86 ∷ 0xE0 ∷ []) ≡ Ok (size_of 8 8, grey 64 ∷ grey 64 ∷ [])
unfolding digits_up_to u ue value_after bytes read_u read_ue_after read_alignment intra_cost pcm_cost is_copy modes_of leaf_plan choice closing put_bin code contexts_after start lps_range next row_start start_codes slice_step segment_step hash_step step read_units decode engine_start doublings renormalised context_read bypass_read terminate_read aligned samples is_done moved_units segment_piece picture_units picture_piece pieces_after pieces stream_of fields_bits read_fields hash_of_planes candidates mode_items mode_read vector_before merge predictors has_source difference_items second_is_nearer move_items difference_read whole_part vector_read tried_vectors is_copy_by unit_plan moved_choice moved_choices moved_samples block_of rebuild slice_row_read segment_row_read row_of_bytes rows_read coding_unit_read ctu_read escape_after unescape_after stream_bytes payload forbidden next_start units_within units profile_tier_level vps_front vps_back sps_formats sps_front size_fields sps_back pps_fields param_units read_size read_params coding_order neighbours is_filtered references angle inverse_angle predict coded_picture stored_picture crop scan scan_kind last_context sub_block_context sig_context greater1_context greater2_context cbf in_coding_order in_rows residual_items residual_read contexts_at cut_after substreams head_front head_middle head_bits dependent_fields segment_bits read_offsets read_head read_segment_head slice_piece split_context skip_context candidates_at coding_unit_items ctu_items source_of items_of_row moved_unit move_unit items_of_segment block_words rounds compress hash_after digest_bytes md5
grey_plain_back = refl

grey_hash : drop 1 (pieces (settings_of 8 8 1 0 Hash) (grey 64 ∷ grey 64 ∷ [])) ≡ (0x00 ∷ 0x00 ∷ 0x00 ∷ 0x01 ∷ 0x28 ∷ 0x01 ∷ 0xAF ∷ 0x80 ∷ 0x15 ∷ 0x1D ∷ 0xC0 ∷ 0x00 ∷ 0x00 ∷ 0x00 ∷ 0x01 ∷ 0x50 ∷ 0x01 ∷ 0x84 ∷ 0x31 ∷ 0x00 ∷ 0xC0 ∷ 0xCE ∷ 0x47 ∷ 0xF8 ∷ 0x89 ∷ 0x33 ∷ 0x63 ∷ 0x46 ∷ 0x97 ∷ 0xE2 ∷ 0xBD ∷ 0xA7 ∷ 0x1B ∷ 0x06 ∷ 0xAA ∷ 0xAA ∷ 0xC0 ∷ 0xCE ∷ 0x47 ∷ 0xF8 ∷ 0x89 ∷ 0x33 ∷ 0x63 ∷ 0x46 ∷ 0x97 ∷ 0xE2 ∷ 0xBD ∷ 0xA7 ∷ 0x1B ∷ 0x06 ∷ 0xAA ∷ 0xAA ∷ 0xC0 ∷ 0xCE ∷ 0x47 ∷ 0xF8 ∷ 0x89 ∷ 0x33 ∷ 0x63 ∷ 0x46 ∷ 0x97 ∷ 0xE2 ∷ 0xBD ∷ 0xA7 ∷ 0x1B ∷ 0x06 ∷ 0xAA ∷ 0xAA ∷ 0x80 ∷ []) ∷ (0x00 ∷ 0x00 ∷ 0x00 ∷ 0x01 ∷ 0x02 ∷ 0x01 ∷ 0xD0 ∷ 0x0C ∷ 0x5E ∷ 0x86 ∷ 0xE0 ∷ 0x00 ∷ 0x00 ∷ 0x00 ∷ 0x01 ∷ 0x50 ∷ 0x01 ∷ 0x84 ∷ 0x31 ∷ 0x00 ∷ 0xC0 ∷ 0xCE ∷ 0x47 ∷ 0xF8 ∷ 0x89 ∷ 0x33 ∷ 0x63 ∷ 0x46 ∷ 0x97 ∷ 0xE2 ∷ 0xBD ∷ 0xA7 ∷ 0x1B ∷ 0x06 ∷ 0xAA ∷ 0xAA ∷ 0xC0 ∷ 0xCE ∷ 0x47 ∷ 0xF8 ∷ 0x89 ∷ 0x33 ∷ 0x63 ∷ 0x46 ∷ 0x97 ∷ 0xE2 ∷ 0xBD ∷ 0xA7 ∷ 0x1B ∷ 0x06 ∷ 0xAA ∷ 0xAA ∷ 0xC0 ∷ 0xCE ∷ 0x47 ∷ 0xF8 ∷ 0x89 ∷ 0x33 ∷ 0x63 ∷ 0x46 ∷ 0x97 ∷ 0xE2 ∷ 0xBD ∷ 0xA7 ∷ 0x1B ∷ 0x06 ∷ 0xAA ∷ 0xAA ∷ 0x80 ∷ []) ∷ []
unfolding digits_up_to u ue value_after bytes read_u read_ue_after read_alignment intra_cost pcm_cost is_copy modes_of leaf_plan choice closing put_bin code contexts_after start lps_range next row_start start_codes slice_step segment_step hash_step step read_units decode engine_start doublings renormalised context_read bypass_read terminate_read aligned samples is_done moved_units segment_piece picture_units picture_piece pieces_after pieces stream_of fields_bits read_fields hash_of_planes candidates mode_items mode_read vector_before merge predictors has_source difference_items second_is_nearer move_items difference_read whole_part vector_read tried_vectors is_copy_by unit_plan moved_choice moved_choices moved_samples block_of rebuild slice_row_read segment_row_read row_of_bytes rows_read coding_unit_read ctu_read escape_after unescape_after stream_bytes payload forbidden next_start units_within units profile_tier_level vps_front vps_back sps_formats sps_front size_fields sps_back pps_fields param_units read_size read_params coding_order neighbours is_filtered references angle inverse_angle predict coded_picture stored_picture crop scan scan_kind last_context sub_block_context sig_context greater1_context greater2_context cbf in_coding_order in_rows residual_items residual_read contexts_at cut_after substreams head_front head_middle head_bits dependent_fields segment_bits read_offsets read_head read_segment_head slice_piece split_context skip_context candidates_at coding_unit_items ctu_items source_of items_of_row moved_unit move_unit items_of_segment block_words rounds compress hash_after digest_bytes md5
grey_hash = refl

grey_hash_back : decode (0x00 ∷ 0x00 ∷ 0x00 ∷ 0x01 ∷ 0x40 ∷ 0x01 ∷ 0x0C ∷ 0x01 ∷ 0xFF ∷ 0xFF ∷ 0x24 ∷ 0x08 ∷ 0x00 ∷ 0x00 ∷ 0x03 ∷ 0x00 ∷ 0xBE ∷ 0x08 ∷ 0x00 ∷ 0x00 ∷ 0x03 ∷ 0x00 ∷ 0x00 ∷ 0x9C ∷ 0xAC ∷ 0x09 ∷ 0x00 ∷ 0x00 ∷ 0x00 ∷ 0x01 ∷ 0x42 ∷ 0x01 ∷ 0x01 ∷ 0x24 ∷ 0x08 ∷ 0x00 ∷ 0x00 ∷ 0x03 ∷ 0x00 ∷ 0xBE ∷ 0x08 ∷ 0x00 ∷ 0x00 ∷ 0x03 ∷ 0x00 ∷ 0x00 ∷ 0x9C ∷ 0x90 ∷ 0x24 ∷ 0x4B ∷ 0x2D ∷ 0x77 ∷ 0x26 ∷ 0x2E ∷ 0xF7 ∷ 0x4B ∷ 0x89 ∷ 0xB8 ∷ 0x08 ∷ 0x68 ∷ 0x00 ∷ 0x04 ∷ 0x00 ∷ 0x00 ∷ 0x00 ∷ 0x01 ∷ 0x44 ∷ 0x01 ∷ 0xC0 ∷ 0x71 ∷ 0x8A ∷ 0xA4 ∷ 0x80 ∷ 0x00 ∷ 0x00 ∷ 0x00 ∷ 0x01 ∷ 0x28 ∷ 0x01 ∷ 0xAF ∷ 0x80 ∷ 0x15 ∷ 0x1D ∷ 0xC0 ∷ 0x00 ∷ 0x00 ∷ 0x00 ∷ 0x01 ∷ 0x50 ∷ 0x01 ∷ 0x84 ∷ 0x31 ∷ 0x00 ∷ 0xC0 ∷ 0xCE ∷ 0x47 ∷ 0xF8 ∷ 0x89 ∷ 0x33 ∷ 0x63 ∷ 0x46 ∷ 0x97 ∷ 0xE2 ∷ 0xBD ∷ 0xA7 ∷ 0x1B ∷ 0x06 ∷ 0xAA ∷ 0xAA ∷ 0xC0 ∷ 0xCE ∷ 0x47 ∷ 0xF8 ∷ 0x89 ∷ 0x33 ∷ 0x63 ∷ 0x46 ∷ 0x97 ∷ 0xE2 ∷ 0xBD ∷ 0xA7 ∷ 0x1B ∷ 0x06 ∷ 0xAA ∷ 0xAA ∷ 0xC0 ∷ 0xCE ∷ 0x47 ∷ 0xF8 ∷ 0x89 ∷ 0x33 ∷ 0x63 ∷ 0x46 ∷ 0x97 ∷ 0xE2 ∷ 0xBD ∷ 0xA7 ∷ 0x1B ∷ 0x06 ∷ 0xAA ∷ 0xAA ∷ 0x80 ∷ 0x00 ∷ 0x00 ∷ 0x00 ∷ 0x01 ∷ 0x02 ∷ 0x01 ∷ 0xD0 ∷ 0x0C ∷ 0x5E ∷ 0x86 ∷ 0xE0 ∷ 0x00 ∷ 0x00 ∷ 0x00 ∷ 0x01 ∷ 0x50 ∷ 0x01 ∷ 0x84 ∷ 0x31 ∷ 0x00 ∷ 0xC0 ∷ 0xCE ∷ 0x47 ∷ 0xF8 ∷ 0x89 ∷ 0x33 ∷ 0x63 ∷ 0x46 ∷ 0x97 ∷ 0xE2 ∷ 0xBD ∷ 0xA7 ∷ 0x1B ∷ 0x06 ∷ 0xAA ∷ 0xAA ∷ 0xC0 ∷ 0xCE ∷ 0x47 ∷ 0xF8 ∷ 0x89 ∷ 0x33 ∷ 0x63 ∷ 0x46 ∷ 0x97 ∷ 0xE2 ∷ 0xBD ∷ 0xA7 ∷ 0x1B ∷ 0x06 ∷ 0xAA ∷ 0xAA ∷ 0xC0 ∷ 0xCE ∷ 0x47 ∷ 0xF8 ∷ 0x89 ∷ 0x33 ∷ 0x63 ∷ 0x46 ∷ 0x97 ∷ 0xE2 ∷ 0xBD ∷ 0xA7 ∷ 0x1B ∷ 0x06 ∷ 0xAA ∷ 0xAA ∷ 0x80 ∷ []) ≡ Ok (size_of 8 8, grey 64 ∷ grey 64 ∷ [])
unfolding digits_up_to u ue value_after bytes read_u read_ue_after read_alignment intra_cost pcm_cost is_copy modes_of leaf_plan choice closing put_bin code contexts_after start lps_range next row_start start_codes slice_step segment_step hash_step step read_units decode engine_start doublings renormalised context_read bypass_read terminate_read aligned samples is_done moved_units segment_piece picture_units picture_piece pieces_after pieces stream_of fields_bits read_fields hash_of_planes candidates mode_items mode_read vector_before merge predictors has_source difference_items second_is_nearer move_items difference_read whole_part vector_read tried_vectors is_copy_by unit_plan moved_choice moved_choices moved_samples block_of rebuild slice_row_read segment_row_read row_of_bytes rows_read coding_unit_read ctu_read escape_after unescape_after stream_bytes payload forbidden next_start units_within units profile_tier_level vps_front vps_back sps_formats sps_front size_fields sps_back pps_fields param_units read_size read_params coding_order neighbours is_filtered references angle inverse_angle predict coded_picture stored_picture crop scan scan_kind last_context sub_block_context sig_context greater1_context greater2_context cbf in_coding_order in_rows residual_items residual_read contexts_at cut_after substreams head_front head_middle head_bits dependent_fields segment_bits read_offsets read_head read_segment_head slice_piece split_context skip_context candidates_at coding_unit_items ctu_items source_of items_of_row moved_unit move_unit items_of_segment block_words rounds compress hash_after digest_bytes md5
grey_hash_back = refl

grey_moves : drop 1 (pieces (settings_of 8 8 1 0 Moves) (grey 64 ∷ grey 64 ∷ [])) ≡ (0x00 ∷ 0x00 ∷ 0x00 ∷ 0x01 ∷ 0x28 ∷ 0x01 ∷ 0xAF ∷ 0x80 ∷ 0x15 ∷ 0x1D ∷ 0xC0 ∷ []) ∷ (0x00 ∷ 0x00 ∷ 0x00 ∷ 0x01 ∷ 0x02 ∷ 0x01 ∷ 0xD0 ∷ 0x0C ∷ 0x5E ∷ 0x86 ∷ 0xE0 ∷ []) ∷ []
unfolding digits_up_to u ue value_after bytes read_u read_ue_after read_alignment intra_cost pcm_cost is_copy modes_of leaf_plan choice closing put_bin code contexts_after start lps_range next row_start start_codes slice_step segment_step hash_step step read_units decode engine_start doublings renormalised context_read bypass_read terminate_read aligned samples is_done moved_units segment_piece picture_units picture_piece pieces_after pieces stream_of fields_bits read_fields hash_of_planes candidates mode_items mode_read vector_before merge predictors has_source difference_items second_is_nearer move_items difference_read whole_part vector_read tried_vectors is_copy_by unit_plan moved_choice moved_choices moved_samples block_of rebuild slice_row_read segment_row_read row_of_bytes rows_read coding_unit_read ctu_read escape_after unescape_after stream_bytes payload forbidden next_start units_within units profile_tier_level vps_front vps_back sps_formats sps_front size_fields sps_back pps_fields param_units read_size read_params coding_order neighbours is_filtered references angle inverse_angle predict coded_picture stored_picture crop scan scan_kind last_context sub_block_context sig_context greater1_context greater2_context cbf in_coding_order in_rows residual_items residual_read contexts_at cut_after substreams head_front head_middle head_bits dependent_fields segment_bits read_offsets read_head read_segment_head slice_piece split_context skip_context candidates_at coding_unit_items ctu_items source_of items_of_row moved_unit move_unit items_of_segment block_words rounds compress hash_after digest_bytes md5
grey_moves = refl

grey_moves_back : decode (0x00 ∷ 0x00 ∷ 0x00 ∷ 0x01 ∷ 0x40 ∷ 0x01 ∷ 0x0C ∷ 0x01 ∷ 0xFF ∷ 0xFF ∷ 0x24 ∷ 0x08 ∷ 0x00 ∷ 0x00 ∷ 0x03 ∷ 0x00 ∷ 0xBE ∷ 0x08 ∷ 0x00 ∷ 0x00 ∷ 0x03 ∷ 0x00 ∷ 0x00 ∷ 0x9C ∷ 0xAC ∷ 0x09 ∷ 0x00 ∷ 0x00 ∷ 0x00 ∷ 0x01 ∷ 0x42 ∷ 0x01 ∷ 0x01 ∷ 0x24 ∷ 0x08 ∷ 0x00 ∷ 0x00 ∷ 0x03 ∷ 0x00 ∷ 0xBE ∷ 0x08 ∷ 0x00 ∷ 0x00 ∷ 0x03 ∷ 0x00 ∷ 0x00 ∷ 0x9C ∷ 0x90 ∷ 0x24 ∷ 0x4B ∷ 0x2D ∷ 0x77 ∷ 0x26 ∷ 0x2E ∷ 0xF7 ∷ 0x4B ∷ 0x89 ∷ 0xB8 ∷ 0x08 ∷ 0x68 ∷ 0x00 ∷ 0x04 ∷ 0x00 ∷ 0x00 ∷ 0x00 ∷ 0x01 ∷ 0x44 ∷ 0x01 ∷ 0xC0 ∷ 0x71 ∷ 0x8A ∷ 0xA4 ∷ 0x80 ∷ 0x00 ∷ 0x00 ∷ 0x00 ∷ 0x01 ∷ 0x28 ∷ 0x01 ∷ 0xAF ∷ 0x80 ∷ 0x15 ∷ 0x1D ∷ 0xC0 ∷ 0x00 ∷ 0x00 ∷ 0x00 ∷ 0x01 ∷ 0x02 ∷ 0x01 ∷ 0xD0 ∷ 0x0C ∷ 0x5E ∷ 0x86 ∷ 0xE0 ∷ []) ≡ Ok (size_of 8 8, grey 64 ∷ grey 64 ∷ [])
unfolding digits_up_to u ue value_after bytes read_u read_ue_after read_alignment intra_cost pcm_cost is_copy modes_of leaf_plan choice closing put_bin code contexts_after start lps_range next row_start start_codes slice_step segment_step hash_step step read_units decode engine_start doublings renormalised context_read bypass_read terminate_read aligned samples is_done moved_units segment_piece picture_units picture_piece pieces_after pieces stream_of fields_bits read_fields hash_of_planes candidates mode_items mode_read vector_before merge predictors has_source difference_items second_is_nearer move_items difference_read whole_part vector_read tried_vectors is_copy_by unit_plan moved_choice moved_choices moved_samples block_of rebuild slice_row_read segment_row_read row_of_bytes rows_read coding_unit_read ctu_read escape_after unescape_after stream_bytes payload forbidden next_start units_within units profile_tier_level vps_front vps_back sps_formats sps_front size_fields sps_back pps_fields param_units read_size read_params coding_order neighbours is_filtered references angle inverse_angle predict coded_picture stored_picture crop scan scan_kind last_context sub_block_context sig_context greater1_context greater2_context cbf in_coding_order in_rows residual_items residual_read contexts_at cut_after substreams head_front head_middle head_bits dependent_fields segment_bits read_offsets read_head read_segment_head slice_piece split_context skip_context candidates_at coding_unit_items ctu_items source_of items_of_row moved_unit move_unit items_of_segment block_words rounds compress hash_after digest_bytes md5
grey_moves_back = refl

grey_segments : stream_of (settings_of 40 8 1 0 Segments) (grey 320 ∷ grey 320 ∷ []) ≡ 0x00 ∷ 0x00 ∷ 0x00 ∷ 0x01 ∷ 0x40 ∷ 0x01 ∷ 0x0C ∷ 0x01 ∷ 0xFF ∷ 0xFF ∷ 0x24 ∷ 0x08 ∷ 0x00 ∷ 0x00 ∷ 0x03 ∷ 0x00 ∷ 0xBE ∷ 0x08 ∷ 0x00 ∷ 0x00 ∷ 0x03 ∷ 0x00 ∷ 0x00 ∷ 0x9C ∷ 0xAC ∷ 0x09 ∷ 0x00 ∷ 0x00 ∷ 0x00 ∷ 0x01 ∷ 0x42 ∷ 0x01 ∷ 0x01 ∷ 0x24 ∷ 0x08 ∷ 0x00 ∷ 0x00 ∷ 0x03 ∷ 0x00 ∷ 0xBE ∷ 0x08 ∷ 0x00 ∷ 0x00 ∷ 0x03 ∷ 0x00 ∷ 0x00 ∷ 0x9C ∷ 0x90 ∷ 0x0A ∷ 0x44 ∷ 0xB2 ∷ 0xD7 ∷ 0x72 ∷ 0x62 ∷ 0xEF ∷ 0x74 ∷ 0xB8 ∷ 0x9B ∷ 0x80 ∷ 0x86 ∷ 0x80 ∷ 0x00 ∷ 0x40 ∷ 0x00 ∷ 0x00 ∷ 0x00 ∷ 0x01 ∷ 0x44 ∷ 0x01 ∷ 0xE0 ∷ 0x71 ∷ 0x8A ∷ 0xA4 ∷ 0x80 ∷ 0x00 ∷ 0x00 ∷ 0x00 ∷ 0x01 ∷ 0x28 ∷ 0x01 ∷ 0xAF ∷ 0x80 ∷ 0x14 ∷ 0xB8 ∷ 0xAA ∷ 0xD6 ∷ 0x64 ∷ 0x6B ∷ 0xC0 ∷ 0x00 ∷ 0x00 ∷ 0x00 ∷ 0x01 ∷ 0x02 ∷ 0x01 ∷ 0xD0 ∷ 0x0C ∷ 0x5E ∷ 0x66 ∷ 0x9B ∷ 0x80 ∷ []
unfolding digits_up_to u ue value_after bytes read_u read_ue_after read_alignment intra_cost pcm_cost is_copy modes_of leaf_plan choice closing put_bin code contexts_after start lps_range next row_start start_codes slice_step segment_step hash_step step read_units decode engine_start doublings renormalised context_read bypass_read terminate_read aligned samples is_done moved_units segment_piece picture_units picture_piece pieces_after pieces stream_of fields_bits read_fields hash_of_planes candidates mode_items mode_read vector_before merge predictors has_source difference_items second_is_nearer move_items difference_read whole_part vector_read tried_vectors is_copy_by unit_plan moved_choice moved_choices moved_samples block_of rebuild slice_row_read segment_row_read row_of_bytes rows_read coding_unit_read ctu_read escape_after unescape_after stream_bytes payload forbidden next_start units_within units profile_tier_level vps_front vps_back sps_formats sps_front size_fields sps_back pps_fields param_units read_size read_params coding_order neighbours is_filtered references angle inverse_angle predict coded_picture stored_picture crop scan scan_kind last_context sub_block_context sig_context greater1_context greater2_context cbf in_coding_order in_rows residual_items residual_read contexts_at cut_after substreams head_front head_middle head_bits dependent_fields segment_bits read_offsets read_head read_segment_head slice_piece split_context skip_context candidates_at coding_unit_items ctu_items source_of items_of_row moved_unit move_unit items_of_segment block_words rounds compress hash_after digest_bytes md5
grey_segments = refl

grey_segments_back : decode (0x00 ∷ 0x00 ∷ 0x00 ∷ 0x01 ∷ 0x40 ∷ 0x01 ∷ 0x0C ∷ 0x01 ∷ 0xFF ∷ 0xFF ∷ 0x24 ∷ 0x08 ∷ 0x00 ∷ 0x00 ∷ 0x03 ∷ 0x00 ∷ 0xBE ∷ 0x08 ∷ 0x00 ∷ 0x00 ∷ 0x03 ∷ 0x00 ∷ 0x00 ∷ 0x9C ∷ 0xAC ∷ 0x09 ∷ 0x00 ∷ 0x00 ∷ 0x00 ∷ 0x01 ∷ 0x42 ∷ 0x01 ∷ 0x01 ∷ 0x24 ∷ 0x08 ∷ 0x00 ∷ 0x00 ∷ 0x03 ∷ 0x00 ∷ 0xBE ∷ 0x08 ∷ 0x00 ∷ 0x00 ∷ 0x03 ∷ 0x00 ∷ 0x00 ∷ 0x9C ∷ 0x90 ∷ 0x0A ∷ 0x44 ∷ 0xB2 ∷ 0xD7 ∷ 0x72 ∷ 0x62 ∷ 0xEF ∷ 0x74 ∷ 0xB8 ∷ 0x9B ∷ 0x80 ∷ 0x86 ∷ 0x80 ∷ 0x00 ∷ 0x40 ∷ 0x00 ∷ 0x00 ∷ 0x00 ∷ 0x01 ∷ 0x44 ∷ 0x01 ∷ 0xE0 ∷ 0x71 ∷ 0x8A ∷ 0xA4 ∷ 0x80 ∷ 0x00 ∷ 0x00 ∷ 0x00 ∷ 0x01 ∷ 0x28 ∷ 0x01 ∷ 0xAF ∷ 0x80 ∷ 0x14 ∷ 0xB8 ∷ 0xAA ∷ 0xD6 ∷ 0x64 ∷ 0x6B ∷ 0xC0 ∷ 0x00 ∷ 0x00 ∷ 0x00 ∷ 0x01 ∷ 0x02 ∷ 0x01 ∷ 0xD0 ∷ 0x0C ∷ 0x5E ∷ 0x66 ∷ 0x9B ∷ 0x80 ∷ []) ≡ Ok (size_of 40 8, grey 320 ∷ grey 320 ∷ [])
unfolding digits_up_to u ue value_after bytes read_u read_ue_after read_alignment intra_cost pcm_cost is_copy modes_of leaf_plan choice closing put_bin code contexts_after start lps_range next row_start start_codes slice_step segment_step hash_step step read_units decode engine_start doublings renormalised context_read bypass_read terminate_read aligned samples is_done moved_units segment_piece picture_units picture_piece pieces_after pieces stream_of fields_bits read_fields hash_of_planes candidates mode_items mode_read vector_before merge predictors has_source difference_items second_is_nearer move_items difference_read whole_part vector_read tried_vectors is_copy_by unit_plan moved_choice moved_choices moved_samples block_of rebuild slice_row_read segment_row_read row_of_bytes rows_read coding_unit_read ctu_read escape_after unescape_after stream_bytes payload forbidden next_start units_within units profile_tier_level vps_front vps_back sps_formats sps_front size_fields sps_back pps_fields param_units read_size read_params coding_order neighbours is_filtered references angle inverse_angle predict coded_picture stored_picture crop scan scan_kind last_context sub_block_context sig_context greater1_context greater2_context cbf in_coding_order in_rows residual_items residual_read contexts_at cut_after substreams head_front head_middle head_bits dependent_fields segment_bits read_offsets read_head read_segment_head slice_piece split_context skip_context candidates_at coding_unit_items ctu_items source_of items_of_row moved_unit move_unit items_of_segment block_words rounds compress hash_after digest_bytes md5
grey_segments_back = refl
