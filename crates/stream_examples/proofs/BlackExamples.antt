-- A black picture with samples alone, computed.
use Rattle.std.specs.Prelude.{◌≡◌, ℕ, [], ◌∷◌, ◌++◌, replicate, flat_map, Ok, Err, refl}
use Rattle.h265_model.specs.declared.extra.Extra.TheVariants.{Plain, Hash}
use Rattle.h265_model.specs.Raster.{Raster}
use Rattle.h265_model.specs.Settings.{Settings}
use Rattle.h265_model.specs.NalUnits.{escape}
use Rattle.h265_model.specs.Bits.{digits_up_to, u, ue, value_after, bytes, read_u, read_ue_after, read_alignment}
use Rattle.h265_model.specs.Choice.{intra_cost, pcm_cost, is_copy, modes_of, leaf_plan, choice}
use Rattle.h265_model.specs.Code.{closing, put_bin, code, contexts_after}
use Rattle.h265_model.specs.Contexts.{start, lps_range, next, row_start}
use Rattle.h265_model.specs.Decode.{start_codes}
use Rattle.h265_model.specs.Decode.{slice_step, segment_step, hash_step, step, read_units, decode}
use Rattle.h265_model.specs.Engine.{start as engine_start, doublings, renormalised, context_read, bypass_read, terminate_read, aligned, samples, is_done}
use Rattle.h265_model.specs.Stream.{moved_units, segment_piece, picture_piece, pieces_after, pieces, stream_of, picture_units}
use Rattle.h265_model.specs.Fields.{fields_bits, read_fields}
use Rattle.h265_model.specs.Hash.{hash_of_planes}
use Rattle.h265_model.specs.Modes.{candidates, mode_items, mode_read}
use Rattle.h265_model.specs.Motion.{vector_before, merge, predictors, has_source, difference_items, second_is_nearer, move_items, difference_read, whole_part, vector_read}
use Rattle.h265_model.specs.MotionChoice.{tried_vectors, is_copy_by, unit_plan, moved_choice, moved_choices}
use Rattle.h265_model.specs.Rebuild.{moved_samples, block_of, rebuild}
use Rattle.h265_model.specs.Slice.{slice_row_read, segment_row_read, row_of_bytes, rows_read}
use Rattle.h265_model.specs.Tree.{coding_unit_read, ctu_read}
use Rattle.h265_model.specs.NalUnits.{escape_after, unescape_after, stream_bytes, payload, forbidden, next_start, units_within, units}
use Rattle.h265_model.specs.ParamSets.{profile_tier_level, vps_front, vps_back, sps_formats, sps_front, size_fields, sps_back, pps_fields, param_units, read_size, read_params}
use Rattle.h265_model.specs.Predict.{coding_order, neighbours, is_filtered, references, angle, inverse_angle, predict}
use Rattle.h265_model.specs.Raster.{coded_picture, stored_picture, crop}
use Rattle.h265_model.specs.Residual.{scan, scan_kind, last_context, sub_block_context, sig_context, greater1_context, greater2_context, cbf, in_coding_order, in_rows, residual_items, residual_read}
use Rattle.h265_model.specs.Slice.{contexts_at, cut_after, substreams}
use Rattle.h265_model.specs.SliceHead.{head_front, head_middle, head_bits, dependent_fields, segment_bits, read_offsets, read_head, read_segment_head}
use Rattle.h265_model.specs.Stream.{slice_piece, picture_piece, picture_units}
use Rattle.h265_model.specs.Tree.{split_context, skip_context, candidates_at, coding_unit_items, ctu_items, source_of, items_of_row}
use Rattle.h265_model.specs.Tree.{moved_unit, move_unit, items_of_segment}
use Rattle.md5.specs.Md5.{block_words, rounds, compress, hash_after, digest_bytes, md5}
use Rattle.stream_examples.specs.Laws.{BlackIsRead, size_of, rgb, black, piece_of}
use Rattle.h265_model.specs.declared.extra.Extra.{Extra}

abbrev settings_of : ℕ → ℕ → ℕ → ℕ → Extra → Settings
settings_of w h effort key extra = record { size = size_of w h; effort = effort; key = key; extra = extra }

abbrev grey : ℕ → Raster
grey n = replicate n (rgb 128 128 128)

-- a black picture of 32x32
black_plain : stream_of (settings_of 32 32 0 1 Plain) (black 1024 ∷ []) ≡ piece_of (0xFE ∷ 0x80 ∷ [])
unfolding digits_up_to u ue value_after bytes read_u read_ue_after read_alignment intra_cost pcm_cost is_copy modes_of leaf_plan choice closing put_bin code contexts_after start lps_range next row_start start_codes slice_step segment_step hash_step step read_units decode engine_start doublings renormalised context_read bypass_read terminate_read aligned samples is_done moved_units segment_piece picture_units picture_piece pieces_after pieces stream_of fields_bits read_fields hash_of_planes candidates mode_items mode_read vector_before merge predictors has_source difference_items second_is_nearer move_items difference_read whole_part vector_read tried_vectors is_copy_by unit_plan moved_choice moved_choices moved_samples block_of rebuild slice_row_read segment_row_read row_of_bytes rows_read coding_unit_read ctu_read escape_after unescape_after stream_bytes payload forbidden next_start units_within units profile_tier_level vps_front vps_back sps_formats sps_front size_fields sps_back pps_fields param_units read_size read_params coding_order neighbours is_filtered references angle inverse_angle predict coded_picture stored_picture crop scan scan_kind last_context sub_block_context sig_context greater1_context greater2_context cbf in_coding_order in_rows residual_items residual_read contexts_at cut_after substreams head_front head_middle head_bits dependent_fields segment_bits read_offsets read_head read_segment_head slice_piece split_context skip_context candidates_at coding_unit_items ctu_items source_of items_of_row moved_unit move_unit items_of_segment block_words rounds compress hash_after digest_bytes md5
black_plain = refl

pub black_back : BlackIsRead
unfolding digits_up_to u ue value_after bytes read_u read_ue_after read_alignment intra_cost pcm_cost is_copy modes_of leaf_plan choice closing put_bin code contexts_after start lps_range next row_start start_codes slice_step segment_step hash_step step read_units decode engine_start doublings renormalised context_read bypass_read terminate_read aligned samples is_done moved_units segment_piece picture_units picture_piece pieces_after pieces stream_of fields_bits read_fields hash_of_planes candidates mode_items mode_read vector_before merge predictors has_source difference_items second_is_nearer move_items difference_read whole_part vector_read tried_vectors is_copy_by unit_plan moved_choice moved_choices moved_samples block_of rebuild slice_row_read segment_row_read row_of_bytes rows_read coding_unit_read ctu_read escape_after unescape_after stream_bytes payload forbidden next_start units_within units profile_tier_level vps_front vps_back sps_formats sps_front size_fields sps_back pps_fields param_units read_size read_params coding_order neighbours is_filtered references angle inverse_angle predict coded_picture stored_picture crop scan scan_kind last_context sub_block_context sig_context greater1_context greater2_context cbf in_coding_order in_rows residual_items residual_read contexts_at cut_after substreams head_front head_middle head_bits dependent_fields segment_bits read_offsets read_head read_segment_head slice_piece split_context skip_context candidates_at coding_unit_items ctu_items source_of items_of_row moved_unit move_unit items_of_segment block_words rounds compress hash_after digest_bytes md5
black_back = refl

-- a bit after the last 1
black_last_byte : decode (piece_of (0xFE ∷ 0x81 ∷ [])) ≡ Err 3
unfolding digits_up_to u ue value_after bytes read_u read_ue_after read_alignment intra_cost pcm_cost is_copy modes_of leaf_plan choice closing put_bin code contexts_after start lps_range next row_start start_codes slice_step segment_step hash_step step read_units decode engine_start doublings renormalised context_read bypass_read terminate_read aligned samples is_done moved_units segment_piece picture_units picture_piece pieces_after pieces stream_of fields_bits read_fields hash_of_planes candidates mode_items mode_read vector_before merge predictors has_source difference_items second_is_nearer move_items difference_read whole_part vector_read tried_vectors is_copy_by unit_plan moved_choice moved_choices moved_samples block_of rebuild slice_row_read segment_row_read row_of_bytes rows_read coding_unit_read ctu_read escape_after unescape_after stream_bytes payload forbidden next_start units_within units profile_tier_level vps_front vps_back sps_formats sps_front size_fields sps_back pps_fields param_units read_size read_params coding_order neighbours is_filtered references angle inverse_angle predict coded_picture stored_picture crop scan scan_kind last_context sub_block_context sig_context greater1_context greater2_context cbf in_coding_order in_rows residual_items residual_read contexts_at cut_after substreams head_front head_middle head_bits dependent_fields segment_bits read_offsets read_head read_segment_head slice_piece split_context skip_context candidates_at coding_unit_items ctu_items source_of items_of_row moved_unit move_unit items_of_segment block_words rounds compress hash_after digest_bytes md5
black_last_byte = refl

-- the hash of a picture
black_hash : stream_of (settings_of 32 32 0 1 Hash) (black 1024 ∷ []) ≡ piece_of ((0xFE ∷ 0x80 ∷ []) ++ 0 ∷ 0 ∷ 0 ∷ 1 ∷ 0x50 ∷ 1 ∷ escape (0x84 ∷ 0x31 ∷ 0x00 ∷ 0x0F ∷ 0x34 ∷ 0x3B ∷ 0x09 ∷ 0x31 ∷ 0x12 ∷ 0x6A ∷ 0x20 ∷ 0xF1 ∷ 0x33 ∷ 0xD6 ∷ 0x7C ∷ 0x2B ∷ 0x01 ∷ 0x8A ∷ 0x3B ∷ 0x0F ∷ 0x34 ∷ 0x3B ∷ 0x09 ∷ 0x31 ∷ 0x12 ∷ 0x6A ∷ 0x20 ∷ 0xF1 ∷ 0x33 ∷ 0xD6 ∷ 0x7C ∷ 0x2B ∷ 0x01 ∷ 0x8A ∷ 0x3B ∷ 0x0F ∷ 0x34 ∷ 0x3B ∷ 0x09 ∷ 0x31 ∷ 0x12 ∷ 0x6A ∷ 0x20 ∷ 0xF1 ∷ 0x33 ∷ 0xD6 ∷ 0x7C ∷ 0x2B ∷ 0x01 ∷ 0x8A ∷ 0x3B ∷ 0x80 ∷ []))
unfolding digits_up_to u ue value_after bytes read_u read_ue_after read_alignment intra_cost pcm_cost is_copy modes_of leaf_plan choice closing put_bin code contexts_after start lps_range next row_start start_codes slice_step segment_step hash_step step read_units decode engine_start doublings renormalised context_read bypass_read terminate_read aligned samples is_done moved_units segment_piece picture_units picture_piece pieces_after pieces stream_of fields_bits read_fields hash_of_planes candidates mode_items mode_read vector_before merge predictors has_source difference_items second_is_nearer move_items difference_read whole_part vector_read tried_vectors is_copy_by unit_plan moved_choice moved_choices moved_samples block_of rebuild slice_row_read segment_row_read row_of_bytes rows_read coding_unit_read ctu_read escape_after unescape_after stream_bytes payload forbidden next_start units_within units profile_tier_level vps_front vps_back sps_formats sps_front size_fields sps_back pps_fields param_units read_size read_params coding_order neighbours is_filtered references angle inverse_angle predict coded_picture stored_picture crop scan scan_kind last_context sub_block_context sig_context greater1_context greater2_context cbf in_coding_order in_rows residual_items residual_read contexts_at cut_after substreams head_front head_middle head_bits dependent_fields segment_bits read_offsets read_head read_segment_head slice_piece split_context skip_context candidates_at coding_unit_items ctu_items source_of items_of_row moved_unit move_unit items_of_segment block_words rounds compress hash_after digest_bytes md5
black_hash = refl

black_hash_back : decode (piece_of ((0xFE ∷ 0x80 ∷ []) ++ 0 ∷ 0 ∷ 0 ∷ 1 ∷ 0x50 ∷ 1 ∷ escape (0x84 ∷ 0x31 ∷ 0x00 ∷ 0x0F ∷ 0x34 ∷ 0x3B ∷ 0x09 ∷ 0x31 ∷ 0x12 ∷ 0x6A ∷ 0x20 ∷ 0xF1 ∷ 0x33 ∷ 0xD6 ∷ 0x7C ∷ 0x2B ∷ 0x01 ∷ 0x8A ∷ 0x3B ∷ 0x0F ∷ 0x34 ∷ 0x3B ∷ 0x09 ∷ 0x31 ∷ 0x12 ∷ 0x6A ∷ 0x20 ∷ 0xF1 ∷ 0x33 ∷ 0xD6 ∷ 0x7C ∷ 0x2B ∷ 0x01 ∷ 0x8A ∷ 0x3B ∷ 0x0F ∷ 0x34 ∷ 0x3B ∷ 0x09 ∷ 0x31 ∷ 0x12 ∷ 0x6A ∷ 0x20 ∷ 0xF1 ∷ 0x33 ∷ 0xD6 ∷ 0x7C ∷ 0x2B ∷ 0x01 ∷ 0x8A ∷ 0x3B ∷ 0x80 ∷ []))) ≡ Ok (size_of 32 32, black 1024 ∷ [])
unfolding digits_up_to u ue value_after bytes read_u read_ue_after read_alignment intra_cost pcm_cost is_copy modes_of leaf_plan choice closing put_bin code contexts_after start lps_range next row_start start_codes slice_step segment_step hash_step step read_units decode engine_start doublings renormalised context_read bypass_read terminate_read aligned samples is_done moved_units segment_piece picture_units picture_piece pieces_after pieces stream_of fields_bits read_fields hash_of_planes candidates mode_items mode_read vector_before merge predictors has_source difference_items second_is_nearer move_items difference_read whole_part vector_read tried_vectors is_copy_by unit_plan moved_choice moved_choices moved_samples block_of rebuild slice_row_read segment_row_read row_of_bytes rows_read coding_unit_read ctu_read escape_after unescape_after stream_bytes payload forbidden next_start units_within units profile_tier_level vps_front vps_back sps_formats sps_front size_fields sps_back pps_fields param_units read_size read_params coding_order neighbours is_filtered references angle inverse_angle predict coded_picture stored_picture crop scan scan_kind last_context sub_block_context sig_context greater1_context greater2_context cbf in_coding_order in_rows residual_items residual_read contexts_at cut_after substreams head_front head_middle head_bits dependent_fields segment_bits read_offsets read_head read_segment_head slice_piece split_context skip_context candidates_at coding_unit_items ctu_items source_of items_of_row moved_unit move_unit items_of_segment block_words rounds compress hash_after digest_bytes md5
black_hash_back = refl
