-- Parameter sets, headers and rows of streams with a segment for each row, computed.
use Rattle.std.specs.Prelude.{◌≡◌, ℕ, true, false, List, [], ◌∷◌, replicate, drop, map, Ok, Err, refl}
use Rattle.h265_model.specs.declared.rgb.Rgb.{Rgb}
use Rattle.h265_model.specs.declared.leaf.SliceKind.TheVariants.{I}
use Rattle.h265_model.specs.declared.moves.MoveLeaf.{MoveLeaf}
use Rattle.h265_model.specs.declared.moves.MoveKind.TheVariants as moves
use Rattle.h265_model.specs.Plain.{block_at, Size, below}
use Rattle.h265_model.specs.Raster.{Raster}
use Rattle.h265_model.specs.Settings.{Settings}
use Rattle.h265_model.specs.Tree.{moving, Source}
use Rattle.h265_model.specs.Tree.{still_unit}
use Rattle.h265_model.specs.Bits.{digits_up_to, u, ue, value_after, bytes, read_u, read_ue_after, read_alignment}
use Rattle.h265_model.specs.Choice.{intra_cost, pcm_cost, is_copy, modes_of, leaf_plan, choice}
use Rattle.h265_model.specs.Code.{closing, put_bin, code, contexts_after}
use Rattle.h265_model.specs.Contexts.{start, lps_range, next, row_start}
use Rattle.h265_model.specs.Decode.{start_codes}
use Rattle.h265_model.specs.Decode.{slice_step, segment_step, hash_step, step, read_units, decode}
use Rattle.h265_model.specs.Engine.{start as engine_start, doublings, renormalised, context_read, bypass_read, terminate_read, aligned, samples, is_done}
use Rattle.h265_model.specs.Stream.{moved_units, segment_piece, picture_piece, pieces_after, pieces, stream_of, picture_units}
use Rattle.h265_model.specs.Fields.{fields_bits, read_fields}
use Rattle.h265_model.specs.Hash.{hash_of_planes}
use Rattle.h265_model.specs.Modes.{candidates, mode_items, mode_read}
use Rattle.h265_model.specs.Motion.{vector_before, merge, predictors, has_source, difference_items, second_is_nearer, move_items, difference_read, whole_part, vector_read}
use Rattle.h265_model.specs.MotionChoice.{tried_vectors, is_copy_by, unit_plan, moved_choice, moved_choices}
use Rattle.h265_model.specs.Rebuild.{moved_samples, block_of, rebuild}
use Rattle.h265_model.specs.Slice.{row_code, segment_code, slice_row_read, segment_row_read, row_of_bytes, rows_read}
use Rattle.h265_model.specs.Tree.{coding_unit_read, ctu_read}
use Rattle.h265_model.specs.NalUnits.{escape_after, unescape_after, stream_bytes, payload, forbidden, next_start, units_within, units}
use Rattle.h265_model.specs.ParamSets.{profile_tier_level, vps_front, vps_back, sps_formats, sps_front, size_fields, sps_back, pps_fields, param_units, read_size, read_params}
use Rattle.h265_model.specs.Predict.{coding_order, neighbours, is_filtered, references, angle, inverse_angle, predict}
use Rattle.h265_model.specs.Raster.{coded_picture, stored_picture, crop}
use Rattle.h265_model.specs.Residual.{scan, scan_kind, last_context, sub_block_context, sig_context, greater1_context, greater2_context, cbf, in_coding_order, in_rows, residual_items, residual_read}
use Rattle.h265_model.specs.Slice.{contexts_at, cut_after, substreams}
use Rattle.h265_model.specs.SliceHead.{head_front, head_middle, head_bits, dependent_fields, segment_bits, read_offsets, read_head, read_segment_head}
use Rattle.h265_model.specs.Stream.{slice_piece, picture_piece, picture_units}
use Rattle.h265_model.specs.Tree.{split_context, skip_context, candidates_at, coding_unit_items, ctu_items, source_of, items_of_row}
use Rattle.h265_model.specs.Tree.{moved_unit, move_unit, items_of_segment}
use Rattle.md5.specs.Md5.{block_words, rounds, compress, hash_after, digest_bytes, md5}
use Rattle.h265_model.specs.declared.extra.Extra.{Extra}

abbrev size_of : ℕ → ℕ → Size
size_of w h = record { w = w; h = h }

abbrev settings_of : ℕ → ℕ → ℕ → ℕ → Extra → Settings
settings_of w h effort key extra = record { size = size_of w h; effort = effort; key = key; extra = extra }

abbrev rgb : ℕ → ℕ → ℕ → Rgb
rgb r g b = record { r = r; g = g; b = b }

abbrev grey : ℕ → Raster
grey n = replicate n (rgb 128 128 128)

-- PCM units of which the samples are left out
abbrev no_samples : Source
no_samples = record { levels = λ leaf component. []; samples = λ leaf component. [] }

abbrev pcm : ℕ → ℕ → List MoveLeaf
pcm x y = record { block = block_at x y 5; kind = moves.Pcm } ∷ []

abbrev four : List (List MoveLeaf)
four = pcm 0 0 ∷ pcm 32 0 ∷ pcm 0 32 ∷ pcm 32 32 ∷ []

-- two rows of two coding tree units, a segment each
segment_rows : map (segment_code I (moving (still_unit I no_samples)) (size_of 64 64) four) (below 2) ≡ (0x46 ∷ 0xC0 ∷ 0x4C ∷ 0x40 ∷ 0xFE ∷ 0x80 ∷ []) ∷ (0x52 ∷ 0xC0 ∷ 0x59 ∷ 0xC0 ∷ 0xFE ∷ 0x80 ∷ []) ∷ []
unfolding digits_up_to u ue value_after bytes read_u read_ue_after read_alignment intra_cost pcm_cost is_copy modes_of leaf_plan choice closing put_bin code contexts_after start lps_range next row_start start_codes slice_step segment_step hash_step step read_units decode engine_start doublings renormalised context_read bypass_read terminate_read aligned samples is_done moved_units segment_piece picture_units picture_piece pieces_after pieces stream_of fields_bits read_fields hash_of_planes candidates mode_items mode_read vector_before merge predictors has_source difference_items second_is_nearer move_items difference_read whole_part vector_read tried_vectors is_copy_by unit_plan moved_choice moved_choices moved_samples block_of rebuild slice_row_read segment_row_read row_of_bytes rows_read coding_unit_read ctu_read escape_after unescape_after stream_bytes payload forbidden next_start units_within units profile_tier_level vps_front vps_back sps_formats sps_front size_fields sps_back pps_fields param_units read_size read_params coding_order neighbours is_filtered references angle inverse_angle predict coded_picture stored_picture crop scan scan_kind last_context sub_block_context sig_context greater1_context greater2_context cbf in_coding_order in_rows residual_items residual_read contexts_at cut_after substreams head_front head_middle head_bits dependent_fields segment_bits read_offsets read_head read_segment_head slice_piece split_context skip_context candidates_at coding_unit_items ctu_items source_of items_of_row moved_unit move_unit items_of_segment block_words rounds compress hash_after digest_bytes md5
segment_rows = refl

-- the same rows in one slice segment
slice_rows : map (row_code I (moving (still_unit I no_samples)) (size_of 64 64) four) (below 2) ≡ (0x46 ∷ 0xC0 ∷ 0x4C ∷ 0x40 ∷ 0xFD ∷ 0x80 ∷ []) ∷ (0x52 ∷ 0xC0 ∷ 0x59 ∷ 0xC0 ∷ 0xFE ∷ 0x80 ∷ []) ∷ []
unfolding digits_up_to u ue value_after bytes read_u read_ue_after read_alignment intra_cost pcm_cost is_copy modes_of leaf_plan choice closing put_bin code contexts_after start lps_range next row_start start_codes slice_step segment_step hash_step step read_units decode engine_start doublings renormalised context_read bypass_read terminate_read aligned samples is_done moved_units segment_piece picture_units picture_piece pieces_after pieces stream_of fields_bits read_fields hash_of_planes candidates mode_items mode_read vector_before merge predictors has_source difference_items second_is_nearer move_items difference_read whole_part vector_read tried_vectors is_copy_by unit_plan moved_choice moved_choices moved_samples block_of rebuild slice_row_read segment_row_read row_of_bytes rows_read coding_unit_read ctu_read escape_after unescape_after stream_bytes payload forbidden next_start units_within units profile_tier_level vps_front vps_back sps_formats sps_front size_fields sps_back pps_fields param_units read_size read_params coding_order neighbours is_filtered references angle inverse_angle predict coded_picture stored_picture crop scan scan_kind last_context sub_block_context sig_context greater1_context greater2_context cbf in_coding_order in_rows residual_items residual_read contexts_at cut_after substreams head_front head_middle head_bits dependent_fields segment_bits read_offsets read_head read_segment_head slice_piece split_context skip_context candidates_at coding_unit_items ctu_items source_of items_of_row moved_unit move_unit items_of_segment block_words rounds compress hash_after digest_bytes md5
slice_rows = refl

-- the picture parameter set
segment_set : stream_bytes (drop 2 (param_units (size_of 64 64) true)) ≡ 0 ∷ 0 ∷ 0 ∷ 1 ∷ 0x44 ∷ 0x01 ∷ 0xE0 ∷ 0x71 ∷ 0x8A ∷ 0xA4 ∷ 0x80 ∷ []
unfolding digits_up_to u ue value_after bytes read_u read_ue_after read_alignment intra_cost pcm_cost is_copy modes_of leaf_plan choice closing put_bin code contexts_after start lps_range next row_start start_codes slice_step segment_step hash_step step read_units decode engine_start doublings renormalised context_read bypass_read terminate_read aligned samples is_done moved_units segment_piece picture_units picture_piece pieces_after pieces stream_of fields_bits read_fields hash_of_planes candidates mode_items mode_read vector_before merge predictors has_source difference_items second_is_nearer move_items difference_read whole_part vector_read tried_vectors is_copy_by unit_plan moved_choice moved_choices moved_samples block_of rebuild slice_row_read segment_row_read row_of_bytes rows_read coding_unit_read ctu_read escape_after unescape_after stream_bytes payload forbidden next_start units_within units profile_tier_level vps_front vps_back sps_formats sps_front size_fields sps_back pps_fields param_units read_size read_params coding_order neighbours is_filtered references angle inverse_angle predict coded_picture stored_picture crop scan scan_kind last_context sub_block_context sig_context greater1_context greater2_context cbf in_coding_order in_rows residual_items residual_read contexts_at cut_after substreams head_front head_middle head_bits dependent_fields segment_bits read_offsets read_head read_segment_head slice_piece split_context skip_context candidates_at coding_unit_items ctu_items source_of items_of_row moved_unit move_unit items_of_segment block_words rounds compress hash_after digest_bytes md5
segment_set = refl

plain_set : stream_bytes (drop 2 (param_units (size_of 64 64) false)) ≡ 0 ∷ 0 ∷ 0 ∷ 1 ∷ 0x44 ∷ 0x01 ∷ 0xC0 ∷ 0x71 ∷ 0x8A ∷ 0xA4 ∷ 0x80 ∷ []
unfolding digits_up_to u ue value_after bytes read_u read_ue_after read_alignment intra_cost pcm_cost is_copy modes_of leaf_plan choice closing put_bin code contexts_after start lps_range next row_start start_codes slice_step segment_step hash_step step read_units decode engine_start doublings renormalised context_read bypass_read terminate_read aligned samples is_done moved_units segment_piece picture_units picture_piece pieces_after pieces stream_of fields_bits read_fields hash_of_planes candidates mode_items mode_read vector_before merge predictors has_source difference_items second_is_nearer move_items difference_read whole_part vector_read tried_vectors is_copy_by unit_plan moved_choice moved_choices moved_samples block_of rebuild slice_row_read segment_row_read row_of_bytes rows_read coding_unit_read ctu_read escape_after unescape_after stream_bytes payload forbidden next_start units_within units profile_tier_level vps_front vps_back sps_formats sps_front size_fields sps_back pps_fields param_units read_size read_params coding_order neighbours is_filtered references angle inverse_angle predict coded_picture stored_picture crop scan scan_kind last_context sub_block_context sig_context greater1_context greater2_context cbf in_coding_order in_rows residual_items residual_read contexts_at cut_after substreams head_front head_middle head_bits dependent_fields segment_bits read_offsets read_head read_segment_head slice_piece split_context skip_context candidates_at coding_unit_items ctu_items source_of items_of_row moved_unit move_unit items_of_segment block_words rounds compress hash_after digest_bytes md5
plain_set = refl

sets_64x64_true : read_params (param_units (size_of 64 64) true) ≡ Ok (size_of 64 64, true)
unfolding digits_up_to u ue value_after bytes read_u read_ue_after read_alignment intra_cost pcm_cost is_copy modes_of leaf_plan choice closing put_bin code contexts_after start lps_range next row_start start_codes slice_step segment_step hash_step step read_units decode engine_start doublings renormalised context_read bypass_read terminate_read aligned samples is_done moved_units segment_piece picture_units picture_piece pieces_after pieces stream_of fields_bits read_fields hash_of_planes candidates mode_items mode_read vector_before merge predictors has_source difference_items second_is_nearer move_items difference_read whole_part vector_read tried_vectors is_copy_by unit_plan moved_choice moved_choices moved_samples block_of rebuild slice_row_read segment_row_read row_of_bytes rows_read coding_unit_read ctu_read escape_after unescape_after stream_bytes payload forbidden next_start units_within units profile_tier_level vps_front vps_back sps_formats sps_front size_fields sps_back pps_fields param_units read_size read_params coding_order neighbours is_filtered references angle inverse_angle predict coded_picture stored_picture crop scan scan_kind last_context sub_block_context sig_context greater1_context greater2_context cbf in_coding_order in_rows residual_items residual_read contexts_at cut_after substreams head_front head_middle head_bits dependent_fields segment_bits read_offsets read_head read_segment_head slice_piece split_context skip_context candidates_at coding_unit_items ctu_items source_of items_of_row moved_unit move_unit items_of_segment block_words rounds compress hash_after digest_bytes md5
sets_64x64_true = refl

sets_64x64_false : read_params (param_units (size_of 64 64) false) ≡ Ok (size_of 64 64, false)
unfolding digits_up_to u ue value_after bytes read_u read_ue_after read_alignment intra_cost pcm_cost is_copy modes_of leaf_plan choice closing put_bin code contexts_after start lps_range next row_start start_codes slice_step segment_step hash_step step read_units decode engine_start doublings renormalised context_read bypass_read terminate_read aligned samples is_done moved_units segment_piece picture_units picture_piece pieces_after pieces stream_of fields_bits read_fields hash_of_planes candidates mode_items mode_read vector_before merge predictors has_source difference_items second_is_nearer move_items difference_read whole_part vector_read tried_vectors is_copy_by unit_plan moved_choice moved_choices moved_samples block_of rebuild slice_row_read segment_row_read row_of_bytes rows_read coding_unit_read ctu_read escape_after unescape_after stream_bytes payload forbidden next_start units_within units profile_tier_level vps_front vps_back sps_formats sps_front size_fields sps_back pps_fields param_units read_size read_params coding_order neighbours is_filtered references angle inverse_angle predict coded_picture stored_picture crop scan scan_kind last_context sub_block_context sig_context greater1_context greater2_context cbf in_coding_order in_rows residual_items residual_read contexts_at cut_after substreams head_front head_middle head_bits dependent_fields segment_bits read_offsets read_head read_segment_head slice_piece split_context skip_context candidates_at coding_unit_items ctu_items source_of items_of_row moved_unit move_unit items_of_segment block_words rounds compress hash_after digest_bytes md5
sets_64x64_false = refl

sets_33x17_true : read_params (param_units (size_of 33 17) true) ≡ Ok (size_of 33 17, true)
unfolding digits_up_to u ue value_after bytes read_u read_ue_after read_alignment intra_cost pcm_cost is_copy modes_of leaf_plan choice closing put_bin code contexts_after start lps_range next row_start start_codes slice_step segment_step hash_step step read_units decode engine_start doublings renormalised context_read bypass_read terminate_read aligned samples is_done moved_units segment_piece picture_units picture_piece pieces_after pieces stream_of fields_bits read_fields hash_of_planes candidates mode_items mode_read vector_before merge predictors has_source difference_items second_is_nearer move_items difference_read whole_part vector_read tried_vectors is_copy_by unit_plan moved_choice moved_choices moved_samples block_of rebuild slice_row_read segment_row_read row_of_bytes rows_read coding_unit_read ctu_read escape_after unescape_after stream_bytes payload forbidden next_start units_within units profile_tier_level vps_front vps_back sps_formats sps_front size_fields sps_back pps_fields param_units read_size read_params coding_order neighbours is_filtered references angle inverse_angle predict coded_picture stored_picture crop scan scan_kind last_context sub_block_context sig_context greater1_context greater2_context cbf in_coding_order in_rows residual_items residual_read contexts_at cut_after substreams head_front head_middle head_bits dependent_fields segment_bits read_offsets read_head read_segment_head slice_piece split_context skip_context candidates_at coding_unit_items ctu_items source_of items_of_row moved_unit move_unit items_of_segment block_words rounds compress hash_after digest_bytes md5
sets_33x17_true = refl

sets_40x40_true : read_params (param_units (size_of 40 40) true) ≡ Ok (size_of 40 40, true)
unfolding digits_up_to u ue value_after bytes read_u read_ue_after read_alignment intra_cost pcm_cost is_copy modes_of leaf_plan choice closing put_bin code contexts_after start lps_range next row_start start_codes slice_step segment_step hash_step step read_units decode engine_start doublings renormalised context_read bypass_read terminate_read aligned samples is_done moved_units segment_piece picture_units picture_piece pieces_after pieces stream_of fields_bits read_fields hash_of_planes candidates mode_items mode_read vector_before merge predictors has_source difference_items second_is_nearer move_items difference_read whole_part vector_read tried_vectors is_copy_by unit_plan moved_choice moved_choices moved_samples block_of rebuild slice_row_read segment_row_read row_of_bytes rows_read coding_unit_read ctu_read escape_after unescape_after stream_bytes payload forbidden next_start units_within units profile_tier_level vps_front vps_back sps_formats sps_front size_fields sps_back pps_fields param_units read_size read_params coding_order neighbours is_filtered references angle inverse_angle predict coded_picture stored_picture crop scan scan_kind last_context sub_block_context sig_context greater1_context greater2_context cbf in_coding_order in_rows residual_items residual_read contexts_at cut_after substreams head_front head_middle head_bits dependent_fields segment_bits read_offsets read_head read_segment_head slice_piece split_context skip_context candidates_at coding_unit_items ctu_items source_of items_of_row moved_unit move_unit items_of_segment block_words rounds compress hash_after digest_bytes md5
sets_40x40_true = refl

sets_32x64_false : read_params (param_units (size_of 32 64) false) ≡ Ok (size_of 32 64, false)
unfolding digits_up_to u ue value_after bytes read_u read_ue_after read_alignment intra_cost pcm_cost is_copy modes_of leaf_plan choice closing put_bin code contexts_after start lps_range next row_start start_codes slice_step segment_step hash_step step read_units decode engine_start doublings renormalised context_read bypass_read terminate_read aligned samples is_done moved_units segment_piece picture_units picture_piece pieces_after pieces stream_of fields_bits read_fields hash_of_planes candidates mode_items mode_read vector_before merge predictors has_source difference_items second_is_nearer move_items difference_read whole_part vector_read tried_vectors is_copy_by unit_plan moved_choice moved_choices moved_samples block_of rebuild slice_row_read segment_row_read row_of_bytes rows_read coding_unit_read ctu_read escape_after unescape_after stream_bytes payload forbidden next_start units_within units profile_tier_level vps_front vps_back sps_formats sps_front size_fields sps_back pps_fields param_units read_size read_params coding_order neighbours is_filtered references angle inverse_angle predict coded_picture stored_picture crop scan scan_kind last_context sub_block_context sig_context greater1_context greater2_context cbf in_coding_order in_rows residual_items residual_read contexts_at cut_after substreams head_front head_middle head_bits dependent_fields segment_bits read_offsets read_head read_segment_head slice_piece split_context skip_context candidates_at coding_unit_items ctu_items source_of items_of_row moved_unit move_unit items_of_segment block_words rounds compress hash_after digest_bytes md5
sets_32x64_false = refl

sets_4096x2160_true : read_params (param_units (size_of 4096 2160) true) ≡ Ok (size_of 4096 2160, true)
unfolding digits_up_to u ue value_after bytes read_u read_ue_after read_alignment intra_cost pcm_cost is_copy modes_of leaf_plan choice closing put_bin code contexts_after start lps_range next row_start start_codes slice_step segment_step hash_step step read_units decode engine_start doublings renormalised context_read bypass_read terminate_read aligned samples is_done moved_units segment_piece picture_units picture_piece pieces_after pieces stream_of fields_bits read_fields hash_of_planes candidates mode_items mode_read vector_before merge predictors has_source difference_items second_is_nearer move_items difference_read whole_part vector_read tried_vectors is_copy_by unit_plan moved_choice moved_choices moved_samples block_of rebuild slice_row_read segment_row_read row_of_bytes rows_read coding_unit_read ctu_read escape_after unescape_after stream_bytes payload forbidden next_start units_within units profile_tier_level vps_front vps_back sps_formats sps_front size_fields sps_back pps_fields param_units read_size read_params coding_order neighbours is_filtered references angle inverse_angle predict coded_picture stored_picture crop scan scan_kind last_context sub_block_context sig_context greater1_context greater2_context cbf in_coding_order in_rows residual_items residual_read contexts_at cut_after substreams head_front head_middle head_bits dependent_fields segment_bits read_offsets read_head read_segment_head slice_piece split_context skip_context candidates_at coding_unit_items ctu_items source_of items_of_row moved_unit move_unit items_of_segment block_words rounds compress hash_after digest_bytes md5
sets_4096x2160_true = refl

-- one coding tree block wide
sets_32x64_true : read_params (param_units (size_of 32 64) true) ≡ Err (record { set = 2; field = 3 })
unfolding digits_up_to u ue value_after bytes read_u read_ue_after read_alignment intra_cost pcm_cost is_copy modes_of leaf_plan choice closing put_bin code contexts_after start lps_range next row_start start_codes slice_step segment_step hash_step step read_units decode engine_start doublings renormalised context_read bypass_read terminate_read aligned samples is_done moved_units segment_piece picture_units picture_piece pieces_after pieces stream_of fields_bits read_fields hash_of_planes candidates mode_items mode_read vector_before merge predictors has_source difference_items second_is_nearer move_items difference_read whole_part vector_read tried_vectors is_copy_by unit_plan moved_choice moved_choices moved_samples block_of rebuild slice_row_read segment_row_read row_of_bytes rows_read coding_unit_read ctu_read escape_after unescape_after stream_bytes payload forbidden next_start units_within units profile_tier_level vps_front vps_back sps_formats sps_front size_fields sps_back pps_fields param_units read_size read_params coding_order neighbours is_filtered references angle inverse_angle predict coded_picture stored_picture crop scan scan_kind last_context sub_block_context sig_context greater1_context greater2_context cbf in_coding_order in_rows residual_items residual_read contexts_at cut_after substreams head_front head_middle head_bits dependent_fields segment_bits read_offsets read_head read_segment_head slice_piece split_context skip_context candidates_at coding_unit_items ctu_items source_of items_of_row moved_unit move_unit items_of_segment block_words rounds compress hash_after digest_bytes md5
sets_32x64_true = refl

head_idr_0_4 : bytes (segment_bits true 0 0 4) ≡ 0xAF ∷ 0x80 ∷ []
unfolding digits_up_to u ue value_after bytes read_u read_ue_after read_alignment intra_cost pcm_cost is_copy modes_of leaf_plan choice closing put_bin code contexts_after start lps_range next row_start start_codes slice_step segment_step hash_step step read_units decode engine_start doublings renormalised context_read bypass_read terminate_read aligned samples is_done moved_units segment_piece picture_units picture_piece pieces_after pieces stream_of fields_bits read_fields hash_of_planes candidates mode_items mode_read vector_before merge predictors has_source difference_items second_is_nearer move_items difference_read whole_part vector_read tried_vectors is_copy_by unit_plan moved_choice moved_choices moved_samples block_of rebuild slice_row_read segment_row_read row_of_bytes rows_read coding_unit_read ctu_read escape_after unescape_after stream_bytes payload forbidden next_start units_within units profile_tier_level vps_front vps_back sps_formats sps_front size_fields sps_back pps_fields param_units read_size read_params coding_order neighbours is_filtered references angle inverse_angle predict coded_picture stored_picture crop scan scan_kind last_context sub_block_context sig_context greater1_context greater2_context cbf in_coding_order in_rows residual_items residual_read contexts_at cut_after substreams head_front head_middle head_bits dependent_fields segment_bits read_offsets read_head read_segment_head slice_piece split_context skip_context candidates_at coding_unit_items ctu_items source_of items_of_row moved_unit move_unit items_of_segment block_words rounds compress hash_after digest_bytes md5
head_idr_0_4 = refl

head_idr_0_4_back : read_segment_head (0xAF ∷ 0x80 ∷ 0x46 ∷ 0xC0 ∷ []) true 0 4 ≡ Ok (0, 2)
unfolding digits_up_to u ue value_after bytes read_u read_ue_after read_alignment intra_cost pcm_cost is_copy modes_of leaf_plan choice closing put_bin code contexts_after start lps_range next row_start start_codes slice_step segment_step hash_step step read_units decode engine_start doublings renormalised context_read bypass_read terminate_read aligned samples is_done moved_units segment_piece picture_units picture_piece pieces_after pieces stream_of fields_bits read_fields hash_of_planes candidates mode_items mode_read vector_before merge predictors has_source difference_items second_is_nearer move_items difference_read whole_part vector_read tried_vectors is_copy_by unit_plan moved_choice moved_choices moved_samples block_of rebuild slice_row_read segment_row_read row_of_bytes rows_read coding_unit_read ctu_read escape_after unescape_after stream_bytes payload forbidden next_start units_within units profile_tier_level vps_front vps_back sps_formats sps_front size_fields sps_back pps_fields param_units read_size read_params coding_order neighbours is_filtered references angle inverse_angle predict coded_picture stored_picture crop scan scan_kind last_context sub_block_context sig_context greater1_context greater2_context cbf in_coding_order in_rows residual_items residual_read contexts_at cut_after substreams head_front head_middle head_bits dependent_fields segment_bits read_offsets read_head read_segment_head slice_piece split_context skip_context candidates_at coding_unit_items ctu_items source_of items_of_row moved_unit move_unit items_of_segment block_words rounds compress hash_after digest_bytes md5
head_idr_0_4_back = refl

head_idr_2_4 : bytes (segment_bits true 0 2 4) ≡ 0x3B ∷ []
unfolding digits_up_to u ue value_after bytes read_u read_ue_after read_alignment intra_cost pcm_cost is_copy modes_of leaf_plan choice closing put_bin code contexts_after start lps_range next row_start start_codes slice_step segment_step hash_step step read_units decode engine_start doublings renormalised context_read bypass_read terminate_read aligned samples is_done moved_units segment_piece picture_units picture_piece pieces_after pieces stream_of fields_bits read_fields hash_of_planes candidates mode_items mode_read vector_before merge predictors has_source difference_items second_is_nearer move_items difference_read whole_part vector_read tried_vectors is_copy_by unit_plan moved_choice moved_choices moved_samples block_of rebuild slice_row_read segment_row_read row_of_bytes rows_read coding_unit_read ctu_read escape_after unescape_after stream_bytes payload forbidden next_start units_within units profile_tier_level vps_front vps_back sps_formats sps_front size_fields sps_back pps_fields param_units read_size read_params coding_order neighbours is_filtered references angle inverse_angle predict coded_picture stored_picture crop scan scan_kind last_context sub_block_context sig_context greater1_context greater2_context cbf in_coding_order in_rows residual_items residual_read contexts_at cut_after substreams head_front head_middle head_bits dependent_fields segment_bits read_offsets read_head read_segment_head slice_piece split_context skip_context candidates_at coding_unit_items ctu_items source_of items_of_row moved_unit move_unit items_of_segment block_words rounds compress hash_after digest_bytes md5
head_idr_2_4 = refl

head_idr_2_4_back : read_segment_head (0x3B ∷ 0x46 ∷ 0xC0 ∷ []) true 2 4 ≡ Ok (0, 1)
unfolding digits_up_to u ue value_after bytes read_u read_ue_after read_alignment intra_cost pcm_cost is_copy modes_of leaf_plan choice closing put_bin code contexts_after start lps_range next row_start start_codes slice_step segment_step hash_step step read_units decode engine_start doublings renormalised context_read bypass_read terminate_read aligned samples is_done moved_units segment_piece picture_units picture_piece pieces_after pieces stream_of fields_bits read_fields hash_of_planes candidates mode_items mode_read vector_before merge predictors has_source difference_items second_is_nearer move_items difference_read whole_part vector_read tried_vectors is_copy_by unit_plan moved_choice moved_choices moved_samples block_of rebuild slice_row_read segment_row_read row_of_bytes rows_read coding_unit_read ctu_read escape_after unescape_after stream_bytes payload forbidden next_start units_within units profile_tier_level vps_front vps_back sps_formats sps_front size_fields sps_back pps_fields param_units read_size read_params coding_order neighbours is_filtered references angle inverse_angle predict coded_picture stored_picture crop scan scan_kind last_context sub_block_context sig_context greater1_context greater2_context cbf in_coding_order in_rows residual_items residual_read contexts_at cut_after substreams head_front head_middle head_bits dependent_fields segment_bits read_offsets read_head read_segment_head slice_piece split_context skip_context candidates_at coding_unit_items ctu_items source_of items_of_row moved_unit move_unit items_of_segment block_words rounds compress hash_after digest_bytes md5
head_idr_2_4_back = refl

head_p_0_4 : bytes (segment_bits false 7 0 4) ≡ 0xD0 ∷ 0x3C ∷ 0x5E ∷ []
unfolding digits_up_to u ue value_after bytes read_u read_ue_after read_alignment intra_cost pcm_cost is_copy modes_of leaf_plan choice closing put_bin code contexts_after start lps_range next row_start start_codes slice_step segment_step hash_step step read_units decode engine_start doublings renormalised context_read bypass_read terminate_read aligned samples is_done moved_units segment_piece picture_units picture_piece pieces_after pieces stream_of fields_bits read_fields hash_of_planes candidates mode_items mode_read vector_before merge predictors has_source difference_items second_is_nearer move_items difference_read whole_part vector_read tried_vectors is_copy_by unit_plan moved_choice moved_choices moved_samples block_of rebuild slice_row_read segment_row_read row_of_bytes rows_read coding_unit_read ctu_read escape_after unescape_after stream_bytes payload forbidden next_start units_within units profile_tier_level vps_front vps_back sps_formats sps_front size_fields sps_back pps_fields param_units read_size read_params coding_order neighbours is_filtered references angle inverse_angle predict coded_picture stored_picture crop scan scan_kind last_context sub_block_context sig_context greater1_context greater2_context cbf in_coding_order in_rows residual_items residual_read contexts_at cut_after substreams head_front head_middle head_bits dependent_fields segment_bits read_offsets read_head read_segment_head slice_piece split_context skip_context candidates_at coding_unit_items ctu_items source_of items_of_row moved_unit move_unit items_of_segment block_words rounds compress hash_after digest_bytes md5
head_p_0_4 = refl

head_p_0_4_back : read_segment_head (0xD0 ∷ 0x3C ∷ 0x5E ∷ 0x46 ∷ 0xC0 ∷ []) false 0 4 ≡ Ok (7, 3)
unfolding digits_up_to u ue value_after bytes read_u read_ue_after read_alignment intra_cost pcm_cost is_copy modes_of leaf_plan choice closing put_bin code contexts_after start lps_range next row_start start_codes slice_step segment_step hash_step step read_units decode engine_start doublings renormalised context_read bypass_read terminate_read aligned samples is_done moved_units segment_piece picture_units picture_piece pieces_after pieces stream_of fields_bits read_fields hash_of_planes candidates mode_items mode_read vector_before merge predictors has_source difference_items second_is_nearer move_items difference_read whole_part vector_read tried_vectors is_copy_by unit_plan moved_choice moved_choices moved_samples block_of rebuild slice_row_read segment_row_read row_of_bytes rows_read coding_unit_read ctu_read escape_after unescape_after stream_bytes payload forbidden next_start units_within units profile_tier_level vps_front vps_back sps_formats sps_front size_fields sps_back pps_fields param_units read_size read_params coding_order neighbours is_filtered references angle inverse_angle predict coded_picture stored_picture crop scan scan_kind last_context sub_block_context sig_context greater1_context greater2_context cbf in_coding_order in_rows residual_items residual_read contexts_at cut_after substreams head_front head_middle head_bits dependent_fields segment_bits read_offsets read_head read_segment_head slice_piece split_context skip_context candidates_at coding_unit_items ctu_items source_of items_of_row moved_unit move_unit items_of_segment block_words rounds compress hash_after digest_bytes md5
head_p_0_4_back = refl

head_p_2_4 : bytes (segment_bits false 7 2 4) ≡ 0x76 ∷ []
unfolding digits_up_to u ue value_after bytes read_u read_ue_after read_alignment intra_cost pcm_cost is_copy modes_of leaf_plan choice closing put_bin code contexts_after start lps_range next row_start start_codes slice_step segment_step hash_step step read_units decode engine_start doublings renormalised context_read bypass_read terminate_read aligned samples is_done moved_units segment_piece picture_units picture_piece pieces_after pieces stream_of fields_bits read_fields hash_of_planes candidates mode_items mode_read vector_before merge predictors has_source difference_items second_is_nearer move_items difference_read whole_part vector_read tried_vectors is_copy_by unit_plan moved_choice moved_choices moved_samples block_of rebuild slice_row_read segment_row_read row_of_bytes rows_read coding_unit_read ctu_read escape_after unescape_after stream_bytes payload forbidden next_start units_within units profile_tier_level vps_front vps_back sps_formats sps_front size_fields sps_back pps_fields param_units read_size read_params coding_order neighbours is_filtered references angle inverse_angle predict coded_picture stored_picture crop scan scan_kind last_context sub_block_context sig_context greater1_context greater2_context cbf in_coding_order in_rows residual_items residual_read contexts_at cut_after substreams head_front head_middle head_bits dependent_fields segment_bits read_offsets read_head read_segment_head slice_piece split_context skip_context candidates_at coding_unit_items ctu_items source_of items_of_row moved_unit move_unit items_of_segment block_words rounds compress hash_after digest_bytes md5
head_p_2_4 = refl

head_p_2_4_back : read_segment_head (0x76 ∷ 0x46 ∷ 0xC0 ∷ []) false 2 4 ≡ Ok (0, 1)
unfolding digits_up_to u ue value_after bytes read_u read_ue_after read_alignment intra_cost pcm_cost is_copy modes_of leaf_plan choice closing put_bin code contexts_after start lps_range next row_start start_codes slice_step segment_step hash_step step read_units decode engine_start doublings renormalised context_read bypass_read terminate_read aligned samples is_done moved_units segment_piece picture_units picture_piece pieces_after pieces stream_of fields_bits read_fields hash_of_planes candidates mode_items mode_read vector_before merge predictors has_source difference_items second_is_nearer move_items difference_read whole_part vector_read tried_vectors is_copy_by unit_plan moved_choice moved_choices moved_samples block_of rebuild slice_row_read segment_row_read row_of_bytes rows_read coding_unit_read ctu_read escape_after unescape_after stream_bytes payload forbidden next_start units_within units profile_tier_level vps_front vps_back sps_formats sps_front size_fields sps_back pps_fields param_units read_size read_params coding_order neighbours is_filtered references angle inverse_angle predict coded_picture stored_picture crop scan scan_kind last_context sub_block_context sig_context greater1_context greater2_context cbf in_coding_order in_rows residual_items residual_read contexts_at cut_after substreams head_front head_middle head_bits dependent_fields segment_bits read_offsets read_head read_segment_head slice_piece split_context skip_context candidates_at coding_unit_items ctu_items source_of items_of_row moved_unit move_unit items_of_segment block_words rounds compress hash_after digest_bytes md5
head_p_2_4_back = refl

head_p_3_6 : bytes (segment_bits false 0 3 6) ≡ 0x6F ∷ []
unfolding digits_up_to u ue value_after bytes read_u read_ue_after read_alignment intra_cost pcm_cost is_copy modes_of leaf_plan choice closing put_bin code contexts_after start lps_range next row_start start_codes slice_step segment_step hash_step step read_units decode engine_start doublings renormalised context_read bypass_read terminate_read aligned samples is_done moved_units segment_piece picture_units picture_piece pieces_after pieces stream_of fields_bits read_fields hash_of_planes candidates mode_items mode_read vector_before merge predictors has_source difference_items second_is_nearer move_items difference_read whole_part vector_read tried_vectors is_copy_by unit_plan moved_choice moved_choices moved_samples block_of rebuild slice_row_read segment_row_read row_of_bytes rows_read coding_unit_read ctu_read escape_after unescape_after stream_bytes payload forbidden next_start units_within units profile_tier_level vps_front vps_back sps_formats sps_front size_fields sps_back pps_fields param_units read_size read_params coding_order neighbours is_filtered references angle inverse_angle predict coded_picture stored_picture crop scan scan_kind last_context sub_block_context sig_context greater1_context greater2_context cbf in_coding_order in_rows residual_items residual_read contexts_at cut_after substreams head_front head_middle head_bits dependent_fields segment_bits read_offsets read_head read_segment_head slice_piece split_context skip_context candidates_at coding_unit_items ctu_items source_of items_of_row moved_unit move_unit items_of_segment block_words rounds compress hash_after digest_bytes md5
head_p_3_6 = refl

head_p_3_6_back : read_segment_head (0x6F ∷ 0x46 ∷ 0xC0 ∷ []) false 3 6 ≡ Ok (0, 1)
unfolding digits_up_to u ue value_after bytes read_u read_ue_after read_alignment intra_cost pcm_cost is_copy modes_of leaf_plan choice closing put_bin code contexts_after start lps_range next row_start start_codes slice_step segment_step hash_step step read_units decode engine_start doublings renormalised context_read bypass_read terminate_read aligned samples is_done moved_units segment_piece picture_units picture_piece pieces_after pieces stream_of fields_bits read_fields hash_of_planes candidates mode_items mode_read vector_before merge predictors has_source difference_items second_is_nearer move_items difference_read whole_part vector_read tried_vectors is_copy_by unit_plan moved_choice moved_choices moved_samples block_of rebuild slice_row_read segment_row_read row_of_bytes rows_read coding_unit_read ctu_read escape_after unescape_after stream_bytes payload forbidden next_start units_within units profile_tier_level vps_front vps_back sps_formats sps_front size_fields sps_back pps_fields param_units read_size read_params coding_order neighbours is_filtered references angle inverse_angle predict coded_picture stored_picture crop scan scan_kind last_context sub_block_context sig_context greater1_context greater2_context cbf in_coding_order in_rows residual_items residual_read contexts_at cut_after substreams head_front head_middle head_bits dependent_fields segment_bits read_offsets read_head read_segment_head slice_piece split_context skip_context candidates_at coding_unit_items ctu_items source_of items_of_row moved_unit move_unit items_of_segment block_words rounds compress hash_after digest_bytes md5
head_p_3_6_back = refl

head_idr_128_8704 : bytes (segment_bits true 0 128 8704) ≡ 0x30 ∷ 0x20 ∷ 0x30 ∷ []
unfolding digits_up_to u ue value_after bytes read_u read_ue_after read_alignment intra_cost pcm_cost is_copy modes_of leaf_plan choice closing put_bin code contexts_after start lps_range next row_start start_codes slice_step segment_step hash_step step read_units decode engine_start doublings renormalised context_read bypass_read terminate_read aligned samples is_done moved_units segment_piece picture_units picture_piece pieces_after pieces stream_of fields_bits read_fields hash_of_planes candidates mode_items mode_read vector_before merge predictors has_source difference_items second_is_nearer move_items difference_read whole_part vector_read tried_vectors is_copy_by unit_plan moved_choice moved_choices moved_samples block_of rebuild slice_row_read segment_row_read row_of_bytes rows_read coding_unit_read ctu_read escape_after unescape_after stream_bytes payload forbidden next_start units_within units profile_tier_level vps_front vps_back sps_formats sps_front size_fields sps_back pps_fields param_units read_size read_params coding_order neighbours is_filtered references angle inverse_angle predict coded_picture stored_picture crop scan scan_kind last_context sub_block_context sig_context greater1_context greater2_context cbf in_coding_order in_rows residual_items residual_read contexts_at cut_after substreams head_front head_middle head_bits dependent_fields segment_bits read_offsets read_head read_segment_head slice_piece split_context skip_context candidates_at coding_unit_items ctu_items source_of items_of_row moved_unit move_unit items_of_segment block_words rounds compress hash_after digest_bytes md5
head_idr_128_8704 = refl

head_idr_128_8704_back : read_segment_head (0x30 ∷ 0x20 ∷ 0x30 ∷ 0x46 ∷ 0xC0 ∷ []) true 128 8704 ≡ Ok (0, 3)
unfolding digits_up_to u ue value_after bytes read_u read_ue_after read_alignment intra_cost pcm_cost is_copy modes_of leaf_plan choice closing put_bin code contexts_after start lps_range next row_start start_codes slice_step segment_step hash_step step read_units decode engine_start doublings renormalised context_read bypass_read terminate_read aligned samples is_done moved_units segment_piece picture_units picture_piece pieces_after pieces stream_of fields_bits read_fields hash_of_planes candidates mode_items mode_read vector_before merge predictors has_source difference_items second_is_nearer move_items difference_read whole_part vector_read tried_vectors is_copy_by unit_plan moved_choice moved_choices moved_samples block_of rebuild slice_row_read segment_row_read row_of_bytes rows_read coding_unit_read ctu_read escape_after unescape_after stream_bytes payload forbidden next_start units_within units profile_tier_level vps_front vps_back sps_formats sps_front size_fields sps_back pps_fields param_units read_size read_params coding_order neighbours is_filtered references angle inverse_angle predict coded_picture stored_picture crop scan scan_kind last_context sub_block_context sig_context greater1_context greater2_context cbf in_coding_order in_rows residual_items residual_read contexts_at cut_after substreams head_front head_middle head_bits dependent_fields segment_bits read_offsets read_head read_segment_head slice_piece split_context skip_context candidates_at coding_unit_items ctu_items source_of items_of_row moved_unit move_unit items_of_segment block_words rounds compress hash_after digest_bytes md5
head_idr_128_8704_back = refl

head_p_8576_8704 : bytes (segment_bits false 255 8576 8704) ≡ 0x70 ∷ 0xC0 ∷ 0x60 ∷ []
unfolding digits_up_to u ue value_after bytes read_u read_ue_after read_alignment intra_cost pcm_cost is_copy modes_of leaf_plan choice closing put_bin code contexts_after start lps_range next row_start start_codes slice_step segment_step hash_step step read_units decode engine_start doublings renormalised context_read bypass_read terminate_read aligned samples is_done moved_units segment_piece picture_units picture_piece pieces_after pieces stream_of fields_bits read_fields hash_of_planes candidates mode_items mode_read vector_before merge predictors has_source difference_items second_is_nearer move_items difference_read whole_part vector_read tried_vectors is_copy_by unit_plan moved_choice moved_choices moved_samples block_of rebuild slice_row_read segment_row_read row_of_bytes rows_read coding_unit_read ctu_read escape_after unescape_after stream_bytes payload forbidden next_start units_within units profile_tier_level vps_front vps_back sps_formats sps_front size_fields sps_back pps_fields param_units read_size read_params coding_order neighbours is_filtered references angle inverse_angle predict coded_picture stored_picture crop scan scan_kind last_context sub_block_context sig_context greater1_context greater2_context cbf in_coding_order in_rows residual_items residual_read contexts_at cut_after substreams head_front head_middle head_bits dependent_fields segment_bits read_offsets read_head read_segment_head slice_piece split_context skip_context candidates_at coding_unit_items ctu_items source_of items_of_row moved_unit move_unit items_of_segment block_words rounds compress hash_after digest_bytes md5
head_p_8576_8704 = refl

head_p_8576_8704_back : read_segment_head (0x70 ∷ 0xC0 ∷ 0x60 ∷ 0x46 ∷ 0xC0 ∷ []) false 8576 8704 ≡ Ok (0, 3)
unfolding digits_up_to u ue value_after bytes read_u read_ue_after read_alignment intra_cost pcm_cost is_copy modes_of leaf_plan choice closing put_bin code contexts_after start lps_range next row_start start_codes slice_step segment_step hash_step step read_units decode engine_start doublings renormalised context_read bypass_read terminate_read aligned samples is_done moved_units segment_piece picture_units picture_piece pieces_after pieces stream_of fields_bits read_fields hash_of_planes candidates mode_items mode_read vector_before merge predictors has_source difference_items second_is_nearer move_items difference_read whole_part vector_read tried_vectors is_copy_by unit_plan moved_choice moved_choices moved_samples block_of rebuild slice_row_read segment_row_read row_of_bytes rows_read coding_unit_read ctu_read escape_after unescape_after stream_bytes payload forbidden next_start units_within units profile_tier_level vps_front vps_back sps_formats sps_front size_fields sps_back pps_fields param_units read_size read_params coding_order neighbours is_filtered references angle inverse_angle predict coded_picture stored_picture crop scan scan_kind last_context sub_block_context sig_context greater1_context greater2_context cbf in_coding_order in_rows residual_items residual_read contexts_at cut_after substreams head_front head_middle head_bits dependent_fields segment_bits read_offsets read_head read_segment_head slice_piece split_context skip_context candidates_at coding_unit_items ctu_items source_of items_of_row moved_unit move_unit items_of_segment block_words rounds compress hash_after digest_bytes md5
head_p_8576_8704_back = refl

-- first_slice_segment_in_pic_flag
head_first : read_segment_head (0xBB ∷ []) true 2 4 ≡ Err 1
unfolding digits_up_to u ue value_after bytes read_u read_ue_after read_alignment intra_cost pcm_cost is_copy modes_of leaf_plan choice closing put_bin code contexts_after start lps_range next row_start start_codes slice_step segment_step hash_step step read_units decode engine_start doublings renormalised context_read bypass_read terminate_read aligned samples is_done moved_units segment_piece picture_units picture_piece pieces_after pieces stream_of fields_bits read_fields hash_of_planes candidates mode_items mode_read vector_before merge predictors has_source difference_items second_is_nearer move_items difference_read whole_part vector_read tried_vectors is_copy_by unit_plan moved_choice moved_choices moved_samples block_of rebuild slice_row_read segment_row_read row_of_bytes rows_read coding_unit_read ctu_read escape_after unescape_after stream_bytes payload forbidden next_start units_within units profile_tier_level vps_front vps_back sps_formats sps_front size_fields sps_back pps_fields param_units read_size read_params coding_order neighbours is_filtered references angle inverse_angle predict coded_picture stored_picture crop scan scan_kind last_context sub_block_context sig_context greater1_context greater2_context cbf in_coding_order in_rows residual_items residual_read contexts_at cut_after substreams head_front head_middle head_bits dependent_fields segment_bits read_offsets read_head read_segment_head slice_piece split_context skip_context candidates_at coding_unit_items ctu_items source_of items_of_row moved_unit move_unit items_of_segment block_words rounds compress hash_after digest_bytes md5
head_first = refl

-- no_output_of_prior_pics_flag
head_prior : read_segment_head (0x7B ∷ []) true 2 4 ≡ Err 2
unfolding digits_up_to u ue value_after bytes read_u read_ue_after read_alignment intra_cost pcm_cost is_copy modes_of leaf_plan choice closing put_bin code contexts_after start lps_range next row_start start_codes slice_step segment_step hash_step step read_units decode engine_start doublings renormalised context_read bypass_read terminate_read aligned samples is_done moved_units segment_piece picture_units picture_piece pieces_after pieces stream_of fields_bits read_fields hash_of_planes candidates mode_items mode_read vector_before merge predictors has_source difference_items second_is_nearer move_items difference_read whole_part vector_read tried_vectors is_copy_by unit_plan moved_choice moved_choices moved_samples block_of rebuild slice_row_read segment_row_read row_of_bytes rows_read coding_unit_read ctu_read escape_after unescape_after stream_bytes payload forbidden next_start units_within units profile_tier_level vps_front vps_back sps_formats sps_front size_fields sps_back pps_fields param_units read_size read_params coding_order neighbours is_filtered references angle inverse_angle predict coded_picture stored_picture crop scan scan_kind last_context sub_block_context sig_context greater1_context greater2_context cbf in_coding_order in_rows residual_items residual_read contexts_at cut_after substreams head_front head_middle head_bits dependent_fields segment_bits read_offsets read_head read_segment_head slice_piece split_context skip_context candidates_at coding_unit_items ctu_items source_of items_of_row moved_unit move_unit items_of_segment block_words rounds compress hash_after digest_bytes md5
head_prior = refl

-- slice_pic_parameter_set_id
head_number : read_segment_head (0x16 ∷ 0xC0 ∷ []) true 2 4 ≡ Err 3
unfolding digits_up_to u ue value_after bytes read_u read_ue_after read_alignment intra_cost pcm_cost is_copy modes_of leaf_plan choice closing put_bin code contexts_after start lps_range next row_start start_codes slice_step segment_step hash_step step read_units decode engine_start doublings renormalised context_read bypass_read terminate_read aligned samples is_done moved_units segment_piece picture_units picture_piece pieces_after pieces stream_of fields_bits read_fields hash_of_planes candidates mode_items mode_read vector_before merge predictors has_source difference_items second_is_nearer move_items difference_read whole_part vector_read tried_vectors is_copy_by unit_plan moved_choice moved_choices moved_samples block_of rebuild slice_row_read segment_row_read row_of_bytes rows_read coding_unit_read ctu_read escape_after unescape_after stream_bytes payload forbidden next_start units_within units profile_tier_level vps_front vps_back sps_formats sps_front size_fields sps_back pps_fields param_units read_size read_params coding_order neighbours is_filtered references angle inverse_angle predict coded_picture stored_picture crop scan scan_kind last_context sub_block_context sig_context greater1_context greater2_context cbf in_coding_order in_rows residual_items residual_read contexts_at cut_after substreams head_front head_middle head_bits dependent_fields segment_bits read_offsets read_head read_segment_head slice_piece split_context skip_context candidates_at coding_unit_items ctu_items source_of items_of_row moved_unit move_unit items_of_segment block_words rounds compress hash_after digest_bytes md5
head_number = refl

-- dependent_slice_segment_flag
head_dependent : read_segment_head (0x2B ∷ []) true 2 4 ≡ Err 4
unfolding digits_up_to u ue value_after bytes read_u read_ue_after read_alignment intra_cost pcm_cost is_copy modes_of leaf_plan choice closing put_bin code contexts_after start lps_range next row_start start_codes slice_step segment_step hash_step step read_units decode engine_start doublings renormalised context_read bypass_read terminate_read aligned samples is_done moved_units segment_piece picture_units picture_piece pieces_after pieces stream_of fields_bits read_fields hash_of_planes candidates mode_items mode_read vector_before merge predictors has_source difference_items second_is_nearer move_items difference_read whole_part vector_read tried_vectors is_copy_by unit_plan moved_choice moved_choices moved_samples block_of rebuild slice_row_read segment_row_read row_of_bytes rows_read coding_unit_read ctu_read escape_after unescape_after stream_bytes payload forbidden next_start units_within units profile_tier_level vps_front vps_back sps_formats sps_front size_fields sps_back pps_fields param_units read_size read_params coding_order neighbours is_filtered references angle inverse_angle predict coded_picture stored_picture crop scan scan_kind last_context sub_block_context sig_context greater1_context greater2_context cbf in_coding_order in_rows residual_items residual_read contexts_at cut_after substreams head_front head_middle head_bits dependent_fields segment_bits read_offsets read_head read_segment_head slice_piece split_context skip_context candidates_at coding_unit_items ctu_items source_of items_of_row moved_unit move_unit items_of_segment block_words rounds compress hash_after digest_bytes md5
head_dependent = refl

-- slice_segment_address
head_address : read_segment_head (0x37 ∷ []) true 2 4 ≡ Err 5
unfolding digits_up_to u ue value_after bytes read_u read_ue_after read_alignment intra_cost pcm_cost is_copy modes_of leaf_plan choice closing put_bin code contexts_after start lps_range next row_start start_codes slice_step segment_step hash_step step read_units decode engine_start doublings renormalised context_read bypass_read terminate_read aligned samples is_done moved_units segment_piece picture_units picture_piece pieces_after pieces stream_of fields_bits read_fields hash_of_planes candidates mode_items mode_read vector_before merge predictors has_source difference_items second_is_nearer move_items difference_read whole_part vector_read tried_vectors is_copy_by unit_plan moved_choice moved_choices moved_samples block_of rebuild slice_row_read segment_row_read row_of_bytes rows_read coding_unit_read ctu_read escape_after unescape_after stream_bytes payload forbidden next_start units_within units profile_tier_level vps_front vps_back sps_formats sps_front size_fields sps_back pps_fields param_units read_size read_params coding_order neighbours is_filtered references angle inverse_angle predict coded_picture stored_picture crop scan scan_kind last_context sub_block_context sig_context greater1_context greater2_context cbf in_coding_order in_rows residual_items residual_read contexts_at cut_after substreams head_front head_middle head_bits dependent_fields segment_bits read_offsets read_head read_segment_head slice_piece split_context skip_context candidates_at coding_unit_items ctu_items source_of items_of_row moved_unit move_unit items_of_segment block_words rounds compress hash_after digest_bytes md5
head_address = refl

-- num_entry_point_offsets
head_entries : read_segment_head (0x39 ∷ 0x40 ∷ []) true 2 4 ≡ Err 6
unfolding digits_up_to u ue value_after bytes read_u read_ue_after read_alignment intra_cost pcm_cost is_copy modes_of leaf_plan choice closing put_bin code contexts_after start lps_range next row_start start_codes slice_step segment_step hash_step step read_units decode engine_start doublings renormalised context_read bypass_read terminate_read aligned samples is_done moved_units segment_piece picture_units picture_piece pieces_after pieces stream_of fields_bits read_fields hash_of_planes candidates mode_items mode_read vector_before merge predictors has_source difference_items second_is_nearer move_items difference_read whole_part vector_read tried_vectors is_copy_by unit_plan moved_choice moved_choices moved_samples block_of rebuild slice_row_read segment_row_read row_of_bytes rows_read coding_unit_read ctu_read escape_after unescape_after stream_bytes payload forbidden next_start units_within units profile_tier_level vps_front vps_back sps_formats sps_front size_fields sps_back pps_fields param_units read_size read_params coding_order neighbours is_filtered references angle inverse_angle predict coded_picture stored_picture crop scan scan_kind last_context sub_block_context sig_context greater1_context greater2_context cbf in_coding_order in_rows residual_items residual_read contexts_at cut_after substreams head_front head_middle head_bits dependent_fields segment_bits read_offsets read_head read_segment_head slice_piece split_context skip_context candidates_at coding_unit_items ctu_items source_of items_of_row moved_unit move_unit items_of_segment block_words rounds compress hash_after digest_bytes md5
head_entries = refl

-- byte_alignment
head_fill : read_segment_head (0x3A ∷ 0x46 ∷ []) true 2 4 ≡ Err 7
unfolding digits_up_to u ue value_after bytes read_u read_ue_after read_alignment intra_cost pcm_cost is_copy modes_of leaf_plan choice closing put_bin code contexts_after start lps_range next row_start start_codes slice_step segment_step hash_step step read_units decode engine_start doublings renormalised context_read bypass_read terminate_read aligned samples is_done moved_units segment_piece picture_units picture_piece pieces_after pieces stream_of fields_bits read_fields hash_of_planes candidates mode_items mode_read vector_before merge predictors has_source difference_items second_is_nearer move_items difference_read whole_part vector_read tried_vectors is_copy_by unit_plan moved_choice moved_choices moved_samples block_of rebuild slice_row_read segment_row_read row_of_bytes rows_read coding_unit_read ctu_read escape_after unescape_after stream_bytes payload forbidden next_start units_within units profile_tier_level vps_front vps_back sps_formats sps_front size_fields sps_back pps_fields param_units read_size read_params coding_order neighbours is_filtered references angle inverse_angle predict coded_picture stored_picture crop scan scan_kind last_context sub_block_context sig_context greater1_context greater2_context cbf in_coding_order in_rows residual_items residual_read contexts_at cut_after substreams head_front head_middle head_bits dependent_fields segment_bits read_offsets read_head read_segment_head slice_piece split_context skip_context candidates_at coding_unit_items ctu_items source_of items_of_row moved_unit move_unit items_of_segment block_words rounds compress hash_after digest_bytes md5
head_fill = refl

-- the bits end
head_short : read_segment_head (0x38 ∷ []) true 2 4 ≡ Err 6
unfolding digits_up_to u ue value_after bytes read_u read_ue_after read_alignment intra_cost pcm_cost is_copy modes_of leaf_plan choice closing put_bin code contexts_after start lps_range next row_start start_codes slice_step segment_step hash_step step read_units decode engine_start doublings renormalised context_read bypass_read terminate_read aligned samples is_done moved_units segment_piece picture_units picture_piece pieces_after pieces stream_of fields_bits read_fields hash_of_planes candidates mode_items mode_read vector_before merge predictors has_source difference_items second_is_nearer move_items difference_read whole_part vector_read tried_vectors is_copy_by unit_plan moved_choice moved_choices moved_samples block_of rebuild slice_row_read segment_row_read row_of_bytes rows_read coding_unit_read ctu_read escape_after unescape_after stream_bytes payload forbidden next_start units_within units profile_tier_level vps_front vps_back sps_formats sps_front size_fields sps_back pps_fields param_units read_size read_params coding_order neighbours is_filtered references angle inverse_angle predict coded_picture stored_picture crop scan scan_kind last_context sub_block_context sig_context greater1_context greater2_context cbf in_coding_order in_rows residual_items residual_read contexts_at cut_after substreams head_front head_middle head_bits dependent_fields segment_bits read_offsets read_head read_segment_head slice_piece split_context skip_context candidates_at coding_unit_items ctu_items source_of items_of_row moved_unit move_unit items_of_segment block_words rounds compress hash_after digest_bytes md5
head_short = refl
