-- Streams of small pictures, computed.
use Rattle.std.specs.Prelude.{◌≡◌, ℕ, ◌%◌, ◌==◌, ◌&&◌, if◌then◌else◌, [], ◌∷◌, length, replicate, drop, Ok, None, refl}
use Rattle.h265_model.specs.declared.leaf.Kind.TheVariants.{Pcm, Intra}
use Rattle.h265_model.specs.Plain.{block_at, Size, place_values}
use Rattle.h265_model.specs.declared.rgb.Rgb.{Rgb}
use Rattle.h265_model.specs.Settings.{Settings, plain}
use Rattle.h265_model.specs.Bits.{digits_up_to, u, ue, value_after, bytes, read_u, read_ue_after, read_alignment}
use Rattle.h265_model.specs.Motion.{vector_before, merge, predictors, has_source}
use Rattle.h265_model.specs.Rebuild.{moved_samples, block_of, rebuild}
use Rattle.h265_model.specs.Choice.{intra_cost, pcm_cost, is_copy, modes_of, leaf_plan, choice}
use Rattle.h265_model.specs.Code.{closing, put_bin, code, contexts_after}
use Rattle.h265_model.specs.Contexts.{start, lps_range, next, row_start}
use Rattle.h265_model.specs.Decode.{slice_step, step, read_units, start_codes, decode}
use Rattle.h265_model.specs.Engine.{start as engine_start, doublings, renormalised, context_read, bypass_read, terminate_read, aligned, samples, is_done}
use Rattle.h265_model.specs.Fields.{fields_bits, read_fields}
use Rattle.h265_model.specs.Modes.{candidates, mode_items, mode_read}
use Rattle.h265_model.specs.NalUnits.{escape_after, unescape_after, stream_bytes, payload, forbidden, next_start, units_within, units}
use Rattle.h265_model.specs.ParamSets.{profile_tier_level, vps_front, vps_back, sps_formats, sps_front, size_fields, sps_back, pps_fields, param_units, read_size, read_params}
use Rattle.h265_model.specs.Predict.{coding_order, neighbours, is_filtered, references, angle, inverse_angle, predict}
use Rattle.h265_model.specs.Raster.{Raster, black_raster, coded_picture, stored_picture, crop}
use Rattle.h265_model.specs.Residual.{scan, scan_kind, last_context, sub_block_context, sig_context, greater1_context, greater2_context, cbf, in_coding_order, in_rows, residual_items, residual_read}
use Rattle.h265_model.specs.Slice.{contexts_at, cut_after, substreams, slice_row_read, row_of_bytes, rows_read}
use Rattle.h265_model.specs.SliceHead.{head_front, head_middle, head_bits, read_offsets, read_head}
use Rattle.h265_model.specs.Stream.{slice_piece, picture_units, picture_piece, pieces_after, pieces, stream_of}
use Rattle.h265_model.specs.Tree.{leaf_units, split_context, skip_context, candidates_at, coding_unit_items, ctu_items, source_of, items_of_row, coding_unit_read, ctu_read}

abbrev size_of : ℕ → ℕ → Size
size_of w h = record { w = w; h = h }

abbrev settings_of : ℕ → ℕ → ℕ → ℕ → Settings
settings_of w h effort key = plain (size_of w h) effort key

abbrev rgb : ℕ → ℕ → ℕ → Rgb
rgb r g b = record { r = r; g = g; b = b }

-- one leaf of mode 1 without a residual
grey_8x8 : drop 1 (pieces (settings_of 8 8 1 1) (replicate 64 (rgb 128 128 128) ∷ [])) ≡ (0x00 ∷ 0x00 ∷ 0x00 ∷ 0x01 ∷ 0x28 ∷ 0x01 ∷ 0xAF ∷ 0x80 ∷ 0x15 ∷ 0x1D ∷ 0xC0 ∷ []) ∷ []
unfolding digits_up_to u ue value_after bytes read_u read_ue_after read_alignment intra_cost pcm_cost is_copy modes_of leaf_plan choice closing put_bin code contexts_after start lps_range next row_start slice_step step read_units start_codes decode engine_start doublings renormalised context_read bypass_read terminate_read aligned samples is_done fields_bits read_fields candidates mode_items mode_read escape_after unescape_after stream_bytes payload forbidden next_start units_within units profile_tier_level vps_front vps_back sps_formats sps_front size_fields sps_back pps_fields param_units read_size read_params coding_order neighbours is_filtered references angle inverse_angle predict coded_picture stored_picture crop block_of rebuild scan scan_kind last_context sub_block_context sig_context greater1_context greater2_context cbf in_coding_order in_rows residual_items residual_read contexts_at cut_after substreams slice_row_read row_of_bytes rows_read head_front head_middle head_bits read_offsets read_head slice_piece picture_units picture_piece pieces_after pieces stream_of split_context skip_context candidates_at coding_unit_items ctu_items source_of items_of_row coding_unit_read ctu_read vector_before merge predictors has_source moved_samples
grey_8x8 = refl

grey_8x8_back : decode (stream_of (settings_of 8 8 1 1) (replicate 64 (rgb 128 128 128) ∷ [])) ≡ Ok (size_of 8 8, replicate 64 (rgb 128 128 128) ∷ [])
unfolding digits_up_to u ue value_after bytes read_u read_ue_after read_alignment intra_cost pcm_cost is_copy modes_of leaf_plan choice closing put_bin code contexts_after start lps_range next row_start slice_step step read_units start_codes decode engine_start doublings renormalised context_read bypass_read terminate_read aligned samples is_done fields_bits read_fields candidates mode_items mode_read escape_after unescape_after stream_bytes payload forbidden next_start units_within units profile_tier_level vps_front vps_back sps_formats sps_front size_fields sps_back pps_fields param_units read_size read_params coding_order neighbours is_filtered references angle inverse_angle predict coded_picture stored_picture crop block_of rebuild scan scan_kind last_context sub_block_context sig_context greater1_context greater2_context cbf in_coding_order in_rows residual_items residual_read contexts_at cut_after substreams slice_row_read row_of_bytes rows_read head_front head_middle head_bits read_offsets read_head slice_piece picture_units picture_piece pieces_after pieces stream_of split_context skip_context candidates_at coding_unit_items ctu_items source_of items_of_row coding_unit_read ctu_read vector_before merge predictors has_source moved_samples
grey_8x8_back = refl

-- PCM is cheaper
black_8x8 : length (stream_of (settings_of 8 8 1 1) (replicate 64 (rgb 0 0 0) ∷ [])) ≡ 372
unfolding digits_up_to u ue value_after bytes read_u read_ue_after read_alignment intra_cost pcm_cost is_copy modes_of leaf_plan choice closing put_bin code contexts_after start lps_range next row_start slice_step step read_units start_codes decode engine_start doublings renormalised context_read bypass_read terminate_read aligned samples is_done fields_bits read_fields candidates mode_items mode_read escape_after unescape_after stream_bytes payload forbidden next_start units_within units profile_tier_level vps_front vps_back sps_formats sps_front size_fields sps_back pps_fields param_units read_size read_params coding_order neighbours is_filtered references angle inverse_angle predict coded_picture stored_picture crop block_of rebuild scan scan_kind last_context sub_block_context sig_context greater1_context greater2_context cbf in_coding_order in_rows residual_items residual_read contexts_at cut_after substreams slice_row_read row_of_bytes rows_read head_front head_middle head_bits read_offsets read_head slice_piece picture_units picture_piece pieces_after pieces stream_of split_context skip_context candidates_at coding_unit_items ctu_items source_of items_of_row coding_unit_read ctu_read vector_before merge predictors has_source moved_samples
black_8x8 = refl

-- an IDR picture, a copy of it, and a P picture with samples of its own
three_8x8_back : decode (stream_of (settings_of 8 8 0 0) (replicate 64 (rgb 0 0 0) ∷ replicate 64 (rgb 0 0 0) ∷ replicate 64 (rgb 9 0 7) ∷ [])) ≡ Ok (size_of 8 8, replicate 64 (rgb 0 0 0) ∷ replicate 64 (rgb 0 0 0) ∷ replicate 64 (rgb 9 0 7) ∷ [])
unfolding digits_up_to u ue value_after bytes read_u read_ue_after read_alignment intra_cost pcm_cost is_copy modes_of leaf_plan choice closing put_bin code contexts_after start lps_range next row_start slice_step step read_units start_codes decode engine_start doublings renormalised context_read bypass_read terminate_read aligned samples is_done fields_bits read_fields candidates mode_items mode_read escape_after unescape_after stream_bytes payload forbidden next_start units_within units profile_tier_level vps_front vps_back sps_formats sps_front size_fields sps_back pps_fields param_units read_size read_params coding_order neighbours is_filtered references angle inverse_angle predict coded_picture stored_picture crop block_of rebuild scan scan_kind last_context sub_block_context sig_context greater1_context greater2_context cbf in_coding_order in_rows residual_items residual_read contexts_at cut_after substreams slice_row_read row_of_bytes rows_read head_front head_middle head_bits read_offsets read_head slice_piece picture_units picture_piece pieces_after pieces stream_of split_context skip_context candidates_at coding_unit_items ctu_items source_of items_of_row coding_unit_read ctu_read vector_before merge predictors has_source moved_samples
three_8x8_back = refl

-- the leaves of a picture whose sides are no multiples of 8
leaves_33x17 : choice None (coded_picture (size_of 33 17) (black_raster (size_of 33 17))) (size_of 33 17) 0 0 ≡ record { block = block_at 0 0 4; kind = Pcm } ∷ record { block = block_at 16 0 4; kind = Pcm } ∷ record { block = block_at 0 16 3; kind = Pcm } ∷ record { block = block_at 8 16 3; kind = Pcm } ∷ record { block = block_at 16 16 3; kind = Pcm } ∷ record { block = block_at 24 16 3; kind = Pcm } ∷ []
unfolding digits_up_to u ue value_after bytes read_u read_ue_after read_alignment intra_cost pcm_cost is_copy modes_of leaf_plan choice closing put_bin code contexts_after start lps_range next row_start slice_step step read_units start_codes decode engine_start doublings renormalised context_read bypass_read terminate_read aligned samples is_done fields_bits read_fields candidates mode_items mode_read escape_after unescape_after stream_bytes payload forbidden next_start units_within units profile_tier_level vps_front vps_back sps_formats sps_front size_fields sps_back pps_fields param_units read_size read_params coding_order neighbours is_filtered references angle inverse_angle predict coded_picture stored_picture crop block_of rebuild scan scan_kind last_context sub_block_context sig_context greater1_context greater2_context cbf in_coding_order in_rows residual_items residual_read contexts_at cut_after substreams slice_row_read row_of_bytes rows_read head_front head_middle head_bits read_offsets read_head slice_piece picture_units picture_piece pieces_after pieces stream_of split_context skip_context candidates_at coding_unit_items ctu_items source_of items_of_row coding_unit_read ctu_read vector_before merge predictors has_source moved_samples
leaves_33x17 = refl

leaves_33x17_right : choice None (coded_picture (size_of 33 17) (black_raster (size_of 33 17))) (size_of 33 17) 0 1 ≡ record { block = block_at 32 0 3; kind = Pcm } ∷ record { block = block_at 32 8 3; kind = Pcm } ∷ record { block = block_at 32 16 3; kind = Pcm } ∷ []
unfolding digits_up_to u ue value_after bytes read_u read_ue_after read_alignment intra_cost pcm_cost is_copy modes_of leaf_plan choice closing put_bin code contexts_after start lps_range next row_start slice_step step read_units start_codes decode engine_start doublings renormalised context_read bypass_read terminate_read aligned samples is_done fields_bits read_fields candidates mode_items mode_read escape_after unescape_after stream_bytes payload forbidden next_start units_within units profile_tier_level vps_front vps_back sps_formats sps_front size_fields sps_back pps_fields param_units read_size read_params coding_order neighbours is_filtered references angle inverse_angle predict coded_picture stored_picture crop block_of rebuild scan scan_kind last_context sub_block_context sig_context greater1_context greater2_context cbf in_coding_order in_rows residual_items residual_read contexts_at cut_after substreams slice_row_read row_of_bytes rows_read head_front head_middle head_bits read_offsets read_head slice_piece picture_units picture_piece pieces_after pieces stream_of split_context skip_context candidates_at coding_unit_items ctu_items source_of items_of_row coding_unit_read ctu_read vector_before merge predictors has_source moved_samples
leaves_33x17_right = refl

-- stripes, with one level of -1
abbrev stripes : Raster
stripes = place_values 8 16 (λ x y. if x == 3 && y == 12 then rgb 254 254 254 else (if x % 2 == 0 then rgb 0 0 0 else rgb 255 255 255))

leaves_8x16 : choice None (coded_picture (size_of 8 16) stripes) (size_of 8 16) 1 0 ≡ record { block = block_at 0 0 3; kind = Pcm } ∷ record { block = block_at 0 8 3; kind = Intra 26 } ∷ []
unfolding digits_up_to u ue value_after bytes read_u read_ue_after read_alignment intra_cost pcm_cost is_copy modes_of leaf_plan choice closing put_bin code contexts_after start lps_range next row_start slice_step step read_units start_codes decode engine_start doublings renormalised context_read bypass_read terminate_read aligned samples is_done fields_bits read_fields candidates mode_items mode_read escape_after unescape_after stream_bytes payload forbidden next_start units_within units profile_tier_level vps_front vps_back sps_formats sps_front size_fields sps_back pps_fields param_units read_size read_params coding_order neighbours is_filtered references angle inverse_angle predict coded_picture stored_picture crop block_of rebuild scan scan_kind last_context sub_block_context sig_context greater1_context greater2_context cbf in_coding_order in_rows residual_items residual_read contexts_at cut_after substreams slice_row_read row_of_bytes rows_read head_front head_middle head_bits read_offsets read_head slice_piece picture_units picture_piece pieces_after pieces stream_of split_context skip_context candidates_at coding_unit_items ctu_items source_of items_of_row coding_unit_read ctu_read vector_before merge predictors has_source moved_samples
leaves_8x16 = refl

stripes_back : decode (stream_of (settings_of 8 16 1 1) (stripes ∷ [])) ≡ Ok (size_of 8 16, stripes ∷ [])
unfolding digits_up_to u ue value_after bytes read_u read_ue_after read_alignment intra_cost pcm_cost is_copy modes_of leaf_plan choice closing put_bin code contexts_after start lps_range next row_start slice_step step read_units start_codes decode engine_start doublings renormalised context_read bypass_read terminate_read aligned samples is_done fields_bits read_fields candidates mode_items mode_read escape_after unescape_after stream_bytes payload forbidden next_start units_within units profile_tier_level vps_front vps_back sps_formats sps_front size_fields sps_back pps_fields param_units read_size read_params coding_order neighbours is_filtered references angle inverse_angle predict coded_picture stored_picture crop block_of rebuild scan scan_kind last_context sub_block_context sig_context greater1_context greater2_context cbf in_coding_order in_rows residual_items residual_read contexts_at cut_after substreams slice_row_read row_of_bytes rows_read head_front head_middle head_bits read_offsets read_head slice_piece picture_units picture_piece pieces_after pieces stream_of split_context skip_context candidates_at coding_unit_items ctu_items source_of items_of_row coding_unit_read ctu_read vector_before merge predictors has_source moved_samples
stripes_back = refl
