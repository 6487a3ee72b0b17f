-- Rows of slice data with their contexts, computed.
use Rattle.std.specs.Prelude.{◌≡◌, ℕ, true, false, List, [], ◌∷◌, length, map, flat_map, Some, None, Option, option_map, refl}
use Rattle.h265_model.specs.declared.leaf.SliceKind.{SliceKind}
use Rattle.h265_model.specs.declared.leaf.SliceKind.TheVariants.{I, P}
use Rattle.h265_model.specs.declared.leaf.Leaf.{Leaf}
use Rattle.h265_model.specs.declared.leaf.Kind.TheVariants.{Pcm}
use Rattle.h265_model.specs.Plain.{block_at, joined, Size, Picture, below, ctus}
use Rattle.h265_model.specs.Settings.{Settings, plain}
use Rattle.h265_model.specs.Tree.{leaf_units, Source, coding_unit_read, ctu_read}
use Rattle.h265_model.specs.Slice.{row_code}
use Rattle.h265_model.specs.Stream.{all_leaves, row_codes, but_last}
use Rattle.h265_model.specs.Bits.{digits_up_to, u, ue, value_after, bytes, read_u, read_ue_after, read_alignment}
use Rattle.h265_model.specs.Motion.{vector_before, merge, predictors, has_source}
use Rattle.h265_model.specs.Rebuild.{moved_samples, block_of, rebuild}
use Rattle.h265_model.specs.Tree.{leaf_of}
use Rattle.h265_model.specs.Slice.{slice_read}
use Rattle.h265_model.specs.Choice.{intra_cost, pcm_cost, is_copy, modes_of, leaf_plan, choice}
use Rattle.h265_model.specs.Code.{closing, put_bin, code, contexts_after}
use Rattle.h265_model.specs.Contexts.{start, lps_range, next, row_start}
use Rattle.h265_model.specs.Decode.{slice_step, step, read_units, start_codes, decode}
use Rattle.h265_model.specs.Engine.{start as engine_start, doublings, renormalised, context_read, bypass_read, terminate_read, aligned, samples, is_done}
use Rattle.h265_model.specs.Fields.{fields_bits, read_fields}
use Rattle.h265_model.specs.Modes.{candidates, mode_items, mode_read}
use Rattle.h265_model.specs.NalUnits.{escape_after, unescape_after, stream_bytes, payload, forbidden, next_start, units_within, units}
use Rattle.h265_model.specs.ParamSets.{profile_tier_level, vps_front, vps_back, sps_formats, sps_front, size_fields, sps_back, pps_fields, param_units, read_size, read_params}
use Rattle.h265_model.specs.Predict.{coding_order, neighbours, is_filtered, references, angle, inverse_angle, predict}
use Rattle.h265_model.specs.Raster.{coded_picture, stored_picture, crop}
use Rattle.h265_model.specs.Residual.{scan, scan_kind, last_context, sub_block_context, sig_context, greater1_context, greater2_context, cbf, in_coding_order, in_rows, residual_items, residual_read}
use Rattle.h265_model.specs.Slice.{contexts_at, cut_after, substreams, slice_row_read, row_of_bytes, rows_read}
use Rattle.h265_model.specs.SliceHead.{head_front, head_middle, head_bits, read_offsets, read_head}
use Rattle.h265_model.specs.Stream.{slice_piece, picture_units, picture_piece, pieces_after, pieces, stream_of}
use Rattle.h265_model.specs.Tree.{split_context, skip_context, candidates_at, coding_unit_items, ctu_items, source_of, items_of_row}

abbrev size_of : ℕ → ℕ → Size
size_of w h = record { w = w; h = h }

abbrev settings_of : ℕ → ℕ → ℕ → ℕ → Settings
settings_of w h effort key = plain (size_of w h) effort key

-- PCM units of which the samples are left out
abbrev no_samples : Source
no_samples = record { levels = λ leaf component. []; samples = λ leaf component. [] }

abbrev pcm : ℕ → ℕ → List Leaf
pcm x y = record { block = block_at x y 5; kind = Pcm } ∷ []

abbrev bare_rows : Size → List (List Leaf) → List (List ℕ)
bare_rows size leaves = map (row_code I (leaf_units I no_samples) size leaves) (below (ctus size.h))

abbrev flat : Picture
flat component x y = 128

rows_64x64 : bare_rows (size_of 64 64) (pcm 0 0 ∷ pcm 32 0 ∷ pcm 0 32 ∷ pcm 32 32 ∷ []) ≡ (0x46 ∷ 0xC0 ∷ 0x4C ∷ 0x40 ∷ 0xFD ∷ 0x80 ∷ []) ∷ (0x52 ∷ 0xC0 ∷ 0x59 ∷ 0xC0 ∷ 0xFE ∷ 0x80 ∷ []) ∷ []
unfolding digits_up_to u ue value_after bytes read_u read_ue_after read_alignment intra_cost pcm_cost is_copy modes_of leaf_plan choice closing put_bin code contexts_after start lps_range next row_start slice_step step read_units start_codes decode engine_start doublings renormalised context_read bypass_read terminate_read aligned samples is_done fields_bits read_fields candidates mode_items mode_read escape_after unescape_after stream_bytes payload forbidden next_start units_within units profile_tier_level vps_front vps_back sps_formats sps_front size_fields sps_back pps_fields param_units read_size read_params coding_order neighbours is_filtered references angle inverse_angle predict coded_picture stored_picture crop block_of rebuild scan scan_kind last_context sub_block_context sig_context greater1_context greater2_context cbf in_coding_order in_rows residual_items residual_read contexts_at cut_after substreams slice_row_read row_of_bytes rows_read head_front head_middle head_bits read_offsets read_head slice_piece picture_units picture_piece pieces_after pieces stream_of split_context skip_context candidates_at coding_unit_items ctu_items source_of items_of_row coding_unit_read ctu_read vector_before merge predictors has_source moved_samples
rows_64x64 = refl

rows_96x64 : bare_rows (size_of 96 64) (pcm 0 0 ∷ pcm 32 0 ∷ pcm 64 0 ∷ pcm 0 32 ∷ pcm 32 32 ∷ pcm 64 32 ∷ []) ≡ (0x46 ∷ 0xC0 ∷ 0x4C ∷ 0x40 ∷ 0x51 ∷ 0xC0 ∷ 0xFD ∷ 0x80 ∷ []) ∷ (0x52 ∷ 0xC0 ∷ 0x59 ∷ 0xC0 ∷ 0x62 ∷ 0x40 ∷ 0xFE ∷ 0x80 ∷ []) ∷ []
unfolding digits_up_to u ue value_after bytes read_u read_ue_after read_alignment intra_cost pcm_cost is_copy modes_of leaf_plan choice closing put_bin code contexts_after start lps_range next row_start slice_step step read_units start_codes decode engine_start doublings renormalised context_read bypass_read terminate_read aligned samples is_done fields_bits read_fields candidates mode_items mode_read escape_after unescape_after stream_bytes payload forbidden next_start units_within units profile_tier_level vps_front vps_back sps_formats sps_front size_fields sps_back pps_fields param_units read_size read_params coding_order neighbours is_filtered references angle inverse_angle predict coded_picture stored_picture crop block_of rebuild scan scan_kind last_context sub_block_context sig_context greater1_context greater2_context cbf in_coding_order in_rows residual_items residual_read contexts_at cut_after substreams slice_row_read row_of_bytes rows_read head_front head_middle head_bits read_offsets read_head slice_piece picture_units picture_piece pieces_after pieces stream_of split_context skip_context candidates_at coding_unit_items ctu_items source_of items_of_row coding_unit_read ctu_read vector_before merge predictors has_source moved_samples
rows_96x64 = refl

rows_32x96 : bare_rows (size_of 32 96) (pcm 0 0 ∷ pcm 0 32 ∷ pcm 0 64 ∷ []) ≡ (0x46 ∷ 0xC0 ∷ 0xFD ∷ 0x80 ∷ []) ∷ (0x46 ∷ 0xC0 ∷ 0xFD ∷ 0x80 ∷ []) ∷ (0x46 ∷ 0xC0 ∷ 0xFE ∷ 0x80 ∷ []) ∷ []
unfolding digits_up_to u ue value_after bytes read_u read_ue_after read_alignment intra_cost pcm_cost is_copy modes_of leaf_plan choice closing put_bin code contexts_after start lps_range next row_start slice_step step read_units start_codes decode engine_start doublings renormalised context_read bypass_read terminate_read aligned samples is_done fields_bits read_fields candidates mode_items mode_read escape_after unescape_after stream_bytes payload forbidden next_start units_within units profile_tier_level vps_front vps_back sps_formats sps_front size_fields sps_back pps_fields param_units read_size read_params coding_order neighbours is_filtered references angle inverse_angle predict coded_picture stored_picture crop block_of rebuild scan scan_kind last_context sub_block_context sig_context greater1_context greater2_context cbf in_coding_order in_rows residual_items residual_read contexts_at cut_after substreams slice_row_read row_of_bytes rows_read head_front head_middle head_bits read_offsets read_head slice_piece picture_units picture_piece pieces_after pieces stream_of split_context skip_context candidates_at coding_unit_items ctu_items source_of items_of_row coding_unit_read ctu_read vector_before merge predictors has_source moved_samples
rows_32x96 = refl

-- rows that are written and read back
abbrev read_rows_back : SliceKind → Size → List (List ℕ) → Option (List Leaf)
read_rows_back kind size rows = option_map (map leaf_of) (slice_read kind size (map length (but_last rows)) (flat_map (λ row. row) rows))

copied_back : read_rows_back P (size_of 64 64) (row_codes (settings_of 64 64 0 0) false (Some flat) flat) ≡ Some (joined (all_leaves (settings_of 64 64 0 0) (Some flat) flat))
unfolding digits_up_to u ue value_after bytes read_u read_ue_after read_alignment intra_cost pcm_cost is_copy modes_of leaf_plan choice closing put_bin code contexts_after start lps_range next row_start slice_step step read_units start_codes decode engine_start doublings renormalised context_read bypass_read terminate_read aligned samples is_done fields_bits read_fields candidates mode_items mode_read escape_after unescape_after stream_bytes payload forbidden next_start units_within units profile_tier_level vps_front vps_back sps_formats sps_front size_fields sps_back pps_fields param_units read_size read_params coding_order neighbours is_filtered references angle inverse_angle predict coded_picture stored_picture crop block_of rebuild scan scan_kind last_context sub_block_context sig_context greater1_context greater2_context cbf in_coding_order in_rows residual_items residual_read contexts_at cut_after substreams slice_row_read row_of_bytes rows_read head_front head_middle head_bits read_offsets read_head slice_piece picture_units picture_piece pieces_after pieces stream_of split_context skip_context candidates_at coding_unit_items ctu_items source_of items_of_row coding_unit_read ctu_read vector_before merge predictors has_source moved_samples
copied_back = refl

-- a flat picture of two rows of two coding tree units
flat_back : read_rows_back I (size_of 40 40) (row_codes (settings_of 40 40 1 1) true None flat) ≡ Some (joined (all_leaves (settings_of 40 40 1 1) None flat))
unfolding digits_up_to u ue value_after bytes read_u read_ue_after read_alignment intra_cost pcm_cost is_copy modes_of leaf_plan choice closing put_bin code contexts_after start lps_range next row_start slice_step step read_units start_codes decode engine_start doublings renormalised context_read bypass_read terminate_read aligned samples is_done fields_bits read_fields candidates mode_items mode_read escape_after unescape_after stream_bytes payload forbidden next_start units_within units profile_tier_level vps_front vps_back sps_formats sps_front size_fields sps_back pps_fields param_units read_size read_params coding_order neighbours is_filtered references angle inverse_angle predict coded_picture stored_picture crop block_of rebuild scan scan_kind last_context sub_block_context sig_context greater1_context greater2_context cbf in_coding_order in_rows residual_items residual_read contexts_at cut_after substreams slice_row_read row_of_bytes rows_read head_front head_middle head_bits read_offsets read_head slice_piece picture_units picture_piece pieces_after pieces stream_of split_context skip_context candidates_at coding_unit_items ctu_items source_of items_of_row coding_unit_read ctu_read vector_before merge predictors has_source moved_samples
flat_back = refl
