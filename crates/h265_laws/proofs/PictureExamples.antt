-- Small pictures, computed.
use Rattle.std.proofs.Common.{◌≡◌, refl, ℕ, List, [], ◌∷◌}
use Rattle.std.specs.Prelude.{Option, Some, None, get_or, ◌+◌, ◌-◌, map, nat_lt, ◌==◌, ◌%◌, ◌&&◌, if◌then◌else◌}
use Rattle.h265_model.specs.declared.leaf.SliceKind.{SliceKind}
use Rattle.h265_model.specs.declared.leaf.SliceKind.TheVariants.{I, P}
use Rattle.h265_model.specs.declared.leaf.Leaf.{Leaf}
use Rattle.h265_model.specs.declared.leaf.Kind.{Kind}
use Rattle.h265_model.specs.declared.leaf.Kind.TheVariants.{Skip, Pcm, Intra}
use Rattle.h265_model.specs.Plain.{block_at, Size, Picture, joined}
use Rattle.h265_model.specs.Contexts.{start, lps_range, next}
use Rattle.h265_model.specs.Engine as Engine
use Rattle.h265_model.specs.Engine.{doublings, renormalised, bin, context_read, bypass_read, terminate_read, aligned, samples, is_done}
use Rattle.h265_model.specs.Code.{code, closing, put_bin}
use Rattle.h265_model.specs.Residual.{scan, scan_kind, residual_items, residual_read, cbf, in_coding_order, in_rows, last_context, sig_context, sub_block_context, greater1_context, greater2_context}
use Rattle.h265_model.specs.Modes.{candidates, mode_items, mode_read}
use Rattle.h265_model.specs.Predict.{coding_order, neighbours, is_filtered, references, angle, inverse_angle, predict}
use Rattle.h265_model.specs.Tree.{leaf_units, split_context, skip_context, candidates_at, coding_unit_items, ctu_items, source_of, items_of_row, row_items, coding_unit_read, ctu_read, ReadCtu}
use Rattle.h265_model.specs.Slice.{slice_row_read}
use Rattle.h265_model.specs.Motion.{vector_before, merge, predictors, has_source}
use Rattle.h265_model.specs.Rebuild.{moved_samples, block_of, rebuild}
use Rattle.h265_model.specs.Choice.{intra_cost, pcm_cost, is_copy, modes_of, leaf_plan, choice}
use Rattle.h265_model.specs.Bits.{bits as bits_of, ◌>>=◌ as and_then, u, digits_up_to, value_after, read_u, read_alignment}
use Rattle.h265_model.specs.Raster.{planes, blank}

abbrev size_of : ℕ → ℕ → Size
size_of w h = record { w = w; h = h }

abbrev grey : Picture
grey component x y = 128

abbrev leaf : ℕ → ℕ → ℕ → Kind → Leaf
leaf x y log2 kind = record { block = block_at x y log2; kind = kind }

pub grey_choice : choice None grey (size_of 8 8) 1 0 ≡ leaf 0 0 3 (Intra 1) ∷ []
unfolding choice leaf_plan intra_cost pcm_cost is_copy modes_of predict references is_filtered neighbours coding_order angle inverse_angle u digits_up_to value_after read_u read_alignment
grey_choice = refl

pub grey_row : code (row_items I (size_of 8 8) grey ((leaf 0 0 3 (Intra 1) ∷ []) ∷ []) 0) (start I) ≡ 0x15 ∷ 0x1D ∷ 0xC0 ∷ []
unfolding start code closing put_bin lps_range doublings next items_of_row ctu_items coding_unit_items source_of split_context skip_context candidates_at candidates mode_items cbf residual_items scan scan_kind predict references is_filtered neighbours coding_order angle inverse_angle u digits_up_to value_after read_u read_alignment
grey_row = refl

pub skip_row : code (row_items P (size_of 32 32) blank ((leaf 0 0 5 Skip ∷ []) ∷ []) 0) (start P) ≡ 0x62 ∷ 0xF0 ∷ []
unfolding start code closing put_bin lps_range doublings next items_of_row ctu_items coding_unit_items source_of split_context skip_context candidates_at candidates mode_items cbf residual_items scan scan_kind predict references is_filtered neighbours coding_order angle inverse_angle u digits_up_to value_after read_u read_alignment
skip_row = refl

-- the picture of 8x16 of which the lower half is one leaf with one level in each component
abbrev striped : Picture
striped component x y =
    if x == 3 && y == 12 then 254 else if x % 2 == 0 && nat_lt x 8 then 0 else 255

pub striped_choice : choice None striped (size_of 8 16) 1 0 ≡ leaf 0 0 3 Pcm ∷ leaf 0 8 3 (Intra 26) ∷ []
unfolding choice leaf_plan intra_cost pcm_cost is_copy modes_of predict references is_filtered neighbours coding_order angle inverse_angle u digits_up_to value_after read_u read_alignment
striped_choice = refl

-- grey from 0 to 4 along the diagonals of the right block, which mode 2 predicts without a residual from its smoothed neighbours on the left
abbrev slanted : Picture
slanted component x y =
    if nat_lt x 8 then (if nat_lt y 4 then 0 else 4)
    else get_or (0 ∷ 0 ∷ 1 ∷ 3 ∷ []) (x - 8 + y) 4

pub slanted_choice : choice None slanted (size_of 16 8) 2 0 ≡ leaf 0 0 3 Pcm ∷ leaf 8 0 3 (Intra 2) ∷ []
unfolding choice leaf_plan intra_cost pcm_cost is_copy modes_of predict references is_filtered neighbours coding_order angle inverse_angle u digits_up_to value_after read_u read_alignment
slanted_choice = refl

pub slanted_cost : leaf_plan None slanted (size_of 16 8) 2 (block_at 8 0 3) ≡ record { cost = 8; leaves = leaf 8 0 3 (Intra 2) ∷ [] }
unfolding choice leaf_plan intra_cost pcm_cost is_copy modes_of predict references is_filtered neighbours coding_order angle inverse_angle u digits_up_to value_after read_u read_alignment
slanted_cost = refl

-- what the rows of a picture of one row give when they are read
abbrev planes_read : SliceKind → Size → Picture → List ℕ → Option (List (List ℕ))
planes_read kind size prev bytes =
    and_then (Engine.start (start kind) (bits_of bytes)) (λ e.
    and_then (slice_row_read kind size 0 [] e) (λ found.
    if is_done found.1 then Some (rebuild size prev (joined (map (λ (c : ReadCtu). c.units) found.0))) else None))

pub grey_read : planes_read I (size_of 8 8) blank (0x15 ∷ 0x1D ∷ 0xC0 ∷ []) ≡ Some (planes (size_of 8 8) grey)
unfolding start Engine.start lps_range doublings next renormalised context_read bypass_read terminate_read aligned samples is_done ctu_read coding_unit_read split_context skip_context candidates_at candidates mode_read cbf residual_read in_rows scan scan_kind rebuild block_of predict references is_filtered neighbours coding_order angle inverse_angle u digits_up_to value_after read_u read_alignment vector_before merge predictors has_source moved_samples slice_row_read
grey_read = refl

pub striped_read : planes_read I (size_of 8 16) blank (code (row_items I (size_of 8 16) striped ((leaf 0 0 3 Pcm ∷ leaf 0 8 3 (Intra 26) ∷ []) ∷ []) 0) (start I)) ≡ Some (planes (size_of 8 16) striped)
unfolding start Engine.start lps_range doublings next renormalised context_read bypass_read terminate_read aligned samples is_done ctu_read coding_unit_read split_context skip_context candidates_at candidates mode_read cbf residual_read in_rows scan scan_kind rebuild block_of predict references is_filtered neighbours coding_order angle inverse_angle code closing put_bin items_of_row ctu_items coding_unit_items source_of mode_items residual_items in_coding_order last_context sig_context sub_block_context greater1_context greater2_context u digits_up_to value_after read_u read_alignment vector_before merge predictors has_source moved_samples slice_row_read
striped_read = refl
