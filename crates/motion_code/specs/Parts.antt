-- The parts of a vector difference (7.3.8.9).
use Rattle.std.specs.Prelude.{ℕ, zero, suc, ◌≤◌, nat_abs, nat_lt, Bool, false, true, List, [], ◌∷◌, ◌++◌}
use Rattle.h265_model.specs.declared.Item.{Item}
use Rattle.h265_model.specs.declared.moves.Vector.{Vector}
use Rattle.h265_model.specs.declared.block.CodingBlock.{CodingBlock}
use Rattle.h265_model.specs.Plain.{context_bin, bypass_bin}
use Rattle.h265_model.specs.SyntaxElements.{cu_transquant_bypass_flag, pred_mode_flag, part_mode, abs_mvd_greater0_flag, mvp_l0_flag, rqt_root_cbf}
use Rattle.h265_model.specs.Binarise.{eg, bypass_bins}
use Rattle.h265_model.specs.Motion.{Moving, leaves, greater1_of, part_items}
use Rattle.h265_model.specs.Tree.{skip_context}

-- abs_mvd_minus2, of a size above 1
abbrev pub rest_items : ℕ → List Item
rest_items zero = []
rest_items (suc zero) = []
rest_items (suc (suc n)) = bypass_bins (eg 1 n)

-- mvd_sign_flag, of a size above 0
abbrev pub sign_items : ℕ → Bool → List Item
sign_items zero negative = []
sign_items (suc n) negative = bypass_bin negative ∷ []

-- abs_mvd_greater0_flag of both parts
abbrev pub greater0_items : Vector → List Item
greater0_items d = context_bin (nat_lt 0 (nat_abs d.x)) abs_mvd_greater0_flag ∷ context_bin (nat_lt 0 (nat_abs d.y)) abs_mvd_greater0_flag ∷ []

-- abs_mvd_greater1_flag of both parts, and what is left of each
abbrev pub part_flags : Vector → List Item
part_flags d = greater1_of (nat_abs d.x) ++ greater1_of (nat_abs d.y)

abbrev pub both_parts : Vector → List Item
both_parts d = part_items d.x ++ part_items d.y

-- a part of a difference that has a code
abbrev pub IsCodable : Vector → Type 0
IsCodable d = (nat_abs d.x ≤ 32760) × (nat_abs d.y ≤ 32760)

-- a moved unit up to part_mode
abbrev pub moved_front : List Moving → CodingBlock → List Item
moved_front before block =
    context_bin true cu_transquant_bypass_flag
    ∷ context_bin false (skip_context (leaves before) block.x block.y)
    ∷ context_bin false pred_mode_flag
    ∷ context_bin true part_mode
    ∷ []

-- mvp_l0_flag and rqt_root_cbf
abbrev pub moved_end : Bool → List Item
moved_end second = context_bin second mvp_l0_flag ∷ context_bin false rqt_root_cbf ∷ []
