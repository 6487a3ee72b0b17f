-- The parts of a coding unit (7.3.8.5).
use Rattle.std.specs.Prelude.{ℕ, Bool, true, false, ◌==◌, List, [], ◌∷◌, ◌++◌, if◌then◌else◌}
use Rattle.h265_model.specs.declared.Item.{Item}
use Rattle.h265_model.specs.declared.leaf.SliceKind.{SliceKind}
use Rattle.h265_model.specs.declared.leaf.Leaf.{Leaf}
use Rattle.h265_model.specs.Plain.{context_bin}
use Rattle.h265_model.specs.SyntaxElements.{pred_mode_flag, part_mode, intra_chroma_pred_mode, cbf_cb, cbf_cr, cbf_luma}
use Rattle.h265_model.specs.Residual.{cbf, residual_items, shape}
use Rattle.h265_model.specs.Tree.{Source, in_P, is_skipped, content_items}
use Rattle.bin_items.specs.Square.{Square}

-- part_mode, of a side of 8
abbrev pub part_items : ℕ → List Item
part_items log2 = if log2 == 3 then context_bin true part_mode ∷ [] else []

-- what follows cu_skip_flag in a unit that is no copy, and in any
abbrev pub coded_items : SliceKind → Source → List Leaf → Leaf → List Item
coded_items kind source before leaf = in_P kind (context_bin true pred_mode_flag ∷ []) ++ (part_items leaf.block.log2 ++ content_items source before leaf leaf.kind)

abbrev pub rest_items : SliceKind → Source → List Leaf → Leaf → List Item
rest_items kind source before leaf = if is_skipped leaf.kind then [] else coded_items kind source before leaf

-- intra_chroma_pred_mode, cbf_cb, cbf_cr and cbf_luma
abbrev pub coded_flags : Bool → Bool → Bool → List Item
coded_flags luma cb cr = context_bin false intra_chroma_pred_mode ∷ context_bin cb cbf_cb ∷ context_bin cr cbf_cr ∷ context_bin luma cbf_luma ∷ []

-- a component's levels under a scan
abbrev pub block_items : ℕ → ℕ → Square → List Item
block_items scan component block = if cbf block.levels then residual_items (shape component block.log2 scan) block.levels else []
