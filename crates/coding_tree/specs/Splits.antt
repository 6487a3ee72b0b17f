-- Whether a block is split, and what is written of that (7.3.8.4).
use Rattle.std.specs.Prelude.{◌≡◌, ℕ, ◌^◌, Bool, true, false, ◌==◌, List, [], ◌∷◌, if◌then◌else◌, MatchBool}
use Rattle.h265_model.specs.declared.block.CodingBlock.{CodingBlock}
use Rattle.h265_model.specs.declared.Item.{Item}
use Rattle.h265_model.specs.declared.leaf.Leaf.{Leaf}
use Rattle.h265_model.specs.Plain.{Size, side, context_bin}
use Rattle.h265_model.specs.Tree.{is_whole, split_context}

-- split_cu_flag, which is inferred for a side of 8 and for a block that isn't wholly in the picture
abbrev pub split_items : Size → List Leaf → CodingBlock → Bool → List Item
split_items size before block split =
    if block.log2 == 3 then []
    else if is_whole size (side block) block.x block.y then context_bin split (split_context before block) ∷ []
    else []

-- where the flag is inferred this is its value
abbrev pub MayBeSplit : Size → CodingBlock → Bool → Type 0
MayBeSplit size block split =
    MatchBool (block.log2 == 3) (split ≡ false) (is_whole size (side block) block.x block.y ≡ false → split ≡ true)
