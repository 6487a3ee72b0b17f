-- A coding unit with the flags of the blocks that begin with it (7.3.8.4).
use Rattle.std.specs.Prelude.{ℕ, ◌%◌, ◌^◌, Bool, ◌&&◌, ◌==◌, nat_le, nat_lt, List, [], ◌++◌, if◌then◌else◌}
use Rattle.h265_model.specs.declared.Item.{Item}
use Rattle.h265_model.specs.declared.leaf.Leaf.{Leaf}
use Rattle.h265_model.specs.declared.leaf.SliceKind.{SliceKind}
use Rattle.h265_model.specs.Plain.{block_at, Size}
use Rattle.h265_model.specs.Tree.{Source, coding_unit_items}
use Rattle.coding_tree.specs.Splits.{split_items}

-- a block of side 2 ^ log2 begins with the unit, which is no larger
abbrev pub begins : Leaf → ℕ → Bool
begins leaf log2 = nat_le leaf.block.log2 log2 && (leaf.block.x % 2 ^ log2 == 0 && leaf.block.y % 2 ^ log2 == 0)

-- the flag of that block, where there is one
unfoldable pub flag_items : Size → List Leaf → Leaf → ℕ → List Item
flag_items size before leaf log2 = if begins leaf log2 then split_items size before (block_at leaf.block.x leaf.block.y log2) (nat_lt leaf.block.log2 log2) else []

-- the flags before the unit, from that of the largest block on
unfoldable pub flags_items : Size → List Leaf → Leaf → List Item
flags_items size before leaf = flag_items size before leaf 5 ++ flag_items size before leaf 4

-- the flags and the unit
unfoldable pub unit_items : SliceKind → Size → Source → List Leaf → Leaf → List Item
unit_items kind size source before leaf = flags_items size before leaf ++ coding_unit_items kind source before leaf
