-- Plain data that the definitions share.
use Rattle.std.specs.Prelude.{ℕ, ◌+◌, ◌*◌, ◌/◌, ◌^◌, Bool, ◌&&◌, List, map, flat_map, nat_le, nat_lt, ◌<◌, ◌%◌}
use Rattle.std.specs.List.{range_with_len, AllByRecursion}
use Rattle.h265_model.specs.declared.Item.{Item}
use Rattle.h265_model.specs.declared.Place.TheVariants.{Context, Bypass, Terminate}
use Rattle.h265_model.specs.declared.Item.TheVariants as items
use Rattle.h265_model.specs.declared.block.CodingBlock.{CodingBlock}
use Rattle.h265_model.specs.declared.leaf.Kind.{Kind}
use Rattle.h265_model.specs.declared.leaf.Leaf.{Leaf}

-- the width and height of the desktop, which the conformance window shows (7.4.3.2.1)
pub record Size : Type 0 where
  pub w : ℕ
  pub h : ℕ

-- pic_width_in_luma_samples or pic_height_in_luma_samples: a side rounded up to whole blocks of MinCbSizeY, which is
-- 8 (7.4.3.2.1)
abbrev pub coded : ℕ → ℕ
coded n = (n + 7) / 8 * 8

-- PicWidthInCtbsY or PicHeightInCtbsY: how many coding tree blocks of 32 cover a side (7.4.3.2.1)
abbrev pub ctus : ℕ → ℕ
ctus n = (n + 31) / 32

-- the left of a coding tree block, by its number in raster scan from the top left (6.5.1, 7.3.8.2)
abbrev pub ctu_x : Size → ℕ → ℕ
ctu_x size ctu = ctu % ctus size.w * 32

-- the top of a coding tree block, by its number in raster scan from the top left (6.5.1, 7.3.8.2)
abbrev pub ctu_y : Size → ℕ → ℕ
ctu_y size ctu = ctu / ctus size.w * 32

-- the sample arrays of a picture: the sample of a component at x and y (6.2)
abbrev pub Picture : Type 0
Picture = ℕ → ℕ → ℕ → ℕ

-- the numbers below n (plain)
abbrev pub below : ℕ → List ℕ
below n = range_with_len 0 n

-- what f says of each place of a row (plain)
abbrev pub row_values : {A : Type 0} → ℕ → (ℕ → A) → List A
row_values w f = map f (below w)

-- what f says of each place of a w by h rectangle, in rows from the top (plain)
abbrev pub place_values : {A : Type 0} → ℕ → ℕ → (ℕ → ℕ → A) → List A
place_values w h f = flat_map (λ y. row_values w (λ x. f x y)) (below h)

-- lists one after another (plain)
abbrev pub joined : {A : Type 0} → List (List A) → List A
joined lists = flat_map (λ list. list) lists

-- a bin under a context: DecodeDecision (9.3.4.3.2)
abbrev pub context_bin : Bool → ℕ → Item
context_bin value number = items.Bin (record { value = value; place = Context number })

-- a bin without a context: DecodeBypass (9.3.4.3.4)
abbrev pub bypass_bin : Bool → Item
bypass_bin value = items.Bin (record { value = value; place = Bypass })

-- a bin that may end a run: DecodeTerminate (9.3.4.3.5)
abbrev pub terminate_bin : Bool → Item
terminate_bin value = items.Bin (record { value = value; place = Terminate })

-- the coding block of side 2 ^ log2 at (x, y) (7.3.8.5)
abbrev pub block_at : ℕ → ℕ → ℕ → CodingBlock
block_at x y log2 = record { x = x; y = y; log2 = log2 }

-- nCbS, the side of a coding block (7.3.8.5)
abbrev pub side : CodingBlock → ℕ
side block = 2 ^ block.log2

-- a coding unit of this block and kind (7.3.8.5)
abbrev pub leaf_with : CodingBlock → Kind → Leaf
leaf_with block kind = record { block = block; kind = kind }

-- nCbS of a coding unit (7.3.8.5)
abbrev pub leaf_side : Leaf → ℕ
leaf_side leaf = side leaf.block

-- a place lies in the block of a coding unit (plain)
abbrev pub covers : ℕ → ℕ → Leaf → Bool
covers x y leaf =
    nat_le leaf.block.x x && nat_lt x (leaf.block.x + leaf_side leaf) && nat_le leaf.block.y y && nat_lt y (leaf.block.y + leaf_side leaf)

-- a picture whose samples are bytes, as BitDepthY and BitDepthC of 8 have it (6.2, 7.4.3.2.1)
pub record IsPicture (picture : Picture) : Type 0 where
  pub each : (component x y : ℕ) → picture component x y < 256

-- bytes (plain)
abbrev pub AreBytes : List ℕ → Type 0
AreBytes list = AllByRecursion (λ b. b < 256) list
