-- What a picture gives of each coding unit, whatever its place, side and kind.
use Rattle.std.specs.Prelude.{◌≡◌, ◌≤◌, ◌+◌, ◌%◌, ◌^◌, Bool, false, ◌&&◌, ◌==◌, nat_lt, if◌then◌else◌, replicate, pos}
use Rattle.h265_model.specs.declared.leaf.Kind.{Kind}
use Rattle.h265_model.specs.declared.leaf.Kind.TheVariants.{Skip, Pcm, Intra}
use Rattle.h265_model.specs.declared.leaf.Leaf.{Leaf}
use Rattle.h265_model.specs.Plain.{Size, Picture, coded}
use Rattle.h265_model.specs.Tree.{Source, is_whole, samples_in, levels_in}
use Rattle.h265_model.specs.Plain.{leaf_side}
use Rattle.bin_items.specs.Square.{area}

-- the unit begins at multiples of its side and lies wholly in the coded picture
abbrev pub is_placed : Size → Leaf → Bool
is_placed size leaf = leaf.block.x % leaf_side leaf == 0 && leaf.block.y % leaf_side leaf == 0 && is_whole size (leaf_side leaf) leaf.block.x leaf.block.y

-- what that says
pub record IsPlaced (size : Size) (leaf : Leaf) : Type 0 where
  pub low : 3 ≤ leaf.block.log2
  pub high : leaf.block.log2 ≤ 5
  pub column : leaf.block.x % 2 ^ leaf.block.log2 ≡ 0
  pub row : leaf.block.y % 2 ^ leaf.block.log2 ≡ 0
  pub across : leaf.block.x + 2 ^ leaf.block.log2 ≤ coded size.w
  pub down : leaf.block.y + 2 ^ leaf.block.log2 ≤ coded size.h
  pub near : leaf.block.y ≤ 4096

-- the unit has an intra mode
abbrev pub is_predicted : Kind → Bool
is_predicted Skip = false
is_predicted Pcm = false
is_predicted (Intra mode) = nat_lt mode 35

-- samples less prediction, and samples; 0 for what isn't in the picture, and levels of 0 for what isn't predicted
unfoldable pub picture_source : Size → Picture → Source
picture_source size picture = record {
  levels = λ leaf component. if is_placed size leaf && is_predicted leaf.kind then levels_in size picture leaf component else replicate (area leaf.block.log2) (pos 0);
  samples = λ leaf component. if is_placed size leaf then samples_in picture leaf component else replicate (area leaf.block.log2) 0;
}
