-- Blocks of a coding tree, as they are read.
use Rattle.std.specs.Prelude.{◌≤◌, ℕ, zero, suc, ◌+◌, ◌*◌, ◌^◌, Bool, true, false, not, List, if◌then◌else◌}
use Rattle.h265_model.specs.declared.Place.TheVariants.{Context}
use Rattle.h265_model.specs.declared.leaf.Leaf.{Leaf}
use Rattle.h265_model.specs.Plain.{block_at, Size, coded}
use Rattle.h265_model.specs.Engine.{Reader, give, bin}
use Rattle.h265_model.specs.Tree.{is_whole, split_context}

-- split_cu_flag of a block of side 2 ^ (3 + depth) in the picture, read or inferred (7.3.8.4)
unfoldable pub split_read : Size → List Leaf → ℕ → ℕ → ℕ → Reader Bool
split_read size leaves zero x y = give false
split_read size leaves (suc depth) x y =
    if not (is_whole size (2 * 2 ^ (3 + depth)) x y) then give true else bin (Context (split_context leaves (block_at x y (4 + depth))))

-- a block of this side lies wholly in the coded picture
pub record IsWhole (size : Size) (log2 x y : ℕ) : Type 0 where
  pub across : x + 2 ^ log2 ≤ coded size.w
  pub down : y + 2 ^ log2 ≤ coded size.h
