-- The samples of a picture from what was read of its units (8.4.1 for PCM, 8.4.4.1, 8.5.3.3 for copies, 8.6.2 for
-- cu_transquant_bypass_flag, 8.6.7).
use Rattle.std.specs.Prelude.{ℕ, ◌+◌, ◌*◌, ◌-◌, List, [], ◌∷◌, get_or, if◌then◌else◌, ℤ, pos, ◌+ℤ◌}
use Rattle.h265_model.specs.declared.leaf.Leaf.{Leaf}
use Rattle.h265_model.specs.Plain.{Size, Picture, leaf_side, covers}
use Rattle.h265_model.specs.Contexts.{clip}
use Rattle.h265_model.specs.Predict.{prediction, square}
use Rattle.h265_model.specs.Raster.{planes, blank}
use Rattle.h265_model.specs.declared.moves.Vector.{Vector}
use Rattle.h265_model.specs.Motion.{moved}
use Rattle.h265_model.specs.Tree.{ReadUnit, Content, Copied, Moved, Samples, Levels, leaf_of}

-- recSamples: predSamples and resSamples together, clipped to 8 bits (8.6.7)
abbrev pub sums : List ℕ → List ℤ → List ℕ
sums [] levels = []
sums (p ∷ predicted) [] = []
sums (p ∷ predicted) (v ∷ levels) = clip 0 255 (pos p +ℤ v) ∷ sums predicted levels

-- a picture with a block laid in (8.6.7)
abbrev pub with_block : Picture → Leaf → (ℕ → List ℕ) → Picture
with_block now leaf blocks component x y =
    if covers x y leaf then get_or (blocks component) ((y - leaf.block.y) * leaf_side leaf + (x - leaf.block.x)) 0 else now component x y

-- predSamples of a vector in whole samples: the block of a picture that it names (8.5.3.3.3.1, 8.5.3.3.3.2)
unfoldable pub moved_samples : Picture → Leaf → Vector → ℕ → List ℕ
moved_samples prev leaf v component =
    square (leaf_side leaf) (λ x y. prev component (moved (leaf.block.x + x) v.x) (moved (leaf.block.y + y) v.y))

-- the block of one component: copied (8.5.3.3), the samples read (8.4.1), or prediction and levels, which are
-- resSamples as cu_transquant_bypass_flag is 1 (8.4.4.1, 8.6.2)
unfoldable pub block_of : Size → Picture → Picture → Leaf → Content → ℕ → List ℕ
block_of size prev now leaf (Copied v) component = moved_samples prev leaf v component
block_of size prev now leaf (Moved v) component = moved_samples prev leaf v component
block_of size prev now leaf (Samples planes) component = get_or planes component []
block_of size prev now leaf (Levels mode planes) component =
    sums (prediction size now mode component leaf.block) (get_or planes component [])

-- a picture with a coding unit laid in (8.4.1, 8.5.1)
abbrev pub with_unit : Size → Picture → Picture → ReadUnit → Picture
with_unit size prev now read = with_block now (leaf_of read) (block_of size prev now (leaf_of read) read.content)

-- a picture with these units laid in, in the order of coding, each after those before it (8.1.3)
abbrev pub with_units : Size → Picture → Picture → List ReadUnit → Picture
with_units size prev now [] = now
with_units size prev now (read ∷ units) = with_units size prev (with_unit size prev now read) units

-- the sample arrays of the picture whose units were read, after the previous picture (8.1.3)
unfoldable pub rebuild : Size → Picture → List ReadUnit → List (List ℕ)
rebuild size prev units = planes size (with_units size prev blank units)
