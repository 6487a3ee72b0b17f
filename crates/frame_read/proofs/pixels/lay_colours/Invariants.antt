use Rattle.std.proofs.Common.{◌≡◌, ℕ, ◌*◌, ◌<◌, get_or}
use Rattle.h265_model.specs.declared.rgb.Rgb.{Rgb}
use Rattle.frame_read.specs.Pixels.{colours}
use Rattle.frame_read.proofs.pixels.lay_colours.Given as goal

-- the pixels of the groups before k were laid
abbrev pub invariant-loop-k : goal.invariant-loop-k
invariant-loop-k l = (i : ℕ) (d : Rgb) → i < 16 * l.k → get_or l.pixels i d ≡ get_or (colours l.bytes) i d
