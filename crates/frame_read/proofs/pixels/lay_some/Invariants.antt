use Rattle.std.proofs.Common.{◌≡◌, ℕ, ◌<◌, get_or}
use Rattle.h265_model.specs.declared.rgb.Rgb.{Rgb}
use Rattle.frame_read.specs.Pixels.{colours}
use Rattle.frame_read.proofs.pixels.lay_some.Given as goal

-- the pixels before i were laid
abbrev pub invariant-loop-i : goal.invariant-loop-i
invariant-loop-i l = (k : ℕ) (d : Rgb) → k < l.i → get_or l.pixels k d ≡ get_or (colours l.bytes) k d
