use Rattle.std.proofs.Common.{◌≡◌, ℕ, ◌+◌, ◌*◌, ◌<◌, length, get_or}
use Rattle.std.specs.Prelude.{pos}
use Rattle.h265_model.specs.Residual.{level_at}
use Rattle.residual_code.specs.Parts.{shape_of}
use Rattle.residual_code.proofs.tile.load.Given as goal

abbrev pub invariant-loop-row : goal.invariant-loop-row
invariant-loop-row l = record {
  long : length l.tile ≡ 16;
  rows : (x y : ℕ) → x < 4 → y < l.row → get_or l.tile (4 * y + x) (pos 0) ≡ level_at (shape_of l.shape) l.levels (l.x, l.y) (x, y);
}
