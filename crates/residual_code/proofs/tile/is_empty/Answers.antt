use Rattle.std.proofs.Common.{◌≡◌, ◌∙◌, ap, not, length, arith, rules}
use Rattle.std.proofs.lemmas.List.{take_all}
use Rattle.h265_model.specs.Residual.{cbf}
use Rattle.residual_code.proofs.Zeros.{any_level}
use Rattle.residual_code.proofs.Tiles.{tile_some}
use Rattle.residual_code.proofs.tile.is_empty.Goals as goal

pub returns : goal.returns
unfolding cbf
returns c = λ kind.
    let tile = c.args.tile.now in
    let long : length tile ≡ 16 = search rules in
    ap not (c.loop-level.invariant ∙ (ap any_level (take_all c.loop-level.level-index tile (omega arith)) ∙ tile_some kind tile long))
