use Rattle.std.proofs.Common.{SFits, w16, ◌+◌, ◌*◌, get_or, pos, rules}
use Rattle.std.proofs.lemmas.Int.{to_z-of_z}
use Rattle.residual_code.proofs.tile.level_at.Goals as goal

pub returns : goal.returns
returns c =
    let v = get_or c.args.tile.now (4 * c.args.place.1 + c.args.place.0) (pos 0) in
    let fits : SFits w16 v = search rules in
    to_z-of_z w16 v fits
