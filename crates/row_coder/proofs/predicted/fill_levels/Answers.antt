use Rattle.std.proofs.Common.{◌≡◌, ◌∙◌, rules}
use Rattle.px_plane.specs.Planes.{picture_of}
use Rattle.row_coder.proofs.Sourced.{levels_some, levels_none}
use Rattle.row_coder.proofs.predicted.fill_levels.Goals as goal

pub returns-in-Some : goal.returns-in-Some
returns-in-Some c =
    let size : c.size.result ≡ c.args.picture.now.size = c.size.ensures.value in
    levels_some c.args.picture.now.size (picture_of c.args.picture.now) c.args.leaf c.args.component _ c.fill_predicted.new.out c.in-Some.ensures.some.0
    (rw (← size) c.in-Some.ensures.some.3) c.fill_predicted.ensures.side c.fill_predicted.ensures.levels c.fill_predicted.ensures.fit

pub returns-in-None : goal.returns-in-None
returns-in-None c =
    let size : c.size.result ≡ c.args.picture.now.size = c.size.ensures.value in
    levels_none c.args.picture.now.size (picture_of c.args.picture.now) c.args.leaf c.args.component _ c.zero.result
    (rw (← size) (c.in-None.ensures.none (search rules))) (c.log2-log2.ensures.value ∙ c.requires.side) c.zero.ensures
