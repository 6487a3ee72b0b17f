use Rattle.std.proofs.Common.{rules, sym, subst}
use Rattle.px_plane.specs.Planes.{Planes, Shows}
use Rattle.h265_model.specs.Raster.{black_raster}
use Rattle.px_plane.proofs.Shown.{black_shows}
use Rattle.px_plane.proofs.picture.Picture.black.Goals as goal

pub returns-clause-value : goal.returns-clause-value
returns-clause-value c = search rules

pub returns-clause-shows : goal.returns-clause-shows
returns-clause-shows c = subst (λ (p : Planes). Shows p (black_raster p.size)) (sym (returns-clause-value c)) (black_shows c.args.size c.w.ensures.within)
