use Rattle.std.proofs.Common.{refl}
use Rattle.px_plane.proofs.Shown.{black_shows}
use Rattle.picture_encoder.proofs.history.History.new.Goals as goal

pub returns-clause-fresh : goal.returns-clause-fresh
returns-clause-fresh c = record { count = refl; last = black_shows c.args.size c.size_fits.ensures }
