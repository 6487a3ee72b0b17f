use Rattle.std.proofs.Common.{subst}
use Rattle.px_plane.specs.Planes.{Planes}
use Rattle.picture_encoder.specs.Coded.{IsLaid}
use Rattle.picture_encoder.proofs.before.Before.next.Goals as goal

pub returns : goal.returns
returns c = subst (λ (p : Planes). IsLaid p c.args.self.job c.lay_over.new.picture) c.in-Ok.ensures.ok c.lay_over.ensures.laid
