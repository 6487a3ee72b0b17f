use Rattle.std.proofs.Common.{sym, subst}
use Rattle.std.specs.Arc.{arc_value}
use Rattle.picture_encoder.specs.Coded.{Coded, IsLaid}
use Rattle.picture_encoder.proofs.encoder.Encoder.keep.Goals as goal

pub keep-requires-clause-laid : goal.keep-requires-clause-laid
keep-requires-clause-laid c = subst (λ (e : Coded). IsLaid e.last c.args.job.now (arc_value c.args.now)) (sym c.self.view_is) c.requires.laid
