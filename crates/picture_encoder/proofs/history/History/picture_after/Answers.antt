use Rattle.std.proofs.Common.{sym, ◌∙◌, ap, subst}
use Rattle.h265_model.specs.Plain.{Size}
use Rattle.px_plane.specs.Planes.{Planes}
use Rattle.px_plane.specs.Tiles.{IsJobOf}
use Rattle.picture_encoder.specs.Coded.{IsLaid}
use Rattle.picture_encoder.proofs.Again.{kept_laid}
use Rattle.picture_encoder.proofs.history.History.picture_after.Goals as goal

pub lay_over-requires : goal.lay_over-requires
lay_over-requires c = subst (λ (s : Size). IsJobOf s c.args.job.now) (sym c.in_ok-now.ensures.size) c.requires

pub returns-clause-size : goal.returns-clause-size
returns-clause-size c = ap (λ (p : Planes). p.size) c.in_ok-new.ensures.ok ∙ (c.lay_over.ensures.laid.size ∙ c.in_ok-now.ensures.size)

pub returns-clause-laid : goal.returns-clause-laid
returns-clause-laid c =
    subst (λ (p : Planes). IsLaid c.args.self.now.last c.args.job.now p) (sym c.in_ok-new.ensures.ok)
    (subst (λ (p : Planes). IsLaid p c.args.job.now c.lay_over.new.picture) c.in_ok-now.ensures.copy c.lay_over.ensures.laid)

pub returns-clause-kept : goal.returns-clause-kept
returns-clause-kept c = kept_laid c.args.self.now.last _ c.args.job.now (returns-clause-laid c)
