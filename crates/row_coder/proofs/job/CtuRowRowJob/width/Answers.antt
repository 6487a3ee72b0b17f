use Rattle.std.proofs.Common.{ℕ, ap, sym, ◌∙◌}
use Rattle.h265_model.specs.Plain.{Size, ctus}
use Rattle.px_plane.specs.Planes.{Planes}
use Rattle.row_coder.specs.Rows.{plan_of}
use Rattle.row_coder.proofs.job.CtuRowRowJob.width.Goals as goal

pub returns-clause-value : goal.returns-clause-value
unfolding plan_of
returns-clause-value c =
    rw (← c.self.view_is) (ap (λ (k : ℕ). ctus k) (c.w.ensures.value ∙ ap (λ (z : Size). z.w) (c.size.ensures.value ∙ ap (λ (p : Planes). p.size) c.deref.ensures)) ∙ sym c.self.invariant.trees.many)
