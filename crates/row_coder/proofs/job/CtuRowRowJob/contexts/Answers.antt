use Rattle.std.specs.Arc.{arc_value}
use Rattle.row_coder.specs.Rows.{plan_of, leaves_of}
use Rattle.row_coder.proofs.RowSteps.{second_contexts}
use Rattle.row_coder.proofs.job.CtuRowRowJob.contexts.Goals as goal

pub returns : goal.returns
unfolding plan_of
returns c =
    let s = c.self.inside in
    rw (← c.self.view_is) (λ two. second_contexts (arc_value s.picture) s.kind s.number s.above.items (leaves_of s.plans.items) s.inherited s.grid s.coder s.coded c.contexts.result c.self.invariant.under_way two c.contexts.ensures)
