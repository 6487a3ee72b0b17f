use Rattle.desk_state.proofs.Jobs.{cut_after}
use Rattle.desk_state.proofs.replay.Replay.cut.Goals as goal
use Rattle.std.proofs.Common.{◌∷◌, ◌++◌, [], ap, ◌∙◌}

pub returns-clause-accepted : goal.returns-clause-accepted
returns-clause-accepted c = λ lines taken most is.
    cut_after lines taken c.args.self.now.surface c.cut_job.new.self c.args.self.now.jobs.items c.push_back_reserved.new.self.items c.args.self.now.cuts c.in_ok-job.job most
    c.in_ok-job.ensures.shown c.in_ok-job.ensures.lowered
    (c.push_back_reserved.ensures.items ∙ ap (λ l. l ++ c.in_ok-job.job ∷ []) c.in_ok-reserve.ensures.items)
    c.in_ok-job.ensures.job is
