use Rattle.live_desk.proofs.Calls.{folds}
use Rattle.live_desk.proofs.desk.Desk.fold.Goals as goal

pub invariant_of-result : goal.invariant_of-result
invariant_of-result c = folds c.recorder.inside.pass c.join.result c.client.inside.pass.knows c.recorder.invariant c.join.ensures.joined
