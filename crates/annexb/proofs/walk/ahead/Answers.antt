use Rattle.annexb.proofs.Walks.{not-refused, ahead-found}
use Rattle.annexb.proofs.walk.ahead.Goals as goal

pub returns-in-Ok : goal.returns-in-Ok
returns-in-Ok c = ahead-found c.args.place c.args.bytes.now c.in-Ok.start c.requires c.in-Ok.ensures.found

pub returns-in-Err : goal.returns-in-Err
returns-in-Err c = absurd (not-refused c.args.place c.in-Err.field-0.at c.args.bytes.now c.requires c.in-Err.ensures.refused)
