use Rattle.std.proofs.Common.{refl}
use Rattle.screenrec.proofs.StageLaws.{played_more}
use Rattle.screenrec.proofs.stage.Stage.paint.Goals as goal

pub returns-clause-played : goal.returns-clause-played
returns-clause-played c = λ settings done is.
    played_more settings c.args.self.now _ done c.args.line.now c.requires.paints refl refl c.apply.ensures.size c.apply.ensures.shows c.apply.ensures.flags is
