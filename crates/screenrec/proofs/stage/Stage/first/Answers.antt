use Rattle.screenrec.proofs.StageLaws.{first_so}
use Rattle.screenrec.proofs.stage.Stage.first.Goals as goal

pub returns-clause-piece : goal.returns-clause-piece
returns-clause-piece c = first_so (λ piece. piece.items) c.args.self.now.encoder.settings c.first.result c.first.ensures.piece
