use Rattle.intra_predict.proofs.Leaning.{start_back}
use Rattle.intra_predict.proofs.slanted.start_of.Goals as goal

pub returns-then-back-clause-value : goal.returns-then-back-clause-value
returns-then-back-clause-value c = rw c.if-back.true (start_back c.args.way c.requires)
