use Rattle.intra_predict.proofs.Leaning.{part_back}
use Rattle.intra_predict.proofs.slanted.part_of.Goals as goal

pub returns-then-back-clause-value : goal.returns-then-back-clause-value
returns-then-back-clause-value c = rw c.if-back.true (part_back c.args.way)
