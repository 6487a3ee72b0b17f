use Rattle.annexb.proofs.Walks.{unit-allowed}
use Rattle.annexb.proofs.payload.check_payload.Goals as goal

pub returns-in-None-clause-read : goal.returns-in-None-clause-read
returns-in-None-clause-read c = unit-allowed c.args.at c.args.payload.now c.if-payload-lt2.false (c.in-None.ensures c.args.at)
