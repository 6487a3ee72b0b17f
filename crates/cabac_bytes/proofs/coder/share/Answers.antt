use Rattle.cabac_bytes.proofs.Steps.{once_at_most}
use Rattle.cabac_bytes.proofs.coder.share.Goals as goal

pub returns-then-likely-clause-doublings : goal.returns-then-likely-clause-doublings
returns-then-likely-clause-doublings c = once_at_most c.args.large c.requires.least c.requires.most
