use Rattle.picture_encoder.proofs.Again.{is_laid}
use Rattle.picture_encoder.proofs.before.lay_over.Goals as goal

pub returns-clause-laid : goal.returns-clause-laid
returns-clause-laid c = is_laid c.args.picture.now c.lay.new.self c.args.job.now c.whole.ensures c.lay.ensures.size c.lay.ensures.laid
