use Rattle.cabac_enc.proofs.Grown.{nothing_shown}
use Rattle.cabac_enc.proofs.coder.Coder.new.Goals as goal

pub returns-clause-stands_for : goal.returns-clause-stands_for
returns-clause-stands_for c = nothing_shown c.new.result.items c.args.contexts c.new.ensures.items
