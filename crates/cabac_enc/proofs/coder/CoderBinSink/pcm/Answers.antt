use Rattle.cabac_enc.proofs.Grown.{ended_range, takes_fills}
use Rattle.cabac_enc.proofs.coder.CoderBinSink.pcm.Goals as goal

pub returns-clause-taken : goal.returns-clause-taken
returns-clause-taken c = takes_fills c.args.samples.now c.fill.result c.args.self.now c.fill.new.self (ended_range c.args.self.now c.requires.ended) c.fill.ensures.ok c.fill.ensures.err
