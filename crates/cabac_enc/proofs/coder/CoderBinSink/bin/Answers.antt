use Rattle.cabac_enc.proofs.Grown.{open_range, takes_follows, takes_ends}
use Rattle.cabac_enc.proofs.coder.CoderBinSink.bin.Goals as goal

pub returns-in-Context-clause-taken : goal.returns-in-Context-clause-taken
returns-in-Context-clause-taken c =
    rw c.in-Context.is (takes_follows _ c.context_bin.result c.args.self.now c.context_bin.new.self (open_range c.args.self.now c.requires.not_ended) c.context_bin.ensures.ok c.context_bin.ensures.err)

pub returns-in-Bypass-clause-taken : goal.returns-in-Bypass-clause-taken
returns-in-Bypass-clause-taken c =
    rw c.in-Bypass.is (takes_follows _ c.bypass_bin.result c.args.self.now c.bypass_bin.new.self (open_range c.args.self.now c.requires.not_ended) c.bypass_bin.ensures.ok c.bypass_bin.ensures.err)

pub returns-then-bin-clause-taken : goal.returns-then-bin-clause-taken
returns-then-bin-clause-taken c =
    rw (c.in-Terminate.is, c.if-bin.true) (takes_ends c.end_run.result c.args.self.now c.end_run.new.self (open_range c.args.self.now c.requires.not_ended) c.end_run.ensures.ok c.end_run.ensures.err)

pub returns-else-bin-clause-taken : goal.returns-else-bin-clause-taken
returns-else-bin-clause-taken c =
    rw (c.in-Terminate.is, c.if-bin.false) (takes_follows _ c.go_on.result c.args.self.now c.go_on.new.self (open_range c.args.self.now c.requires.not_ended) c.go_on.ensures.ok c.go_on.ensures.err)
