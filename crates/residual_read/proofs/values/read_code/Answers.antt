use Rattle.std.proofs.Common.{◌+◌, ◌-◌, arith}
use Rattle.residual_read.proofs.CodeReads.{code_read, low_power, least_fits}
use Rattle.residual_read.proofs.values.read_code.Goals as goal

pub returns-clause-value : goal.returns-clause-value
returns-clause-value c =
    let l = c.saturating_sub.ensures in
    rw (low_power (c.args.rice + c.saturating_sub.result) (omega arith), least_fits c.least_rest.result c.args.rice c.least_rest.ensures.low c.requires.rice, c.least_rest.ensures.value)
    (code_read c.args.rice c.args.ones (c.args.rice + c.saturating_sub.result) (c.args.ones + 1 + (c.args.rice + c.saturating_sub.result)) c.args.digits c.skip-code.result c.args.decoder.now c.skip-code.new.self
    c.requires.few (omega arith) (omega arith) (omega arith) c.skip-code.ensures.value c.skip-code.ensures.digits c.requires.front)
