use Rattle.cabac_bytes.proofs.Shown.{four_passed}
use Rattle.cabac_bytes.proofs.pending.PendingBytes.pass_each.Goals as goal

pub returns-clause-ok : goal.returns-clause-ok
returns-clause-ok c =
    four_passed c.pass_on-4.result c.args.lead c.args.self.now c.pass_on.new.self c.pass_on-2.new.self c.pass_on-3.new.self c.pass_on-4.new.self
    c.in_ok-pass_on.ensures.ok c.in_ok-pass_on-2.ensures.ok c.in_ok-pass_on-3.ensures.ok c.pass_on-4.ensures.ok
