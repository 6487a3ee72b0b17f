use Rattle.std.proofs.Common.{arith}
use Rattle.paint_script.proofs.Digits.{some_worth, no_worth}
use Rattle.paint_script.proofs.colour.hex_value.Goals as goal

pub returns-then-worth-lt16-clause-value : goal.returns-then-worth-lt16-clause-value
returns-then-worth-lt16-clause-value c = some_worth c.args.digit (omega arith) c.if-worth-lt16.true

pub returns-else-worth-lt16-clause-value : goal.returns-else-worth-lt16-clause-value
returns-else-worth-lt16-clause-value c = no_worth c.args.digit (omega arith) c.if-worth-lt16.false
