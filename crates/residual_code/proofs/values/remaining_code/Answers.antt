use Rattle.residual_code.proofs.Codes.{coded}
use Rattle.residual_code.proofs.values.remaining_code.Goals as goal

pub returns-clause-digits : goal.returns-clause-digits
returns-clause-digits c = (coded c.args.rice c.args.value c.requires.rice c.requires.value).digits

pub returns-clause-few : goal.returns-clause-few
returns-clause-few c = (coded c.args.rice c.args.value c.requires.rice c.requires.value).few
